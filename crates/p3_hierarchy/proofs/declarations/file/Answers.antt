use Rattle.std.proofs.Common.{◌≡◌, ◌∙◌, ◌++◌, ◌∷◌, [], ap, cond, Some, rules}
use Rattle.std.specs.Prelude.{bytes_eq}
use Rattle.std.specs.Map.{lookup}
use Rattle.p3_hierarchy.specs.Typings.{numbers_in}
use Rattle.p3_hierarchy.proofs.TypingLemmas.{files-number}
use Rattle.p3_hierarchy.proofs.declarations.file.Goals as goal

pub returns-in_ok-push-in-Some : goal.returns-in_ok-push-in-Some
returns-in_ok-push-in-Some c =
    files-number _ _ c.args.kind c.args.number c.push.new.self (λ one other same. ap (λ name. lookup (λ key. bytes_eq name key.now) c.args.table.now.entries) same)
    (c.in_ok-push-in-Some.ensures.ok ∙ ap (λ found. numbers_in found ++ c.args.number ∷ []) c.in-Some.ensures.value)
    (λ other. ((c.get_mut.follows.holds c.push.new.self).3 (search rules)).0 other)

pub returns-in_ok-insert-in-None : goal.returns-in_ok-insert-in-None
returns-in_ok-insert-in-None c =
    let unchanged : c.get_mut.follows.lender-at-none ≡ c.args.table.now = search rules in
    files-number _ _ c.args.kind c.args.number c.push-in-None.new.self (λ one other same. ap (λ name. lookup (λ key. bytes_eq name key.now) c.args.table.now.entries) same)
    (c.in_ok-push-in-None.ensures.ok ∙ ap (λ fresh. fresh ++ c.args.number ∷ []) c.new-fresh.ensures ∙ ap (λ found. numbers_in found ++ c.args.number ∷ []) c.in-None.ensures.value)
    (λ other. c.in_ok-insert-in-None.ensures.updates.0 other ∙ (λ i. cond (bytes_eq c.args.kind.now other.now) (Some c.push-in-None.new.self) (lookup (λ key. bytes_eq other.now key.now) (unchanged i).entries)))
