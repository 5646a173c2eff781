use Rattle.std.proofs.Common.{◌≡◌, ◌∙◌, ◌++◌, ◌∷◌, [], ap, map, cond, Some, rules}
use Rattle.std.specs.Prelude.{bytes_eq}
use Rattle.std.specs.Map.{lookup}
use Rattle.std.proofs.lemmas.List.{map-append}
use Rattle.p3_hierarchy.specs.Kinds.{words_in}
use Rattle.p3_hierarchy.proofs.KindLemmas.{files-updates}
use Rattle.p3_hierarchy.proofs.kinds.file.Goals as goal

pub returns-in_ok-push-in-Some : goal.returns-in_ok-push-in-Some
returns-in_ok-push-in-Some c =
    files-updates _ _ c.args.high c.args.low.now c.push.new.self (λ one other same. ap (λ name. lookup (λ key. bytes_eq name key.now) c.args.lows.now.entries) same)
    (ap (map (λ word. word.now)) c.in_ok-push-in-Some.ensures.ok ∙ map-append (λ word. word.now) c.in-Some.found.now (c.args.low ∷ []) ∙ ap (λ found. words_in found ++ c.args.low.now ∷ []) c.in-Some.ensures.value)
    (λ other. ((c.get_mut.follows.holds c.push.new.self).3 (search rules)).0 other)

pub returns-in_ok-insert-in-None : goal.returns-in_ok-insert-in-None
returns-in_ok-insert-in-None c =
    let unchanged : c.get_mut.follows.lender-at-none ≡ c.args.lows.now = search rules in
    files-updates _ _ c.args.high c.args.low.now c.push-in-None.new.self (λ one other same. ap (λ name. lookup (λ key. bytes_eq name key.now) c.args.lows.now.entries) same)
    (ap (map (λ word. word.now)) c.in_ok-push-in-None.ensures.ok ∙ ap (λ fresh. map (λ word. word.now) (fresh ++ c.args.low ∷ [])) c.new-fresh.ensures ∙ ap (λ found. words_in found ++ c.args.low.now ∷ []) c.in-None.ensures.value)
    (λ other. c.in_ok-insert-in-None.ensures.updates.0 other ∙ (λ i. cond (bytes_eq c.args.high.now other.now) (Some c.push-in-None.new.self) (lookup (λ key. bytes_eq other.now key.now) (unchanged i).entries)))
