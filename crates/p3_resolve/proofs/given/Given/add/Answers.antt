use Rattle.std.proofs.Common.{◌∙◌, ap, not, map, subst}
use Rattle.std.specs.List.{list_any}
use Rattle.p3_task.specs.Names.{same_names}
use Rattle.p3_resolve.specs.Given.{AddsKey}
use Rattle.p3_resolve.proofs.GivenLemmas.{adds-inserted, is-added}
use Rattle.p3_resolve.proofs.given.Given.add.Goals as goal

pub returns-clause-is_new : goal.returns-clause-is_new
returns-clause-is_new c =
    c.in_ok-is_new.ensures.added ∙ ap not (is-added (λ word. word.now) (λ key. key.items) c.self.inside.keys.keys c.args.key)
    ∙ (λ i. not (list_any (same_names (map (λ word. word.now) c.args.key.items)) (c.self.view_is i)))

pub returns-clause-more : goal.returns-clause-more
returns-clause-more c =
    subst (λ old. AddsKey old (map (λ word. word.now) c.args.key.items) (map (λ key. map (λ word. word.now) key.items) c.insert_full.new.self.keys)) c.self.view_is (adds-inserted (λ word. word.now) (λ key. key.items) c.self.inside.keys.keys _ c.args.key c.in_ok-is_new.ensures.keys)
