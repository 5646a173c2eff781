use Rattle.std.proofs.Common.{◌≡◌, ◌∙◌, ◌<◌, ◌++◌, sym, ap, subst}
use Rattle.std.specs.Prelude.{flat_map}
use Rattle.std.specs.List.{All, Contains}
use Rattle.std.proofs.lemmas.List.Elements.{All-contains, All-weaker}
use Rattle.p3_steps.specs.Candidates.{noted_at}
use Rattle.p3_steps.proofs.PlaceLemmas.{all-below}
use Rattle.p3_steps.proofs.places.find_places.Goals as goal

pub returns-clause-within : goal.returns-clause-within
returns-clause-within c =
    let places = flat_map (noted_at c.args.places.now c.args.count) c.args.row.now in
    let is : c.push_places.new.found.items ≡ places = c.in_ok-push_places.ensures ∙ ap (λ front. front ++ places) c.clear.ensures.items in
    All-weaker (Contains c.push_places.new.found.items) (λ place. place < c.args.count)
    (λ place has. All-contains (λ place. place < c.args.count) c.push_places.new.found.items place (subst (All (λ place. place < c.args.count)) (sym is) (all-below c.args.places.now c.args.count c.args.row.now)) has)
    c.sort.new.found.items c.sort.ensures.only

pub returns-clause-all : goal.returns-clause-all
returns-clause-all c =
    let places = flat_map (noted_at c.args.places.now c.args.count) c.args.row.now in
    subst (All (Contains c.sort.new.found.items)) (c.in_ok-push_places.ensures ∙ ap (λ front. front ++ places) c.clear.ensures.items) c.sort.ensures.keeps
