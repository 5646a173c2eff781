use Rattle.std.proofs.Common.{rules, ◌≡◌, ◌∙◌, ◌+◌, ℕ, List, [], ◌∷◌, ◌++◌, drop, get_or, sym, ap, subst, append_assoc}
use Rattle.std.specs.List.Sorted.{IsPermutation}
use Rattle.std.proofs.lemmas.List.{append-nil, drop_all, drop_more}
use Rattle.std.proofs.lemmas.List.Sorted.{IsNonDecreasingBy-from_sort_by_key}
use Rattle.p3_scenes.specs.Answers.{places_from}
use Rattle.p3_scenes.proofs.answering.by_state.Goals as goal

pub loop-place-preserved : goal.loop-place-preserved
loop-place-preserved c =
    let questions = c.args.questions.now in
    let k = c.loop-place.place in
    let pairs = c.loop-place.pairs.items in
    let question = get_or questions k c.index-questions-place.result in
    let rest = places_from (k + 1) (drop (k + 1) questions) in
    ap (λ front. front ++ rest) c.in_ok-push.ensures.items ∙ append_assoc pairs ((question.state, k) ∷ []) rest
    ∙ ap (λ left. pairs ++ places_from k left) (sym (drop_more questions k c.index-questions-place.result c.loop-place-test.true)) ∙ c.loop-place.invariant

pub returns-clause-all : goal.returns-clause-all
returns-clause-all c =
    let questions = c.args.questions.now in
    let k = c.loop-place.place in
    let pairs = c.loop-place.pairs.items in
    let whole : pairs ≡ places_from 0 questions = sym (append-nil pairs) ∙ ap (λ left. pairs ++ places_from k left) (sym (drop_all k questions c.loop-place-test.false)) ∙ c.loop-place.invariant in
    subst (λ (all : List (ℕ × ℕ)). IsPermutation all c.sort_by_key.new.self.items) whole c.in_ok-sort_by_key.ensures.permutation

pub returns-clause-rising : goal.returns-clause-rising
returns-clause-rising c = IsNonDecreasingBy-from_sort_by_key (λ (pair : ℕ × ℕ). pair.0) c.sort_by_key.new.self.items c.in_ok-sort_by_key.ensures.sorted (λ a r q k. search rules)
