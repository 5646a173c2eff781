-- What the actions of a chain make of the bits.
use Rattle.std.proofs.Common.{◌≡◌, ◌∙◌, inl, inr, ℕ, ◌+◌, ◌<◌, ◌≤◌, nat_le, Bool, true, false, not, ◌&&◌, ◌||◌, List, [], ◌∷◌, ◌++◌, refl, sym, ap, arith}
use Rattle.std.specs.Prelude.{◌==◌}
use Rattle.std.specs.List.{list_all}
use Rattle.std.proofs.Math.Bool.{or-false}
use Rattle.std.proofs.lemmas.Bool.{or_parts, and_from, both_ways, cases_eq, eq-eqb, ne_eqb, le-leb}
use Rattle.p3_formula.specs.Guards.{turned, is_changed}
use Rattle.p3_formula.specs.Forms.{State, is_set}
use Rattle.p3_formula.specs.Next.{after}
use Rattle.p3_formula.specs.Targets.{is_sized_change}
use Rattle.p3_formula.specs.declared.form.Change.{Change}
use Rattle.p3_formula.proofs.TurnLaws.{is_among, turned_at, turned_other, unnamed_above}
use Rattle.p3_formula.proofs.NextLaws.{length-after, is_set-unchanged}
use Rattle.p3_formula.specs.Conditions.{width_limit}
use Rattle.p3_precprefs.specs.Questions.{IsOpen, IsAsking, is_own}

-- ---- the chain's own atoms

-- a question is known by its place
place_at : (first place other : ℕ) → ((first + place) == (first + other)) ≡ (other == place)
place_at first place other = elim (cases_eq other place) as (λ _. ((first + place) == (first + other)) ≡ (other == place)) [
  | inl same ↦ eq-eqb (first + place) (first + other) (omega (arith, same)) ∙ sym (eq-eqb other place same)
  | inr differ ↦ ne_eqb (first + place) (first + other) (λ is. differ (omega (arith, is))) ∙ sym (ne_eqb other place differ)
]

same_atom : (n : ℕ) → (n == n) ≡ true
same_atom n = eq-eqb n n refl

first_of_two : (p q : Bool) → p ≡ true → (p || q) ≡ true
first_of_two p q e = ap (λ b. b || q) e

second_of_two : (p q : Bool) → q ≡ true → (p || q) ≡ true
second_of_two true q e = refl
second_of_two false q e = e

apart : (x y : Bool) → (x || (y && not y)) ≡ x
apart true y = refl
apart false true = refl
apart false false = refl

module _ (go first current : ℕ) (behind : go < first) (far : first + width_limit < current) where
  go_no_question : (place : ℕ) → ((first + place) == go) ≡ false
  go_no_question place = ne_eqb (first + place) go (λ same. omega (arith, same, behind))

  go_no_current : (current == go) ≡ false
  go_no_current = ne_eqb current go (λ same. omega (arith, same, behind, far))

  question_no_go : (place : ℕ) → (go == (first + place)) ≡ false
  question_no_go place = ne_eqb go (first + place) (λ same. omega (arith, same, behind))

  question_no_current : (place : ℕ) → place ≤ width_limit → (current == (first + place)) ≡ false
  question_no_current place small = ne_eqb current (first + place) (λ same. omega (arith, same, small, far))

  current_no_question : (place : ℕ) → place ≤ width_limit → ((first + place) == current) ≡ false
  current_no_question place small = ne_eqb (first + place) current (λ same. omega (arith, same, small, far))

  current_no_go : (go == current) ≡ false
  current_no_go = ne_eqb go current (λ same. omega (arith, same, behind, far))

  module _ (bits : State) where
    -- ---- the step begins

    begun : List Change
    begun = turned (go ∷ []) (first ∷ current ∷ [])

    pub begun_asking : IsOpen go first current bits → IsAsking go first current 0 (after bits (turned (go ∷ []) (first ∷ current ∷ [])))
    begun_asking opens = record {
      room = let l = length-after bits (turned (go ∷ []) (first ∷ current ∷ [])) in let r = opens.room in omega (arith, l, r);
      within = omega arith;
      stopped = turned_at bits [] (go ∷ []) (first ∷ current ∷ []) go (let r = opens.room in omega (arith, r, behind, far)) refl
          ∙ (λ i. (at_first_go i || (go_no_current i || false)) || is_set bits go && not (same_atom go i || false)) ∙ none (is_set bits go);
      asked = turned_at bits [] (go ∷ []) (first ∷ current ∷ []) current opens.room refl
          ∙ first_of_two (is_among (first ∷ current ∷ []) current) _ (second_of_two (first == current) _ (first_of_two (current == current) false (same_atom current)));
      asks = λ place small.
          turned_at bits [] (go ∷ []) (first ∷ current ∷ []) (first + place) (let r = opens.room in omega (arith, r, small, far)) refl
          ∙ (λ i. (at_first place i || (question_no_current place small i || false)) || opens.quiet place small i && not (question_no_go place i || false))
          ∙ or-false ((place == 0) || false) ∙ or-false (place == 0);
    }
      where
        at_first_go : (first == go) ≡ false
        at_first_go = ne_eqb first go (λ same. omega (arith, same, behind))

        none : (b : Bool) → ((false || (false || false)) || b && not (true || false)) ≡ false
        none true = refl
        none false = refl

        at_first : (place : ℕ) → (first == (first + place)) ≡ (place == 0)
        at_first place = let same : first ≡ first + 0 = omega arith in ap (λ n. n == (first + place)) same ∙ place_at first 0 place

    -- ---- a question is answered

    module _ (question : ℕ) (asking : IsAsking go first current question bits) where
      pub passed_asking : question < width_limit → IsAsking go first current (question + 1) (after bits (turned ((first + question) ∷ []) ((first + (question + 1)) ∷ [])))
      passed_asking more = record {
        room = let l = length-after bits (turned ((first + question) ∷ []) ((first + (question + 1)) ∷ [])) in let r = asking.room in omega (arith, l, r);
        within = omega (arith, more);
        stopped = turned_at bits [] ((first + question) ∷ []) ((first + (question + 1)) ∷ []) go (let r = asking.room in omega (arith, r, behind, far)) refl
            ∙ (λ i. (go_no_question (question + 1) i || false) || asking.stopped i && not (go_no_question question i || false));
        asked = turned_at bits [] ((first + question) ∷ []) ((first + (question + 1)) ∷ []) current asking.room refl
            ∙ (λ i. (current_no_question (question + 1) (omega (arith, more)) i || false) || asking.asked i && not (current_no_question question (omega (arith, more)) i || false));
        asks = λ place small.
            turned_at bits [] ((first + question) ∷ []) ((first + (question + 1)) ∷ []) (first + place) (let r = asking.room in omega (arith, r, small, far)) refl
            ∙ (λ i. (place_at first (question + 1) place i || false) || asking.asks place small i && not (place_at first question place i || false))
            ∙ (λ i. or-false (place == (question + 1)) i || (place == question) && not (or-false (place == question) i))
            ∙ apart (place == (question + 1)) (place == question);
      }

      -- ---- the effects are made

      module _ (effects : List Change) (below : list_all (is_sized_change go) effects ≡ true) where
        none_at : (atom : ℕ) → go ≤ atom → is_changed effects atom ≡ false
        none_at atom high = unnamed_above go effects atom below high

        pub ended_open : IsOpen go first current (after bits (effects ++ turned ((first + question) ∷ current ∷ []) (go ∷ [])))
        ended_open = record {
          room = let l = length-after bits (effects ++ turned ((first + question) ∷ current ∷ []) (go ∷ [])) in let r = asking.room in omega (arith, l, r);
          running = turned_at bits effects ((first + question) ∷ current ∷ []) (go ∷ []) go (let r = asking.room in omega (arith, r, behind, far)) (none_at go (omega arith))
              ∙ first_of_two (is_among (go ∷ []) go) _ (first_of_two (go == go) false (same_atom go));
          idle = turned_at bits effects ((first + question) ∷ current ∷ []) (go ∷ []) current asking.room (none_at current (omega (arith, behind, far)))
              ∙ (λ i. (current_no_go i || false) || is_set bits current && not (second_of_two ((first + question) == current) ((current == current) || false) (first_of_two (current == current) false (same_atom current)) i))
              ∙ gone (is_set bits current);
          quiet = λ place small.
              turned_at bits effects ((first + question) ∷ current ∷ []) (go ∷ []) (first + place) (let r = asking.room in omega (arith, r, small, far)) (none_at (first + place) (omega (arith, behind)))
              ∙ (λ i. (question_no_go place i || false) || asking.asks place small i && not (place_at first question place i || (question_no_current place small i || false)))
              ∙ (λ i. (place == question) && not (or-false (place == question) i)) ∙ apart false (place == question);
        }
          where
            gone : (b : Bool) → ((false || false) || b && not true) ≡ false
            gone true = refl
            gone false = refl

-- an atom that is not one of them
module _ (go first current atom : ℕ) (other : is_own go first current atom ≡ false) where
  not_go : (go == atom) ≡ false
  not_go = (or_parts (go == atom) _ other).0

  not_current : (current == atom) ≡ false
  not_current = (or_parts (current == atom) _ (or_parts (go == atom) _ other).1).0

  not_question : (place : ℕ) → place ≤ width_limit → ((first + place) == atom) ≡ false
  not_question place small = ne_eqb (first + place) atom (λ same. no same)
    where
      no : first + place ≡ atom → ⊥
      no same = both_ways (nat_le first atom && nat_le atom (first + width_limit)) (or_parts (current == atom) _ (or_parts (go == atom) _ other).1).1
          (and_from (nat_le first atom) (nat_le atom (first + width_limit)) (le-leb first atom (omega (arith, same))) (le-leb atom (first + width_limit) (omega (arith, same, small))))

  first_no : (first == atom) ≡ false
  first_no = let same : first ≡ first + 0 = omega arith in ap (λ n. n == atom) same ∙ not_question 0 (omega arith)

  pub begun_other : (bits : State) → is_set (after bits (turned (go ∷ []) (first ∷ current ∷ []))) atom ≡ is_set bits atom
  begun_other bits = is_set-unchanged bits (turned (go ∷ []) (first ∷ current ∷ [])) atom (λ i. not_go i || (first_no i || (not_current i || false)))

  pub passed_other : (bits : State) (question : ℕ) → question < width_limit → is_set (after bits (turned ((first + question) ∷ []) ((first + (question + 1)) ∷ []))) atom ≡ is_set bits atom
  passed_other bits question more = is_set-unchanged bits (turned ((first + question) ∷ []) ((first + (question + 1)) ∷ [])) atom (λ i. not_question question (omega (arith, more)) i || (not_question (question + 1) (omega (arith, more)) i || false))

  pub ended_other : (bits : State) (question : ℕ) (effects : List Change) → question ≤ width_limit → is_set (after bits (effects ++ turned ((first + question) ∷ current ∷ []) (go ∷ []))) atom ≡ is_set (after bits effects) atom
  ended_other bits question effects small = turned_other bits effects ((first + question) ∷ current ∷ []) (go ∷ []) atom (λ i. not_question question small i || (not_current i || false)) (λ i. not_go i || false)
