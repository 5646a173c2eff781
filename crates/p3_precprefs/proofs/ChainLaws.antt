-- A chain leads from open bits back to open bits in one way.
use Rattle.std.proofs.Common.{◌≡◌, ◌∙◌, ◌⊎◌, inl, inr, ⊎_elim, ℕ, zero, suc, ◌+◌, ◌-◌, ◌<◌, ◌≤◌, nat_lt, nat_le, Bool, true, false, not, ◌&&◌, List, [], ◌∷◌, ◌++◌, length, sum_by, refl, sym, ap, subst, arith, get_or}
use Rattle.std.specs.Prelude.{◌==◌, Contains, All, if◌then◌else◌}
use Rattle.std.specs.List.{list_all}
use Rattle.std.proofs.lemmas.Bool.{and_parts, or_cases, eqb-true, leb-true, ltb-true, eq-eqb, cases_lt, true≢false, false_from_ne_true, not-true}
use Rattle.std.proofs.lemmas.List.{same_lists, get_or_default}
use Rattle.std.proofs.lemmas.List.Elements.{All-head, All-tail, All-filter, Contains-get_or}
use Rattle.std.proofs.lemmas.List.Sums.{sum_by-cons, AllPass-from_list_all}
use Rattle.p3_formula.specs.Forms.{State, is_set, truth, is_below, IsBelow}
use Rattle.p3_formula.specs.Guards.{turned}
use Rattle.p3_formula.specs.Next.{after}
use Rattle.p3_formula.specs.Targets.{is_sized_change}
use Rattle.p3_formula.specs.Weighted.{weight_of, weighted, weighted_cost, width_of}
use Rattle.p3_formula.specs.declared.form.Change.{Change}
use Rattle.p3_formula.specs.declared.form.Form.{Form}
use Rattle.p3_formula.specs.declared.form.Form.TheVariants.{True}
use Rattle.p3_formula.specs.declared.modal.GroundPref.{GroundPref}
use Rattle.p3_formula.specs.declared.target.TargetAction.{TargetAction}
use Rattle.p3_formula.specs.declared.target.Weights.{Weights}
use Rattle.p3_formula.specs.declared.task.GroundStep.{GroundStep}
use Rattle.p3_formula.proofs.FormLemmas.{truth-True}
use Rattle.p3_formula.proofs.NextLaws.{length-after, is_set-unchanged, after-agree, truth-agree}
use Rattle.p3_precprefs.specs.Copies.{violation}
use Rattle.p3_formula.specs.Conditions.{width_limit, is_step_below}
use Rattle.p3_precprefs.specs.Questions.{signed, IsLink, IsBegin, IsAnswer, IsEnd, AreAnswers, IsChain, IsOpen, IsAsking, IsProper, Returns, Last, More, HasOneWay, IsGuarded, is_own}
use Rattle.p3_formula.proofs.TurnLaws.{unnamed_above, conditions_below}
use Rattle.p3_precprefs.proofs.TurnLaws.{begun_asking, passed_asking, ended_open, begun_other, passed_other, ended_other}

-- ---- lists

head_or_tail : {A : Type 0} (x : A) (xs : List A) (a : A) → Contains (x ∷ xs) a → (x ≡ a) ⊎ Contains xs a
head_or_tail x xs a (zero, within, is) = inl is
head_or_tail x xs a (suc k, within, is) = inr (k, omega (arith, within), is)

in_none : {A : Type 0} {B : Type 0} (a : A) → Contains [] a → B
in_none a (k, within, is) = absurd (omega (arith, within))

is_head : {A : Type 0} (x : A) (xs : List A) → Contains (x ∷ xs) x
is_head x xs = (0, omega arith, refl)

is_behind : {A : Type 0} (x : A) (xs : List A) (a : A) → Contains xs a → Contains (x ∷ xs) a
is_behind x xs a (k, within, is) = (suc k, omega (arith, within), is)

-- ---- the questions from a place on, and the end

data Rest (go first current number : ℕ) (by_name : List ℕ) (effects : List Change) (cost : ℕ) : ℕ → List GroundPref → List TargetAction → Type 0 where
  Close : (place : ℕ) (action : TargetAction) → IsEnd go (first + place) current number effects cost action → Rest go first current number by_name effects cost place [] (action ∷ [])
  Ask : (place : ℕ) (pref : GroundPref) (prefs : List GroundPref) (agree deny : TargetAction) (actions : List TargetAction)
      → IsAnswer first current number place true pref.body 0 agree → IsAnswer first current number place false pref.body (weight_of by_name pref) deny
      → Rest go first current number by_name effects cost (place + 1) prefs actions → Rest go first current number by_name effects cost place (pref ∷ prefs) (agree ∷ deny ∷ actions)

rest_of : (go first current number : ℕ) (by_name : List ℕ) (effects : List Change) (cost place : ℕ) (prefs : List GroundPref) (answers : List TargetAction) (ending : TargetAction)
    → AreAnswers first current number by_name place prefs answers → IsEnd go (first + (place + length prefs)) current number effects cost ending → Rest go first current number by_name effects cost place prefs (answers ++ ending ∷ [])
rest_of go first current number by_name effects cost place [] [] ending are ends =
    let same : place + 0 ≡ place = omega arith in
    Close place ending (subst (λ n. IsEnd go (first + n) current number effects cost ending) same ends)
rest_of go first current number by_name effects cost place [] (action ∷ answers) ending are ends = absurd are
rest_of go first current number by_name effects cost place (pref ∷ prefs) [] ending are ends = absurd are
rest_of go first current number by_name effects cost place (pref ∷ prefs) (one ∷ []) ending are ends = absurd are
rest_of go first current number by_name effects cost place (pref ∷ prefs) (one ∷ two ∷ answers) ending are ends =
    let same : place + length (pref ∷ prefs) ≡ (place + 1) + length prefs = omega arith in
    Ask place pref prefs one two (answers ++ ending ∷ []) are.0 are.1
    (rest_of go first current number by_name effects cost (place + 1) prefs answers ending are.2 (subst (λ n. IsEnd go (first + n) current number effects cost ending) same ends))

-- what a fitting action shows
module _ (name : List ℕ) (source : Form) (holds : Bool) (effects : List Change) (cost : ℕ) (link action : TargetAction) (bits : State) (is : link ≡ action) (fits : truth bits action.pre ≡ true) where
  fitting : truth bits link.pre ≡ true
  fitting = ap (λ (a : TargetAction). truth bits a.pre) is ∙ fits

  one_guard : (guard : ℕ) → IsLink name (guard ∷ []) source holds effects cost link → (is_set bits guard ≡ true) × (signed holds (truth bits source) ≡ true)
  one_guard guard links =
      let both = and_parts (is_set bits guard && true) (signed holds (truth bits source)) (sym (links.fits bits) ∙ fitting) in
      ((and_parts (is_set bits guard) true both.0).0, both.1)

  two_guards : (guard other : ℕ) → IsLink name (guard ∷ other ∷ []) source holds effects cost link → (is_set bits guard ≡ true) × (is_set bits other ≡ true) × (signed holds (truth bits source) ≡ true)
  two_guards guard other links =
      let both = and_parts (is_set bits guard && (is_set bits other && true)) (signed holds (truth bits source)) (sym (links.fits bits) ∙ fitting) in
      let guards = and_parts (is_set bits guard) (is_set bits other && true) both.0 in
      (guards.0, (and_parts (is_set bits other) true guards.1).0, both.1)

two_fit : (name : List ℕ) (source : Form) (holds : Bool) (effects : List Change) (cost : ℕ) (link : TargetAction) (bits : State) (guard other : ℕ) → IsLink name (guard ∷ other ∷ []) source holds effects cost link
    → is_set bits guard ≡ true → is_set bits other ≡ true → signed holds (truth bits source) ≡ true → truth bits link.pre ≡ true
two_fit name source holds effects cost link bits guard other links e f h = links.fits bits ∙ (λ i. (e i && (f i && true)) && h i)

module _ (go first current number : ℕ) (by_name : List ℕ) (effects : List Change) (cost : ℕ) (behind : go < first) (far : first + width_limit < current) (below : list_all (is_sized_change go) effects ≡ true) where
  abbrev Questions : ℕ → List GroundPref → List TargetAction → Type 0
  Questions = Rest go first current number by_name effects cost

  need_current : (place : ℕ) (prefs : List GroundPref) (actions : List TargetAction) → Questions place prefs actions → (bits : State) (action : TargetAction) → Contains actions action → truth bits action.pre ≡ true → is_set bits current ≡ true
  need_current place prefs actions (Close _ last ends) bits action member fits = elim (head_or_tail last [] action member) [
    | inl is ↦ (two_guards _ True true _ _ last action bits is fits (first + place) current ends).1
    | inr later ↦ in_none action later
  ]
  need_current place prefs actions (Ask _ pref others agree deny rest agrees denies more) bits action member fits = elim (head_or_tail agree (deny ∷ rest) action member) [
    | inl is ↦ (two_guards _ pref.body true _ _ agree action bits is fits (first + place) current agrees).1
    | inr other ↦ elim (head_or_tail deny rest action other) [
      | inl is ↦ (two_guards _ pref.body false _ _ deny action bits is fits (first + place) current denies).1
      | inr later ↦ need_current (place + 1) others rest more bits action later fits
    ]
  ]

  module _ (bits : State) (question : ℕ) (asking : IsAsking go first current question bits) where
    at_question : (place : ℕ) → place ≤ width_limit → is_set bits (first + place) ≡ true → place ≡ question
    at_question place small set = eqb-true place question (sym (asking.asks place small) ∙ set)

    answer_here : (place answer_cost : ℕ) (holds : Bool) (body : Form) (answer action : TargetAction) → IsAnswer first current number place holds body answer_cost answer → place ≤ width_limit → answer ≡ action → truth bits action.pre ≡ true
        → (place ≡ question) × (signed holds (truth bits body) ≡ true)
    answer_here place answer_cost holds body answer action answers small is fits =
        let shown = two_guards _ body holds _ _ answer action bits is fits (first + place) current answers in
        (at_question place small shown.0, shown.2)

    end_here : (place : ℕ) (last action : TargetAction) → IsEnd go (first + place) current number effects cost last → place ≤ width_limit → last ≡ action → truth bits action.pre ≡ true → place ≡ question
    end_here place last action ends small is fits = at_question place small (two_guards _ True true _ _ last action bits is fits (first + place) current ends).0

    -- what fits stands at the question that is asked
    fits_later : (place : ℕ) (prefs : List GroundPref) (actions : List TargetAction) → Questions place prefs actions → place + length prefs ≤ width_limit → (action : TargetAction) → Contains actions action → truth bits action.pre ≡ true → place ≤ question
    fits_later place prefs actions (Close _ last ends) few action member fits = elim (head_or_tail last [] action member) [
      | inl is ↦ let here = end_here place last action ends (omega (arith, few)) is fits in omega (arith, here)
      | inr later ↦ in_none action later
    ]
    fits_later place prefs actions (Ask _ pref others agree deny rest agrees denies more) few action member fits = elim (head_or_tail agree (deny ∷ rest) action member) [
      | inl is ↦ let here = answer_here place _ true pref.body agree action agrees (omega (arith, few)) is fits in omega (arith, here.0)
      | inr other ↦ elim (head_or_tail deny rest action other) [
        | inl is ↦ let here = answer_here place _ false pref.body deny action denies (omega (arith, few)) is fits in omega (arith, here.0)
        | inr later ↦ let behind = fits_later (place + 1) others rest more (omega (arith, few)) action later fits in omega (arith, behind)
      ]
    ]

    one_answers : (place : ℕ) (prefs : List GroundPref) (actions : List TargetAction) → Questions place prefs actions → place + length prefs ≤ width_limit
        → (one two : TargetAction) → Contains actions one → Contains actions two → truth bits one.pre ≡ true → truth bits two.pre ≡ true → one ≡ two
    one_answers place prefs actions (Close _ last ends) few one two member member_two fits fit = elim (head_or_tail last [] one member) [
      | inl is ↦ elim (head_or_tail last [] two member_two) [ inl same ↦ sym is ∙ same | inr later ↦ in_none two later ]
      | inr later ↦ in_none one later
    ]
    one_answers place prefs actions (Ask _ pref others agree deny rest agrees denies more) few one two member member_two fits fit =
        which one member
        (λ is. which two member_two (λ same. sym is ∙ same) (λ other. absurd (true≢false (sym (agreeing one is fits).1 ∙ not-true _ (denying two other fit).1))) (λ later. absurd (let here = agreeing one is fits in let behind = further two later fit in omega (arith, here.0, behind))))
        (λ is. which two member_two (λ other. absurd (true≢false (sym (agreeing two other fit).1 ∙ not-true _ (denying one is fits).1))) (λ same. sym is ∙ same) (λ later. absurd (let here = denying one is fits in let behind = further two later fit in omega (arith, here.0, behind))))
        (λ later. which two member_two
        (λ is. absurd (let here = agreeing two is fit in let behind = further one later fits in omega (arith, here.0, behind)))
        (λ is. absurd (let here = denying two is fit in let behind = further one later fits in omega (arith, here.0, behind)))
        (λ too. one_answers (place + 1) others rest more (omega (arith, few)) one two later too fits fit))
      where
        which : {B : Type 0} (a : TargetAction) → Contains (agree ∷ deny ∷ rest) a → (agree ≡ a → B) → (deny ≡ a → B) → (Contains rest a → B) → B
        which a own first_one second_one third_one = elim (head_or_tail agree (deny ∷ rest) a own) [
          | inl is ↦ first_one is
          | inr other ↦ elim (head_or_tail deny rest a other) [ inl is ↦ second_one is | inr later ↦ third_one later ]
        ]

        agreeing : (a : TargetAction) → agree ≡ a → truth bits a.pre ≡ true → (place ≡ question) × (truth bits pref.body ≡ true)
        agreeing a is holds = answer_here place _ true pref.body agree a agrees (omega (arith, few)) is holds

        denying : (a : TargetAction) → deny ≡ a → truth bits a.pre ≡ true → (place ≡ question) × (not (truth bits pref.body) ≡ true)
        denying a is holds = answer_here place _ false pref.body deny a denies (omega (arith, few)) is holds

        further : (a : TargetAction) → Contains rest a → truth bits a.pre ≡ true → place + 1 ≤ question
        further a later holds = fits_later (place + 1) others rest more (omega (arith, few)) a later holds

    -- ---- where they lead

    answered_asking : (place answer_cost : ℕ) (holds : Bool) (body : Form) (answer : TargetAction) → IsAnswer first current number place holds body answer_cost answer → place ≡ question → place < width_limit
        → IsAsking go first current (question + 1) (after bits answer.effects)
    answered_asking place answer_cost holds body answer answers here small =
        subst (λ changes. IsAsking go first current (question + 1) (after bits changes)) (ap (λ n. turned ((first + n) ∷ []) ((first + (n + 1)) ∷ [])) (sym here) ∙ sym answers.does)
        (passed_asking go first current behind far bits question asking (omega (arith, here, small)))

    ended_bits : (place : ℕ) (last : TargetAction) → IsEnd go (first + place) current number effects cost last → place ≡ question → IsOpen go first current (after bits last.effects)
    ended_bits place last ends here =
        subst (λ changes. IsOpen go first current (after bits changes)) (ap (λ n. effects ++ turned ((first + n) ∷ current ∷ []) (go ∷ [])) (sym here) ∙ sym ends.does)
        (ended_open go first current behind far bits question asking effects below)

    next_answers : (place : ℕ) (prefs : List GroundPref) (actions : List TargetAction) → Questions place prefs actions → place + length prefs ≤ width_limit → (action : TargetAction) → Contains actions action → truth bits action.pre ≡ true
        → IsProper go first current (after bits action.effects)
    next_answers place prefs actions (Close _ last ends) few action member fits = elim (head_or_tail last [] action member) [
      | inl is ↦ inl (subst (λ (a : TargetAction). IsOpen go first current (after bits a.effects)) is (ended_bits place last ends (end_here place last action ends (omega (arith, few)) is fits)))
      | inr later ↦ in_none action later
    ]
    next_answers place prefs actions (Ask _ pref others agree deny rest agrees denies more) few action member fits = elim (head_or_tail agree (deny ∷ rest) action member) [
      | inl is ↦ inr (
        question + 1,
        subst (λ (a : TargetAction). IsAsking go first current (question + 1) (after bits a.effects)) is
            (answered_asking place _ true pref.body agree agrees (answer_here place _ true pref.body agree action agrees (omega (arith, few)) is fits).0 (omega (arith, few))),
      )
      | inr other ↦ elim (head_or_tail deny rest action other) [
        | inl is ↦ inr (
          question + 1,
          subst (λ (a : TargetAction). IsAsking go first current (question + 1) (after bits a.effects)) is
              (answered_asking place _ false pref.body deny denies (answer_here place _ false pref.body deny action denies (omega (arith, few)) is fits).0 (omega (arith, few))),
        )
        | inr later ↦ next_answers (place + 1) others rest more (omega (arith, few)) action later fits
      ]
    ]

  -- ---- the one way through the questions

  -- the bits differ from the first ones at the chain's own atoms alone
  record IsSameElsewhere (start bits : State) : Type 0 where
    long : length bits ≡ length start
    same : (atom : ℕ) → is_own go first current atom ≡ false → is_set bits atom ≡ is_set start atom

  low_is_other : (atom : ℕ) → atom < go → is_own go first current atom ≡ false
  low_is_other atom low = false_from_ne_true (is_own go first current atom) (λ own. ⊎_elim
      (λ is. omega (arith, eqb-true go atom is, low))
      (λ rest. ⊎_elim
      (λ is. omega (arith, eqb-true current atom is, low, behind, far))
      (λ between. let parts = and_parts (nat_le first atom) (nat_le atom (first + width_limit)) between in omega (arith, leb-true first atom parts.0, low, behind))
      (or_cases (current == atom) _ rest))
      (or_cases (go == atom) _ own))

  -- an open state is known at the chain's own atoms
  own_alike : (one two : State) → IsOpen go first current one → IsOpen go first current two → (atom : ℕ) → is_own go first current atom ≡ true → is_set one atom ≡ is_set two atom
  own_alike one two opens open_two atom own = ⊎_elim
      (λ is. subst (λ n. is_set one n ≡ is_set two n) (eqb-true go atom is) (opens.running ∙ sym open_two.running))
      (λ rest. ⊎_elim
      (λ is. subst (λ n. is_set one n ≡ is_set two n) (eqb-true current atom is) (opens.idle ∙ sym open_two.idle))
      (λ between.
      let parts = and_parts (nat_le first atom) (nat_le atom (first + width_limit)) between in
      let low = leb-true first atom parts.0 in
      let high = leb-true atom (first + width_limit) parts.1 in
      let is : first + (atom - first) ≡ atom = omega (arith, low) in
      let small : atom - first ≤ width_limit = omega (arith, low, high) in
      subst (λ n. is_set one n ≡ is_set two n) is (opens.quiet (atom - first) small ∙ sym (open_two.quiet (atom - first) small)))
      (or_cases (current == atom) _ rest))
      (or_cases (go == atom) _ own)

  module _ (all : List TargetAction) (start : State) (opened : IsOpen go first current start) where
    effects_open : IsOpen go first current (after start effects)
    effects_open = record {
      room = let l = length-after start effects in let r = opened.room in omega (arith, l, r);
      running = is_set-unchanged start effects go (unnamed_above go effects go below (omega arith)) ∙ opened.running;
      idle = is_set-unchanged start effects current (unnamed_above go effects current below (omega (arith, behind, far))) ∙ opened.idle;
      quiet = λ place small. is_set-unchanged start effects (first + place) (unnamed_above go effects (first + place) below (omega (arith, behind))) ∙ opened.quiet place small;
    }

    -- behind the last action the bits are those after the effects
    same_end : (bits : State) (question : ℕ) → IsAsking go first current question bits → IsSameElsewhere start bits → after bits (effects ++ turned ((first + question) ∷ current ∷ []) (go ∷ [])) ≡ after start effects
    same_end bits question asking elsewhere = same_lists _ _ (length-after bits (effects ++ turned ((first + question) ∷ current ∷ []) (go ∷ [])) ∙ elsewhere.long ∙ sym (length-after start effects))
        (λ atom d within. get_or_default _ atom d false within ∙ by atom (is_own go first current atom) refl ∙ sym (get_or_default _ atom d false (let l = length-after bits (effects ++ turned ((first + question) ∷ current ∷ []) (go ∷ [])) in let m = length-after start effects in let e = elsewhere.long in omega (arith, within, l, m, e))))
      where
        low_same : (atom : ℕ) → atom < go → is_set (after bits effects) atom ≡ is_set (after start effects) atom
        low_same = after-agree go bits start (λ a low. elsewhere.same a (low_is_other a low)) effects (conditions_below go effects below) (let r = asking.room in omega (arith, r, behind, far)) (let r = opened.room in omega (arith, r, behind, far))

        by : (atom : ℕ) (own : Bool) → is_own go first current atom ≡ own → is_set (after bits (effects ++ turned ((first + question) ∷ current ∷ []) (go ∷ []))) atom ≡ is_set (after start effects) atom
        by atom true own = own_alike _ _ (ended_open go first current behind far bits question asking effects below) effects_open atom own
        by atom false other = ended_other go first current atom other bits question effects asking.within ∙ elim (cases_lt atom go) as (λ _. is_set (after bits effects) atom ≡ is_set (after start effects) atom) [
          | inl low ↦ low_same atom low
          | inr high ↦ is_set-unchanged bits effects atom (unnamed_above go effects atom below high) ∙ elsewhere.same atom other ∙ sym (is_set-unchanged start effects atom (unnamed_above go effects atom below high))
        ]

    record Answered (prefs : List GroundPref) (bits : State) : Type 0 where
      rest : List TargetAction
      returns : (from : State) (action : TargetAction) → Contains all action → truth from action.pre ≡ true → after from action.effects ≡ bits → is_set bits go ≡ false → Returns go all from (action ∷ rest) (after start effects)
      costs : sum_by (λ (action : TargetAction). action.cost) rest ≡ cost + sum_by (violation start by_name) prefs
      count : length rest ≡ length prefs + 1

    step_on : (from bits : State) (action : TargetAction) (plan : List TargetAction) → Contains all action → truth from action.pre ≡ true → after from action.effects ≡ bits → is_set bits go ≡ false → Returns go all bits plan (after start effects)
        → Returns go all from (action ∷ plan) (after start effects)
    step_on from bits action plan own fits is stopped more = More from action plan (after start effects) own fits (ap (λ s. is_set s go) is ∙ stopped) (subst (λ s. Returns go all s plan (after start effects)) (sym is) more)

    -- one answer more
    answer_more : (place answer_cost question : ℕ) (holds : Bool) (answer : TargetAction) (pref : GroundPref) (prefs : List GroundPref) (bits : State) → IsAsking go first current question bits
        → IsAnswer first current number place holds pref.body answer_cost answer → Contains all answer → place ≡ question → signed holds (truth bits pref.body) ≡ true → answer_cost ≡ violation start by_name pref
        → is_set (after bits answer.effects) go ≡ false → Answered prefs (after bits answer.effects) → Answered (pref ∷ prefs) bits
    answer_more place answer_cost question holds answer pref prefs bits asking answers own here right weighs stopped onward = record {
      rest = answer ∷ onward.rest;
      returns = λ from action member fits is halted. step_on from bits action (answer ∷ onward.rest) member fits is halted
          (onward.returns bits answer own (two_fit _ pref.body holds _ _ answer bits (first + place) current answers (asking.asks place (let w = asking.within in omega (arith, here, w)) ∙ ap (λ n. n == question) here ∙ eq-eqb question question refl) asking.asked right) refl stopped);
      costs = sum_by-cons (λ (action : TargetAction). action.cost) answer onward.rest ∙ (let a = answers.costs in let r = onward.costs in let s = sum_by-cons (violation start by_name) pref prefs in omega (arith, a, r, s, weighs));
      count = let c = onward.count in omega (arith, c);
    }

    answered : (place : ℕ) (prefs : List GroundPref) (actions : List TargetAction) → Questions place prefs actions → place + length prefs ≤ width_limit → ((action : TargetAction) → Contains actions action → Contains all action)
        → All (λ (pref : GroundPref). IsBelow go pref.body) prefs → (bits : State) (question : ℕ) → IsAsking go first current question bits → place ≡ question → IsSameElsewhere start bits → Answered prefs bits
    answered place prefs actions (Close _ last ends) few inside bodies bits question asking here elsewhere =
        let fits : truth bits last.pre ≡ true = two_fit _ True true _ _ last bits (first + place) current ends (asking.asks place (omega (arith, few)) ∙ ap (λ n. n == question) here ∙ eq-eqb question question refl) asking.asked (truth-True bits) in
        let ending : after bits last.effects ≡ after start effects = ap (after bits) (ends.does ∙ ap (λ n. effects ++ turned ((first + n) ∷ current ∷ []) (go ∷ [])) here) ∙ same_end bits question asking elsewhere in
        record {
          rest = last ∷ [];
          returns = λ from action member fits_it is halted. step_on from bits action (last ∷ []) member fits_it is halted
              (subst (Returns go all bits (last ∷ [])) ending (Last bits last (inside last (is_head last [])) fits (ap (λ s. is_set s go) ending ∙ effects_open.running)));
          costs = sum_by-cons (λ (action : TargetAction). action.cost) last [] ∙ (let c = ends.costs in omega (arith, c));
          count = omega arith;
        }
    answered place prefs actions (Ask _ pref others agree deny rest agrees denies more) few inside bodies bits question asking here elsewhere =
        by (truth start pref.body) refl
        (λ answer bits_asked elsewhere_too. answered (place + 1) others rest more (omega (arith, few)) (λ action own. inside action (is_behind agree (deny ∷ rest) action (is_behind deny rest action own))) (All-tail (λ (p : GroundPref). IsBelow go p.body) pref others bodies)
        (after bits answer.effects) (question + 1) bits_asked (omega (arith, here)) elsewhere_too)
      where
        alike : truth bits pref.body ≡ truth start pref.body
        alike = truth-agree bits start (λ atom. nat_lt atom go) (λ atom low. elsewhere.same atom (low_is_other atom (ltb-true atom go low))) pref.body (All-head (λ (p : GroundPref). IsBelow go p.body) pref others bodies)

        onward : (answer : TargetAction) (answer_cost : ℕ) (holds : Bool) → IsAnswer first current number place holds pref.body answer_cost answer
            → IsAsking go first current (question + 1) (after bits answer.effects) × IsSameElsewhere start (after bits answer.effects)
        onward answer answer_cost holds answers = (
          answered_asking bits question asking place answer_cost holds pref.body answer answers here (omega (arith, few)),
          record {
            long = length-after bits answer.effects ∙ elsewhere.long;
            same = λ atom other. ap (λ changes. is_set (after bits changes) atom) answers.does ∙ passed_other go first current atom other bits place (omega (arith, few)) ∙ elsewhere.same atom other;
          },
        )

        by : (holds : Bool) → truth start pref.body ≡ holds → ((answer : TargetAction) → IsAsking go first current (question + 1) (after bits answer.effects) → IsSameElsewhere start (after bits answer.effects) → Answered others (after bits answer.effects))
            → Answered (pref ∷ others) bits
        by true e rest_of_way =
            let led = onward agree 0 true agrees in
            answer_more place 0 question true agree pref others bits asking agrees (inside agree (is_head agree (deny ∷ rest))) here (alike ∙ e) (sym (λ i. if e i then 0 else weight_of by_name pref)) led.0.stopped (rest_of_way agree led.0 led.1)
        by false e rest_of_way =
            let led = onward deny (weight_of by_name pref) false denies in
            answer_more place (weight_of by_name pref) question false deny pref others bits asking denies (inside deny (is_behind agree (deny ∷ rest) deny (is_head deny rest))) here (ap not (alike ∙ e)) (sym (λ i. if e i then 0 else weight_of by_name pref)) led.0.stopped (rest_of_way deny led.0 led.1)

-- ---- the chain of a step

module _ (go first current : ℕ) (weights : Weights) (step : GroundStep) (effects : List Change) (behind : go < first) (far : first + width_limit < current)
    (below : list_all (is_sized_change go) effects ≡ true) (few : width_of weights.by_name step ≤ width_limit) where
  abbrev asked : List GroundPref
  asked = weighted weights.by_name step.prefs

  -- the first action, and the others
  record IsWhole (begin : TargetAction) (others : List TargetAction) : Type 0 where
    begins : IsBegin go first current step begin
    questions : Rest go first current step.number weights.by_name effects (weighted_cost weights step) 0 asked others

  whole : (actions : List TargetAction) (chain : IsChain go first current weights step effects actions) → IsWhole chain.begin (chain.answers ++ chain.ending ∷ [])
  whole actions chain = record {
    begins = chain.begins;
    questions = rest_of go first current step.number weights.by_name effects (weighted_cost weights step) 0 asked chain.answers chain.ending chain.asks
        (let same : length asked ≡ 0 + length asked = omega arith in subst (λ n. IsEnd go (first + n) current step.number effects (weighted_cost weights step) chain.ending) same chain.ends);
  }

  module _ (begin : TargetAction) (others : List TargetAction) (is_whole : IsWhole begin others) where
    room : 0 + length asked ≤ width_limit
    room = omega (arith, few)

    begin_shows : (bits : State) (action : TargetAction) → begin ≡ action → truth bits action.pre ≡ true → (is_set bits go ≡ true) × (truth bits step.pre ≡ true)
    begin_shows bits action is fits = one_guard _ step.pre true _ _ begin action bits is fits go is_whole.begins

    others_need : (bits : State) (action : TargetAction) → Contains others action → truth bits action.pre ≡ true → is_set bits current ≡ true
    others_need bits action own fits = need_current go first current step.number weights.by_name effects (weighted_cost weights step) behind far below 0 asked others is_whole.questions bits action own fits

    -- in open bits only the first fits, and in the middle only the others
    is_begin : (bits : State) → IsOpen go first current bits → (action : TargetAction) → Contains (begin ∷ others) action → truth bits action.pre ≡ true → begin ≡ action
    is_begin bits opens action member fits = ⊎_elim (λ is. is) (λ own. absurd (true≢false (sym (others_need bits action own fits) ∙ opens.idle))) (head_or_tail begin others action member)

    is_other : (bits : State) (question : ℕ) → IsAsking go first current question bits → (action : TargetAction) → Contains (begin ∷ others) action → truth bits action.pre ≡ true → Contains others action
    is_other bits question asking action member fits = ⊎_elim (λ is. absurd (true≢false (sym (begin_shows bits action is fits).0 ∙ asking.stopped))) (λ own. own) (head_or_tail begin others action member)

    begun : (bits : State) → IsOpen go first current bits → IsAsking go first current 0 (after bits begin.effects)
    begun bits opens = subst (λ changes. IsAsking go first current 0 (after bits changes)) (sym is_whole.begins.does) (begun_asking go first current behind far bits opens)

    one_at_most : (bits : State) → IsProper go first current bits → (one other : TargetAction) → Contains (begin ∷ others) one → Contains (begin ∷ others) other → truth bits one.pre ≡ true → truth bits other.pre ≡ true → one ≡ other
    one_at_most bits (inl opens) one other member member_two fits fit = sym (is_begin bits opens one member fits) ∙ is_begin bits opens other member_two fit
    one_at_most bits (inr (question, asking)) one other member member_two fits fit =
        one_answers go first current step.number weights.by_name effects (weighted_cost weights step) behind far below bits question asking 0 asked others is_whole.questions room one other
        (is_other bits question asking one member fits) (is_other bits question asking other member_two fit) fits fit

    proper_after : (bits : State) → IsProper go first current bits → (action : TargetAction) → Contains (begin ∷ others) action → truth bits action.pre ≡ true → IsProper go first current (after bits action.effects)
    proper_after bits (inl opens) action member fits = inr (0, subst (λ (a : TargetAction). IsAsking go first current 0 (after bits a.effects)) (is_begin bits opens action member fits) (begun bits opens))
    proper_after bits (inr (question, asking)) action member fits =
        next_answers go first current step.number weights.by_name effects (weighted_cost weights step) behind far below bits question asking 0 asked others is_whole.questions room action (is_other bits question asking action member fits) fits

    only_way : (bits : State) (plan : List TargetAction) (later : State) → Returns go (begin ∷ others) bits plan later → IsProper go first current bits → (other : List TargetAction) (end : State) → Returns go (begin ∷ others) bits other end → other ≡ plan
    only_way bits plan later (Last _ action own fits set) proper other end (Last _ second own_two fit set_two) = ap (λ (a : TargetAction). a ∷ []) (one_at_most bits proper second action own_two own fit fits)
    only_way bits plan later (Last _ action own fits set) proper other end (More _ second rest _ own_two fit unset more) =
        let same : second ≡ action = one_at_most bits proper second action own_two own fit fits in
        absurd (true≢false (sym set ∙ ap (λ (a : TargetAction). is_set (after bits a.effects) go) (sym same) ∙ unset))
    only_way bits plan later (More _ action rest _ own fits unset more) proper other end (Last _ second own_two fit set) =
        let same : second ≡ action = one_at_most bits proper second action own_two own fit fits in
        absurd (true≢false (sym set ∙ ap (λ (a : TargetAction). is_set (after bits a.effects) go) same ∙ unset))
    only_way bits plan later (More _ action rest _ own fits unset more) proper other end (More _ second others_two _ own_two fit unset_two more_two) =
        let same : second ≡ action = one_at_most bits proper second action own_two own fit fits in
        λ i. same i ∷ only_way (after bits action.effects) rest later more (proper_after bits proper action own fits) others_two end (subst (λ (a : TargetAction). Returns go (begin ∷ others) (after bits a.effects) others_two end) same more_two) i

    module _ (step_below : is_step_below go step ≡ true) (bits : State) (opens : IsOpen go first current bits) (holds : truth bits step.pre ≡ true) where
      bodies : All (λ (pref : GroundPref). IsBelow go pref.body) asked
      bodies = All-filter (λ (pref : GroundPref). nat_lt 0 (weight_of weights.by_name pref)) (λ (pref : GroundPref). IsBelow go pref.body) step.prefs
          (AllPass-from_list_all (λ (pref : GroundPref). is_below go pref.body) step.prefs (and_parts (is_below go step.pre) _ (and_parts (is_below go step.pre && _) (list_all (is_sized_change go) step.effects) step_below).0).1)

      begin_fits : truth bits begin.pre ≡ true
      begin_fits = is_whole.begins.fits bits ∙ (λ i. (opens.running i && true) && holds i)

      way : Answered go first current step.number weights.by_name effects (weighted_cost weights step) behind far below (begin ∷ others) bits opens asked (after bits begin.effects)
      way = answered go first current step.number weights.by_name effects (weighted_cost weights step) behind far below (begin ∷ others) bits opens 0 asked others is_whole.questions room (λ action own. is_behind begin others action own) bodies
          (after bits begin.effects) 0 (begun bits opens) refl
          (record { long = length-after bits begin.effects; same = λ atom other. ap (λ changes. is_set (after bits changes) atom) is_whole.begins.does ∙ begun_other go first current atom other bits })

      one_way : HasOneWay go first current weights step effects (begin ∷ others) bits
      one_way =
          let returns = way.returns bits begin (is_head begin others) begin_fits refl (begun bits opens).stopped in
          record {
            way = begin ∷ way.rest;
            returns = returns;
            opens = effects_open go first current step.number weights.by_name effects (weighted_cost weights step) behind far below (begin ∷ others) bits opens;
            count = let c = way.count in omega (arith, c);
            costs = sum_by-cons (λ (action : TargetAction). action.cost) begin way.rest ∙ (let b = is_whole.begins.costs in let c = way.costs in omega (arith, b, c));
            only = λ other later also. only_way bits (begin ∷ way.rest) (after bits effects) returns (inl opens) other later also;
          }

    no_way : (bits : State) → IsOpen go first current bits → truth bits step.pre ≡ false → All (λ (action : TargetAction). truth bits action.pre ≡ false) (begin ∷ others)
    no_way bits opens fails k d within = false_from_ne_true _ (λ fits.
        let is = is_begin bits opens (get_or (begin ∷ others) k d) (Contains-get_or (begin ∷ others) k d within) fits in
        true≢false (sym (begin_shows bits (get_or (begin ∷ others) k d) is fits).1 ∙ fails))

  -- ---- what the clauses say

  module _ (actions : List TargetAction) (chain : IsChain go first current weights step effects actions) where
    abbrev others : List TargetAction
    others = chain.answers ++ chain.ending ∷ []

    pub chain_one_way : is_step_below go step ≡ true → (bits : State) → IsOpen go first current bits → truth bits step.pre ≡ true → HasOneWay go first current weights step effects actions bits
    chain_one_way step_below bits opens holds = subst (λ list. HasOneWay go first current weights step effects list bits) (sym chain.are) (one_way chain.begin others (whole actions chain) step_below bits opens holds)

    pub chain_no_way : (bits : State) → IsOpen go first current bits → truth bits step.pre ≡ false → All (λ (action : TargetAction). truth bits action.pre ≡ false) actions
    chain_no_way bits opens fails = subst (All (λ (action : TargetAction). truth bits action.pre ≡ false)) (sym chain.are) (no_way chain.begin others (whole actions chain) bits opens fails)

    pub chain_guarded : IsGuarded go current actions
    chain_guarded = record {
      begin = chain.begin;
      others = others;
      are = chain.are;
      needs_go = λ state fits. (begin_shows chain.begin others (whole actions chain) state chain.begin refl fits).0;
      need_current = others_need chain.begin others (whole actions chain);
    }

    pub chain_one_fits : (bits : State) → IsProper go first current bits → (one other : TargetAction) → Contains actions one → Contains actions other → truth bits one.pre ≡ true → truth bits other.pre ≡ true → one ≡ other
    chain_one_fits bits proper one other member member_two = one_at_most chain.begin others (whole actions chain) bits proper one other (subst (λ list. Contains list one) chain.are member) (subst (λ list. Contains list other) chain.are member_two)

    pub chain_stays_proper : (bits : State) → IsProper go first current bits → (action : TargetAction) → Contains actions action → truth bits action.pre ≡ true → IsProper go first current (after bits action.effects)
    chain_stays_proper bits proper action member = proper_after chain.begin others (whole actions chain) bits proper action (subst (λ list. Contains list action) chain.are member)
