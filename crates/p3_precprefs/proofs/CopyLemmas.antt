-- The choices, made by one preference after another, and the copies that come of them.
use Rattle.std.proofs.Common.{◌≡◌, ◌∙◌, ℕ, ◌+◌, ◌<◌, nat_lt, Bool, true, false, not, ◌&&◌, cond, List, [], ◌∷◌, ◌++◌, length, map, take, get_or, sum_by, refl, sym, ap, subst, arith, append_assoc, true≢false}
use Rattle.std.specs.Prelude.{if◌then◌else◌, Option}
use Rattle.std.specs.List.{All, filter}
use Rattle.std.proofs.lemmas.List.{append-nil, take_more}
use Rattle.std.proofs.lemmas.List.Elements.{All-nil, All-cons, All-head, All-tail, All-weaker}
use Rattle.std.proofs.lemmas.List.Sums.{sum_by-cons, sum_by-take-le, sum_by_more_le}
use Rattle.p3_formula.specs.Forms.{State, truth}
use Rattle.p3_formula.specs.Literals.{fixed, with_all}
use Rattle.p3_formula.specs.Settled.{settled}
use Rattle.p3_formula.specs.Simplified.{is_value, negated}
use Rattle.p3_formula.specs.Tidy.{is_tidy}
use Rattle.p3_formula.specs.declared.form.Form.{Form}
use Rattle.p3_formula.specs.declared.modal.GroundPref.{GroundPref}
use Rattle.p3_formula.specs.declared.target.Weights.{Weights}
use Rattle.p3_formula.specs.declared.task.GroundStep.{GroundStep}
use Rattle.p3_formula.proofs.FormLemmas.{truth-True, has_atoms-True}
use Rattle.p3_formula.proofs.AtomLaws.{negated_atoms}
use Rattle.p3_formula.proofs.LiteralLaws.{known_law}
use Rattle.p3_formula.proofs.SettledLaws.{both_atoms, both_tidy, both_truth, settled_atoms_of, settled_tidy}
use Rattle.p3_formula.proofs.SettledTruth.{settled_met, value_truth}
use Rattle.p3_formula.proofs.TidyLaws.{negated_tidy}
use Rattle.p3_formula.proofs.TruthLaws.{negated_truth}
use Rattle.p3_formula.specs.Weighted.{weight_of, weighted}
use Rattle.p3_precprefs.specs.declared.choices.Choice.{Choice}
use Rattle.p3_precprefs.specs.declared.copies.StepCopy.{StepCopy}
use Rattle.p3_precprefs.specs.Choices.{IsWithin, all_copies, copy_of, doubled, first_choice, known_by, satisfied, split_all, split_by, unless_never, violating}
use Rattle.p3_precprefs.specs.Copies.{HasAtomsIn, HasOneCopy, fitting, is_violated, violation}
use Rattle.p3_precprefs.proofs.JoinedLaws.{IsPart, conjoined_atoms, conjoined_part, conjoined_truth}

-- ---- what holds of each choice

-- a choice stands before others where it may be met
all_possible : (P : Choice → Type 0) (choice : Choice) (others : List Choice) → (is_value false choice.asked ≡ false → P choice) → All P others → All P (unless_never choice ++ others)
all_possible P choice others here all = by (is_value false choice.asked) refl
  where
    by : (never : Bool) → is_value false choice.asked ≡ never → All P ((if never then [] else (choice ∷ [])) ++ others)
    by true is = all
    by false is = All-cons P choice others (here is) all

module _ (body : Form) (weight : ℕ) (P Q : Choice → Type 0)
    (first : (choice : Choice) → P choice → is_value false (satisfied body choice).asked ≡ false → Q (satisfied body choice))
    (second : (choice : Choice) → P choice → is_value false (violating (negated body) weight choice).asked ≡ false → Q (violating (negated body) weight choice)) where
  all_doubled : (choices : List Choice) → All P choices → All Q (doubled body weight choices)
  all_doubled [] all = All-nil Q
  all_doubled (choice ∷ choices) all =
      let one = satisfied body choice in
      let other = violating (negated body) weight choice in
      let rest = doubled body weight choices in
      let here = All-head P choice choices all in
      subst (All Q) (sym (append_assoc (unless_never one) (unless_never other) rest))
      (all_possible Q one (unless_never other ++ rest) (first choice here)
      (all_possible Q other rest (second choice here) (all_doubled choices (All-tail P choice choices all))))

module _ (known : ℕ → Option Bool) (by_name : List ℕ) where
  -- ---- one preference more

  split_all_more : (prefs : List GroundPref) (pref : GroundPref) (choices : List Choice) → split_all known by_name (prefs ++ pref ∷ []) choices ≡ split_by known by_name (split_all known by_name prefs choices) pref
  split_all_more [] pref choices = refl
  split_all_more (other ∷ prefs) pref choices = split_all_more prefs pref (split_by known by_name choices other)

  -- ---- bounds of costs

  within_more : (bound more : ℕ) (choices : List Choice) → IsWithin bound choices → IsWithin (bound + more) choices
  within_more bound more choices within = All-weaker (λ (choice : Choice). choice.cost < bound) (λ (choice : Choice). choice.cost < bound + more) (λ choice below. omega (arith, below)) choices within

  within_split_by : (bound : ℕ) (choices : List Choice) (pref : GroundPref) → IsWithin bound choices → IsWithin (bound + weight_of by_name pref) (split_by known by_name choices pref)
  within_split_by bound choices pref within = by (nat_lt 0 (weight_of by_name pref))
    where
      by : (has : Bool) → IsWithin (bound + weight_of by_name pref) (if has then doubled (settled known pref.body) (weight_of by_name pref) choices else choices)
      by true = all_doubled (settled known pref.body) (weight_of by_name pref) (λ (choice : Choice). choice.cost < bound) (λ (choice : Choice). choice.cost < bound + weight_of by_name pref)
          (λ choice below _. omega (arith, below)) (λ choice below _. omega (arith, below)) choices within
      by false = within_more bound (weight_of by_name pref) choices within

  within_split_all : (bound : ℕ) (prefs : List GroundPref) (choices : List Choice) → IsWithin bound choices → IsWithin (bound + sum_by (weight_of by_name) prefs) (split_all known by_name prefs choices)
  within_split_all bound [] choices within = within_more bound 0 choices within
  within_split_all bound (pref ∷ prefs) choices within =
      subst (λ n. IsWithin n (split_all known by_name prefs (split_by known by_name choices pref))) (omega (arith, sum_by-cons (weight_of by_name) pref prefs))
      (within_split_all (bound + weight_of by_name pref) prefs (split_by known by_name choices pref) (within_split_by bound choices pref within))

  pub within_so_far : (prefs : List GroundPref) (index room : ℕ) (first : Choice) → first.cost + sum_by (weight_of by_name) prefs < room → IsWithin room (split_all known by_name (take index prefs) (first ∷ []))
  within_so_far prefs index room first fits =
      let begins : IsWithin (first.cost + 1) (first ∷ []) = All-cons (λ (choice : Choice). choice.cost < first.cost + 1) first [] (omega arith) (All-nil (λ (choice : Choice). choice.cost < first.cost + 1)) in
      All-weaker (λ (choice : Choice). choice.cost < first.cost + 1 + sum_by (weight_of by_name) (take index prefs)) (λ (choice : Choice). choice.cost < room)
      (λ choice below. omega (arith, below, fits, sum_by-take-le (weight_of by_name) prefs index))
      (split_all known by_name (take index prefs) (first ∷ [])) (within_split_all (first.cost + 1) (take index prefs) (first ∷ []) begins)

  -- ---- the loop over the preferences

  module _ (prefs : List GroundPref) (index : ℕ) (pref : GroundPref) (within : index < length prefs) (is : pref ≡ get_or prefs index pref) where
    pub next_split : (choices : List Choice) → split_by known by_name (split_all known by_name (take index prefs) choices) pref ≡ split_all known by_name (take (index + 1) prefs) choices
    next_split choices =
        let front : take (index + 1) prefs ≡ take index prefs ++ pref ∷ [] = take_more prefs index pref within ∙ ap (λ one. take index prefs ++ one ∷ []) (sym is) in
        sym (ap (λ list. split_all known by_name list choices) front ∙ split_all_more (take index prefs) pref choices)

    pub next_weight : (base room : ℕ) → base + sum_by (weight_of by_name) prefs < room → weight_of by_name pref < room
    next_weight base room fits = omega (arith, fits, sum_by_more_le (weight_of by_name) prefs index pref within, ap (weight_of by_name) is)

  -- ---- tidiness

  abbrev MayBe : Choice → Type 0
  MayBe choice = IsPart choice.asked

  parts_split_by : (choices : List Choice) (pref : GroundPref) → All MayBe choices → All MayBe (split_by known by_name choices pref)
  parts_split_by choices pref all = by (nat_lt 0 (weight_of by_name pref))
    where
      tidy : is_tidy (settled known pref.body) ≡ true
      tidy = settled_tidy known pref.body

      by : (has : Bool) → All MayBe (if has then doubled (settled known pref.body) (weight_of by_name pref) choices else choices)
      by true = all_doubled (settled known pref.body) (weight_of by_name pref) MayBe MayBe
          (λ choice part other. record { tidy = both_tidy choice.asked (settled known pref.body) part.tidy tidy; possible = other })
          (λ choice part other. record { tidy = both_tidy choice.asked (negated (settled known pref.body)) part.tidy (negated_tidy (settled known pref.body) tidy); possible = other })
          choices all
      by false = all

  pub parts_split_all : (prefs : List GroundPref) (choices : List Choice) → All MayBe choices → All MayBe (split_all known by_name prefs choices)
  parts_split_all [] choices all = all
  parts_split_all (pref ∷ prefs) choices all = parts_split_all prefs (split_by known by_name choices pref) (parts_split_by choices pref all)

  -- ---- atoms

  module _ (allowed : ℕ → Bool) where
    abbrev IsIn : Choice → Type 0
    IsIn choice = HasAtomsIn allowed choice.asked

    atoms_split_by : (choices : List Choice) (pref : GroundPref) → HasAtomsIn allowed pref.body → All IsIn choices → All IsIn (split_by known by_name choices pref)
    atoms_split_by choices pref within all = by (nat_lt 0 (weight_of by_name pref))
      where
        body : HasAtomsIn allowed (settled known pref.body)
        body = settled_atoms_of known pref.body allowed within

        by : (has : Bool) → All IsIn (if has then doubled (settled known pref.body) (weight_of by_name pref) choices else choices)
        by true = all_doubled (settled known pref.body) (weight_of by_name pref) IsIn IsIn
            (λ choice has _. both_atoms allowed choice.asked (settled known pref.body) has body)
            (λ choice has _. both_atoms allowed choice.asked (negated (settled known pref.body)) has (negated_atoms allowed (settled known pref.body) ∙ body))
            choices all
        by false = all

    pub atoms_split_all : (prefs : List GroundPref) (choices : List Choice) → All (λ (pref : GroundPref). HasAtomsIn allowed pref.body) prefs → All IsIn choices → All IsIn (split_all known by_name prefs choices)
    atoms_split_all [] choices within all = all
    atoms_split_all (pref ∷ prefs) choices within all =
        atoms_split_all prefs (split_by known by_name choices pref) (All-tail (λ (pref : GroundPref). HasAtomsIn allowed pref.body) pref prefs within)
        (atoms_split_by choices pref (All-head (λ (pref : GroundPref). HasAtomsIn allowed pref.body) pref prefs within) all)

  -- ---- which choices are met

  -- the state meets what is known
  module _ (state : State) (settles : (form : Form) → truth state (settled known form) ≡ truth state form) where
    abbrev pub met : List Choice → List Choice
    met choices = filter (λ (choice : Choice). truth state choice.asked) choices

    met_possible : (choice : Choice) (others : List Choice) → met (unless_never choice ++ others) ≡ cond (truth state choice.asked) (choice ∷ met others) (met others)
    met_possible choice others = by (is_value false choice.asked) refl
      where
        by : (never : Bool) → is_value false choice.asked ≡ never → met ((if never then [] else (choice ∷ [])) ++ others) ≡ cond (truth state choice.asked) (choice ∷ met others) (met others)
        by true is = sym (ap (λ test. cond test (choice ∷ met others) (met others)) (value_truth state false choice.asked is))
        by false is = refl

    -- which of both choices is met, where the first one is
    abbrev chosen : Form → ℕ → Bool → Choice → Choice
    chosen body weight true choice = satisfied body choice
    chosen body weight false choice = violating (negated body) weight choice

    picked : (body : Form) (weight : ℕ) (fits holds : Bool) (choice : Choice) (kept : List Choice)
        → cond (fits && holds) (satisfied body choice ∷ cond (fits && not holds) (violating (negated body) weight choice ∷ map (chosen body weight holds) kept) (map (chosen body weight holds) kept)) (cond (fits && not holds) (violating (negated body) weight choice ∷ map (chosen body weight holds) kept) (map (chosen body weight holds) kept))
        ≡ map (chosen body weight holds) (cond fits (choice ∷ kept) kept)
    picked body weight true true choice kept = refl
    picked body weight true false choice kept = refl
    picked body weight false holds choice kept = refl

    module _ (body : Form) (weight : ℕ) (holds : Bool) (is : truth state body ≡ holds) where
      met_doubled : (choices : List Choice) → met (doubled body weight choices) ≡ map (chosen body weight holds) (met choices)
      met_doubled [] = refl
      met_doubled (choice ∷ choices) =
          let one = satisfied body choice in
          let other = violating (negated body) weight choice in
          let more = doubled body weight choices in
          let first : truth state one.asked ≡ (truth state choice.asked && holds) = both_truth state choice.asked body ∙ ap (λ test. truth state choice.asked && test) is in
          let second : truth state other.asked ≡ (truth state choice.asked && not holds) = both_truth state choice.asked (negated body) ∙ ap (λ test. truth state choice.asked && test) (negated_truth state body ∙ ap not is) in
          let rest = met_doubled choices in
          ap met (append_assoc (unless_never one) (unless_never other) more)
          ∙ met_possible one (unless_never other ++ more)
          ∙ ap (λ list. cond (truth state one.asked) (one ∷ list) list) (met_possible other more)
          ∙ (λ i. cond (first i) (one ∷ cond (second i) (other ∷ rest i) (rest i)) (cond (second i) (other ∷ rest i) (rest i)))
          ∙ picked body weight (truth state choice.asked) holds choice (met choices)

    -- the choice that is met after one preference, and after one after another
    abbrev followed_by : Choice → GroundPref → Choice
    followed_by choice pref = if nat_lt 0 (weight_of by_name pref) then chosen (settled known pref.body) (weight_of by_name pref) (truth state pref.body) choice else choice

    abbrev pub followed : List GroundPref → Choice → Choice
    followed [] choice = choice
    followed (pref ∷ prefs) choice = followed prefs (followed_by choice pref)

    one_by : (choices : List Choice) (choice : Choice) (pref : GroundPref) → met choices ≡ choice ∷ [] → met (split_by known by_name choices pref) ≡ followed_by choice pref ∷ []
    one_by choices choice pref one = by (nat_lt 0 (weight_of by_name pref))
      where
        by : (has : Bool) → met (if has then doubled (settled known pref.body) (weight_of by_name pref) choices else choices) ≡ (if has then chosen (settled known pref.body) (weight_of by_name pref) (truth state pref.body) choice else choice) ∷ []
        by true = met_doubled (settled known pref.body) (weight_of by_name pref) (truth state pref.body) (settles pref.body) choices ∙ ap (map (chosen (settled known pref.body) (weight_of by_name pref) (truth state pref.body))) one
        by false = one

    pub one_met : (prefs : List GroundPref) (choices : List Choice) (choice : Choice) → met choices ≡ choice ∷ [] → met (split_all known by_name prefs choices) ≡ followed prefs choice ∷ []
    one_met [] choices choice one = one
    one_met (pref ∷ prefs) choices choice one = one_met prefs (split_by known by_name choices pref) (followed_by choice pref) (one_by choices choice pref one)

    -- ---- what the choice that is met shows and costs

    chosen_shows : (body : Form) (weight : ℕ) (choice : Choice) (holds : Bool) → (chosen body weight holds choice).violated ≡ choice.violated ++ not holds ∷ []
    chosen_shows body weight choice true = refl
    chosen_shows body weight choice false = refl

    chosen_costs : (body : Form) (weight : ℕ) (choice : Choice) (holds : Bool) → (chosen body weight holds choice).cost ≡ choice.cost + (if holds then 0 else weight)
    chosen_costs body weight choice true = omega arith
    chosen_costs body weight choice false = refl

    pub shows : (prefs : List GroundPref) (choice : Choice) → (followed prefs choice).violated ≡ choice.violated ++ map (is_violated state) (weighted by_name prefs)
    shows [] choice = sym (append-nil choice.violated)
    shows (pref ∷ prefs) choice = shows prefs (followed_by choice pref) ∙ by (nat_lt 0 (weight_of by_name pref))
      where
        by : (has : Bool) → (if has then chosen (settled known pref.body) (weight_of by_name pref) (truth state pref.body) choice else choice).violated ++ map (is_violated state) (weighted by_name prefs) ≡ choice.violated ++ map (is_violated state) (cond has (pref ∷ weighted by_name prefs) (weighted by_name prefs))
        by true = ap (λ front. front ++ map (is_violated state) (weighted by_name prefs)) (chosen_shows (settled known pref.body) (weight_of by_name pref) choice (truth state pref.body)) ∙ append_assoc choice.violated (is_violated state pref ∷ []) (map (is_violated state) (weighted by_name prefs))
        by false = refl

    pub costs : (prefs : List GroundPref) (choice : Choice) → (followed prefs choice).cost ≡ choice.cost + sum_by (violation state by_name) (weighted by_name prefs)
    costs [] choice = omega arith
    costs (pref ∷ prefs) choice = costs prefs (followed_by choice pref) ∙ by (nat_lt 0 (weight_of by_name pref))
      where
        by : (has : Bool) → (if has then chosen (settled known pref.body) (weight_of by_name pref) (truth state pref.body) choice else choice).cost + sum_by (violation state by_name) (weighted by_name prefs) ≡ choice.cost + sum_by (violation state by_name) (cond has (pref ∷ weighted by_name prefs) (weighted by_name prefs))
        by true = omega (arith, chosen_costs (settled known pref.body) (weight_of by_name pref) choice (truth state pref.body), sum_by-cons (violation state by_name) pref (weighted by_name prefs))
        by false = refl

-- ---- the copies of choices

module _ (state : State) (pre : Form) where
  fits_of : (choice : Choice) (b : Bool) → truth state pre ≡ b → truth state (copy_of pre choice).pre ≡ (b && truth state choice.asked)
  fits_of choice b is = conjoined_truth state pre choice.asked ∙ ap (λ test. test && truth state choice.asked) is

  abbrev met_of : List Choice → List Choice
  met_of choices = filter (λ (choice : Choice). truth state choice.asked) choices

  copies_met : truth state pre ≡ true → (choices : List Choice) → fitting state (map (copy_of pre) choices) ≡ map (copy_of pre) (met_of choices)
  copies_met holds [] = refl
  copies_met holds (choice ∷ choices) =
      (λ i. cond (fits_of choice true holds i) (copy_of pre choice ∷ copies_met holds choices i) (copies_met holds choices i))
      ∙ by (truth state choice.asked)
    where
      by : (b : Bool) → cond b (copy_of pre choice ∷ map (copy_of pre) (met_of choices)) (map (copy_of pre) (met_of choices)) ≡ map (copy_of pre) (cond b (choice ∷ met_of choices) (met_of choices))
      by true = refl
      by false = refl

  none_met : truth state pre ≡ false → (choices : List Choice) → fitting state (map (copy_of pre) choices) ≡ []
  none_met fails [] = refl
  none_met fails (choice ∷ choices) =
      λ i. cond (fits_of choice false fails i) (copy_of pre choice ∷ none_met fails choices i) (none_met fails choices i)

all_mapped : (pre : Form) (P : Choice → Type 0) (Q : StepCopy → Type 0) → ((choice : Choice) → P choice → Q (copy_of pre choice)) → (choices : List Choice) → All P choices → All Q (map (copy_of pre) choices)
all_mapped pre P Q here [] all = All-nil Q
all_mapped pre P Q here (choice ∷ choices) all = All-cons Q (copy_of pre choice) (map (copy_of pre) choices) (here choice (All-head P choice choices all)) (all_mapped pre P Q here choices (All-tail P choice choices all))

-- ---- of a step

module _ (weights : Weights) (step : GroundStep) (pre : Form) where
  abbrev all_choices : List Choice
  all_choices = split_all (known_by pre) weights.by_name step.prefs (first_choice weights step ∷ [])

  -- what is so where the precondition never holds, and where it may hold
  cases : (P : List StepCopy → Type 0) → (is_value false pre ≡ true → P []) → (is_value false pre ≡ false → P (map (copy_of pre) all_choices)) → P (all_copies weights step pre)
  cases P never may = by (is_value false pre) refl
    where
      by : (b : Bool) → is_value false pre ≡ b → P (if b then [] else map (copy_of pre) all_choices)
      by true is = never is
      by false is = may is

  settles : (state : State) → truth state pre ≡ true → (form : Form) → truth state (settled (known_by pre) form) ≡ truth state form
  settles state holds form = settled_met (with_all [] (fixed pre true)) form state (known_law pre state holds)

  pub one_copy : (state : State) → truth state pre ≡ true → HasOneCopy weights step (all_copies weights step pre) state
  one_copy state holds = cases (λ copies. HasOneCopy weights step copies state)
      (λ never. absurd (true≢false (sym holds ∙ value_truth state false pre never)))
      (λ may. record {
        copy = copy_of pre (followed (known_by pre) weights.by_name state (settles state holds) step.prefs (first_choice weights step));
        only = copies_met state pre holds all_choices
            ∙ ap (map (copy_of pre)) (one_met (known_by pre) weights.by_name state (settles state holds) step.prefs (first_choice weights step ∷ []) (first_choice weights step)
            (ap (λ test. cond test (first_choice weights step ∷ []) []) (truth-True state)));
        shows = shows (known_by pre) weights.by_name state (settles state holds) step.prefs (first_choice weights step);
        costs = costs (known_by pre) weights.by_name state (settles state holds) step.prefs (first_choice weights step);
      })

  pub no_copy : (state : State) → truth state pre ≡ false → fitting state (all_copies weights step pre) ≡ []
  no_copy state fails = cases (λ copies. fitting state copies ≡ []) (λ never. refl) (λ may. none_met state pre fails all_choices)

  all_parts : All (λ (choice : Choice). IsPart choice.asked) all_choices
  all_parts = parts_split_all (known_by pre) weights.by_name step.prefs (first_choice weights step ∷ [])
      (All-cons (λ (choice : Choice). IsPart choice.asked) (first_choice weights step) [] (record { tidy = refl; possible = refl }) (All-nil (λ (choice : Choice). IsPart choice.asked)))

  -- the precondition of each copy of a tidy one is tidy, and may hold
  pub all_are_parts : is_tidy pre ≡ true → All (λ (copy : StepCopy). IsPart copy.pre) (all_copies weights step pre)
  all_are_parts tidy = cases (All (λ (copy : StepCopy). IsPart copy.pre)) (λ never. All-nil (λ (copy : StepCopy). IsPart copy.pre))
      (λ may. all_mapped pre (λ (choice : Choice). IsPart choice.asked) (λ (copy : StepCopy). IsPart copy.pre) (λ choice part. conjoined_part pre choice.asked (record { tidy = tidy; possible = may }) part) all_choices all_parts)

  pub in_atoms : (allowed : ℕ → Bool) → HasAtomsIn allowed pre → All (λ (pref : GroundPref). HasAtomsIn allowed pref.body) step.prefs → All (λ (copy : StepCopy). HasAtomsIn allowed copy.pre) (all_copies weights step pre)
  in_atoms allowed within bodies = cases (All (λ (copy : StepCopy). HasAtomsIn allowed copy.pre)) (λ never. All-nil (λ (copy : StepCopy). HasAtomsIn allowed copy.pre))
      (λ may. all_mapped pre (λ (choice : Choice). HasAtomsIn allowed choice.asked) (λ (copy : StepCopy). HasAtomsIn allowed copy.pre) (λ choice has. conjoined_atoms allowed pre choice.asked within has) all_choices
      (atoms_split_all (known_by pre) weights.by_name allowed step.prefs (first_choice weights step ∷ []) bodies
      (All-cons (λ (choice : Choice). HasAtomsIn allowed choice.asked) (first_choice weights step) [] (has_atoms-True allowed) (All-nil (λ (choice : Choice). HasAtomsIn allowed choice.asked)))))
