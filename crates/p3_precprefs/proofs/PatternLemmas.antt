-- The lists that the copies show are some of the patterns, in order, which differ.
use Rattle.std.proofs.Common.{◌≡◌, ◌∙◌, ◌≢◌, ℕ, zero, suc, ◌+◌, nat_lt, Bool, true, false, cond, List, [], ◌∷◌, ◌++◌, length, map, take, drop, get_or, refl, sym, ap, subst, arith, true≢false, append_assoc}
use Rattle.std.specs.Prelude.{if◌then◌else◌, Option}
use Rattle.std.specs.List.{All, flat_map}
use Rattle.std.proofs.Math.Seq.{take-append_seam, drop-append_seam}
use Rattle.std.proofs.lemmas.List.{length-append}
use Rattle.std.proofs.lemmas.List.Elements.{All-nil, All-cons, All-head, All-tail}
use Rattle.p3_formula.specs.Settled.{settled}
use Rattle.p3_formula.specs.Simplified.{is_value, negated}
use Rattle.p3_formula.specs.declared.form.Form.{Form}
use Rattle.p3_formula.specs.declared.modal.GroundPref.{GroundPref}
use Rattle.p3_formula.specs.declared.target.Weights.{Weights}
use Rattle.p3_formula.specs.declared.task.GroundStep.{GroundStep}
use Rattle.p3_precprefs.specs.declared.choices.Choice.{Choice}
use Rattle.p3_precprefs.specs.declared.copies.StepCopy.{StepCopy}
use Rattle.p3_formula.specs.Weighted.{weight_of, weighted}
use Rattle.p3_precprefs.specs.Choices.{all_copies, copy_of, doubled, first_choice, known_by, satisfied, split_all, split_by, unless_never, violating}
use Rattle.p3_precprefs.specs.Copies.{AreApart, IsSublist, Nothing, Keeps, Leaves, both_ways, patterns, violated_lists}

-- ---- sublists

none_of : {A : Type 0} (all : List A) → IsSublist [] all
none_of [] = Nothing
none_of (one ∷ all) = Leaves one [] all (none_of all)

pub all_of : {A : Type 0} (P : A → Type 0) (some all : List A) → IsSublist some all → All P all → All P some
all_of P _ _ Nothing each = each
all_of P _ _ (Leaves one some all kept) each = all_of P some all kept (All-tail P one all each)
all_of P _ _ (Keeps one some all kept) each = All-cons P one some (All-head P one all each) (all_of P some all kept (All-tail P one all each))

pub apart_of : (some all : List (List Bool)) → IsSublist some all → AreApart all → AreApart some
apart_of _ _ Nothing apart = apart
apart_of _ _ (Leaves one some all kept) apart = apart_of some all kept apart.1
apart_of _ _ (Keeps one some all kept) apart = (all_of (λ other. one ≢ other) some all kept apart.0, apart_of some all kept apart.1)

-- ---- the lists of the choices

abbrev shown : List Choice → List (List Bool)
shown choices = map (λ (choice : Choice). choice.violated) choices

possible : (choice : Choice) (others : List Choice) (lists : List (List Bool)) → IsSublist (shown others) lists → IsSublist (shown (unless_never choice ++ others)) (choice.violated ∷ lists)
possible choice others lists kept = by (is_value false choice.asked)
  where
    by : (never : Bool) → IsSublist (shown ((if never then [] else (choice ∷ [])) ++ others)) (choice.violated ∷ lists)
    by true = Leaves choice.violated (shown others) lists kept
    by false = Keeps choice.violated (shown others) lists kept

module _ (body : Form) (weight : ℕ) where
  two_shown : (choice : Choice) (others : List Choice) (lists : List (List Bool)) → IsSublist (shown others) lists
      → IsSublist (shown ((unless_never (satisfied body choice) ++ unless_never (violating (negated body) weight choice)) ++ others)) ((choice.violated ++ false ∷ []) ∷ (choice.violated ++ true ∷ []) ∷ lists)
  two_shown choice others lists kept =
      let one = satisfied body choice in
      let other = violating (negated body) weight choice in
      subst (λ list. IsSublist (shown list) ((choice.violated ++ false ∷ []) ∷ (choice.violated ++ true ∷ []) ∷ lists)) (sym (append_assoc (unless_never one) (unless_never other) others))
      (possible one (unless_never other ++ others) ((choice.violated ++ true ∷ []) ∷ lists) (possible other others lists kept))

  shown_doubled : (some lists : List (List Bool)) → IsSublist some lists → (choices : List Choice) → shown choices ≡ some → IsSublist (shown (doubled body weight choices)) (flat_map both_ways lists)
  shown_doubled _ _ Nothing [] is = Nothing
  shown_doubled _ _ Nothing (choice ∷ choices) is = absurd (cc)
  shown_doubled _ _ (Leaves one some lists kept) choices is = Leaves (one ++ false ∷ []) _ _ (Leaves (one ++ true ∷ []) _ _ (shown_doubled some lists kept choices is))
  shown_doubled _ _ (Keeps one some lists kept) [] is = absurd (cc)
  shown_doubled _ _ (Keeps one some lists kept) (choice ∷ choices) is =
      subst (λ front. IsSublist (shown (doubled body weight (choice ∷ choices))) ((front ++ false ∷ []) ∷ (front ++ true ∷ []) ∷ flat_map both_ways lists)) (ap (λ list. get_or list 0 one) is)
      (two_shown choice (doubled body weight choices) (flat_map both_ways lists) (shown_doubled some lists kept choices (ap (drop 1) is)))

module _ (known : ℕ → Option Bool) (by_name : List ℕ) where
  shown_split_by : (pref : GroundPref) (choices : List Choice) (count : ℕ) → IsSublist (shown choices) (patterns count) → IsSublist (shown (split_by known by_name choices pref)) (patterns (cond (nat_lt 0 (weight_of by_name pref)) (suc count) count))
  shown_split_by pref choices count kept = by (nat_lt 0 (weight_of by_name pref))
    where
      by : (has : Bool) → IsSublist (shown (if has then doubled (settled known pref.body) (weight_of by_name pref) choices else choices)) (patterns (cond has (suc count) count))
      by true = shown_doubled (settled known pref.body) (weight_of by_name pref) (shown choices) (patterns count) kept choices refl
      by false = kept

  counted : (has : Bool) (pref : GroundPref) (kept : List GroundPref) (count : ℕ) → length kept + cond has (suc count) count ≡ length (cond has (pref ∷ kept) kept) + count
  counted true pref kept count = omega arith
  counted false pref kept count = refl

  shown_split_all : (prefs : List GroundPref) (choices : List Choice) (count : ℕ) → IsSublist (shown choices) (patterns count) → IsSublist (shown (split_all known by_name prefs choices)) (patterns (length (weighted by_name prefs) + count))
  shown_split_all [] choices count kept =
      let none : count ≡ 0 + count = omega arith in
      subst (λ n. IsSublist (shown choices) (patterns n)) none kept
  shown_split_all (pref ∷ prefs) choices count kept =
      subst (λ n. IsSublist (shown (split_all known by_name prefs (split_by known by_name choices pref))) (patterns n)) (counted (nat_lt 0 (weight_of by_name pref)) pref (weighted by_name prefs) count)
      (shown_split_all prefs (split_by known by_name choices pref) (cond (nat_lt 0 (weight_of by_name pref)) (suc count) count) (shown_split_by pref choices count kept))

-- ---- the patterns differ

same_front : (front other : List Bool) (last end : Bool) → front ++ last ∷ [] ≡ other ++ end ∷ [] → front ≡ other
same_front front other last end same =
    let lengths : length (front ++ last ∷ []) ≡ length (other ++ end ∷ []) = ap length same in
    let long : length front ≡ length other = omega (arith, lengths, length-append front (last ∷ []), length-append other (end ∷ [])) in
    sym (take-append_seam front (last ∷ [])) ∙ ap (take (length front)) same ∙ ap (λ n. take n (other ++ end ∷ [])) long ∙ take-append_seam other (end ∷ [])

ends_differ : (front : List Bool) → (front ++ false ∷ []) ≢ (front ++ true ∷ [])
ends_differ front same =
    let ends : false ∷ [] ≡ true ∷ [] = sym (drop-append_seam front (false ∷ [])) ∙ ap (drop (length front)) same ∙ drop-append_seam front (true ∷ []) in
    true≢false (sym (ap (λ list. get_or list 0 false) ends))

absent : (front : List Bool) (last : Bool) (others : List (List Bool)) → All (λ other. front ≢ other) others → All (λ other. (front ++ last ∷ []) ≢ other) (flat_map both_ways others)
absent front last [] apart = All-nil (λ other. (front ++ last ∷ []) ≢ other)
absent front last (one ∷ others) apart =
    let here : front ≢ one = All-head (λ other. front ≢ other) one others apart in
    let rest = absent front last others (All-tail (λ other. front ≢ other) one others apart) in
    All-cons (λ other. (front ++ last ∷ []) ≢ other) (one ++ false ∷ []) ((one ++ true ∷ []) ∷ flat_map both_ways others) (λ same. here (same_front front one last false same))
    (All-cons (λ other. (front ++ last ∷ []) ≢ other) (one ++ true ∷ []) (flat_map both_ways others) (λ same. here (same_front front one last true same)) rest)

apart_both_ways : (lists : List (List Bool)) → AreApart lists → AreApart (flat_map both_ways lists)
apart_both_ways [] apart = tt
apart_both_ways (one ∷ others) apart =
    (All-cons (λ other. (one ++ false ∷ []) ≢ other) (one ++ true ∷ []) (flat_map both_ways others) (ends_differ one) (absent one false others apart.0), (absent one true others apart.0, apart_both_ways others apart.1))

pub apart_patterns : (count : ℕ) → AreApart (patterns count)
apart_patterns zero = (All-nil (λ other. [] ≢ other), tt)
apart_patterns (suc count) = apart_both_ways (patterns count) (apart_patterns count)

-- ---- and are equally long

long_both_ways : (count : ℕ) (lists : List (List Bool)) → All (λ list. length list ≡ count) lists → All (λ list. length list ≡ suc count) (flat_map both_ways lists)
long_both_ways count [] long = All-nil (λ list. length list ≡ suc count)
long_both_ways count (one ∷ others) long =
    let here : length one ≡ count = All-head (λ list. length list ≡ count) one others long in
    let rest = long_both_ways count others (All-tail (λ list. length list ≡ count) one others long) in
    All-cons (λ list. length list ≡ suc count) (one ++ false ∷ []) ((one ++ true ∷ []) ∷ flat_map both_ways others) (omega (arith, here, length-append one (false ∷ [])))
    (All-cons (λ list. length list ≡ suc count) (one ++ true ∷ []) (flat_map both_ways others) (omega (arith, here, length-append one (true ∷ []))) rest)

pub long_patterns : (count : ℕ) → All (λ list. length list ≡ count) (patterns count)
long_patterns zero = All-cons (λ list. length list ≡ zero) [] [] refl (All-nil (λ list. length list ≡ zero))
long_patterns (suc count) = long_both_ways count (patterns count) (long_patterns count)

-- what holds of the lists holds of the copies
pub of_lists : (P : List Bool → Type 0) (copies : List StepCopy) → All P (violated_lists copies) → All (λ (copy : StepCopy). P copy.violated) copies
of_lists P [] all = All-nil (λ (copy : StepCopy). P copy.violated)
of_lists P (copy ∷ copies) all = All-cons (λ (copy : StepCopy). P copy.violated) copy copies (All-head P copy.violated (violated_lists copies) all) (of_lists P copies (All-tail P copy.violated (violated_lists copies) all))

-- ---- of a step

lists_of : (pre : Form) (choices : List Choice) → violated_lists (map (copy_of pre) choices) ≡ shown choices
lists_of pre [] = refl
lists_of pre (choice ∷ choices) = ap (λ lists. choice.violated ∷ lists) (lists_of pre choices)

pub some_patterns : (weights : Weights) (step : GroundStep) (pre : Form) → IsSublist (violated_lists (all_copies weights step pre)) (patterns (length (weighted weights.by_name step.prefs)))
some_patterns weights step pre = by (is_value false pre)
  where
    none_more : length (weighted weights.by_name step.prefs) + 0 ≡ length (weighted weights.by_name step.prefs)
    none_more = omega arith

    by : (never : Bool) → IsSublist (violated_lists (if never then [] else map (copy_of pre) (split_all (known_by pre) weights.by_name step.prefs (first_choice weights step ∷ [])))) (patterns (length (weighted weights.by_name step.prefs)))
    by true = none_of _
    by false =
        subst (λ lists. IsSublist lists (patterns (length (weighted weights.by_name step.prefs)))) (sym (lists_of pre _))
        (subst (λ n. IsSublist (shown (split_all (known_by pre) weights.by_name step.prefs (first_choice weights step ∷ []))) (patterns n)) none_more
        (shown_split_all (known_by pre) weights.by_name step.prefs (first_choice weights step ∷ []) 0 (Keeps [] [] [] Nothing)))
