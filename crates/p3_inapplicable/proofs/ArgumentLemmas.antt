-- Faults of arguments: where there is one, and that it is found by number.
use Rattle.std.proofs.Common.{arith, ◌≡◌, ◌∙◌, ℕ, ◌+◌, ◌<◌, ◌≤◌, ◌==◌, Bool, true, false, not, ◌&&◌, if◌then◌else◌, List, [], ◌∷◌, length, drop, get_or, Option, Some, is_some, refl, sym, ap, suc}
use Rattle.std.proofs.lemmas.Bool.{and_parts, true≢false}
use Rattle.std.proofs.lemmas.Bool.Decides.{Decides-eqb}
use Rattle.std.proofs.lemmas.List.{drop_more}
use Rattle.p3_task.specs.Bindings.{are_arguments}
use Rattle.p3_task.specs.Names.{Name, has_name}
use Rattle.p3_task.specs.Types.{objects}
use Rattle.p3_task.specs.declared.task.Task.{Task}
use Rattle.p3_task.specs.declared.term.Typed.{Typed}
use Rattle.p3_numbers.specs.Places.{IsNumbering, are_known_types, has_types, ranges_of}
use Rattle.p3_numbers.specs.Slots.{object_names, range_at}
use Rattle.p3_numbers.specs.Tasks.{HasNames, object_words}
use Rattle.p3_numbers.specs.declared.numbers.Numbers.{Numbers}
use Rattle.p3_resolve.proofs.NameLemmas.{has-once}
use Rattle.p3_accounts.specs.declared.subject.StepFault.{StepFault}
use Rattle.p3_inapplicable.specs.Arguments.{FaultyWhereNoArguments, argument_fault, fault_at, fault_by, first_other, first_other_by, is_object}

-- ---- where there is one

module _ (T : Task) where
  first-faulty : (number : ℕ) (parameters : List Typed) (names : List Name) → length parameters ≡ length names → is_some (first_other T number parameters names) ≡ not (are_arguments T parameters names)
  unfolding first_other are_arguments
  first-faulty number [] [] same = refl
  first-faulty number [] (name ∷ names) same = absurd (omega (arith, same))
  first-faulty number (parameter ∷ parameters) [] same = absurd (omega (arith, same))
  first-faulty number (parameter ∷ parameters) (name ∷ names) same = by (has_name (objects T parameter.types) name) (first-faulty (number + 1) parameters names (omega (arith, same)))
    where
      by : (fits : Bool) → is_some (first_other T (number + 1) parameters names) ≡ not (are_arguments T parameters names)
          → is_some (if fits then first_other T (number + 1) parameters names else Some (fault_at (is_object T name) number parameter)) ≡ not (fits && are_arguments T parameters names)
      by true later = later
      by false later = refl

  as-many : (parameters : List Typed) (names : List Name) → are_arguments T parameters names ≡ true → length parameters ≡ length names
  unfolding are_arguments
  as-many [] [] are = refl
  as-many [] (name ∷ names) are = absurd (cc)
  as-many (parameter ∷ parameters) [] are = absurd (cc)
  as-many (parameter ∷ parameters) (name ∷ names) are = ap suc (as-many parameters names (and_parts (has_name (objects T parameter.types) name) (are_arguments T parameters names) are).1)

pub faulty-where-no-arguments : FaultyWhereNoArguments
unfolding argument_fault
faulty-where-no-arguments T parameters names = by (length parameters == length names) refl
  where
    other : (are : Bool) → (are ≡ true → ⊥) → true ≡ not are
    other true never = absurd (never refl)
    other false never = refl

    by : (same : Bool) → (length parameters == length names) ≡ same
        → is_some (if same then first_other T 1 parameters names else Some (StepFault.Count (length parameters))) ≡ not (are_arguments T parameters names)
    by true is = first-faulty T 1 parameters names ((Decides-eqb (length parameters) (length names)).0 is)
    by false is = other (are_arguments T parameters names) (λ are. true≢false (sym ((Decides-eqb (length parameters) (length names)).1 (as-many T parameters names are)) ∙ is))

-- ---- by number

module _ (T : Task) (N : Numbers) (names : HasNames T N) (numbering : IsNumbering T N) where
  object-known : (name : Name) → has_name N.objects name ≡ is_object T name
  object-known name = ap (λ all. has_name all name) names.objects ∙ has-once (object_words T) name

  first-by-number : (number : ℕ) (parameters : List Typed) (args : List Name) → are_known_types N parameters ≡ true → first_other_by N number parameters (ranges_of N parameters) args ≡ first_other T number parameters args
  unfolding first_other
  first-by-number number [] args known = refl
  first-by-number number (parameter ∷ parameters) [] known = refl
  first-by-number number (parameter ∷ parameters) (arg ∷ args) known =
      let parts = and_parts (has_types N parameter.types) (are_known_types N parameters) known in
      λ i. if has_name (numbering.named parameter.types parts.0 i) arg then first-by-number (number + 1) parameters args parts.1 i else Some (fault_at (object-known arg i) number parameter)

  pub by-number : (parameters : List Typed) (args : List Name) → are_known_types N parameters ≡ true → fault_by N parameters (ranges_of N parameters) args ≡ argument_fault T parameters args
  unfolding argument_fault
  by-number parameters args known = ap (λ first. if length parameters == length args then first else Some (StepFault.Count (length parameters))) (first-by-number 1 parameters args known)

-- ---- one argument more

-- what is found among the arguments that are left behind so many
abbrev pub left : Numbers → List Typed → List ℕ → List Name → ℕ → Option StepFault
left N parameters ranges args place = first_other_by N (place + 1) (drop place parameters) (drop place ranges) (drop place args)

-- the argument at a place, with its parameter and its range
pub record Stands (parameters : List Typed) (ranges : List ℕ) (args : List Name) (k : ℕ) (parameter : Typed) (range : ℕ) (arg : Name) : Type 0 where
  pub parameter_within : k < length parameters
  pub range_within : k < length ranges
  pub arg_within : k < length args
  pub parameter_is : parameter ≡ get_or parameters k parameter
  pub range_is : range ≡ get_or ranges k 0
  pub arg_is : arg ≡ get_or args k arg

first-left : {A : Type 0} (xs : List A) (k : ℕ) (x default : A) → k < length xs → x ≡ get_or xs k default → drop k xs ≡ x ∷ drop (k + 1) xs
first-left xs k x default within is = drop_more xs k default within ∙ ap (λ item. item ∷ drop (k + 1) xs) (sym is)

module _ (N : Numbers) (parameters : List Typed) (ranges : List ℕ) (args : List Name) (k : ℕ) (parameter : Typed) (range : ℕ) (arg : Name) (stands : Stands parameters ranges args k parameter range arg) where
  pub one-more : (fits : Bool) → has_name (object_names N (range_at N range)) arg ≡ fits
      → left N parameters ranges args k ≡ (if fits then left N parameters ranges args (k + 1) else Some (fault_at (has_name N.objects arg) (k + 1) parameter))
  one-more fits is =
      (λ i. first_other_by N (k + 1) (first-left parameters k parameter parameter stands.parameter_within stands.parameter_is i) (first-left ranges k range 0 stands.range_within stands.range_is i) (first-left args k arg arg stands.arg_within stands.arg_is i))
      ∙ ap (λ fits. if fits then left N parameters ranges args (k + 1) else Some (fault_at (has_name N.objects arg) (k + 1) parameter)) is
