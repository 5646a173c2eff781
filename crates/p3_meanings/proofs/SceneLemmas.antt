-- What is said of scenes by number is what is said of the named operators and preferences.
use Rattle.std.proofs.Common.{◌≡◌, ◌∙◌, ℕ, zero, suc, ◌+◌, List, [], ◌∷◌, ◌++◌, map, length, Option, Some, None, refl, sym, ap}
use Rattle.std.specs.Prelude.{codes, flat_map, option_map, position, slice_get, unwrap_or}
use Rattle.std.specs.List.{AllZip}
use Rattle.std.proofs.lemmas.Bool.{true≢false}
use Rattle.std.proofs.lemmas.List.{length-map}
use Rattle.std.proofs.lemmas.Option.{get_or_from_slice_get}
use Rattle.std.proofs.lemmas.Slice.Eq.{bytes_eq-Decides}
use Rattle.p3_base.specs.Operators.{over}
use Rattle.p3_base.specs.declared.operator.Operator.{Operator}
use Rattle.p3_base.specs.declared.operator.Operator.TheVariants.{AtEnd, Always, Sometime, AtMostOnce, SometimeAfter, SometimeBefore}
use Rattle.p3_base.specs.declared.refusal.Role.{Role}
use Rattle.p3_task.specs.Constraints.{HardModal, Instance, hard_list, instances, operators}
use Rattle.p3_task.specs.Names.{Name, same_name}
use Rattle.p3_task.specs.PreferenceNames.{ordered_names}
use Rattle.p3_task.specs.declared.formula.Formula.{Formula}
use Rattle.p3_task.specs.declared.task.Task.{Task}
use Rattle.p3_task.proofs.OnceLemmas.{Has}
use Rattle.p3_formula.specs.declared.modal.GroundSoft.{GroundSoft}
use Rattle.p3_numbers.specs.Conditions.{condition_of}
use Rattle.p3_numbers.specs.Places.{environment_of}
use Rattle.p3_numbers.specs.Slots.{name_at}
use Rattle.p3_numbers.specs.Tasks.{IsNumberedTask}
use Rattle.p3_numbers.specs.declared.numbers.Numbers.{Numbers}
use Rattle.p3_numbers.specs.declared.task.NumberedTask.{NumberedTask}
use Rattle.p3_tree.specs.Reports.Explanations.{shown_name}
use Rattle.p3_ground.specs.StandsFor.{number_of_name}
use Rattle.p3_ground.proofs.Mentioned.{instance_name_is_ordered}
use Rattle.p3_ground.proofs.NameNumbers.{at_place, no_place}
use Rattle.p3_scenes.specs.Bound.{IsBound, IsBoundSoft, hard_roles, instance_roles}
use Rattle.p3_scenes.specs.Scenes.{Scene, SoftScene}
use Rattle.p3_scenes.specs.Seen.{seen_soft}
use Rattle.p3_scenes.specs.declared.scene.InstanceScene.{InstanceScene}
use Rattle.p3_accounts.specs.Meanings.{meaning_line}
use Rattle.p3_accounts.specs.Operators.{kind_of}
use Rattle.p3_accounts.specs.Subjects.{preference_text}
use Rattle.p3_accounts.specs.Vocabularies.{Vocabulary}
use Rattle.p3_accounts.specs.declared.meaning.Meaning.{Meaning}
use Rattle.p3_unmet.specs.Sources.{Texts, spot_of}
use Rattle.p3_meanings.specs.Chains.{all_settled, chain_said, next_said, settling_said}
use Rattle.p3_meanings.specs.Environments.{environment_text}
use Rattle.p3_meanings.specs.Heard.{chain_heard, hard_heard, heard, next_heard, numbered_from, part_heard, soft_heard}
use Rattle.p3_meanings.specs.Monitors.{hard_said, monitors_said, of_constraint, of_preference, part_watches, soft_said, watches}
use Rattle.p3_meanings.specs.Names.{AreWordsOf}
use Rattle.p3_meanings.specs.Said.{said_lines}
use Rattle.p3_meanings.specs.Told.{AreNamed, AreScenesOf, HasNumber}
use Rattle.p3_meanings.specs.declared.unnumbered.Unnumbered.{Unnumbered}
use Rattle.p3_meanings.proofs.SaidLemmas.{numbered_is_said}

-- ---- names of preferences

-- a name that is among those in order is told by its number
name_is_told : (T : Task) (name : Option Name) → ((word : Name) → name ≡ Some word → Has (ordered_names T) word) → option_map (name_at (ordered_names T)) (number_of_name T name) ≡ name
name_is_told T None own = refl
name_is_told T (Some word) own = by (position (same_name word) (ordered_names T)) refl
  where
    by : (number : Option ℕ) → position (same_name word) (ordered_names T) ≡ number → option_map (name_at (ordered_names T)) number ≡ Some word
    by None e = let (k, at) = own word refl in absurd (true≢false (sym ((bytes_eq-Decides word word).1 refl) ∙ no_place (same_name word) (ordered_names T) e k word at))
    by (Some place) e =
        let (found, at, passes) = at_place (same_name word) (ordered_names T) place e in
        ap Some (get_or_from_slice_get (ordered_names T) place found [] at ∙ sym ((bytes_eq-Decides word found).0 passes))

abbrev IsTold : Vocabulary → Instance → GroundSoft → Type 0
IsTold V instance soft = preference_text V soft.name ≡ shown_name instance.name

module _ (T : Task) (V : Vocabulary) (names : V.numbers.preferences ≡ ordered_names T) where
  names_are_told : (instances : List Instance) (softs : List GroundSoft) → AllZip (HasNumber T) instances softs
      → ((k : ℕ) (instance : Instance) (word : Name) → slice_get instances k ≡ Some instance → instance.name ≡ Some word → Has (ordered_names T) word) → AllZip (IsTold V) instances softs
  names_are_told [] [] named ordered = tt
  names_are_told [] (soft ∷ softs) named ordered = absurd named
  names_are_told (instance ∷ others) [] named ordered = absurd named
  names_are_told (instance ∷ others) (soft ∷ softs) (here, there) ordered = (
    (λ i. shown_name (option_map (name_at (names i)) (here i))) ∙ ap shown_name (name_is_told T instance.name (λ word is. ordered zero instance word refl is)),
    names_are_told others softs there (λ k. ordered (suc k)),
  )

-- ---- operators

kind_over : {A B : Type 0} (f : A → B) (operator : Operator A) → kind_of (over f operator) ≡ kind_of operator
kind_over f (AtEnd _) = refl
kind_over f (Always _) = refl
kind_over f (Sometime _) = refl
kind_over f (AtMostOnce _) = refl
kind_over f (SometimeAfter _ _) = refl
kind_over f (SometimeBefore _ _) = refl

module _ (T : Task) (N : Numbers) (V : Vocabulary) (numbers : V.numbers ≡ N) (texts : Texts) where
  kind_is : (hard : HardModal) (scene : Scene) → IsBound N hard scene → kind_of scene.operator ≡ kind_of hard.modal
  kind_is hard scene is = ap kind_of is.operator ∙ kind_over (λ (formula : Formula). condition_of N formula scene.scope) hard.modal

  env_is : (hard : HardModal) (scene : Scene) → IsBound N hard scene → environment_of V.numbers scene.scope scene.slots ≡ hard.env
  env_is hard scene is = ap (λ M. environment_of M scene.scope scene.slots) numbers ∙ sym is.env

  hard_are_told : (number : ℕ) (hards : List HardModal) (scenes : List Scene) → AllZip (IsBound N) hards scenes → hard_heard V texts number scenes ≡ hard_said texts number hards (map (λ (scene : Scene). scene.role) scenes)
  hard_are_told number [] [] are = refl
  hard_are_told number [] (scene ∷ scenes) are = absurd are
  hard_are_told number (hard ∷ hards) [] are = absurd are
  hard_are_told number (hard ∷ hards) (scene ∷ scenes) (is, are) =
      λ i. watches (option_map (spot_of texts scene.role) (is.word i)) (of_constraint number) (kind_is hard scene is i) (env_is hard scene is i) ++ hard_are_told (number + 1) hards scenes are i

  module _ (instance : Instance) (soft : SoftScene) (name : Option ℕ) (at : soft.at ≡ instance.at) (told : preference_text V name ≡ shown_name instance.name) where
    parts_are_told : (hards : List HardModal) (scenes : List Scene) → AllZip (IsBound N) hards scenes → flat_map (part_heard V texts name soft) scenes ≡ flat_map (part_watches texts soft.role instance) hards
    parts_are_told [] [] are = refl
    parts_are_told [] (scene ∷ scenes) are = absurd are
    parts_are_told (hard ∷ hards) [] are = absurd are
    parts_are_told (hard ∷ hards) (scene ∷ scenes) (is, are) =
        λ i. watches (Some (spot_of texts soft.role (unwrap_or (is.word i) (at i)))) (of_preference (told i)) (kind_is hard scene is i) (env_is hard scene is i) ++ parts_are_told hards scenes are i

  next_is_told : (instance : Instance) (soft : SoftScene) (name : Option ℕ) → IsBoundSoft T N instance soft → preference_text V name ≡ shown_name instance.name → next_heard V texts name soft ≡ next_said texts soft.role instance
  next_is_told instance soft name is told =
      let env : environment_of V.numbers soft.scope soft.slots ≡ instance.env = ap (λ M. environment_of M soft.scope soft.slots) numbers ∙ sym is.env in
      λ i. record { letter = codes "e"; spot = Some (spot_of texts soft.role (is.at i)); text = codes "settled next: preference " ++ told i ++ environment_text (env i) }

  abbrev numbers_in : List GroundSoft → List (Option ℕ)
  numbers_in softs = map (λ (soft : GroundSoft). soft.name) softs

  abbrev roles_in : List SoftScene → List Role
  roles_in scenes = map (λ (scene : SoftScene). scene.role) scenes

  soft_are_told : (instances : List Instance) (softs : List GroundSoft) (scenes : List SoftScene) → AllZip (IsTold V) instances softs → AllZip (IsBoundSoft T N) instances scenes → soft_heard V texts (numbers_in softs) scenes ≡ soft_said texts T instances (roles_in scenes)
  soft_are_told [] [] [] named are = refl
  soft_are_told [] [] (scene ∷ scenes) named are = absurd are
  soft_are_told [] (soft ∷ softs) scenes named are = absurd named
  soft_are_told (instance ∷ others) [] scenes named are = absurd named
  soft_are_told (instance ∷ others) (soft ∷ softs) [] named are = absurd are
  soft_are_told (instance ∷ others) (soft ∷ softs) (scene ∷ scenes) (told, named) (is, are) =
      λ i. parts_are_told instance scene soft.name is.at told (operators T instance.env instance.body) scene.operators is.operators i ++ soft_are_told others softs scenes named are i

  chain_is_told : (instances : List Instance) (softs : List GroundSoft) (scenes : List SoftScene) → AllZip (IsTold V) instances softs → AllZip (IsBoundSoft T N) instances scenes
      → chain_heard V texts (numbers_in softs) scenes ++ all_settled ∷ [] ≡ chain_said texts instances (roles_in scenes)
  chain_is_told [] [] [] named are = refl
  chain_is_told [] [] (scene ∷ scenes) named are = absurd are
  chain_is_told [] (soft ∷ softs) scenes named are = absurd named
  chain_is_told (instance ∷ others) [] scenes named are = absurd named
  chain_is_told (instance ∷ others) (soft ∷ softs) [] named are = absurd are
  chain_is_told (instance ∷ others) (soft ∷ softs) (scene ∷ scenes) (told, named) (is, are) =
      λ i. next_is_told instance scene soft.name is told i ∷ chain_is_told others softs scenes named are i

-- ---- of a task

module _ (T : Task) (X : NumberedTask) (V : Vocabulary) (texts : Texts) (numbered : IsNumberedTask T X) (words : AreWordsOf T X V) (softs : List GroundSoft) (scenes : List SoftScene) (named : AreNamed T softs) (are : AreScenesOf T X.numbers scenes) where
  all_are_told : AllZip (IsTold V) (instances T) softs
  all_are_told = names_are_told T V (ap (λ (N : Numbers). N.preferences) words.numbers ∙ numbered.names.preferences) (instances T) softs named (instance_name_is_ordered T)

  pub monitors_are_told : (hard : List Scene) → AllZip (IsBound X.numbers) (hard_list T) hard → map (λ (scene : Scene). scene.role) hard ≡ hard_roles T
      → hard_heard V texts 0 hard ++ soft_heard V texts (map (λ (soft : GroundSoft). soft.name) softs) scenes ≡ monitors_said texts T
  monitors_are_told hard bound roles =
      λ i. (hard_are_told T X.numbers V words.numbers texts 0 (hard_list T) hard bound ∙ ap (hard_said texts 0 (hard_list T)) roles) i
      ++ (soft_are_told T X.numbers V words.numbers texts (instances T) softs scenes all_are_told are.bound ∙ ap (soft_said texts T (instances T)) are.roles) i

  pub settling_is_told : chain_heard V texts (map (λ (soft : GroundSoft). soft.name) softs) scenes ++ all_settled ∷ [] ≡ chain_said texts (instances T) (instance_roles T)
  settling_is_told = chain_is_told T X.numbers V words.numbers texts (instances T) softs scenes all_are_told are.bound ∙ ap (chain_said texts (instances T)) are.roles

  -- the lines of what is found of each
  pub monitors_are_said : (hard : List Scene) (found : List Unnumbered) (meanings : List Meaning) → AllZip (IsBound X.numbers) (hard_list T) hard → map (λ (scene : Scene). scene.role) hard ≡ hard_roles T
      → map (heard V) found ≡ hard_heard V texts 0 hard ++ soft_heard V texts (map (λ (soft : GroundSoft). soft.name) softs) scenes → meanings ≡ numbered_from 0 found
      → flat_map (meaning_line V) meanings ≡ said_lines V 0 (monitors_said texts T)
  monitors_are_said hard found meanings bound roles is numbers = ap (flat_map (meaning_line V)) numbers ∙ numbered_is_said V 0 found ∙ ap (said_lines V 0) (is ∙ monitors_are_told hard bound roles)

  pub chain_is_said : (found : List Unnumbered) (meanings : List Meaning) → map (heard V) found ≡ chain_heard V texts (map (λ (soft : GroundSoft). soft.name) softs) scenes ++ all_settled ∷ [] → meanings ≡ numbered_from 0 found
      → flat_map (meaning_line V) meanings ≡ said_lines V 0 (settling_said texts T)
  chain_is_said found meanings is numbers = ap (flat_map (meaning_line V)) numbers ∙ numbered_is_said V 0 found ∙ ap (said_lines V 0) (is ∙ settling_is_told)

-- ---- there are as many of each

zipped_alike : {A B C : Type 0} (R : A → B → Type 0) (Q : A → C → Type 0) (xs : List A) (ys : List B) (zs : List C) → AllZip R xs ys → AllZip Q xs zs → length ys ≡ length zs
zipped_alike R Q [] [] [] first second = refl
zipped_alike R Q [] [] (z ∷ zs) first second = absurd second
zipped_alike R Q [] (y ∷ ys) zs first second = absurd first
zipped_alike R Q (x ∷ xs) [] zs first second = absurd first
zipped_alike R Q (x ∷ xs) (y ∷ ys) [] first second = absurd second
zipped_alike R Q (x ∷ xs) (y ∷ ys) (z ∷ zs) first second = ap suc (zipped_alike R Q xs ys zs first.1 second.1)

pub as_many : (T : Task) (N : Numbers) (softs : List GroundSoft) (scenes : List InstanceScene) → AreNamed T softs → AreScenesOf T N (map seen_soft scenes) → length softs ≡ length scenes
as_many T N softs scenes named are = zipped_alike (HasNumber T) (IsBoundSoft T N) (instances T) softs (map seen_soft scenes) named are.bound ∙ length-map scenes seen_soft
