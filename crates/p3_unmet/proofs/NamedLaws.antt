-- Each preference that has a name has its number.
use Rattle.std.proofs.Common.{◌≡◌, ◌∙◌, ℕ, Bool, List, [], refl, sym, ap, subst, Option, Some, None}
use Rattle.std.specs.Prelude.{option_map, position, slice_get}
use Rattle.std.proofs.lemmas.Bool.{true≢false}
use Rattle.std.proofs.lemmas.Option.{get_or_from_slice_get}
use Rattle.std.proofs.lemmas.Slice.Eq.{bytes_eq-Decides}
use Rattle.p3_task.specs.Constraints.{Instance, instances}
use Rattle.p3_task.specs.Goals.{StatePref}
use Rattle.p3_task.specs.Metrics.{step_prefs}
use Rattle.p3_task.specs.Names.{Name, same_name}
use Rattle.p3_task.specs.PreferenceNames.{ordered_names}
use Rattle.p3_task.specs.declared.task.Step.{Step}
use Rattle.p3_task.specs.declared.task.Task.{Task}
use Rattle.p3_task.proofs.OnceLemmas.{Has}
use Rattle.p3_numbers.specs.Slots.{name_at}
use Rattle.p3_numbers.specs.Tasks.{HasNames}
use Rattle.p3_numbers.specs.declared.numbers.Numbers.{Numbers}
use Rattle.p3_ground.proofs.Mentioned.{instance_name_is_ordered, step_name_is_ordered}
use Rattle.p3_ground.proofs.NameNumbers.{at_place, no_place}
use Rattle.p3_unmet.specs.Stages.{number_in}
use Rattle.p3_unmet.specs.Unmet.{IsNumberOf}

name-found : (names : List Name) (word : Name) → Has names word → option_map (name_at names) (position (λ other. same_name other word) names) ≡ Some word
name-found names word (k, at) = by (position passes names) refl
  where
    passes : Name → Bool
    passes = λ other. same_name other word

    by : (found : Option ℕ) → position passes names ≡ found → option_map (name_at names) found ≡ Some word
    by None e = absurd (true≢false (sym ((bytes_eq-Decides word word).1 refl) ∙ no_place passes names e k word at))
    by (Some place) e =
        let (other, here, same) = at_place passes names place e in
        ap Some (get_or_from_slice_get names place other [] here ∙ (bytes_eq-Decides other word).0 same)

module _ (T : Task) (N : Numbers) (has : HasNames T N) where
  number-is : (name : Option Name) → ((word : Name) → name ≡ Some word → Has (ordered_names T) word) → IsNumberOf N name (number_in N.preferences name)
  number-is None listed = refl
  number-is (Some word) listed = name-found N.preferences word (subst (λ names. Has names word) (sym has.preferences) (listed word refl))

  pub instance-number : (number : ℕ) (instance : Instance) → slice_get (instances T) number ≡ Some instance → IsNumberOf N instance.name (number_in N.preferences instance.name)
  instance-number number instance at = number-is instance.name (λ word is. instance_name_is_ordered T number instance word at is)

  pub step-number : (own : Step) (number : ℕ) (pref : StatePref) → slice_get (step_prefs T own) number ≡ Some pref → IsNumberOf N pref.name (number_in N.preferences pref.name)
  step-number own number pref at = number-is pref.name (λ word is. step_name_is_ordered T own number pref word at is)
