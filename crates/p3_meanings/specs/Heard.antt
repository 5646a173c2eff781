-- What is said by numbers, of operators and preferences at the objects in slots.
use Rattle.std.specs.Prelude.{ℕ, ◌+◌, List, [], ◌∷◌, ◌++◌, codes, flat_map, Option, Some, option_map, unwrap_or}
use Rattle.p3_numbers.specs.Places.{environment_of}
use Rattle.p3_scenes.specs.Scenes.{Scene, SoftScene}
use Rattle.p3_accounts.specs.Operators.{kind_of}
use Rattle.p3_accounts.specs.Meanings.{letter_of, sense_text}
use Rattle.p3_accounts.specs.Subjects.{preference_text}
use Rattle.p3_accounts.specs.Vocabularies.{Vocabulary}
use Rattle.p3_accounts.specs.declared.meaning.Meaning.{Meaning}
use Rattle.p3_unmet.specs.Sources.{Texts, spot_of}
use Rattle.p3_meanings.specs.Environments.{environment_text}
use Rattle.p3_meanings.specs.Monitors.{of_constraint, of_preference, watches}
use Rattle.p3_meanings.specs.Said.{Said}
use Rattle.p3_meanings.specs.declared.unnumbered.Unnumbered.{Unnumbered}
use Rattle.p3_meanings.specs.declared.watch.Watched.{Watched}
use Rattle.p3_meanings.specs.declared.watch.Watched.TheVariants as watched
use Rattle.p3_accounts.specs.declared.spot.Spot.{Spot}

-- ---- what is meant, in words

abbrev pub heard : Vocabulary → Unnumbered → Said
heard V item = record { letter = letter_of item.of; spot = item.spot; text = sense_text V item.of }

-- ---- numbered in order

abbrev pub numbered_from : ℕ → List Unnumbered → List Meaning
numbered_from number [] = []
numbered_from number (item ∷ items) = record { spot = item.spot; number = number; of = item.of } ∷ numbered_from (number + 1) items

-- ---- operators at objects

abbrev pub of_watched : Vocabulary → Watched → List ℕ → List ℕ
of_watched V (watched.Constraint number) operator = of_constraint number operator
of_watched V (watched.Preference name) operator = of_preference (preference_text V name) operator

abbrev pub scene_watches : Vocabulary → Watched → Option Spot → Scene → List Said
scene_watches V of spot scene = watches spot (of_watched V of) (kind_of scene.operator) (environment_of V.numbers scene.scope scene.slots)

abbrev pub constraint_heard : Vocabulary → Texts → ℕ → Scene → List Said
constraint_heard V texts number scene = scene_watches V (watched.Constraint number) (option_map (spot_of texts scene.role) scene.word) scene

-- hard ones are numbered
abbrev pub hard_heard : Vocabulary → Texts → ℕ → List Scene → List Said
hard_heard V texts number [] = []
hard_heard V texts number (scene ∷ scenes) = constraint_heard V texts number scene ++ hard_heard V texts (number + 1) scenes

abbrev pub part_heard : Vocabulary → Texts → Option ℕ → SoftScene → Scene → List Said
part_heard V texts name instance scene = scene_watches V (watched.Preference name) (Some (spot_of texts instance.role (unwrap_or scene.word instance.at))) scene

abbrev pub instance_heard : Vocabulary → Texts → Option ℕ → SoftScene → List Said
instance_heard V texts name instance = flat_map (part_heard V texts name instance) instance.operators

-- preferences have the numbers of their names
abbrev pub soft_heard : Vocabulary → Texts → List (Option ℕ) → List SoftScene → List Said
soft_heard V texts [] scenes = []
soft_heard V texts (name ∷ names) [] = []
soft_heard V texts (name ∷ names) (instance ∷ others) = instance_heard V texts name instance ++ soft_heard V texts names others

-- ---- preferences in the order in which they are settled

abbrev pub next_heard : Vocabulary → Texts → Option ℕ → SoftScene → Said
next_heard V texts name instance = record {
  letter = codes "e";
  spot = Some (spot_of texts instance.role instance.at);
  text = codes "settled next: preference " ++ preference_text V name ++ environment_text (environment_of V.numbers instance.scope instance.slots);
}

abbrev pub chain_heard : Vocabulary → Texts → List (Option ℕ) → List SoftScene → List Said
chain_heard V texts [] scenes = []
chain_heard V texts (name ∷ names) [] = []
chain_heard V texts (name ∷ names) (instance ∷ others) = next_heard V texts name instance ∷ chain_heard V texts names others
