-- The bits at the start tell the start, and the changes of an effect make the next state, and are few.
use Rattle.std.specs.Prelude.{◌≡◌, ℕ, ◌≤◌, Bool, true, false, not, List, map, length, slice_get, count_by}
use Rattle.std.specs.List.{list_all}
use Rattle.std.specs.Option.{option_map_or}
use Rattle.p3_task.specs.Effects.{next}
use Rattle.p3_task.specs.Literals.{Literal, literals}
use Rattle.p3_task.specs.Names.{is_empty}
use Rattle.p3_task.specs.Offences.{WellFormed}
use Rattle.p3_task.specs.States.{State, Environment, has_fact, start}
use Rattle.p3_task.specs.declared.effect.Effect.{Effect}
use Rattle.p3_task.specs.declared.state.Fact.{Fact}
use Rattle.p3_task.specs.declared.task.Task.{Task}
use Rattle.p3_formula.specs.Next.{after}
use Rattle.p3_formula.specs.Simplified.{is_value}
use Rattle.p3_formula.specs.declared.form.Change.{Change}
use Rattle.p3_numbers.specs.Effects.{effect_of, is_known_effect}
use Rattle.p3_numbers.specs.Places.{Variables, Fills, environment_of}
use Rattle.p3_numbers.specs.Slots.{Slots}
use Rattle.p3_numbers.specs.Tasks.{IsNumberedTask}
use Rattle.p3_numbers.specs.declared.numbers.Numbers.{Numbers}
use Rattle.p3_numbers.specs.declared.task.NumberedTask.{NumberedTask}
use Rattle.p3_expansion.specs.Atoms.{GroundAtom, fact_of, is_named, are_named, AreDistinct}
use Rattle.p3_expansion.specs.Changes.{ChangesStand, always, guarded_literals}
use Rattle.p3_expansion.specs.Expansions.{Tells}
use Rattle.p3_expansion.specs.Statics.{IsSettled, AreStatics, start_bits, TellStatics}
use Rattle.p3_expansion.specs.declared.statics.Statics.{Statics}

-- of each well-formed task that has these numbered trees, what no step changes is told
abbrev pub TellStaticsOf : NumberedTask → Statics → Type 0
TellStaticsOf X S = (T : Task) → WellFormed T → IsNumberedTask T X → TellStatics T X.numbers S

-- the bits of atoms at the start tell the initial state
abbrev pub StartIsTold : Type 0
StartIsTold = (T : Task) (X : NumberedTask) (S : Statics) (atoms : List GroundAtom) → WellFormed T → IsNumberedTask T X → AreStatics X S → are_named X.numbers atoms ≡ true → Tells X.numbers atoms (start T) (start_bits S atoms)

-- in each state that keeps what no step changes, the bits after the changes tell the state after the effect
abbrev pub MakeNext : Task → Numbers → Statics → List GroundAtom → Environment → Effect → List Change → Type 0
MakeNext T N S atoms env effect changes = (s : State) (b : List Bool) → IsSettled N S s → length b ≡ length atoms → Tells N atoms s b → Tells N atoms (next T s env effect) (after b changes)

-- the atom of that number is one of those
abbrev pub is_fact_of : Numbers → List GroundAtom → List Fact → ℕ → Bool
is_fact_of N atoms those number = option_map_or (λ atom. has_fact those (fact_of N atom)) (slice_get atoms number) false

abbrev pub literal_facts : Task → Environment → Effect → List Fact
literal_facts T env effect = map (λ (literal : Literal). literal.fact) (literals T env effect)

-- each change is of the atom of a literal, and there are no more changes than literals, nor more under conditions than literals under `when`
pub record AreFew (T : Task) (N : Numbers) (atoms : List GroundAtom) (env : Environment) (effect : Effect) (changes : List Change) : Type 0 where
  pub own : list_all (λ (change : Change). is_fact_of N atoms (literal_facts T env effect) change.atom) changes ≡ true
  pub all : length changes ≤ length (literals T env effect)
  pub conditional : count_by (λ (change : Change). not (is_value true change.cond)) changes ≤ count_by (λ (literal : Literal). not (is_empty literal.conditions)) (literals T env effect)

-- ---- the law

-- what is known where changes stand for the literals of an effect: atoms have names and one number each, and all in the effect is known under variables whose slots are filled
pub record IsExpanded (T : Task) (X : NumberedTask) (S : Statics) (atoms : List GroundAtom) (scope : Variables) (slots : Slots) (effect : Effect) (changes : List Change) : Type 0 where
  pub numbered : IsNumberedTask T X
  pub distinct : AreDistinct atoms
  pub named : list_all (is_named X.numbers) atoms ≡ true
  pub fills : Fills X.numbers scope slots
  pub known : is_known_effect X.numbers effect scope ≡ true
  pub stand : ChangesStand X.numbers S atoms (guarded_literals X.numbers always true slots (effect_of X.numbers effect scope)) changes

abbrev pub ChangesMakeNext : Type 0
ChangesMakeNext = (T : Task) (X : NumberedTask) (S : Statics) (atoms : List GroundAtom) (scope : Variables) (slots : Slots) (effect : Effect) (changes : List Change) → IsExpanded T X S atoms scope slots effect changes → MakeNext T X.numbers S atoms (environment_of X.numbers scope slots) effect changes

abbrev pub ChangesAreFew : Type 0
ChangesAreFew = (T : Task) (X : NumberedTask) (S : Statics) (atoms : List GroundAtom) (scope : Variables) (slots : Slots) (effect : Effect) (changes : List Change) → IsExpanded T X S atoms scope slots effect changes → AreFew T X.numbers atoms (environment_of X.numbers scope slots) effect changes
