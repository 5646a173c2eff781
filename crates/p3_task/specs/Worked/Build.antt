-- Small words to write a task down as a value. All offsets are 0.
use Rattle.std.specs.Prelude.{ℕ, ◌==◌, List, [], ◌∷◌, map, codes, slice_index, if◌then◌else◌, Option, Some, None}
use Prim.Native.String.{String}
use Rattle.p3_base.specs.declared.refusal.Direction.{Direction}
use Rattle.p3_task.specs.declared.term.Ref.{Ref}
use Rattle.p3_task.specs.declared.term.Term.{Term}
use Rattle.p3_task.specs.declared.term.Term.TheVariants.{Var, Const}
use Rattle.p3_task.specs.declared.term.Typed.{Typed}
use Rattle.p3_task.specs.declared.formula.Formula.{Formula}
use Rattle.p3_task.specs.declared.formula.Formula.TheVariants as formula
use Rattle.p3_task.specs.declared.effect.Numeral.{Numeral}
use Rattle.p3_task.specs.declared.effect.Amount.TheVariants as amount
use Rattle.p3_task.specs.declared.effect.Effect.{Effect}
use Rattle.p3_task.specs.declared.effect.Effect.TheVariants as effect
use Rattle.p3_task.specs.declared.goal.PreGoal.{PreGoal}
use Rattle.p3_task.specs.declared.goal.PreGoal.TheVariants as goal
use Rattle.p3_task.specs.declared.constraint.Constraint.{Constraint}
use Rattle.p3_task.specs.declared.constraint.Constraint.TheVariants as constraint
use Rattle.p3_task.specs.declared.metric.Metric.{Metric}
use Rattle.p3_task.specs.declared.metric.Num.{Num}
use Rattle.p3_task.specs.declared.metric.Num.TheVariants as num
use Rattle.p3_task.specs.declared.task.Part.{Part}
use Rattle.p3_task.specs.declared.task.Kind.{Kind}
use Rattle.p3_task.specs.declared.task.Header.{Header}
use Rattle.p3_task.specs.declared.task.Action.{Action}
use Rattle.p3_task.specs.declared.task.Init.{Init}
use Rattle.p3_task.specs.declared.task.Init.TheVariants as init
use Rattle.p3_task.specs.declared.task.Step.{Step}
use Rattle.p3_task.specs.declared.task.Domain.{Domain}
use Rattle.p3_task.specs.declared.task.Problem.{Problem}

abbrev pub ref : String → Ref
ref word = record { name = codes word; at = 0 }

-- a word that begins with `?` is a variable
abbrev pub term : String → Term
term word = if slice_index (codes word) 0 == 63 then Var (ref word) else Const (ref word)

abbrev pub typed : String → List String → Typed
typed word types = record { name = ref word; types = map ref types }

abbrev pub part : {A : Type 0} → A → Part A
part body = record { at = 0; body = body }

-- digits of which so many stand behind a point
abbrev pub decimal_numeral : ℕ → ℕ → Numeral
decimal_numeral digits places = record { at = 0; len = 0; digits = digits; places = places }

abbrev pub numeral : ℕ → Numeral
numeral digits = decimal_numeral digits 0

-- ---- formulas, effects and goals

abbrev pub atom : String → List String → Formula
atom pred args = formula.Atom (ref pred) (map term args)

abbrev pub add : String → List String → Effect
add pred args = effect.Add (ref pred) (map term args)

abbrev pub del : String → List String → Effect
del pred args = effect.Del (ref pred) (map term args)

abbrev pub increase_by : ℕ → Effect
increase_by digits = effect.Cost 0 (amount.Number (numeral digits))

abbrev pub increase_by_value : String → List String → Effect
increase_by_value function args = effect.Cost 0 (amount.Value (ref function) (map term args))

abbrev pub soft : String → Formula → PreGoal
soft name body = goal.Soft (record { at = 0; name = Some (ref name); body = body })

abbrev pub soft_constraint : String → Constraint → Constraint
soft_constraint name body = constraint.Soft 0 (Some (ref name)) body

-- ---- metrics

abbrev pub metric : Direction → Num → Option Metric
metric direction body = Some (record { direction = direction; body = body })

abbrev pub count : String → Num
count name = num.Violated (ref name)

abbrev pub weighted_by : Numeral → String → Num
weighted_by weight name = num.Product 0 (num.Number weight ∷ count name ∷ [])

abbrev pub weighted : ℕ → String → Num
weighted weight name = weighted_by (numeral weight) name

-- ---- declarations

abbrev pub kind_below : String → String → Kind
kind_below name parent = record { name = ref name; parent = Some (ref parent) }

abbrev pub kind : String → Kind
kind name = record { name = ref name; parent = None }

abbrev pub header : String → List Typed → Header
header name params = record { name = ref name; params = params }

abbrev pub predicates : List String → List Header
predicates names = map (λ name. header name []) names

abbrev pub action : String → List Typed → PreGoal → Effect → Action
action name params pre effect = record { name = ref name; params = params; pre = part pre; effect = part effect }

abbrev pub fact : String → List String → Init
fact pred args = init.True (ref pred) (map term args)

abbrev pub facts : List String → List Init
facts preds = map (λ pred. fact pred []) preds

abbrev pub given_by : String → List String → Numeral → Init
given_by function args value = init.Value (ref function) (map term args) value

abbrev pub given : String → List String → ℕ → Init
given function args value = given_by function args (numeral value)

-- ---- plans

abbrev pub step : String → List String → Step
step name args = record { action = codes name; args = map codes args }

abbrev pub bare_steps : List String → List Step
bare_steps names = map (λ name. step name []) names

-- ---- halves of a task without any part

abbrev pub no_goal : PreGoal
no_goal = goal.Both []

abbrev pub no_constraint : Part Constraint
no_constraint = part (constraint.Both [])

abbrev pub empty_domain : Domain
empty_domain = record { name = ref "d"; kinds = []; constants = []; predicates = []; functions = []; constraints = no_constraint; actions = [] }

abbrev pub empty_problem : Problem
empty_problem = record { name = ref "q"; domain = ref "d"; objects = []; init = []; goal = part no_goal; constraints = no_constraint; metric = None }
