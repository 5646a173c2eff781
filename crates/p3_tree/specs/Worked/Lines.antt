-- Worked lines: what is printed of tasks and of their plans, and the words of a command line.
use Rattle.std.specs.Prelude.{◌≡◌, ℕ, pos, List, [], ◌∷◌, map, codes, Option, Some, None, option_map}
use Prim.Native.String.{String}
use Rattle.p3_task.specs.Plans.{Plan}
use Rattle.p3_task.specs.Faithful.{extra}
use Rattle.p3_task.specs.PlanTexts.{IsPlanText}
use Rattle.p3_tree.specs.Commands.{Command, command_of}
use Rattle.p3_tree.specs.declared.command.CommandKind.{CommandKind}
use Rattle.p3_tree.specs.declared.command.CommandKind.TheVariants.{Compile, Lift, Embed, Evaluate, Generate, CompileFlat, Explain, Watch}
use Rattle.p3_tree.specs.Reports.Lines.{usage_lines}
use Rattle.p3_tree.specs.Reports.Tasks.{compiled_lines}
use Rattle.p3_tree.specs.Reports.Plans.{evaluated_lines, generated_lines}
use Rattle.p3_tree.specs.Samples.{sample_domain, sample_problem, sample_plan}
use Rattle.p3_task.specs.Worked.Build.{step}
use Rattle.p3_tree.specs.Worked.Refusals.{text_of, task_of_texts, first_domain, with_metric, wide_domain, wide_problem}

-- the lines are these
abbrev pub Prints : Option (List ℕ) → List String → Type 0
Prints told lines = told ≡ Some (text_of lines)

abbrev pub compiled : List ℕ → List ℕ → Option (List ℕ)
compiled d p = option_map compiled_lines (task_of_texts d p)

abbrev pub evaluated : List ℕ → List ℕ → Plan → Option (List ℕ)
evaluated d p plan = option_map (λ T. evaluated_lines T plan) (task_of_texts d p)

-- ---- tasks

-- roads of whole numbers and one with two decimal places
abbrev pub trucks_domain_text : List ℕ
trucks_domain_text = text_of (
    "(define (domain Trucks-Pref)"
    ∷ "  (:requirements :adl :preferences :constraints :action-costs)"
    ∷ "  (:types truck crate - movable place)"
    ∷ "  (:predicates (at ?x - (either truck crate) ?p - place)"
    ∷ "    (in ?c - crate ?t - truck))"
    ∷ "  (:functions (total-cost) - number"
    ∷ "    (road-length ?a ?b - place) - number)"
    ∷ "  (:action drive :parameters (?t - truck ?a ?b - place)"
    ∷ "    :precondition (at ?t ?a)"
    ∷ "    :effect (and (not (at ?t ?a)) (at ?t ?b)"
    ∷ "      (increase (total-cost) (road-length ?a ?b))))"
    ∷ "  (:action load :parameters (?c - crate ?t - truck ?p - place)"
    ∷ "    :precondition (and (at ?t ?p) (at ?c ?p)"
    ∷ "      (preference light (forall (?d - crate) (not (in ?d ?t)))))"
    ∷ "    :effect (and (not (at ?c ?p)) (in ?c ?t)))"
    ∷ "  (:action unload :parameters (?c - crate ?t - truck ?p - place)"
    ∷ "    :precondition (and (at ?t ?p) (in ?c ?t))"
    ∷ "    :effect (and (not (in ?c ?t)) (at ?c ?p))))" ∷ [])

abbrev pub trucks_problem_text : List ℕ
trucks_problem_text = text_of (
    "(define (problem deliver-2) (:domain trucks-pref)"
    ∷ "  (:objects t1 - truck c1 c2 - crate a b c - place)"
    ∷ "  (:init (at t1 a) (at c1 a) (at c2 a) (= (total-cost) 0)"
    ∷ "    (= (road-length a b) 4.25) (= (road-length b a) 4)"
    ∷ "    (= (road-length b c) 7) (= (road-length c b) 7))"
    ∷ "  (:goal (and (at c1 b) (preference home (at c2 c))"
    ∷ "    (preference back (at t1 a))))"
    ∷ "  (:constraints (and"
    ∷ "    (always (forall (?t - truck) (exists (?p - place) (at ?t ?p))))"
    ∷ "    (forall (?c - crate) (preference once (at-most-once (in ?c t1))))"
    ∷ "    (preference late (sometime-before (at t1 c) (at c1 b)))))"
    ∷ "  (:metric minimize (+ (total-cost) (* 6 (is-violated light))"
    ∷ "    (* 20 (is-violated back)) (* 15 (is-violated home))"
    ∷ "    (* 3 (is-violated once)) (* 1 (is-violated late)))))" ∷ [])

abbrev pub trucks_plan : Plan
trucks_plan = step "load" ("c1" ∷ "t1" ∷ "a" ∷ []) ∷ step "load" ("c2" ∷ "t1" ∷ "a" ∷ []) ∷ step "drive" ("t1" ∷ "a" ∷ "b" ∷ []) ∷ step "unload" ("c1" ∷ "t1" ∷ "b" ∷ []) ∷ step "drive" ("t1" ∷ "b" ∷ "c" ∷ []) ∷ step "unload" ("c2" ∷ "t1" ∷ "c" ∷ []) ∷ []

pub record LinesOfTasks : Type 0 where
  pub rewarded : Prints (compiled first_domain (with_metric "(:metric maximize (- 100 (* 3 (is-violated g)))))")) ("steps 1" ∷ "preferences 1" ∷ "base -100" ∷ "direction maximize" ∷ [])
  pub half : Prints (compiled first_domain (with_metric "(:metric minimize (* 0.5 (is-violated g))))")) ("steps 1" ∷ "preferences 1" ∷ "base 0.0" ∷ "direction minimize" ∷ "scale 10" ∷ [])
  pub trucks : Prints (compiled trucks_domain_text trucks_problem_text) ("steps 21" ∷ "preferences 5" ∷ "base 0.00" ∷ "direction minimize" ∷ "scale 100" ∷ [])
  pub wide : Prints (compiled wide_domain (wide_problem 9)) ("steps 10" ∷ "preferences 0" ∷ "base 0" ∷ "direction minimize" ∷ [])
  pub wide_extra : option_map (λ T. extra T (step "b" ("o1" ∷ []) ∷ step "a" [] ∷ [])) (task_of_texts wide_domain (wide_problem 9)) ≡ Some 10
  pub narrow_extra : option_map (λ T. extra T (step "b" ("o1" ∷ []) ∷ step "a" [] ∷ [])) (task_of_texts wide_domain (wide_problem 8)) ≡ Some 0

pub record LinesOfPlans : Type 0 where
  pub delivery : Prints (evaluated trucks_domain_text trucks_problem_text trucks_plan) ("valid" ∷ "steps 6" ∷ "cost 11.25" ∷ "violated light 1" ∷ "violated home 0" ∷ "violated back 1" ∷ "violated once 0" ∷ "violated late 0" ∷ "metric 37.25" ∷ [])
  pub rewarded_nothing : Prints (evaluated first_domain (with_metric "(:metric maximize (- 100 (* 3 (is-violated g)))))") []) ("valid" ∷ "steps 0" ∷ "cost 0" ∷ "violated g 1" ∷ "metric 97" ∷ [])

-- ---- samples

abbrev pub plan_of_three : Plan
plan_of_three = step "load" ("p1" ∷ "l0" ∷ []) ∷ step "load" ("p2" ∷ "l0" ∷ []) ∷ step "load" ("p3" ∷ "l0" ∷ []) ∷ step "drive" ("l0" ∷ "l1" ∷ []) ∷ step "unload" ("p1" ∷ "l1" ∷ []) ∷ step "drive" ("l1" ∷ "l2" ∷ []) ∷ step "drive" ("l2" ∷ "l3" ∷ []) ∷ step "unload" ("p3" ∷ "l3" ∷ []) ∷ []

pub record SamplesForOneAndThree : Type 0 where
  pub problem_of_one : sample_problem 1 ≡ text_of (
      "(define (problem delivery-1)"
      ∷ "(:domain delivery)"
      ∷ "(:objects l0 l1 - place p1 - package)"
      ∷ "(:init (truck-at l0) (at p1 l0) (dest p1 l1) (= (total-cost) 0) (= (road l0 l1) 2) (= (road l1 l0) 2))"
      ∷ "(:constraints (and (sometime-after (carrying) (truck-at l1)) (preference tour (sometime-before (truck-at l1) (carrying))) (preference rest (at-most-once (carrying)))))"
      ∷ "(:goal (and (truck-at l1) (forall (?p - package) (preference home (exists (?l - place) (and (dest ?p ?l) (at ?p ?l)))))))"
      ∷ "(:metric minimize (+ (total-cost) (* 3 (is-violated calm)) (* 10 (is-violated home)) (* 4 (is-violated tour)) (* 2 (is-violated rest)))))" ∷ [])
  pub plan_of_one : sample_plan 1 ≡ text_of ("(load p1 l0)" ∷ "(drive l0 l1)" ∷ "(unload p1 l1)" ∷ [])
  pub problem_of_three : sample_problem 3 ≡ text_of (
      "(define (problem delivery-3)"
      ∷ "(:domain delivery)"
      ∷ "(:objects l0 l1 l2 l3 - place p1 p2 p3 - package)"
      ∷ "(:init (truck-at l0) (at p1 l0) (at p2 l0) (at p3 l0) (dest p1 l1) (dest p2 l2) (dest p3 l3) (= (total-cost) 0) (= (road l0 l1) 2) (= (road l1 l0) 2) (= (road l1 l2) 3) (= (road l2 l1) 3) (= (road l2 l3) 4) (= (road l3 l2) 4))"
      ∷ "(:constraints (and (sometime-after (carrying) (truck-at l3)) (preference tour (sometime-before (truck-at l3) (carrying))) (preference rest (at-most-once (carrying)))))"
      ∷ "(:goal (and (truck-at l3) (forall (?p - package) (preference home (exists (?l - place) (and (dest ?p ?l) (at ?p ?l)))))))"
      ∷ "(:metric minimize (+ (total-cost) (* 3 (is-violated calm)) (* 10 (is-violated home)) (* 4 (is-violated tour)) (* 2 (is-violated rest)))))" ∷ [])
  pub text_of_plan : sample_plan 3 ≡ text_of ("(load p1 l0)" ∷ "(load p2 l0)" ∷ "(load p3 l0)" ∷ "(drive l0 l1)" ∷ "(unload p1 l1)" ∷ "(drive l1 l2)" ∷ "(drive l2 l3)" ∷ "(unload p3 l3)" ∷ [])
  pub read_plan : IsPlanText (sample_plan 3) plan_of_three
  pub summary : Prints (option_map (λ T. generated_lines T plan_of_three 14 (pos 30)) (task_of_texts sample_domain (sample_problem 3))) ("steps 40" ∷ "preferences 5" ∷ "plan 8" ∷ "embedded 14" ∷ "cost 30" ∷ "metric 30" ∷ [])

-- ---- words

abbrev pub words : List String → Option Command
words list = command_of (map codes list)

-- the words ask for this command, with these files that it reads and these that it writes
abbrev pub Asks : List String → CommandKind → ℕ → List String → List String → Type 0
Asks list kind number reads writes = words list ≡ Some (record { kind = kind; number = number; reads = map codes reads; writes = map codes writes })

pub record WordsOfCommands : Type 0 where
  pub compile : Asks ("compile" ∷ "d" ∷ "p" ∷ "x" ∷ "y" ∷ []) Compile 0 ("d" ∷ "p" ∷ []) ("x" ∷ "y" ∷ [])
  pub over_inputs : Asks ("compile" ∷ "d" ∷ "p" ∷ "p" ∷ "d" ∷ []) Compile 0 ("d" ∷ "p" ∷ []) ("p" ∷ "d" ∷ [])
  pub one_output : words ("compile" ∷ "d" ∷ "p" ∷ "x" ∷ "x" ∷ []) ≡ None
  pub no_name : words ("compile" ∷ "d" ∷ "" ∷ "x" ∷ "y" ∷ []) ≡ None
  pub lift : Asks ("lift" ∷ "d" ∷ "p" ∷ "x" ∷ "y" ∷ "q" ∷ "o" ∷ []) Lift 0 ("d" ∷ "p" ∷ "x" ∷ "y" ∷ "q" ∷ []) ("o" ∷ [])
  pub embed : Asks ("embed" ∷ "d" ∷ "p" ∷ "q" ∷ "x" ∷ "y" ∷ "o" ∷ []) Embed 0 ("d" ∷ "p" ∷ "q" ∷ []) ("x" ∷ "y" ∷ "o" ∷ [])
  pub evaluate : Asks ("evaluate" ∷ "d" ∷ "p" ∷ "q" ∷ []) Evaluate 0 ("d" ∷ "p" ∷ "q" ∷ []) []
  pub generate : Asks ("generate" ∷ "200" ∷ "d" ∷ "p" ∷ "q" ∷ []) Generate 200 [] ("d" ∷ "p" ∷ "q" ∷ [])
  pub compile_flat : Asks ("compile-flat" ∷ "d" ∷ "p" ∷ "x" ∷ "y" ∷ []) CompileFlat 0 ("d" ∷ "p" ∷ []) ("x" ∷ "y" ∷ [])
  pub explain : Asks ("explain" ∷ "d" ∷ "p" ∷ "q" ∷ []) Explain 0 ("d" ∷ "p" ∷ "q" ∷ []) []
  pub watch : Asks ("watch" ∷ "d" ∷ "p" ∷ "q" ∷ []) Watch 0 ("d" ∷ "p" ∷ "q" ∷ []) []
  pub too_few : words ("generate" ∷ "0" ∷ "d" ∷ "p" ∷ "q" ∷ []) ≡ None
  pub too_many : words ("generate" ∷ "201" ∷ "d" ∷ "p" ∷ "q" ∷ []) ≡ None
  pub superfluous_zero : words ("generate" ∷ "03" ∷ "d" ∷ "p" ∷ "q" ∷ []) ≡ None
  pub other_case : words ("Compile" ∷ "d" ∷ "p" ∷ "x" ∷ "y" ∷ []) ≡ None
  pub a_file_more : words ("evaluate" ∷ "d" ∷ "p" ∷ "q" ∷ "x" ∷ []) ≡ None
  pub a_file_less : words ("lift" ∷ "d" ∷ "p" ∷ "x" ∷ "y" ∷ "q" ∷ []) ≡ None
  pub none : words [] ≡ None

-- what is printed where the words ask for nothing
abbrev pub LinesOfUsage : Type 0
LinesOfUsage = usage_lines ≡ text_of (
    "usage: pddl3c compile D P OD OP"
    ∷ "       pddl3c lift D P OD OP PLAN OUT"
    ∷ "       pddl3c embed D P PLAN OD OP OUT"
    ∷ "       pddl3c evaluate D P PLAN"
    ∷ "       pddl3c generate N D P PLAN"
    ∷ "       pddl3c compile-flat D P OD OP"
    ∷ "       pddl3c explain D P PLAN"
    ∷ "       pddl3c watch D P PLAN" ∷ [])
