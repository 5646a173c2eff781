-- A problem by its contents.
use Rattle.std.proofs.Common.{◌≡◌, ◌∙◌, refl, ap, subst, List, codes, Option, Some, None}
use Rattle.std.specs.Prelude.{IsSome}
use Rattle.p3_task.specs.Grammar.Words.{◌>>=◌}
use Rattle.p3_task.specs.Grammar.Halves.{Section, half_at, problem_keywords, problem_place}
use Rattle.p3_task.specs.Grammar.Halves as halves
use Rattle.p3_task.specs.declared.expression.Expression.{Expression}
use Rattle.p3_task.specs.declared.term.Ref.{Ref}
use Rattle.p3_task.specs.declared.term.Typed.{Typed}
use Rattle.p3_task.specs.declared.constraint.Constraint.{Constraint}
use Rattle.p3_task.specs.declared.goal.PreGoal.{PreGoal}
use Rattle.p3_task.specs.declared.metric.Metric.{Metric}
use Rattle.p3_task.specs.declared.task.Part.{Part}
use Rattle.p3_task.specs.declared.task.Init.{Init}
use Rattle.p3_task.specs.declared.task.Problem.{Problem}
use Rattle.p3_syntax.specs.declared.tree.problems.Start.{Start}
use Rattle.p3_syntax.specs.declared.tree.problems.Conditions.{Conditions}
use Rattle.p3_syntax.specs.declared.tree.problems.Aims.{Aims}
use Rattle.p3_syntax.specs.declared.tree.problems.ProblemContents.{ProblemContents}
use Rattle.p3_syntax.proofs.HeadLemmas.{some_first}
use Rattle.p3_syntax.proofs.SectionLemmas.{half_known}
use Rattle.p3_syntax.specs.Sections.{half_place, requirements_among, constraints_among}
use Rattle.p3_syntax.specs.Problems.{domain_name_among, objects_among, init_among, goal_among, metric_among, start_among, aims_among, contents_among, problem_of}

abbrev start_of : Ref → List Typed → List Init → Start
start_of domain objects entries = record { domain = domain; objects = objects; init = entries }

abbrev conditions_of : Part PreGoal → Part Constraint → Conditions
conditions_of goal constraints = record { goal = goal; constraints = constraints }

abbrev aims_of : Part PreGoal → Part Constraint → Option Metric → Aims
aims_of goal constraints metric = record { conditions = conditions_of goal constraints; metric = metric }

abbrev aims_with : Conditions → Option Metric → Aims
aims_with conditions metric = record { conditions = conditions; metric = metric }

abbrev contents_of : Start → Aims → ProblemContents
contents_of start aims = record { start = start; aims = aims }

-- parts that are read one after another, and put together in between
start_first : {D W O I S R : Type 0} (start : D → O → I → S) (next : S → Option R) (d : Option D) (w : Option W) (o : Option O) (i : Option I)
    → (d >>= λ d. w >>= λ w. o >>= λ o. i >>= λ i. next (start d o i)) ≡ (d >>= λ d. w >>= λ w. o >>= λ o. i >>= λ i. Some (start d o i)) >>= next
start_first start next None w o i = refl
start_first start next (Some d) None o i = refl
start_first start next (Some d) (Some w) None i = refl
start_first start next (Some d) (Some w) (Some o) None = refl
start_first start next (Some d) (Some w) (Some o) (Some i) = refl

aims_first : {R : Type 0} (next : Aims → R) (g : Option (Part PreGoal)) (c : Option (Part Constraint)) (m : Option (Option Metric))
    → (g >>= λ g. c >>= λ c. m >>= λ m. Some (next (aims_of g c m)))
    ≡ (m >>= λ m. (g >>= λ g. c >>= λ c. Some (conditions_of g c)) >>= λ conditions. Some (aims_with conditions m)) >>= λ aims. Some (next aims)
aims_first next None c None = refl
aims_first next None c (Some m) = refl
aims_first next (Some g) None None = refl
aims_first next (Some g) None (Some m) = refl
aims_first next (Some g) (Some c) None = refl
aims_first next (Some g) (Some c) (Some m) = refl

with_aims : (name : Ref) (start : Option Start) (aims : Option Aims)
    → (start >>= λ start. aims >>= λ aims. Some (problem_of name (contents_of start aims))) ≡ (start >>= λ start. aims >>= λ aims. Some (contents_of start aims)) >>= λ contents. Some (problem_of name contents)
with_aims name None aims = refl
with_aims name (Some start) None = refl
with_aims name (Some start) (Some aims) = refl

-- what stands behind the start
abbrev rest_of : Ref → List Section → Start → Option Problem
rest_of name sections start = do
  goal ← goal_among sections
  constraints ← constraints_among sections
  metric ← metric_among sections
  Some (problem_of name (contents_of start (aims_of goal constraints metric)))

abbrev pub problem_in : halves.NamedSections → Option Problem
problem_in half = contents_among half.sections >>= λ contents. Some (problem_of half.name contents)

by_sections : (name : Ref) (sections : List Section)
    → (domain_name_among sections >>= λ domain. requirements_among sections >>= λ words. objects_among sections >>= λ objects. init_among sections >>= λ entries. rest_of name sections (start_of domain objects entries))
    ≡ contents_among sections >>= λ contents. Some (problem_of name contents)
by_sections name sections =
    start_first start_of (rest_of name sections) (domain_name_among sections) (requirements_among sections) (objects_among sections) (init_among sections)
    ∙ by (start_among sections)
    ∙ with_aims name (start_among sections) (aims_among sections)
  where
    by : (start : Option Start) → (start >>= rest_of name sections) ≡ start >>= λ start. aims_among sections >>= λ aims. Some (problem_of name (contents_of start aims))
    by None = refl
    by (Some start) = aims_first (λ aims. problem_of name (contents_of start aims)) (goal_among sections) (constraints_among sections) (metric_among sections)

by_contents : (e : Expression) → problem_place e ≡ half_at (codes "problem") problem_keywords e >>= problem_in
unfolding problem_place
by_contents e = by (half_at (codes "problem") problem_keywords e)
  where
    by : (half : Option halves.NamedSections) → (half >>= λ half. domain_name_among half.sections >>= λ domain. requirements_among half.sections >>= λ words. objects_among half.sections >>= λ objects.
        init_among half.sections >>= λ entries. rest_of half.name half.sections (start_of domain objects entries)) ≡ half >>= problem_in
    by None = refl
    by (Some half) = by_sections half.name half.sections

pub problem_known : (e : Expression) → IsSome (problem_place e) → problem_place e ≡ half_place e >>= problem_in
problem_known e has =
    by_contents e
    ∙ ap (λ (half : Option halves.NamedSections). half >>= problem_in)
    (half_known (codes "problem") problem_keywords e (some_first (half_at (codes "problem") problem_keywords e) problem_in (subst IsSome (by_contents e) has)))
