-- Worked lines of plans that are explained and followed.
use Rattle.std.specs.Prelude.{◌≡◌, ℕ, List, [], ◌∷◌, ◌++◌, codes}
use Prim.Native.String.{String}
use Rattle.p3_task.specs.Worked.Build.{facts, bare_steps}
use Rattle.p3_tree.specs.Worked.Refusals.{text_of}
use Rattle.p3_task.specs.Worked.Steps.{both_changes, once_only}
use Rattle.p3_task.specs.Worked.Preferences.{three_places}
use Rattle.p3_task.specs.Worked.Trajectories.{switched, answered}
use Rattle.p3_task.specs.declared.task.Task.{Task}
use Rattle.p3_tree.specs.Reports.Explanations.{explained_lines}
use Rattle.p3_tree.specs.Reports.Watching.{watch_lines}
use Rattle.p3_task.specs.Watching.{lines_of}

abbrev pub Explains : Task → List String → List String → Type 0
Explains T names lines = explained_lines T (bare_steps names) ≡ text_of lines

pub record ExplainedPlans : Type 0 where
  pub came_back : Explains (switched (facts ("p" ∷ []))) ("on" ∷ "off" ∷ "on" ∷ []) ("valid" ∷ "instance 0 o part 0: holds in states 0 and 3, not in state 2" ∷ [])
  pub three_places : Explains three_places ("a" ∷ "a" ∷ "a" ∷ [])
      ("valid" ∷ "instance 0 g part 0: fails in state 0" ∷ "instance 1 g part 0: fails in state 3" ∷ "step 1 g number 0: fails in state 0" ∷ "step 2 g number 0: fails in state 1" ∷ "step 3 g number 0: fails in state 2" ∷ [])
  pub hard : Explains (both_changes (facts ("p" ∷ "x" ∷ []))) ("a" ∷ []) ("invalid: constraint 0" ∷ "constraint 0: fails in state 1" ∷ [])
  pub once : Explains (switched []) ("on" ∷ "on" ∷ "off" ∷ []) ("valid" ∷ "instance 0 o part 0: holds" ∷ [])
  pub unanswered : Explains answered ("a" ∷ "b" ∷ []) ("valid" ∷ "instance 0 c part 0: holds" ∷ [])
  pub answered_late : Explains answered ("b" ∷ []) ("valid" ∷ "instance 0 c part 0: fails in state 1" ∷ [])

abbrev pub Watches : Task → List ℕ → List String → Type 0
Watches T text lines = watch_lines T text ≡ text_of lines

pub record FollowedPlans : Type 0 where
  pub second_step_fails : Watches once_only (text_of ("(a)" ∷ "(a)" ∷ [])) ("valid" ∷ "steps 1" ∷ "cost 0" ∷ "metric 0" ∷ "invalid step 2: precondition" ∷ [])
  pub refused_line : Watches answered (text_of ("(b)" ∷ "; c" ∷ "(a" ∷ "(a)" ∷ []))
      ("valid" ∷ "steps 1" ∷ "cost 0" ∷ "violated c 1" ∷ "metric 1" ∷ "refused 2 unbalanced: plan 3:3 end of text" ∷ "valid" ∷ "steps 2" ∷ "cost 0" ∷ "violated c 0" ∷ "metric 0" ∷ [])
  -- no line feed at the end, and a second step whose own text is broken
  pub two_steps : Watches once_only (text_of ("" ∷ "(a) (b" ∷ []) ++ codes "(a)") ("refused 5 malformed: plan 2:5 (" ∷ "valid" ∷ "steps 1" ∷ "cost 0" ∷ "metric 0" ∷ [])
  pub earlier_offence : Watches once_only (text_of ("(a ?x) (b)" ∷ "(a) ) (b)" ∷ "(a) b (b)" ∷ "() (b)" ∷ "(A);(b)" ∷ []))
      ("refused 5 malformed: plan 1:4 ?x" ∷ "refused 2 unbalanced: plan 2:5 )" ∷ "refused 5 malformed: plan 3:5 b" ∷ "refused 5 malformed: plan 4:2 )" ∷ "valid" ∷ "steps 1" ∷ "cost 0" ∷ "metric 0" ∷ [])
  pub unknown : Watches once_only (text_of ("(c)" ∷ "(a x)" ∷ [])) ("invalid step 1: unknown action" ∷ "invalid step 1: arguments" ∷ [])
  pub no_lines : Watches once_only [] []

pub record LinesOfTexts : Type 0 where
  pub none : lines_of [] ≡ []
  pub empty : lines_of (10 ∷ []) ≡ record { at = 0; bytes = [] } ∷ []
  pub open_end : lines_of (65 ∷ 10 ∷ 66 ∷ []) ≡ record { at = 0; bytes = 65 ∷ [] } ∷ record { at = 2; bytes = 66 ∷ [] } ∷ []
  pub closed_end : lines_of (65 ∷ 10 ∷ 10 ∷ 66 ∷ 10 ∷ []) ≡ record { at = 0; bytes = 65 ∷ [] } ∷ record { at = 2; bytes = [] } ∷ record { at = 3; bytes = 66 ∷ [] } ∷ []
