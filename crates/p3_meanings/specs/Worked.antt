-- Worked names of a written task: what they stand for, and their lines.
use Rattle.std.specs.Prelude.{◌≡◌, List, [], ◌∷◌, codes, None, Some}
use Prim.Native.String.{String}
use Rattle.p3_base.specs.declared.operator.Operator.TheVariants.{AtEnd, Always, AtMostOnce, SometimeBefore}
use Rattle.p3_base.specs.declared.refusal.Role.TheVariants.{Domain, Problem}
use Rattle.p3_task.specs.Constraints.{HardModal, Instance}
use Rattle.p3_task.specs.Modal.{Modal}
use Rattle.p3_task.specs.States.{Environment}
use Rattle.p3_task.specs.declared.constraint.Constraint.TheVariants.{Single}
use Rattle.p3_task.specs.declared.formula.Formula.TheVariants.{And}
use Rattle.p3_tree.specs.Worked.Refusals.{text_of}
use Rattle.p3_scenes.specs.Worked.{p_from}
use Rattle.p3_accounts.specs.Worked.{truck_numbers, truck_words}
use Rattle.p3_unmet.specs.Sources.{Texts}
use Rattle.p3_meanings.specs.Atoms.{atoms_said}
use Rattle.p3_meanings.specs.Chains.{chain_said}
use Rattle.p3_meanings.specs.Monitors.{hard_said, part_watches}
use Rattle.p3_meanings.specs.Said.{Said, said_lines}

-- the word p stands at the offset 5 of the domain, in its second line, and at the offset 1 of the problem
abbrev pub worked_texts : Texts
worked_texts = record { domain = text_of ("of" ∷ " (p)" ∷ []); problem = text_of ("(p)" ∷ []) }

-- ?t means t1, and within it ?c means c1
abbrev pub crate_and_truck : Environment
crate_and_truck = record { variable = codes "?c"; object = codes "c1" } ∷ record { variable = codes "?t"; object = codes "t1" } ∷ []

abbrev pub hard_at : Modal → Environment → HardModal
hard_at modal env = record { modal = modal; env = env }

-- a preference whose word stands at the offset 4 of the problem
abbrev pub once : Instance
once = record { at = 4; name = Some (codes "once"); body = Single (Always (p_from 1)); env = crate_and_truck }

abbrev pub unnamed : Instance
unnamed = record { at = 0; name = None; body = Single (Always (p_from 1)); env = [] }

abbrev pub Says : List Said → List String → Type 0
Says said lines = said_lines truck_words 0 said ≡ text_of lines

pub record NamesInOrder : Type 0 where
  -- no atom watches the first operator, two the second and one the third
  pub hard : Says (hard_said worked_texts 0 (hard_at (AtEnd (p_from 4)) [] ∷ hard_at (AtMostOnce (p_from 5)) crate_and_truck ∷ hard_at (Always (p_from 1)) [] ∷ []) (Domain ∷ Domain ∷ Problem ∷ []))
      ("domain.pddl:2:3: m0 constraint 1, at-most-once, ?t = t1, ?c = c1"
      ∷ "domain.pddl:2:3: m1 constraint 1, at-most-once, ?t = t1, ?c = c1"
      ∷ "problem.pddl:1:2: m2 constraint 2, always" ∷ [])
  -- where none of its formulas has a word, an operator stands where its preference does
  pub soft : Says (part_watches worked_texts Problem once (hard_at (SometimeBefore (And []) (And [])) crate_and_truck))
      ("problem.pddl:2:1: m0 preference once, sometime-before, ?t = t1, ?c = c1"
      ∷ "problem.pddl:2:1: m1 preference once, sometime-before, ?t = t1, ?c = c1" ∷ [])
  pub chain : Says (chain_said worked_texts (unnamed ∷ once ∷ []) (Domain ∷ Problem ∷ []))
      ("domain.pddl:1:1: e0 settled next: preference -"
      ∷ "problem.pddl:2:1: e1 settled next: preference once, ?t = t1, ?c = c1"
      ∷ "e2 all preferences are settled" ∷ [])
  pub atoms : Says (atoms_said truck_numbers ((0 ∷ 0 ∷ 3 ∷ []) ∷ (1 ∷ 1 ∷ 0 ∷ []) ∷ []))
      ("f0 (at t1 a)" ∷ "f1 (in c1 t1)" ∷ [])
