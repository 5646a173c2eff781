-- Worked accounts of plans for a truck t1 and crates c1 and c2 at places a and b.
use Rattle.std.specs.Prelude.{◌≡◌, ℕ, ℤ, negsuc, pos, Bool, true, false, List, [], ◌∷◌, map, codes, Option, Some, None}
use Prim.Native.String.{String}
use Rattle.std.proofs.Common.{arith}
use Rattle.p3_base.specs.declared.operator.Binary.TheVariants as two
use Rattle.p3_base.specs.declared.operator.Unary.TheVariants as one
use Rattle.p3_numbers.specs.declared.numbers.Numbers.{Numbers}
use Rattle.p3_reasons.specs.declared.decision.Literal.{Literal}
use Rattle.p3_reasons.specs.declared.evidence.Operand.TheVariants.{First, Second}
use Rattle.p3_reasons.specs.declared.visited.PlacedStep.{PlacedStep}
use Rattle.p3_reports.specs.declared.quantity.Quantity.{Quantity}
use Rattle.p3_reports.specs.declared.fault.Fault.TheVariants as reported
use Rattle.p3_reports.specs.declared.fault.Misfit.TheVariants as misfit
use Rattle.p3_task.specs.Worked.Build.{step}
use Rattle.p3_task.specs.Worked.Trucks.{trucks_domain}
use Rattle.p3_tree.specs.Reports.Lines.{line}
use Rattle.p3_tree.specs.Worked.Refusals.{text_of}
use Rattle.p3_accounts.specs.Accounts.{account_text, heading_line}
use Rattle.p3_accounts.specs.Meanings.{meaning_line}
use Rattle.p3_accounts.specs.Shares.{shares_text}
use Rattle.p3_accounts.specs.States.{shown_by, shown_in, shown_text}
use Rattle.p3_accounts.specs.Vocabularies.{Vocabulary}
use Rattle.p3_accounts.specs.declared.account.Account.{Account}
use Rattle.p3_accounts.specs.declared.meaning.Meant.{Meant}
use Rattle.p3_accounts.specs.declared.meaning.Meant.TheVariants as meant
use Rattle.p3_accounts.specs.declared.meaning.Settling.TheVariants as settling
use Rattle.p3_accounts.specs.declared.operator.OperatorKind.TheVariants as kind
use Rattle.p3_accounts.specs.declared.share.Shares.{Shares}
use Rattle.p3_accounts.specs.declared.spot.Spot.{Spot}
use Rattle.p3_accounts.specs.declared.state.Shown.{Shown}
use Rattle.p3_accounts.specs.declared.state.Shown.TheVariants.{Nowhere, States}
use Rattle.p3_accounts.specs.declared.subject.Binding.{Binding}
use Rattle.p3_accounts.specs.declared.subject.StepFault.{StepFault}
use Rattle.p3_accounts.specs.declared.subject.StepFault.TheVariants as fault
use Rattle.p3_accounts.specs.declared.subject.Subject.{Subject}
use Rattle.p3_accounts.specs.declared.subject.Subject.TheVariants as subject
use Rattle.p3_accounts.specs.declared.terms.InputFile.{InputFile}
use Rattle.p3_accounts.specs.declared.terms.InputFile.TheVariants as file

unfoldable pub truck_numbers : Numbers
truck_numbers = record {
  predicates = map codes ("at" ∷ "in" ∷ []);
  functions = map codes ("road-length" ∷ []);
  objects = map codes ("t1" ∷ "c1" ∷ "c2" ∷ "a" ∷ "b" ∷ []);
  preferences = map codes ("light" ∷ "once" ∷ []);
  types = [];
  ranges = [];
}

-- (drive t1 a b), or (drive t1 b a), is an action at the place 0, and (load c2 t1 a) one at the place 1
abbrev pub placed : ℕ → List ℕ → PlacedStep
placed action objects = record { action = action; objects = objects }

unfoldable pub truck_words : Vocabulary
truck_words = record {
  domain = codes "domain.pddl";
  problem = codes "problem.pddl";
  plan = codes "plan.txt";
  actions = trucks_domain.actions;
  numbers = truck_numbers;
  steps = placed 1 (2 ∷ 0 ∷ 3 ∷ []) ∷ placed 0 (0 ∷ 3 ∷ 4 ∷ []) ∷ [];
}

abbrev pub literal : Bool → List ℕ → Literal
literal holds atom = record { atom = atom; holds = holds }

abbrev pub spot : InputFile → ℕ → ℕ → Option Spot
spot of row column = Some (record { file = of; line = row; column = column })

abbrev pub binds : String → ℕ → Binding
binds variable object = record { variable = codes variable; object = object }

-- ---- a whole account

-- (load c1 t1 b) behind (load c2 t1 a) and (drive t1 a b)
abbrev pub early_load : Account
early_load = record {
  verdict = Some (reported.AtStep 3 misfit.Precondition);
  headings = record {
    spot = spot file.Plan 3 1;
    subject = subject.Step 3 (step "load" ("c1" ∷ "t1" ∷ "b" ∷ [])) fault.Precondition;
    shown = States (shown_in 2 (literal false (0 ∷ 1 ∷ 4 ∷ []) ∷ literal true (1 ∷ 2 ∷ 0 ∷ []) ∷ []) ∷ []);
  } ∷ [];
  shares = None;
}

abbrev pub AnAccountOfAPrecondition : Type 0
AnAccountOfAPrecondition =
    account_text truck_words early_load ≡ text_of (
    "invalid step 3: precondition"
    ∷ "plan.txt:3:1: step 3 (load c1 t1 b): the precondition does not hold"
    ∷ "  state 2, behind step 2 (drive t1 a b):"
    ∷ "    false: (at c1 b)"
    ∷ "    true: (in c2 t1)" ∷ [])

-- ---- headings

-- without a place the line is this
abbrev pub Says : Subject → String → Type 0
Says of text = heading_line truck_words (record { spot = None; subject = of; shown = States [] }) ≡ line (codes text)

abbrev pub FaultSays : StepFault → String → Type 0
FaultSays why text = Says (subject.Step 3 (step "load" ("c1" ∷ "x" ∷ [])) why) text

pub record FaultsOfSteps : Type 0 where
  pub unknown : FaultSays fault.UnknownAction "step 3 (load c1 x): no action is called load"
  pub few : FaultSays (fault.Count 3) "step 3 (load c1 x): 2 arguments for 3 parameters"
  pub many : FaultSays (fault.Count 1) "step 3 (load c1 x): 2 arguments for 1 parameter"
  pub no_object : FaultSays (fault.NoObject 2) "step 3 (load c1 x): argument 2, x: no object has this name"
  pub no_type : FaultSays (fault.NoType 1 (codes "?p")) "step 3 (load c1 x): argument 1, c1: of none of the types of ?p"
  pub no_value : FaultSays (fault.NoValue (0 ∷ 3 ∷ 4 ∷ [])) "step 3 (load c1 x): (road-length a b) has no value"

pub record HeadingsOfConstraints : Type 0 where
  pub goal : Says subject.Goal "the goal does not hold"
  pub hard : Says (subject.Constraint 2 (kind.One one.Always) (binds "?c" 1 ∷ binds "?t" 0 ∷ [])) "constraint 2, always, ?c = c1, ?t = t1: not satisfied"
  pub bare : Says (subject.Constraint 0 (kind.Two two.SometimeAfter) []) "constraint 0, sometime-after: not satisfied"
  pub soft : Says (subject.Preference (Some 1) (kind.One one.AtMostOnce) (binds "?c" 1 ∷ [])) "preference once, at-most-once, ?c = c1: not satisfied"
  pub unnamed : Says (subject.Preference None (kind.One one.AtEnd) []) "preference -, at end: not satisfied"
  pub of_step : Says (subject.StepPreference (Some 0) 1 (binds "?d" 2 ∷ [])) "preference light of step 1 (load c2 t1 a), ?d = c2: not satisfied"

-- ---- states

abbrev pub Shows : Shown → List String → Type 0
Shows shown lines = shown_text truck_words shown ≡ text_of lines

pub record StatesThatShow : Type 0 where
  pub none : Shows Nowhere ("  in no state" ∷ [])
  -- the first formula holds at the start by no literal, and the second in no state from there on
  pub two_formulas : Shows (States (
      shown_by (kind.Two two.SometimeAfter) (record { state = 0; operand = First; holds = true }) []
      ∷ shown_by (kind.Two two.SometimeAfter) (record { state = 0; operand = Second; holds = false }) (literal false (1 ∷ 1 ∷ 0 ∷ []) ∷ [])
      ∷ []))
      ("  state 0, at the start, first formula:" ∷ "  state 0, at the start, second formula:" ∷ "    false: (in c1 t1)" ∷ [])
  -- of an operator over one formula nothing is said of it
  pub one_formula : Shows (States (shown_by (kind.One one.AtMostOnce) (record { state = 1; operand = First; holds = true }) (literal true (1 ∷ 2 ∷ 0 ∷ []) ∷ []) ∷ []))
      ("  state 1, behind step 1 (load c2 t1 a):" ∷ "    true: (in c2 t1)" ∷ [])

-- ---- shares

abbrev pub hundredths : ℤ → Quantity
hundredths amount = record { places = 2; units = amount; few = omega arith }

-- of (:metric maximize (- (+ (* 0.5 (total-cost)) (* 6 (is-violated light))))), at costs with one decimal place
abbrev pub worked_shares : Shares
worked_shares = record {
  places = 2;
  cost_places = 1;
  base = hundredths (pos 0);
  names = record { name = 0; weight = 600; count = 2; small = omega arith } ∷ record { name = 1; weight = 0; count = 3; small = omega arith } ∷ [];
  cost = record { weight = 5; growth = 41; grown = omega arith; small = omega arith };
  loss = hundredths (pos 1405);
  metric = hundredths (negsuc 1404);
  few = omega arith;
  few_of_costs = omega arith;
}

abbrev pub SharesOfAMetric : Type 0
SharesOfAMetric =
    shares_text truck_numbers worked_shares ≡ text_of (
    "base 0.00"
    ∷ "light: 6.00 * 2 = 12.00"
    ∷ "once: 0.00 * 3 = 0.00"
    ∷ "cost: 0.5 * 4.1 = 2.05"
    ∷ "loss 14.05"
    ∷ "metric -14.05" ∷ [])

-- ---- names of written tasks

abbrev pub Means : Option Spot → ℕ → Meant → String → Type 0
Means at number of text = meaning_line truck_words (record { spot = at; number = number; of = of }) ≡ line (codes text)

pub record NamesOfTasks : Type 0 where
  pub step : Means None 9 (meant.Step (placed 1 (2 ∷ 0 ∷ 3 ∷ []))) "s9 (load c2 t1 a)"
  pub atom : Means None 4 (meant.Atom (1 ∷ 1 ∷ 0 ∷ [])) "f4 (in c1 t1)"
  pub monitor : Means (spot file.Problem 20 24) 1 (meant.Monitor (subject.Preference (Some 1) (kind.One one.AtMostOnce) (binds "?c" 1 ∷ [])))
      "problem.pddl:20:24: m1 preference once, at-most-once, ?c = c1"
  pub chain : Means (spot file.Problem 20 9) 0 (meant.Chain (settling.Next (Some 1) (binds "?c" 1 ∷ []))) "problem.pddl:20:9: e0 settled next: preference once, ?c = c1"
  pub end : Means None 3 (meant.Chain settling.Done) "e3 all preferences are settled"
