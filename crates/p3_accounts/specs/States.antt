-- The states that show what an account says, and the literals that decide it there.
use Rattle.std.specs.Prelude.{ℕ, ◌==◌, if◌then◌else◌, Bool, true, false, List, ◌++◌, codes, flat_map, Option, Some, None}
use Rattle.std.specs.Fmt.{decimal}
use Rattle.p3_reasons.specs.declared.decision.Literal.{Literal}
use Rattle.p3_reasons.specs.declared.evidence.Evidence.{Evidence}
use Rattle.p3_reasons.specs.declared.evidence.Operand.{Operand}
use Rattle.p3_reasons.specs.declared.evidence.Operand.TheVariants.{First, Second}
use Rattle.p3_tree.specs.Reports.Lines.{line}
use Rattle.p3_accounts.specs.Vocabularies.{Vocabulary}
use Rattle.p3_accounts.specs.Words.{atom_text, numbered_step_text}
use Rattle.p3_accounts.specs.declared.operator.OperatorKind.{OperatorKind}
use Rattle.p3_accounts.specs.declared.operator.OperatorKind.TheVariants.{One, Two}
use Rattle.p3_accounts.specs.declared.state.ShownState.{ShownState}
use Rattle.p3_accounts.specs.declared.state.Shown.{Shown}
use Rattle.p3_accounts.specs.declared.state.Shown.TheVariants.{Nowhere, States}

-- ---- what is shown

-- of an operator over two formulas it is said which one
abbrev pub operand_shown : OperatorKind → Operand → Option Operand
operand_shown (One kind) operand = None
operand_shown (Two kind) operand = Some operand

-- a formula of an operator in a state
abbrev pub shown_by : OperatorKind → Evidence → List Literal → ShownState
shown_by operator evidence literals = record { state = evidence.state; operand = operand_shown operator evidence.operand; literals = literals }

-- a precondition, a goal or a preference of a step in a state
abbrev pub shown_in : ℕ → List Literal → ShownState
shown_in state literals = record { state = state; operand = None; literals = literals }

-- ---- what is printed

-- the first state, or the step behind which another stands
abbrev pub behind_text : Vocabulary → ℕ → List ℕ
behind_text V number = codes "behind step " ++ decimal number ++ codes " " ++ numbered_step_text V number

abbrev pub moment_text : Vocabulary → ℕ → List ℕ
moment_text V state = if state == 0 then codes "at the start" else behind_text V state

abbrev pub operand_text : Option Operand → List ℕ
operand_text None = codes ""
operand_text (Some First) = codes ", first formula"
operand_text (Some Second) = codes ", second formula"

abbrev pub truth_word : Bool → List ℕ
truth_word true = codes "true"
truth_word false = codes "false"

abbrev pub literal_line : Vocabulary → Literal → List ℕ
literal_line V literal = line (codes "    " ++ truth_word literal.holds ++ codes ": " ++ atom_text V.numbers literal.atom)

abbrev pub state_line : Vocabulary → ShownState → List ℕ
state_line V shown = line (codes "  state " ++ decimal shown.state ++ codes ", " ++ moment_text V shown.state ++ operand_text shown.operand ++ codes ":")

abbrev pub state_text : Vocabulary → ShownState → List ℕ
state_text V shown = state_line V shown ++ flat_map (literal_line V) shown.literals

abbrev pub shown_text : Vocabulary → Shown → List ℕ
shown_text V Nowhere = line (codes "  in no state")
shown_text V (States states) = flat_map (state_text V) states
