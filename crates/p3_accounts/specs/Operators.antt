-- Operators of trajectory constraints by their words.
use Rattle.std.specs.Prelude.{ℕ, List, codes}
use Rattle.p3_base.specs.declared.operator.Binary.{Binary}
use Rattle.p3_base.specs.declared.operator.Binary.TheVariants as two
use Rattle.p3_base.specs.declared.operator.Operator.{Operator}
use Rattle.p3_base.specs.declared.operator.Operator.TheVariants.{AtEnd, Always, Sometime, AtMostOnce, SometimeAfter, SometimeBefore}
use Rattle.p3_base.specs.declared.operator.Unary.{Unary}
use Rattle.p3_base.specs.declared.operator.Unary.TheVariants as one
use Rattle.p3_accounts.specs.declared.operator.OperatorKind.{OperatorKind}
use Rattle.p3_accounts.specs.declared.operator.OperatorKind.TheVariants.{One, Two}

abbrev pub kind_of : {F : Type 0} → Operator F → OperatorKind
kind_of (AtEnd f) = One one.AtEnd
kind_of (Always f) = One one.Always
kind_of (Sometime f) = One one.Sometime
kind_of (AtMostOnce f) = One one.AtMostOnce
kind_of (SometimeAfter f g) = Two two.SometimeAfter
kind_of (SometimeBefore f g) = Two two.SometimeBefore

abbrev pub unary_word : Unary → List ℕ
unary_word one.AtEnd = codes "at end"
unary_word one.Always = codes "always"
unary_word one.Sometime = codes "sometime"
unary_word one.AtMostOnce = codes "at-most-once"

abbrev pub binary_word : Binary → List ℕ
binary_word two.SometimeAfter = codes "sometime-after"
binary_word two.SometimeBefore = codes "sometime-before"

abbrev pub operator_word : OperatorKind → List ℕ
operator_word (One kind) = unary_word kind
operator_word (Two kind) = binary_word kind
