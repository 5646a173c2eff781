-- What is said of a text that is refused.
use Rattle.std.specs.Prelude.{⊤}
use Rattle.p3_base.specs.declared.refusal.Refusal.{Refusal}
use Rattle.p3_outline.specs.declared.error.ReadFail.{ReadFail}
use Rattle.p3_outline.specs.declared.error.ReadFail.TheVariants.{Refused, NoMemory}

-- of a refusal, and nothing where memory is wanting
abbrev pub IfRefused : ReadFail → (Refusal → Type 0) → Type 0
IfRefused (Refused refusal) P = P refusal
IfRefused NoMemory P = ⊤
