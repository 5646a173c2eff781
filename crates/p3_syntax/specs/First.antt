-- What is refused of a text, and where.
use Rattle.std.specs.Prelude.{ℕ, List, length, Option, Some, None}
use Rattle.p3_base.specs.declared.refusal.Refusal.{Refusal}
use Rattle.p3_base.specs.declared.refusal.Role.{Role}
use Rattle.p3_task.specs.Refusals.First.{Text, HalfText, IsReadable, IsRefusedText}
use Rattle.p3_task.specs.declared.expression.Expression.{Expression}
use Rattle.p3_places.specs.Searches.{side_of, half_of, HasTree}
use Rattle.p3_outline.specs.First.{IsWithin}
use Rattle.p3_outline.specs.Texts.{IfRefused}
use Rattle.p3_outline.specs.declared.error.ReadFail.{ReadFail}

abbrev pub half_text : Role → List ℕ → Text
half_text role text = HalfText (side_of role) (half_of role) text

-- The first refusal of the text of an expression. Where there is none, the grammar has a tree for it.
abbrev pub Decides : Role → List ℕ → Expression → Option Refusal → Type 0
Decides role text e None = HasTree (half_of role) e × IsReadable (half_text role text)
Decides role text e (Some refusal) = IsRefusedText (half_text role text) refusal × IsWithin role (length text) refusal

-- ---- what is said where a half is not read

-- it is the first refusal of the text
abbrev pub IsFirstOf : Text → ReadFail → Type 0
IsFirstOf text fail = IfRefused fail (IsRefusedText text)

-- it names the file, and the word at fault stands in the text
abbrev pub StandsIn : Role → List ℕ → ReadFail → Type 0
StandsIn role text fail = IfRefused fail (IsWithin role (length text))
