-- The first word of a formula, form by form.
use Rattle.std.proofs.Common.{◌≡◌, List, map, refl}
use Rattle.p3_task.proofs.Computes.{trees_compute}
use Rattle.p3_task.proofs.FoldLemmas.{fold_formula-And, fold_formula-Or}
use Rattle.p3_task.specs.declared.formula.Formula.{Formula}
use Rattle.p3_task.specs.declared.formula.Formula.TheVariants.{Atom, Equal, And, Or, Not, Imply, Exists, Forall}
use Rattle.p3_task.specs.declared.term.Ref.{Ref}
use Rattle.p3_task.specs.declared.term.Term.{Term}
use Rattle.p3_task.specs.declared.term.Typed.{Typed}
use Rattle.std.specs.Prelude.{Some}
use Rattle.p3_scenes.specs.FirstWords.{first_in, first_of, first_variable, first_word, first_word_layer, term_at}

pub word-Atom : (pred : Ref) (args : List Term) → first_word (Atom pred args) ≡ Some pred.at
unfolding first_word
word-Atom pred args = refl

pub word-Equal : (left right : Term) → first_word (Equal left right) ≡ Some (term_at left)
unfolding first_word
word-Equal left right = refl

pub word-And : (parts : List Formula) → first_word (And parts) ≡ first_in (map first_word parts)
unfolding first_word
word-And parts = fold_formula-And first_word_layer parts

pub word-Or : (parts : List Formula) → first_word (Or parts) ≡ first_in (map first_word parts)
unfolding first_word
word-Or parts = fold_formula-Or first_word_layer parts

pub word-Not : (part : Formula) → first_word (Not part) ≡ first_word part
unfolding first_word trees_compute
word-Not part = refl

pub word-Imply : (first second : Formula) → first_word (Imply first second) ≡ first_of (first_word first) (first_word second)
unfolding first_word trees_compute
word-Imply first second = refl

pub word-Exists : (variables : List Typed) (body : Formula) → first_word (Exists variables body) ≡ first_of (first_variable variables) (first_word body)
unfolding first_word trees_compute
word-Exists variables body = refl

pub word-Forall : (variables : List Typed) (body : Formula) → first_word (Forall variables body) ≡ first_of (first_variable variables) (first_word body)
unfolding first_word trees_compute
word-Forall variables body = refl

pub ruleset word_laws = (word-Atom, word-Equal, word-And, word-Or, word-Not, word-Imply, word-Exists, word-Forall)
