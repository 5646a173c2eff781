-- Texts that show no refusal, and what is malformed.
use Rattle.std.proofs.Common.{◌≡◌, ◌≢◌, ◌∙◌, sym, ap, subst, ℕ, List, [], ◌∷◌, ◌++◌, map, Option, Some, None, append_assoc}
use Rattle.std.specs.Prelude.{is_some, IsSome}
use Rattle.std.proofs.lemmas.List.{map-append}
use Rattle.p3_base.specs.declared.refusal.Refusal.{Refusal}
use Rattle.p3_base.specs.declared.refusal.Role.{Role}
use Rattle.p3_base.specs.declared.refusal.Role.TheVariants as role
use Rattle.p3_base.specs.declared.refusal.Side.{Side}
use Rattle.p3_base.specs.declared.refusal.Side.TheVariants.{Source, Written}
use Rattle.p3_task.specs.PlanTexts.{mark_of}
use Rattle.p3_task.specs.Sides.{Half, InDomain, InProblem, level_limit, role_of}
use Rattle.p3_task.specs.Tokens.{Token}
use Rattle.p3_task.specs.Grammar.Words.{Place, IsText}
use Rattle.p3_task.specs.Grammar.Texts.{IsBalanced}
use Rattle.p3_task.specs.Grammar.Halves.{domain_place, problem_place}
use Rattle.p3_task.specs.Refusals.First.{HalfText, IsFirstOfHalf, IsReadable}
use Rattle.p3_task.specs.Refusals.Malformed.{IsMalformedAt, IsMalformed}
use Rattle.p3_task.specs.Refusals.Texts.{text_refusal}
use Rattle.p3_task.specs.declared.expression.Expression.{Expression}
use Rattle.p3_task.proofs.ReadingLemmas.{text_balanced}
use Rattle.p3_places.specs.Searches.{side_of, half_of, HasTree, Finds}
use Rattle.p3_outline.specs.declared.view.Outline.{Outline}
use Rattle.p3_outline.specs.Nodes.{root_of}
use Rattle.p3_outline.specs.Outlines.{IsOutline}
use Rattle.p3_syntax.specs.First.{Decides}
use Rattle.p3_outline.proofs.PlaceLemmas.{malformed_within}

-- a text of a tree goes on behind each of its tokens
goes_on : {A : Type 0} (place : Place A) (text : List ℕ) (e : Expression) (tree : A) → IsBalanced text e → IsText place e tree → (token : Token) → IsMalformedAt place text token → ⊥
goes_on place text e tree balanced is token at =
    at.ends (record {
      text = text;
      e = e;
      tree = tree;
      balanced = balanced;
      is_text = is;
      later = map mark_of at.later;
      begins = ap (map mark_of) (at.parts ∙ sym (append_assoc at.before (token ∷ []) at.later)) ∙ map-append mark_of (at.before ++ token ∷ []) at.later;
    })

no_place : (side : Side) (half : Half) (text : List ℕ) (e : Expression) → IsBalanced text e → HasTree half e → (refusal : Refusal) → IsMalformed side half text refusal → ⊥
no_place side InDomain text e balanced tree refusal is = goes_on domain_place text e tree.0 balanced tree.1 is.token is.first
no_place side InProblem text e balanced tree refusal is = goes_on problem_place text e tree.0 balanced tree.1 is.token is.first

-- a text with a tree that shows nothing is readable
readable_text : (side : Side) (half : Half) (text : List ℕ) (e : Expression) → text_refusal side half text ≡ None → IsBalanced text e → HasTree half e → IsReadable (HalfText side half text)
readable_text side half text e none balanced tree refusal is =
    no_place side half text e balanced tree refusal (subst (λ (found : Option Refusal). IsFirstOfHalf found side half text refusal) none is)

pub outline_balanced : (of : Role) (text : List ℕ) (outline : Outline) → IsOutline of text outline → IsBalanced text (root_of outline)
outline_balanced of text outline is = text_balanced (level_limit (side_of of)) text (root_of outline) is.whole

decided : (of : Role) (text : List ℕ) (outline : Outline) (found : Option Refusal) → of ≢ role.Plan → IsOutline of text outline → None ≡ text_refusal (side_of of) (half_of of) text
    → Finds of text found → Decides of text (root_of outline) found
decided of text outline (Some refusal) task whole none finds =
    (subst (λ (found : Option Refusal). IsFirstOfHalf found (side_of of) (half_of of) text refusal) none finds, malformed_within of text refusal task finds)
decided of text outline None task whole none finds =
    let balanced = outline_balanced of text outline whole in
    let tree = finds (root_of outline) balanced in
    (tree, readable_text (side_of of) (half_of of) text (root_of outline) (sym none) balanced tree)

-- what is found where nothing was shown before
pub decided_last : (of : Role) (text : List ℕ) (outline : Outline) (found : Option Refusal) → of ≢ role.Plan → IsOutline of text outline → None ≡ text_refusal (side_of of) (half_of of) text
    → found ≡ outline.fault → Decides of text (root_of outline) found
decided_last of text outline found task whole none is = decided of text outline found task whole none (subst (Finds of text) (sym is) whole.faults)

-- ---- the half that a role is of

pub domain_tree : (side : Side) (of : Role) (e : Expression) → of ≡ role_of side InDomain → HasTree (half_of of) e → IsSome (domain_place e)
domain_tree Source of e is has = ap is_some (subst (λ (of : Role). HasTree (half_of of) e) is has).1
domain_tree Written of e is has = ap is_some (subst (λ (of : Role). HasTree (half_of of) e) is has).1

pub problem_tree : (side : Side) (of : Role) (e : Expression) → of ≡ role_of side InProblem → HasTree (half_of of) e → IsSome (problem_place e)
problem_tree Source of e is has = ap is_some (subst (λ (of : Role). HasTree (half_of of) e) is has).1
problem_tree Written of e is has = ap is_some (subst (λ (of : Role). HasTree (half_of of) e) is has).1
