-- Where a text leaves the grammar: the first token such that no text of the grammar has the same tokens up to and including it.
use Rattle.std.specs.Prelude.{◌≡◌, ℕ, List, [], ◌∷◌, ◌++◌, map}
use Rattle.p3_base.specs.declared.refusal.Code.TheVariants.{Malformed}
use Rattle.p3_base.specs.declared.refusal.Refusal.{Refusal}
use Rattle.p3_base.specs.declared.refusal.Side.{Side}
use Rattle.p3_task.specs.Sides.{Half, InDomain, InProblem, role_of}
use Rattle.p3_task.specs.Tokens.{Token, tokens_of}
use Rattle.p3_task.specs.PlanTexts.{Mark, mark_of}
use Rattle.p3_task.specs.Grammar.Words.{Place, IsText}
use Rattle.p3_task.specs.Grammar.Texts.{IsBalanced}
use Rattle.p3_task.specs.Grammar.Halves.{domain_place, problem_place}
use Rattle.p3_task.specs.Refusals.Places.{refusal_at_token}
use Rattle.p3_task.specs.declared.expression.Expression.{Expression}

-- some text of the place begins with these tokens, wherever they stand in it
pub record Begins {A : Type 0} (place : Place A) (marks : List Mark) : Type 0 where
  pub text : List ℕ
  pub e : Expression
  pub tree : A
  pub balanced : IsBalanced text e
  pub is_text : IsText place e tree
  pub later : List Mark
  pub begins : map mark_of (tokens_of text).tokens ≡ marks ++ later

-- the text's token is the first after which no text of the place goes on
pub record IsMalformedAt {A : Type 0} (place : Place A) (text : List ℕ) (token : Token) : Type 0 where
  pub before : List Token
  pub later : List Token
  pub parts : (tokens_of text).tokens ≡ before ++ token ∷ later
  pub goes_on : Begins place (map mark_of before)
  pub ends : Begins place (map mark_of (before ++ token ∷ [])) → ⊥

abbrev pub IsHalfMalformedAt : Half → List ℕ → Token → Type 0
IsHalfMalformedAt InDomain text token = IsMalformedAt domain_place text token
IsHalfMalformedAt InProblem text token = IsMalformedAt problem_place text token

-- the refusal of a text that leaves the grammar
pub record IsMalformed (side : Side) (half : Half) (text : List ℕ) (refusal : Refusal) : Type 0 where
  pub token : Token
  pub first : IsHalfMalformedAt half text token
  pub is : refusal ≡ refusal_at_token Malformed (role_of side half) token
