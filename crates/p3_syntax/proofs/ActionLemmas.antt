-- An action by its parts.
use Rattle.std.proofs.Common.{◌≡◌, ◌∙◌, refl, subst, List, [], ◌∷◌, Option, Some, None}
use Rattle.std.specs.Prelude.{IsSome}
use Rattle.p3_task.specs.Grammar.Words.{◌>>=◌, headed, is_name, name_place}
use Rattle.p3_task.specs.Grammar.Halves.{Section, sections_among, action_keywords, keyword_parts, action_in}
use Rattle.p3_task.specs.declared.expression.Expression.{Expression}
use Rattle.p3_task.specs.declared.term.Ref.{Ref}
use Rattle.p3_task.specs.declared.term.Typed.{Typed}
use Rattle.p3_task.specs.declared.task.Part.{Part}
use Rattle.p3_task.specs.declared.task.Action.{Action}
use Rattle.p3_task.specs.declared.goal.PreGoal.{PreGoal}
use Rattle.p3_task.specs.declared.effect.Effect.{Effect}
use Rattle.p3_syntax.specs.declared.tree.actions.ActionBody.{ActionBody}
use Rattle.p3_syntax.proofs.HeadLemmas.{tested_known}
use Rattle.p3_syntax.proofs.SectionLemmas.{among_known}
use Rattle.p3_syntax.specs.Actions.{action_parts_in, parameters_among, precondition_among, effect_among, body_among, action_of}

abbrev body_of : List Typed → Part PreGoal → Part Effect → ActionBody
body_of params pre change = record { params = params; pre = pre; effect = change }

-- parts that are read one after another, and put together in between
body_first : (name : Ref) (params : Option (List Typed)) (pre : Option (Part PreGoal)) (change : Option (Part Effect))
    → (params >>= λ params. pre >>= λ pre. change >>= λ change. Some (action_of name (body_of params pre change)))
    ≡ (params >>= λ params. change >>= λ change. pre >>= λ pre. Some (body_of params pre change)) >>= λ body. Some (action_of name body)
body_first name None pre change = refl
body_first name (Some params) None None = refl
body_first name (Some params) None (Some change) = refl
body_first name (Some params) (Some pre) None = refl
body_first name (Some params) (Some pre) (Some change) = refl

-- what is made of the parts of an action with a name
abbrev pub from_parts : Ref → List Section → Option Action
from_parts name parts = body_among name.at parts >>= λ body. Some (action_of name body)

module _ (name : Ref) where
  by_parts : (parts : Option (List Section))
      → (parts >>= λ parts. parameters_among parts >>= λ params. precondition_among name.at parts >>= λ pre. effect_among name.at parts >>= λ change. Some (action_of name (body_of params pre change)))
      ≡ parts >>= from_parts name
  by_parts None = refl
  by_parts (Some parts) = body_first name (parameters_among parts) (precondition_among name.at parts) (effect_among name.at parts)

  by_list : (list : Option (List Section))
      → (list >>= λ list. sections_among action_keywords list >>= λ parts. parameters_among parts >>= λ params. precondition_among name.at parts >>= λ pre. effect_among name.at parts >>= λ change.
      Some (action_of name (body_of params pre change)))
      ≡ (list >>= sections_among action_keywords) >>= from_parts name
  by_list None = refl
  by_list (Some list) = by_parts (sections_among action_keywords list)

action_by_body : (first : Expression) (behind : List Expression)
    → action_in (first ∷ behind) ≡ name_place first >>= λ name. action_parts_in behind >>= λ parts. body_among name.at parts >>= λ body. Some (action_of name body)
action_by_body first behind = by (name_place first)
  where
    by : (name : Option Ref)
        → (name >>= λ name. keyword_parts behind >>= λ list. sections_among action_keywords list >>= λ parts. parameters_among parts >>= λ params. precondition_among name.at parts >>= λ pre.
        effect_among name.at parts >>= λ change. Some (action_of name (body_of params pre change)))
        ≡ name >>= λ name. action_parts_in behind >>= from_parts name
    by None = refl
    by (Some name) = by_list name (keyword_parts behind)

-- behind its name, whatever that and the keywords are
pub action_known : (es : List Expression) → IsSome (action_in es) → action_in es ≡ headed (λ (e : Expression). e) es >>= λ list. keyword_parts list.1 >>= from_parts list.0
action_known [] has = refl
action_known (first ∷ behind) has =
    let named = subst IsSome (action_by_body first behind) has in
    let known = tested_known is_name made (first ∷ behind) named in
    action_by_body first behind ∙ known ∙ by (headed (λ (e : Expression). e) (first ∷ behind)) (subst IsSome known named)
  where
    made : Ref → List Expression → Option Action
    made name behind = action_parts_in behind >>= from_parts name

    by : (list : Option (Ref × List Expression)) → IsSome (list >>= λ list. made list.0 list.1) → (list >>= λ list. made list.0 list.1) ≡ list >>= λ list. keyword_parts list.1 >>= from_parts list.0
    by None has = refl
    by (Some list) has = among_known action_keywords (keyword_parts list.1) (from_parts list.0) has
