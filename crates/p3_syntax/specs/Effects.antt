-- Effects where an increase may stand, or may not.
use Rattle.std.specs.Prelude.{Bool, false, List, map, Option, None}
use Rattle.p3_task.specs.declared.term.Ref.{Ref}
use Rattle.p3_task.specs.Grammar.Words.{ListPart, descend, all_trees, choose}
use Rattle.p3_task.specs.Grammar.Formulas.{AtomText}
use Rattle.p3_task.specs.Grammar.Effects.{EffectAt, effect_in, effect_forms, add_form}
use Rattle.p3_task.specs.declared.expression.Expression.{Expression}
use Rattle.p3_task.specs.declared.effect.Effect.{Effect}
use Rattle.p3_outline.specs.declared.view.Parts.{Parts}
use Rattle.p3_outline.specs.Nodes.{expressions_of}
use Rattle.p3_syntax.specs.declared.tree.words.TextWord.{TextWord}
use Rattle.p3_syntax.specs.declared.tree.effects.AtomParts.{AtomParts}
use Rattle.p3_syntax.specs.Trees.{the_word, listed, with_head}

-- what the place of effects finds
unfoldable pub effect_found : Expression → EffectAt
effect_found = descend (λ word free. None) (λ list parts. effect_in parts)

abbrev pub trees_of : List (ListPart EffectAt) → Bool → Option (List Effect)
trees_of parts free = all_trees (map (λ (part : ListPart EffectAt). part.tree free) parts)

-- for forms that ask not whether an increase may stand
abbrev pub no_increase : Bool
no_increase = false

-- what a form makes of parts
abbrev pub effect_form : (List (ListPart EffectAt) → EffectAt) → Parts → EffectAt
effect_form form parts = form (listed effect_found (expressions_of parts))

abbrev pub effects_at : Parts → Bool → Option (List Effect)
effects_at parts = trees_of (listed effect_found (expressions_of parts))

abbrev pub the_atom : AtomParts → AtomText
the_atom atom = record { pred = atom.pred; args = atom.args }

-- the atom with this first word, which becomes true
abbrev pub add_by : Ref → Parts → EffectAt
add_by head behind = add_form (listed effect_found (with_head head (expressions_of behind)))

-- the effect of a list by its first word and the parts behind it
abbrev pub effect_of : Ref → List Expression → EffectAt
effect_of head behind = choose head.name effect_forms (λ others. add_form (listed effect_found (with_head head behind))) (listed effect_found behind)

abbrev pub effect_by : TextWord → Parts → EffectAt
effect_by word behind = effect_of (the_word word) (expressions_of behind)
