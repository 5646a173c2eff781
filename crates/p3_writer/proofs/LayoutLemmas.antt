-- Equations of the layout: one for each kind of form, what pieces make together, and one for an atom more of the initial state.
use Rattle.std.proofs.Common.{◌≡◌, ◌∙◌, ℕ, ◌+◌, ◌<◌, Bool, false, List, [], ◌∷◌, ◌++◌, length, drop, get_or, refl, sym, ap, add-one, append_assoc}
use Rattle.std.specs.Prelude.{codes, slice_index_or}
use Rattle.std.proofs.Math.Seq.{drop-cons}
use Rattle.std.proofs.lemmas.List.Concat.{flat_map-append}
use denote.Hole.Carrier.{hidden}
use Rattle.p3_base.specs.Words.{Name}
use Rattle.p3_formula.specs.declared.form.Form.{Form}
use Rattle.p3_formula.specs.declared.form.Form.TheBlock.{hidden-the_row-Form-0}
use Rattle.p3_formula.specs.declared.form.Form.TheVariants.{True, False, Atom, Not, And, Or}
use Rattle.p3_formula.proofs.FormLemmas.{fold_parts}
use Rattle.p3_formula.specs.declared.target.TargetAction.{TargetAction}
use Rattle.p3_writer.specs.AtomTexts.{action_end, action_start}
use Rattle.p3_writer.specs.DomainText.{BegunDomain, with_actions}
use Rattle.p3_writer.specs.Layout.{atom_text, negated_text, spaced, form_layer, form_text, joined_text, action_head, action_text, actions_text, changes_text, cost_text, set_atom, set_atoms}

module _ (names : List Name) where
  pub form_text-True : form_text names True ≡ codes "(and)"
  unfolding form_text
  form_text-True = refl

  pub form_text-False : form_text names False ≡ codes "(or)"
  unfolding form_text
  form_text-False = refl

  pub form_text-Atom : (atom : ℕ) → form_text names (Atom atom) ≡ atom_text (slice_index_or names atom [])
  unfolding form_text
  form_text-Atom atom = refl

  pub form_text-Not : (part : Form) → form_text names (Not part) ≡ negated_text (form_text names part)
  unfolding form_text hidden-the_row-Form-0 hidden
  form_text-Not part = refl

  pub form_text-And : (parts : List Form) → form_text names (And parts) ≡ joined_text names (codes "(and") parts
  unfolding form_text
  form_text-And parts = ap (λ texts. codes "(and" ++ spaced texts ++ codes ")") (fold_parts (form_layer names) parts)

  pub form_text-Or : (parts : List Form) → form_text names (Or parts) ≡ joined_text names (codes "(or") parts
  unfolding form_text
  form_text-Or parts = ap (λ texts. codes "(or" ++ spaced texts ++ codes ")") (fold_parts (form_layer names) parts)

pub ruleset text_laws = (form_text-True, form_text-False, form_text-Atom, form_text-Not, form_text-And, form_text-Or)

-- ---- pieces

pub negated_pushed : (old text : List ℕ) → ((old ++ codes " (not") ++ (32 ∷ text)) ++ codes ")" ≡ old ++ (32 ∷ negated_text text)
negated_pushed old text = append_assoc (old ++ codes " (not") (32 ∷ text) (codes ")") ∙ append_assoc old (codes " (not") ((32 ∷ text) ++ codes ")")

pub when_pushed : (old form text : List ℕ) → (((old ++ codes " (when") ++ (32 ∷ form)) ++ (32 ∷ text)) ++ codes ")" ≡ old ++ (32 ∷ (codes "(when " ++ form ++ codes " " ++ text ++ codes ")"))
when_pushed old form text =
    append_assoc ((old ++ codes " (when") ++ (32 ∷ form)) (32 ∷ text) (codes ")") ∙ append_assoc (old ++ codes " (when") (32 ∷ form) ((32 ∷ text) ++ codes ")")
    ∙ append_assoc old (codes " (when") ((32 ∷ form) ++ ((32 ∷ text) ++ codes ")"))
    ∙ ap (λ rest. old ++ (codes " (when " ++ rest)) (sym (append_assoc form (32 ∷ []) (text ++ codes ")")) ∙ sym (append_assoc (form ++ 32 ∷ []) text (codes ")")))

pub goal_begun : (old text : List ℕ) → (old ++ codes ")\n(:goal") ++ (32 ∷ text) ≡ (old ++ codes ")\n(:goal ") ++ text
goal_begun old text = append_assoc old (codes ")\n(:goal") (32 ∷ text) ∙ sym (append_assoc old (codes ")\n(:goal ") text)

action_begun : (old name text : List ℕ) → (old ++ action_start name) ++ (32 ∷ text) ≡ old ++ (action_head name ++ text)
action_begun old name text =
    append_assoc old (action_start name) (32 ∷ text)
    ∙ ap (λ rest. old ++ rest) (append_assoc (codes "(:action " ++ name) (codes " :parameters ()\n :precondition") (32 ∷ text) ∙ sym (append_assoc (codes "(:action " ++ name) (codes " :parameters ()\n :precondition ") text))

pub four_pushed : (old first second third fourth : List ℕ) → (((old ++ first) ++ second) ++ third) ++ fourth ≡ old ++ (((first ++ second) ++ third) ++ fourth)
four_pushed old first second third fourth =
    ap (λ text. (text ++ third) ++ fourth) (append_assoc old first second)
    ∙ ap (λ text. text ++ fourth) (append_assoc old (first ++ second) third)
    ∙ append_assoc old ((first ++ second) ++ third) fourth

action_ended : (front changes cost : List ℕ) → front ++ (codes "\n :effect (and" ++ changes ++ cost ++ codes "))\n") ≡ front ++ codes "\n :effect " ++ (codes "(and" ++ changes ++ cost ++ codes ")") ++ codes ")\n"
action_ended front changes cost =
    let inside = codes "(and" ++ changes ++ cost in
    sym (append_assoc (front ++ codes "\n :effect ") (inside ++ codes ")") (codes ")\n")
    ∙ append_assoc front (codes "\n :effect ") ((inside ++ codes ")") ++ codes ")\n")
    ∙ ap (λ text. front ++ (codes "\n :effect " ++ text)) (append_assoc inside (codes ")") (codes ")\n")))

-- an action in three pieces: up to its precondition, this, and what stands behind it
pub action_laid : (names : List Name) (action : TargetAction) (old : List ℕ)
    → ((old ++ action_start action.name) ++ (32 ∷ form_text names action.pre)) ++ action_end names action.effects action.cost ≡ old ++ action_text names action
unfolding action_text
action_laid names action old =
    let front = action_head action.name ++ form_text names action.pre in
    ap (λ text. text ++ action_end names action.effects action.cost) (action_begun old action.name (form_text names action.pre))
    ∙ append_assoc old front (action_end names action.effects action.cost)
    ∙ ap (λ text. old ++ text) (action_ended front (changes_text names action.effects) (cost_text action.cost))

-- some actions, and others behind them
pub with_more : (begun : BegunDomain) (first more : List TargetAction) → with_actions (with_actions begun first) more ≡ with_actions begun (first ++ more)
with_more begun first more =
    let text = append_assoc begun.text (actions_text begun.names first) (actions_text begun.names more) ∙ ap (λ behind. begun.text ++ behind) (sym (flat_map-append (action_text begun.names) first more)) in
    λ i. record { names = begun.names; text = text i }

pub set_atoms_from : (bits : List Bool) (names : List Name) (atom : ℕ) (bit : Bool) (name : Name) → atom < length bits → atom < length names
    → bit ≡ get_or bits atom false → name ≡ get_or names atom name
    → set_atoms (drop atom bits) (drop atom names) ≡ set_atom bit name ++ set_atoms (drop (atom + 1) bits) (drop (atom + 1) names)
set_atoms_from bits names atom bit name within below is named =
    (λ i. set_atoms (drop-cons bits atom false within i) (drop-cons names atom name below i))
    ∙ (λ i. set_atoms (sym is i ∷ drop (sym (add-one atom) i) bits) (sym named i ∷ drop (sym (add-one atom) i) names))
