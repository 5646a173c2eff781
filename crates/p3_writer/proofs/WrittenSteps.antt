-- What is written for the changes of an action makes the changes.
use Rattle.std.proofs.Common.{◌≡◌, ◌∙◌, ℕ, ◌<◌, nat_lt, refl, sym, ap, Bool, true, false, not, ◌&&◌, ◌||◌, List, [], ◌∷◌, ◌++◌, length, map, arith, Some}
use Rattle.std.specs.Prelude.{◌==◌, slice_index_or, flat_map, if◌then◌else◌}
use Rattle.std.specs.List.{list_any, list_all}
use Rattle.std.specs.Bool.{Decides, one_answer}
use Rattle.std.proofs.lemmas.Bool.{and_parts, and_right, ltb-true}
use Rattle.std.proofs.Math.Bool.{and-true, or-false}
use Rattle.p3_task.specs.declared.effect.Amount.{Amount}
use Rattle.p3_task.specs.declared.effect.Amount.TheVariants as amount
use Rattle.std.proofs.lemmas.Bool.Decides.{Decides-eqb}
use Rattle.std.proofs.lemmas.List.Folds.{list_any-append}
use Rattle.std.proofs.lemmas.Option.{slice_get-get_or}
use Rattle.p3_task.specs.Names.{Name}
use Rattle.p3_task.specs.States as named
use Rattle.p3_task.specs.States.{has_fact, same_fact}
use Rattle.p3_task.specs.Formulas.{holds}
use Rattle.p3_task.specs.Effects.{adds, dels, next}
use Rattle.p3_task.proofs.Computes.{trees_compute}
use Rattle.p3_task.proofs.MeaningLemmas.{adds-All, dels-All}
use Rattle.p3_task.proofs.StateLemmas.{same_fact-Decides, has_fact-next}
use Rattle.p3_task.specs.declared.state.Fact.{Fact}
use Rattle.p3_task.specs.declared.effect.Effect.{Effect}
use Rattle.p3_task.specs.declared.effect.Effect.TheVariants as effect
use Rattle.p3_task.specs.declared.formula.Formula.{Formula}
use Rattle.p3_task.specs.declared.task.Task.{Task}
use Rattle.p3_formula.specs.Forms.{State, truth}
use Rattle.p3_formula.specs.Next.{after}
use Rattle.p3_formula.proofs.NextLaws.{is_set-after}
use Rattle.p3_formula.specs.declared.form.Change.{Change}
use Rattle.p3_formula.specs.declared.form.Form.{Form}
use Rattle.p3_formula.specs.declared.form.Form.TheVariants as form
use Rattle.p3_formula.proofs.FormLemmas.{truth-True}
use Rattle.p3_writer.specs.TaskOf.{literal, under, change_of, increase_of}
use Rattle.p3_task.proofs.OnceLemmas.{AreOnce}
use Rattle.p3_writer.proofs.WrittenForms.{atom, IsSame, are_below, form_holds}

abbrev pub is_change_below : ℕ → Change → Bool
is_change_below count change = nat_lt change.atom count && are_below count change.cond

module _ (T : Task) (names : List Name) (once : AreOnce names) (s : named.State) (b : State) (same : IsSame names s b) where
  same_atom : (i j : ℕ) → i < length names → j < length names → same_fact (atom names i) (atom names j) ≡ (i == j)
  same_atom i j low lower = one_answer _ _ (same_fact-Decides (atom names i) (atom names j))
      (Decides-eqb' i j (λ (e : i ≡ j). ap (atom names) e)
      (λ e. once i j (slice_index_or names j []) (slice_get-get_or names i [] low ∙ (λ k. Some ((e k).name))) (slice_get-get_or names j [] lower)))
    where
      Decides-eqb' : {P : Type 0} (i j : ℕ) → (i ≡ j → P) → (P → i ≡ j) → Decides (i == j) P
      Decides-eqb' i j f g = let d = Decides-eqb i j in (λ h. f (d.0 h), λ p. d.1 (g p))

  module _ (found : Effect → named.State) (of_if : (f : Formula) (e : Effect) → found (effect.If f e) ≡ (if holds T s [] f then found e else [])) where
    if_has : (f : Formula) (e : Effect) (t : Bool) (fact : Fact) → holds T s [] f ≡ t → has_fact (found (effect.If f e)) fact ≡ (has_fact (found e) fact && t)
    if_has f e t fact h = ap (λ found. has_fact found fact) (of_if f e ∙ ap (λ h. if h then found e else []) h) ∙ by t
      where
        by : (t : Bool) → has_fact (if t then found e else []) fact ≡ (has_fact (found e) fact && t)
        by true = sym (and-true (has_fact (found e) fact))
        by false = sym (and_right (has_fact (found e) fact) false refl)

    under_has : (tree : Form) (e : Effect) (fact : Fact) → are_below (length names) tree ≡ true → has_fact (found (under names tree e)) fact ≡ (has_fact (found e) fact && truth b tree)
    under_has form.True e fact h = sym (ap (λ t. has_fact (found e) fact && t) (truth-True b) ∙ and-true (has_fact (found e) fact))
    under_has form.False e fact h = if_has _ e _ fact (form_holds T names s b same form.False h)
    under_has (form.Atom a) e fact h = if_has _ e _ fact (form_holds T names s b same (form.Atom a) h)
    under_has (form.Not' shape part) e fact h = if_has _ e _ fact (form_holds T names s b same (form.Not' shape part) h)
    under_has (form.And' shape parts) e fact h = if_has _ e _ fact (form_holds T names s b same (form.And' shape parts) h)
    under_has (form.Or' shape parts) e fact h = if_has _ e _ fact (form_holds T names s b same (form.Or' shape parts) h)

    module _ (sign : Bool → Bool) (of_literal : (add : Bool) (i j : ℕ) → i < length names → j < length names → has_fact (found (literal add (slice_index_or names i []))) (atom names j) ≡ ((i == j) && sign add))
        (nothing : (cost : ℕ) (fact : Fact) → has_fact (flat_map found (increase_of cost)) fact ≡ false) where
      changes_have : (changes : List Change) (cost i : ℕ) → list_all (is_change_below (length names)) changes ≡ true → i < length names
          → has_fact (flat_map found (map (change_of names) changes ++ increase_of cost)) (atom names i) ≡ list_any (λ (change : Change). (change.atom == i) && sign change.add && truth b change.cond) changes
      changes_have [] cost i below low = nothing cost (atom names i)
      changes_have (change ∷ changes) cost i below low =
          let parts = and_parts (is_change_below (length names) change) _ below in
          let own = and_parts (nat_lt change.atom (length names)) _ parts.0 in
          list_any-append (λ other. same_fact other (atom names i)) (found (change_of names change)) (flat_map found (map (change_of names) changes ++ increase_of cost))
          ∙ (λ k. (under_has change.cond (literal change.add (slice_index_or names change.atom [])) (atom names i) own.1
          ∙ ap (λ t. t && truth b change.cond) (of_literal change.add change.atom i (ltb-true change.atom (length names) own.0) low)) k || changes_have changes cost i parts.1 low k)

  added_literal : (add : Bool) (i j : ℕ) → i < length names → j < length names → has_fact (adds T s [] (literal add (slice_index_or names i []))) (atom names j) ≡ ((i == j) && add)
  unfolding trees_compute adds
  added_literal true i j low lower = or-false (same_fact (atom names i) (atom names j)) ∙ same_atom i j low lower ∙ sym (and-true (i == j))
  added_literal false i j low lower = sym (and_right (i == j) false refl)

  deleted_literal : (add : Bool) (i j : ℕ) → i < length names → j < length names → has_fact (dels T s [] (literal add (slice_index_or names i []))) (atom names j) ≡ ((i == j) && not add)
  unfolding trees_compute dels
  deleted_literal true i j low lower = sym (and_right (i == j) false refl)
  deleted_literal false i j low lower = or-false (same_fact (atom names i) (atom names j)) ∙ same_atom i j low lower ∙ sym (and-true (i == j))

  no_cost : (found : Effect → named.State) → ((at : ℕ) (amount : Amount) → found (effect.Cost at amount) ≡ []) → (cost : ℕ) (fact : Fact) → has_fact (flat_map found (increase_of cost)) fact ≡ false
  no_cost found of_cost cost fact = by (cost == 0)
    where
      by : (t : Bool) → has_fact (flat_map found (if t then [] else effect.Cost 0 (amount.Number (record { at = 0; len = 0; digits = cost; places = 0 })) ∷ [])) fact ≡ false
      by true = refl
      by false = ap (λ found. has_fact (found ++ []) fact) (of_cost 0 (amount.Number (record { at = 0; len = 0; digits = cost; places = 0 })))

  pub next_same : (changes : List Change) (cost : ℕ) → list_all (is_change_below (length names)) changes ≡ true → length b ≡ length names
      → IsSame names (next T s [] (effect.All (map (change_of names) changes ++ increase_of cost))) (after b changes)
  unfolding trees_compute adds dels
  next_same changes cost below long i low =
      let body = map (change_of names) changes ++ increase_of cost in
      has_fact-next T s [] (effect.All body) (atom names i)
      ∙ (λ k. (ap (λ found. has_fact found (atom names i)) (adds-All T s [] body)
      ∙ changes_have (adds T s []) (λ f e. refl) (λ add. add) added_literal (no_cost (adds T s []) (λ at amount. refl)) changes cost i below low) k
      || same i low k
      && not ((ap (λ found. has_fact found (atom names i)) (dels-All T s [] body)
      ∙ changes_have (dels T s []) (λ f e. refl) not deleted_literal (no_cost (dels T s []) (λ at amount. refl)) changes cost i below low) k))
      ∙ sym (is_set-after b changes i (omega (arith, long, low)))
