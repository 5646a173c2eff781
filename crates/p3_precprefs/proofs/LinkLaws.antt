-- The actions of a chain as they are made.
use Rattle.std.proofs.Common.{◌≡◌, ◌∙◌, ℕ, ◌+◌, ◌<◌, ◌≤◌, nat_lt, Bool, true, false, ◌&&◌, cond, List, [], ◌∷◌, ◌++◌, length, take, drop, get_or, refl, sym, ap, subst, append_assoc, length-append, take-append-drop, arith}
use Rattle.std.specs.List.{list_all}
use Rattle.std.proofs.lemmas.List.{append-nil}
use Rattle.std.proofs.lemmas.List.Elements.{filter_more, filter-append}
use Rattle.p3_formula.specs.Forms.{State, is_set, truth, has_atoms}
use Rattle.p3_formula.specs.Guards.{IsGuardedForm}
use Rattle.p3_formula.specs.Weighted.{weight_of, weighted}
use Rattle.p3_formula.specs.declared.form.Change.{Change}
use Rattle.p3_formula.specs.declared.form.Form.{Form}
use Rattle.p3_formula.specs.declared.modal.GroundPref.{GroundPref}
use Rattle.p3_formula.specs.declared.target.TargetAction.{TargetAction}
use Rattle.p3_formula.proofs.FormLemmas.{truth-Not, has_atoms-Not}
use Rattle.p3_precprefs.specs.Questions.{signed, signed_form, IsLink, IsAnswer, AreAnswers, IsAsked, HasBothAnswers}

-- ---- actions

signed_truth : (state : State) (holds : Bool) (body : Form) → truth state (signed_form holds body) ≡ signed holds (truth state body)
signed_truth state true body = refl
signed_truth state false body = truth-Not state body

signed_atoms : (allowed : ℕ → Bool) (holds : Bool) (body : Form) → has_atoms allowed (signed_form holds body) ≡ has_atoms allowed body
signed_atoms allowed true body = refl
signed_atoms allowed false body = has_atoms-Not allowed body

pub linked : (name other : List ℕ) (guards : List ℕ) (body condition pre : Form) (holds : Bool) (effects made : List Change) (cost : ℕ) → other ≡ name → condition ≡ signed_form holds body → made ≡ effects → IsGuardedForm guards condition pre
    → IsLink name guards body holds effects cost (record { name = other; pre = pre; effects = made; cost = cost })
linked name other guards body condition pre holds effects made cost same is does form = record {
  has_name = same;
  fits = λ state. form.fits state ∙ ap (λ b. list_all (is_set state) guards && b) (ap (truth state) is ∙ signed_truth state holds body);
  tidy = form.tidy;
  reads = λ allowed set within. form.reads allowed set (ap (has_atoms allowed) is ∙ signed_atoms allowed holds body ∙ within);
  does = does;
  costs = refl;
}

-- ---- questions

answers_more : (first current number : ℕ) (by_name : List ℕ) (place at : ℕ) (front : List GroundPref) (pref : GroundPref) (answers : List TargetAction) (agree deny : TargetAction)
    → AreAnswers first current number by_name place front answers → at ≡ place + length front
    → IsAnswer first current number at true pref.body 0 agree → IsAnswer first current number at false pref.body (weight_of by_name pref) deny
    → AreAnswers first current number by_name place (front ++ pref ∷ []) (answers ++ agree ∷ deny ∷ [])
answers_more first current number by_name place at [] pref [] agree deny are here agrees denies =
    let same : at ≡ place = omega (arith, here) in
    (subst (λ n. IsAnswer first current number n true pref.body 0 agree) same agrees, subst (λ n. IsAnswer first current number n false pref.body (weight_of by_name pref) deny) same denies, tt)
answers_more first current number by_name place at [] pref (action ∷ answers) agree deny are here agrees denies = absurd are
answers_more first current number by_name place at (other ∷ front) pref [] agree deny are here agrees denies = absurd are
answers_more first current number by_name place at (other ∷ front) pref (one ∷ []) agree deny are here agrees denies = absurd are
answers_more first current number by_name place at (other ∷ front) pref (one ∷ two ∷ answers) agree deny are here agrees denies =
    (are.0, are.1, answers_more first current number by_name (place + 1) at front pref answers agree deny are.2 (omega (arith, here)) agrees denies)

module _ (by_name : List ℕ) (prefs : List GroundPref) (index : ℕ) (pref : GroundPref) (within : index < length prefs) (is : pref ≡ get_or prefs index pref) where
  abbrev kept : List GroundPref
  kept = weighted by_name (take index prefs)

  next : weighted by_name (take (index + 1) prefs) ≡ kept ++ cond (nat_lt 0 (weight_of by_name pref)) (pref ∷ []) []
  next = filter_more (λ (p : GroundPref). nat_lt 0 (weight_of by_name p)) prefs index pref within ∙ ap (λ p. kept ++ cond (nat_lt 0 (weight_of by_name p)) (p ∷ []) []) (sym is)

  pub weighted_yes : nat_lt 0 (weight_of by_name pref) ≡ true → weighted by_name (take (index + 1) prefs) ≡ kept ++ pref ∷ []
  weighted_yes e = next ∙ ap (λ b. kept ++ cond b (pref ∷ []) []) e

  pub weighted_no : nat_lt 0 (weight_of by_name pref) ≡ false → weighted by_name (take (index + 1) prefs) ≡ kept
  weighted_no e = next ∙ ap (λ b. kept ++ cond b (pref ∷ []) []) e ∙ append-nil kept

  -- there is room for one question more
  pub weighted_room : (count : ℕ) → length (weighted by_name prefs) ≤ count → nat_lt 0 (weight_of by_name pref) ≡ true → length kept + 1 ≤ count
  weighted_room count few e =
      let whole = ap (λ list. length (weighted by_name list)) (sym (take-append-drop (index + 1) prefs)) ∙ ap length (filter-append (λ (p : GroundPref). nat_lt 0 (weight_of by_name p)) (take (index + 1) prefs) (drop (index + 1) prefs))
      ∙ length-append (weighted by_name (take (index + 1) prefs)) (weighted by_name (drop (index + 1) prefs)) in
      let more = ap length (weighted_yes e) ∙ length-append kept (pref ∷ []) in
      omega (arith, whole, more, few)

  -- the preference has a weight, and is asked for
  pub asked_more : (first current number place : ℕ) (old mid new : List TargetAction) → nat_lt 0 (weight_of by_name pref) ≡ true → place ≡ length kept
      → IsAsked first current number by_name kept old mid → HasBothAnswers first current number place pref.body (weight_of by_name pref) mid new
      → IsAsked first current number by_name (weighted by_name (take (index + 1) prefs)) old new
  asked_more first current number place old mid new e here asked both =
      subst (λ list. IsAsked first current number by_name list old new) (sym (weighted_yes e)) (record {
        answers = asked.answers ++ both.agree ∷ both.deny ∷ [];
        are = both.are ∙ ap (λ list. list ++ both.agree ∷ both.deny ∷ []) asked.are ∙ append_assoc old asked.answers (both.agree ∷ both.deny ∷ []);
        asks = answers_more first current number by_name 0 place kept pref asked.answers both.agree both.deny asked.asks (omega (arith, here)) both.agrees both.denies;
      })
