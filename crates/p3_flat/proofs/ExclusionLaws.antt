-- Forms that exclude one another.
use Rattle.std.proofs.Common.{◌≡◌, ◌∙◌, ℕ, ◌<◌, Bool, true, false, List, length, get_or, refl, sym, ap, arith, true≢false}
use Rattle.std.proofs.lemmas.List.{get_or-map, length-map}
use denote.Ref.{Bor}
use Rattle.std.proofs.lemmas.Bool.{not-true, not_from_true}
use Rattle.std.proofs.lemmas.List.Folds.{list_all_at}
use Rattle.p3_formula.specs.Forms.{truth}
use Rattle.p3_formula.specs.declared.form.Form.{Form}
use Rattle.p3_formula.specs.declared.form.Form.TheVariants.{Not, And}
use Rattle.p3_formula.proofs.FormLemmas.{truth-And, truth-Not}
use Rattle.p3_flat.specs.Splitting.{AreAgainst, IsAgainst, IsExcluded, forms_in}

pub negation_excludes : (form other : Form) → form ≡ Not other → IsAgainst form other
negation_excludes form other is state holds = not-true _ (sym (ap (truth state) is ∙ truth-Not state other) ∙ holds)

pub excludes_negation : (form other : Form) → other ≡ Not form → IsAgainst form other
excludes_negation form other is state holds = ap (truth state) is ∙ truth-Not state form ∙ not_from_true _ holds

pub part_excludes : (form other : Form) (parts : List Form) → form ≡ And parts → AreAgainst parts other → IsAgainst form other
part_excludes form other parts is against state holds = against state (sym (ap (truth state) is ∙ truth-And state parts) ∙ holds)

-- a conjunction does not hold where a part of it does not
pub part_excluded : (pre : Form) (parts others : List Form) (i : ℕ) (other : Form) → i < length others → other ≡ get_or others i other → IsExcluded pre parts other → IsExcluded pre parts (And others)
part_excluded pre parts others i other within is excluded state fits holds =
    truth-And state others ∙ list_all_at (truth state) others i other within (ap (truth state) (sym is) ∙ excluded state fits holds)

-- of forms that hold, none excludes another one that does
pub one_excludes : (parts : List (Bor Form)) (other : Form) (i : ℕ) (part : Bor Form) → i < length parts → part ≡ get_or parts i part → IsAgainst part.now other → AreAgainst (forms_in parts) other
one_excludes parts other i part within is against state holds = by (truth state part.now) refl
  where
    by : (b : Bool) → truth state part.now ≡ b → truth state other ≡ false
    by true fits = against state fits
    by false fails =
        let item = get_or-map (λ (one : Bor Form). one.now) parts i part part.now within ∙ ap (λ (one : Bor Form). one.now) (sym is) in
        absurd (true≢false (sym holds ∙ list_all_at (truth state) (forms_in parts) i part.now (omega (arith, within, length-map parts (λ (one : Bor Form). one.now))) (ap (truth state) item ∙ fails)))
