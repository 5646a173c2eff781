-- The operators of a constraint that is built of given parts, and lists of those that stand for them.
use Rattle.std.proofs.Common.{◌≡◌, ◌∙◌, ℕ, Bool, true, false, Option, List, [], ◌∷◌, ◌++◌, refl, sym, ap, subst}
use Rattle.std.specs.Prelude.{flat_map}
use Rattle.std.specs.List.{list_all}
use Rattle.std.proofs.lemmas.Bool.{and_parts, and_from}
use Rattle.std.proofs.lemmas.List.{append-nil}
use Rattle.std.proofs.lemmas.List.Folds.{list_all-append}
use Rattle.p3_task.specs.States.{State}
use Rattle.p3_formula.specs.Forms.{has_atoms}
use Rattle.p3_base.proofs.OperatorLaws.{formulas_binary, formulas_unary, over_binary, over_unary, pairs_binary, pairs_unary, pairs_weaker}
use Rattle.p3_base.specs.Operators.{binary, formulas_of, unary}
use Rattle.p3_base.specs.declared.operator.Binary.{Binary}
use Rattle.p3_base.specs.declared.operator.Unary.{Unary}
use Rattle.p3_formula.specs.Tidy.{is_tidy}
use Rattle.p3_formula.specs.declared.form.Form.{Form}
use Rattle.p3_formula.specs.GroundModal.{GroundModal}
use Rattle.p3_numbers.specs.Conditions.{met}
use Rattle.p3_numbers.specs.Constraints.{PlacedModal, ModalMeaning, numbered_modal_meaning, test_at, placed_modal_meaning, hard_operators, all_operators}
use Rattle.p3_numbers.specs.Slots.{Slots, bound}
use Rattle.p3_numbers.specs.declared.condition.NumberedCondition.{NumberedCondition}
use Rattle.p3_numbers.specs.declared.constraint.NumberedConstraint.{NumberedConstraint}
use Rattle.p3_numbers.specs.declared.constraint.NumberedConstraint.TheVariants.{Both, Each, Single, Soft}
use Rattle.p3_numbers.specs.NumberedModal.{NumberedModal}
use Rattle.p3_base.specs.declared.operator.Operator.TheVariants as modal
use Rattle.p3_numbers.specs.declared.numbers.Numbers.{Numbers}
use Rattle.p3_numbers.proofs.ConstraintLemmas.{hard_operators-Both, hard_operators-Each, all_operators-Both, all_operators-Each, all_operators-Soft}
use Rattle.p3_expansion.specs.Atoms.{GroundAtom, Keeps}
use Rattle.p3_expansion.specs.Expansions.{Stands, Allows, Grows}
use Rattle.p3_expansion.specs.Forms.{Makes}
use Rattle.p3_expansion.specs.Meanings.{condition_atoms, condition_meaning}
use Rattle.p3_expansion.specs.Operators.{operator_atoms, HasTruth, HasTruths, OperatorStands, OperatorsStand, MakesOperator, operators_of, PushesOperators}
use Rattle.p3_expansion.specs.Walks.{Pushes}
use Rattle.p3_expansion.specs.declared.statics.Statics.{Statics}
use Rattle.p3_expansion.specs.declared.work.Work.{Work}
use Rattle.p3_expansion.proofs.ExpansionLemmas.{stands-grows}
use Rattle.p3_expansion.proofs.GrowthLemmas.{grows-trans, grows-wider}
use Rattle.p3_expansion.proofs.WalkLemmas.{flat-flat, pushes-by, zip-weaker, zip-push}

-- ---- the operators of a constraint that is built of given parts

module _ (N : Numbers) (slots : Slots) where
  pub operators-Both : (all : Bool) (parts : List NumberedConstraint) → operators_of N all slots (Both parts) ≡ flat_map (operators_of N all slots) parts
  operators-Both true parts = all_operators-Both N slots parts
  operators-Both false parts = hard_operators-Both N slots parts

  pub operators-Each : (all : Bool) (ranges : List ℕ) (body : NumberedConstraint) → operators_of N all slots (Each ranges body) ≡ flat_map (λ inner. operators_of N all inner body) (bound N slots ranges)
  operators-Each true ranges body = all_operators-Each N slots ranges body
  operators-Each false ranges body = hard_operators-Each N slots ranges body

  pub operators-Single : (all : Bool) (modal : NumberedModal) → operators_of N all slots (Single modal) ≡ record { modal = modal; slots = slots } ∷ []
  unfolding hard_operators all_operators
  operators-Single true modal = refl
  operators-Single false modal = refl

  pub operators-Soft-all : (all : Bool) (at : ℕ) (name : Option ℕ) (body : NumberedConstraint) → all ≡ true → operators_of N all slots (Soft at name body) ≡ operators_of N all slots body
  operators-Soft-all true at name body is = all_operators-Soft N slots at name body
  operators-Soft-all false at name body is = absurd (cc)

  pub operators-Soft-hard : (all : Bool) (at : ℕ) (name : Option ℕ) (body : NumberedConstraint) → all ≡ false → operators_of N all slots (Soft at name body) ≡ []
  unfolding hard_operators
  operators-Soft-hard true at name body is = absurd (cc)
  operators-Soft-hard false at name body is = refl

module _ (N : Numbers) (S : Statics) where
  -- ---- one operator

  module _ (slots : Slots) (f : NumberedCondition) where
    one-condition : (operator : NumberedModal) → formulas_of operator ≡ f ∷ [] → flat_map (condition_atoms N slots) (formulas_of operator) ≡ condition_atoms N slots f
    one-condition operator is = ap (flat_map (condition_atoms N slots)) is ∙ append-nil (condition_atoms N slots f)

    one-stands : (atoms : List GroundAtom) (form : Form) → Stands N S atoms (condition_meaning N slots f) form → is_tidy form ≡ true
        → (operator : NumberedModal) (modal : GroundModal) → formulas_of operator ≡ f ∷ [] → formulas_of modal ≡ form ∷ [] → HasTruths N S atoms (numbered_modal_meaning N slots operator) modal → OperatorStands N S atoms (record { modal = operator; slots = slots }) modal
    one-stands atoms form stands tidy operator modal conditions forms truths = record {
      truths = truths;
      reads = λ passes allowed allows those.
          ap (list_all (has_atoms allowed)) forms ∙ and_from (has_atoms allowed form) true (stands.reads passes allowed allows (sym (ap (list_all passes) (one-condition operator conditions)) ∙ those)) refl;
      tidy = ap (list_all is_tidy) forms ∙ and_from (is_tidy form) true tidy refl;
    }

    pub stands-AtEnd : (atoms : List GroundAtom) (form : Form) → Stands N S atoms (condition_meaning N slots f) form → is_tidy form ≡ true → OperatorStands N S atoms (record { modal = modal.AtEnd f; slots = slots }) (modal.AtEnd form)
    stands-AtEnd atoms form stands tidy = one-stands atoms form stands tidy (modal.AtEnd f) (modal.AtEnd form) refl refl stands.truth

  module _ (slots : Slots) (f : NumberedCondition) (old new : Work) (form : Form) (makes : Makes N S old new (condition_meaning N slots f) form) where
    one_form : (operator : NumberedModal) (modal : GroundModal) → formulas_of operator ≡ f ∷ [] → formulas_of modal ≡ form ∷ [] → HasTruths N S new.atoms (numbered_modal_meaning N slots operator) modal → MakesOperator N S (record { modal = operator; slots = slots }) old new modal
    one_form operator modal conditions forms truths = record {
      grows = subst (λ atoms. Grows atoms old new) (sym (one-condition slots f operator conditions)) makes.grows;
      stands = one-stands slots f new.atoms form makes.stands makes.tidy operator modal conditions forms truths;
    }

    pub makes-unary : (kind : Unary) → MakesOperator N S (record { modal = unary kind f; slots = slots }) old new (unary kind form)
    makes-unary kind = one_form (unary kind f) (unary kind form) (formulas_unary kind f) (formulas_unary kind form)
        (subst (λ (meaning : ModalMeaning). HasTruths N S new.atoms meaning (unary kind form)) (sym (over_unary (test_at N slots) kind f)) (pairs_unary (HasTruth N S new.atoms) kind (test_at N slots f) form makes.stands.truth))

  module _ (slots : Slots) (f g : NumberedCondition) (old mid new : Work) (form other : Form) (first : Makes N S old mid (condition_meaning N slots f) form) (second : Makes N S mid new (condition_meaning N slots g) other) where
    two_forms : (operator : NumberedModal) (modal : GroundModal) → formulas_of operator ≡ f ∷ g ∷ [] → formulas_of modal ≡ form ∷ other ∷ [] → HasTruths N S new.atoms (numbered_modal_meaning N slots operator) modal → MakesOperator N S (record { modal = operator; slots = slots }) old new modal
    two_forms operator modal reads forms truths = record {
      grows = grows-trans all old mid new (grows-wider all (condition_atoms N slots f) old mid (λ passes those. (split passes those).0) first.grows) (grows-wider all (condition_atoms N slots g) mid new (λ passes those. (split passes those).1) second.grows);
      stands = record {
        truths = truths;
        reads = λ passes allowed allows those.
            let parts = split passes those in
            let before : Allows mid.atoms passes allowed = record { number = λ k atom here ok. allows.number k atom (second.grows.atoms.kept k atom here) ok } in
            ap (list_all (has_atoms allowed)) forms
            ∙ and_from (has_atoms allowed form) _ (first.stands.reads passes allowed before parts.0) (and_from (has_atoms allowed other) true (second.stands.reads passes allowed allows parts.1) refl);
        tidy = ap (list_all is_tidy) forms ∙ and_from (is_tidy form) _ first.tidy (and_from (is_tidy other) true second.tidy refl);
      };
    }
      where
        all : List GroundAtom
        all = flat_map (condition_atoms N slots) (formulas_of operator)

        is : all ≡ condition_atoms N slots f ++ condition_atoms N slots g
        is = ap (flat_map (condition_atoms N slots)) reads ∙ ap (λ rest. condition_atoms N slots f ++ rest) (append-nil (condition_atoms N slots g))

        split : (passes : GroundAtom → Bool) → list_all passes all ≡ true → (list_all passes (condition_atoms N slots f) ≡ true) × (list_all passes (condition_atoms N slots g) ≡ true)
        split passes those = and_parts (list_all passes (condition_atoms N slots f)) _ (sym (ap (list_all passes) is ∙ list_all-append passes (condition_atoms N slots f) (condition_atoms N slots g)) ∙ those)

    kept : HasTruth N S new.atoms (λ s. met N s slots f) form
    kept = (stands-grows N S mid.atoms new.atoms (condition_meaning N slots f) form second.grows.atoms first.stands).truth

    pub makes-binary : (kind : Binary) → MakesOperator N S (record { modal = binary kind f g; slots = slots }) old new (binary kind form other)
    makes-binary kind = two_forms (binary kind f g) (binary kind form other) (formulas_binary kind f g) (formulas_binary kind form other)
        (subst (λ (meaning : ModalMeaning). HasTruths N S new.atoms meaning (binary kind form other)) (sym (over_binary (test_at N slots) kind f g)) (pairs_binary (HasTruth N S new.atoms) kind (test_at N slots f) (test_at N slots g) form other kept second.stands.truth))

  -- ---- lists of operators

  operator-keeps : (old new : List GroundAtom) → Keeps old new → (meant : PlacedModal) (made : GroundModal) → OperatorStands N S old meant made → OperatorStands N S new meant made
  operator-keeps old new keeps meant made stands = record {
    truths = pairs_weaker (HasTruth N S old) (HasTruth N S new) truth-keeps (placed_modal_meaning N meant) made stands.truths;
    reads = λ passes allowed allows those. stands.reads passes allowed (record { number = λ k atom here ok. allows.number k atom (keeps.kept k atom here) ok }) those;
    tidy = stands.tidy;
  }
    where
      truth-keeps : (test : State → Bool) (form : Form) → HasTruth N S old test form → HasTruth N S new test form
      truth-keeps test form truth s b settled tells = truth s b settled (record { bit = λ k atom here. tells.bit k atom (keeps.kept k atom here) })

  pub operators-keep : (old new : List GroundAtom) → Keeps old new → (meant : List PlacedModal) (made : List GroundModal) → OperatorsStand N S old meant made → OperatorsStand N S new meant made
  operators-keep old new keeps meant made stand = zip-weaker (OperatorStands N S old) (OperatorStands N S new) (operator-keeps old new keeps) meant made stand

  pub pushes-operator : (old new : Work) (placed : PlacedModal) (before after : List GroundModal) (made : GroundModal) → MakesOperator N S placed old new made → after ≡ before ++ made ∷ [] → PushesOperators N S (placed ∷ []) old new before after
  pushes-operator old new placed before after made makes is =
      pushes-by (OperatorsStand N S) (operator_atoms N placed ++ []) (operator_atoms N placed) old new (placed ∷ []) (placed ∷ []) before after (append-nil (operator_atoms N placed)) refl (record {
        grows = makes.grows;
        made = λ those stand.
            subst (OperatorsStand N S new.atoms (those ++ placed ∷ [])) (sym is)
            (zip-push (OperatorStands N S new.atoms) those before placed made (operators-keep old.atoms new.atoms makes.grows.atoms those before stand) makes.stands);
      })

  -- ---- all operators of a constraint

  module _ (all : Bool) (slots : Slots) (old new : Work) (before after : List GroundModal) where
    by-operators : (tree : NumberedConstraint) (meant : List PlacedModal) (reads : List GroundAtom) → operators_of N all slots tree ≡ meant → flat_map (operator_atoms N) meant ≡ reads
        → Pushes (OperatorsStand N S) reads old new meant before after → PushesOperators N S (operators_of N all slots tree) old new before after
    by-operators tree meant reads is same pushes =
        pushes-by (OperatorsStand N S) (flat_map (operator_atoms N) (operators_of N all slots tree)) reads old new (operators_of N all slots tree) meant before after (ap (flat_map (operator_atoms N)) is ∙ same) is pushes

    pub operators-of-parts : (parts : List NumberedConstraint) → Pushes (OperatorsStand N S) (flat_map (λ part. flat_map (operator_atoms N) (operators_of N all slots part)) parts) old new (flat_map (operators_of N all slots) parts) before after
        → PushesOperators N S (operators_of N all slots (Both parts)) old new before after
    operators-of-parts parts pushes =
        by-operators (Both parts) (flat_map (operators_of N all slots) parts) (flat_map (λ part. flat_map (operator_atoms N) (operators_of N all slots part)) parts) (operators-Both N slots all parts) (flat-flat (operator_atoms N) (operators_of N all slots) parts) pushes

    pub operators-of-bodies : (ranges : List ℕ) (body : NumberedConstraint)
        → Pushes (OperatorsStand N S) (flat_map (λ inner. flat_map (operator_atoms N) (operators_of N all inner body)) (bound N slots ranges)) old new (flat_map (λ inner. operators_of N all inner body) (bound N slots ranges)) before after
        → PushesOperators N S (operators_of N all slots (Each ranges body)) old new before after
    operators-of-bodies ranges body pushes =
        by-operators (Each ranges body) (flat_map (λ inner. operators_of N all inner body) (bound N slots ranges)) (flat_map (λ inner. flat_map (operator_atoms N) (operators_of N all inner body)) (bound N slots ranges)) (operators-Each N slots all ranges body)
        (flat-flat (operator_atoms N) (λ inner. operators_of N all inner body) (bound N slots ranges)) pushes

    pub operators-of-one : (tree : NumberedConstraint) (meant : List PlacedModal) → operators_of N all slots tree ≡ meant → PushesOperators N S meant old new before after → PushesOperators N S (operators_of N all slots tree) old new before after
    operators-of-one tree meant is pushes = by-operators tree meant (flat_map (operator_atoms N) meant) is refl pushes
