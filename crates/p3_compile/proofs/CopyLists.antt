-- The copies of a step and their actions: one more, and that they are tidy.
use Rattle.std.proofs.Common.{◌≡◌, ℕ, true, if◌then◌else◌, List, [], ◌∷◌, ◌++◌, map, refl, sym, ap, subst, arith}
use Rattle.std.specs.List.{All, list_all}
use Rattle.std.proofs.lemmas.List.Elements.{All-append, All-cons, All-head, All-nil, All-tail}
use Rattle.std.proofs.lemmas.Bool.{and_from}
use Rattle.std.proofs.lemmas.List.{map-append}
use Rattle.p3_formula.specs.Conditions.{is_tidy_action}
use Rattle.p3_formula.specs.Guards.{IsGuardedForm}
use Rattle.p3_formula.specs.Simplified.{joined, spread}
use Rattle.p3_formula.specs.Tidy.{is_tidy}
use Rattle.p3_formula.specs.declared.form.Change.{Change}
use Rattle.p3_formula.specs.declared.form.Form.TheVariants.{False, Atom}
use Rattle.p3_formula.specs.declared.target.TargetAction.{TargetAction}
use Rattle.p3_formula.proofs.GuardLaws.{guarded_form}
use Rattle.p3_precprefs.specs.declared.copies.StepCopy.{StepCopy}
use Rattle.p3_simulation.specs.Assembled.{IsCopyAction, AreCopyActions}
use Rattle.p3_compile.specs.Parts.{AreCopied, IsCopied, behind_atom, copied_action}
use Rattle.p3_compile.specs.Updated.{AreSimpler, HasSimpler, HasTidyConditions, IsSimpleCopy, MayHappen}
use Rattle.p3_compile.specs.declared.parts.TargetCopy.{TargetCopy}

module _ (go number : ℕ) (effects : List Change) where
  copies_more : (copies : List StepCopy) (actions : List TargetAction) (copy : StepCopy) (action : TargetAction) → AreCopyActions go number effects copies actions → IsCopyAction go number effects copy action → AreCopyActions go number effects (copies ++ copy ∷ []) (actions ++ action ∷ [])
  copies_more [] [] copy action are is = (is, tt)
  copies_more [] (other ∷ actions) copy action are is = absurd are
  copies_more (one ∷ copies) [] copy action are is = absurd are
  copies_more (one ∷ copies) (other ∷ actions) copy action are is = (are.0, copies_more copies actions copy action are.1 is)

  pub copies_tidy : (copies : List StepCopy) (actions : List TargetAction) → AreCopyActions go number effects copies actions → All (HasSimpler effects) actions → list_all is_tidy_action actions ≡ true
  copies_tidy [] [] are simpler = refl
  copies_tidy [] (other ∷ actions) are simpler = absurd are
  copies_tidy (copy ∷ copies) [] are simpler = absurd are
  copies_tidy (copy ∷ copies) (action ∷ actions) are simpler =
      and_from (is_tidy_action action) _
      (and_from (is_tidy action.pre) _ are.0.pre.tidy (All-head (HasSimpler effects) action actions simpler).tidy)
      (copies_tidy copies actions are.1 (All-tail (HasSimpler effects) action actions simpler))

  -- the actions so far, and one more
  simpler_more : (actions : List TargetAction) (action : TargetAction) → All (HasSimpler effects) actions → HasSimpler effects action → All (HasSimpler effects) (actions ++ action ∷ [])
  simpler_more actions action all one = All-append (HasSimpler effects) actions (action ∷ []) all (All-cons (HasSimpler effects) action [] one (All-nil (HasSimpler effects)))

-- ---- copies as they are in a target

guarded : (go : ℕ) (copy : StepCopy) → IsSimpleCopy copy → IsGuardedForm (go ∷ []) copy.pre (behind_atom go copy.pre)
guarded go copy simple =
    subst (IsGuardedForm (go ∷ []) copy.pre) (ap (λ b. if b then False else joined true (Atom go ∷ spread copy.pre)) simple.possible)
    (guarded_form (go ∷ []) copy.pre copy.pre (λ state. refl) simple.tidy (λ allowed h. h))

module _ (effects : List Change) where
  pub is_copied : (copy : StepCopy) (changes : List Change) → IsSimpleCopy copy → AreSimpler copy.pre effects changes → HasTidyConditions changes → All MayHappen changes
      → IsCopied effects copy (record { violated = copy.violated; pre = copy.pre; effects = changes; cost = copy.cost })
  is_copied copy changes simple simpler tidy possible = record {
    is = λ number go. record { named = refl; pre = guarded go copy simple; does = simpler.does; atoms = simpler.atoms; costs = refl };
    simpler = λ number go. record { tidy = tidy; possible = possible; fewer = simpler.fewer; conditional = simpler.conditional };
  }

  -- the copies so far, and one more
  pub copied_more : (copies : List StepCopy) (made : List TargetCopy) (copy : StepCopy) (one : TargetCopy) → AreCopied effects copies made → IsCopied effects copy one → AreCopied effects (copies ++ copy ∷ []) (made ++ one ∷ [])
  copied_more copies made copy one all own =
      let more = λ (number go : ℕ). sym (map-append (copied_action number go) made (one ∷ [])) in
      record {
        are = λ number go. subst (AreCopyActions go number effects (copies ++ copy ∷ [])) (more number go)
            (copies_more go number effects copies (map (copied_action number go) made) copy (copied_action number go one) (all.are number go) (own.is number go));
        simpler = λ number go. subst (All (HasSimpler effects)) (more number go)
            (simpler_more go number effects (map (copied_action number go) made) (copied_action number go one) (all.simpler number go) (own.simpler number go));
      }

-- what is said of all items is said of one amid them
pub all_amid : {A : Type 0} (P : A → Type 0) (front : List A) (x : A) (back : List A) → All P (front ++ x ∷ back) → P x
all_amid P [] x back all = all 0 x (omega arith)
all_amid P (y ∷ front) x back all = all_amid P front x back (All-tail P y (front ++ x ∷ back) all)
