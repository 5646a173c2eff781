-- A ground task that is put together of what was expanded stands for its task.
use Rattle.std.proofs.Common.{◌≡◌, ◌∙◌, ◌&&◌, true, List, [], ◌∷◌, length, sym, ap, subst, refl}
use Rattle.std.specs.List.{All, AllZip, list_all}
use Rattle.std.proofs.lemmas.Bool.{and_from}
use Rattle.std.proofs.lemmas.List.{length-map}
use Rattle.std.proofs.lemmas.List.Elements.{All-head, All-tail, All-weaker}
use Rattle.p3_task.specs.States.{start, has_fact}
use Rattle.p3_task.specs.declared.task.Task.{Task}
use Rattle.p3_task.proofs.OnceLemmas.{in_map}
use Rattle.p3_formula.specs.Conditions.{HasAtomsBelow, is_step_below}
use Rattle.p3_formula.specs.Forms.{is_below}
use Rattle.p3_formula.specs.Modals.{is_modal_below}
use Rattle.p3_formula.specs.Targets.{is_sized_change}
use Rattle.p3_formula.specs.declared.modal.GroundPref.{GroundPref}
use Rattle.p3_formula.specs.declared.modal.GroundSoft.{GroundSoft}
use Rattle.p3_formula.specs.declared.task.GroundStep.{GroundStep}
use Rattle.p3_formula.specs.declared.task.GroundTask.{GroundTask}
use Rattle.p3_numbers.specs.Goals.{preferences}
use Rattle.p3_numbers.specs.Tasks.{numbered_action}
use Rattle.p3_numbers.specs.declared.task.NumberedTask.{NumberedTask}
use Rattle.p3_expansion.specs.Atoms.{GroundAtom, fact_of}
use Rattle.p3_expansion.specs.Changes.{always, guarded_literals}
use Rattle.p3_expansion.specs.Hard.{hard_meaning}
use Rattle.p3_expansion.specs.Operators.{HasTruths}
use Rattle.p3_expansion.specs.Statics.{start_bits}
use Rattle.p3_expansion.specs.TaskConstraints.{task_operators, task_instances, HasInstance}
use Rattle.p3_expansion.specs.declared.statics.Statics.{Statics}
use Rattle.p3_expansion.proofs.BoundLemmas.{are-bounded}
use Rattle.p3_expansion.proofs.StaticLemmas.{start-told}
use Rattle.p3_expansion.proofs.TaskLemmas.{operators-named, instances-named, have-truths, have-instances}
use Rattle.p3_ground.specs.Expanded.{facts_of, AreExpanded, IsKept, IsPutTogether, StandsWithLittle, OfExpanded, WhatIsPutTogetherStands}
use Rattle.p3_ground.specs.Sparse.{AtItsStep, HasFewChanges}
use Rattle.p3_ground.specs.StandsFor.{Matched, StepStands, StandsBy}
use Rattle.p3_ground.proofs.ExpandedLaws.{facts-are-different, hard-constraints-stand, soft-constraints-stand, the-goal-stands, steps-stand, steps-are-few}
use Rattle.p3_ground.proofs.OwnAtoms.{hard-atoms-are-own, soft-atoms-are-own}

module _ (T : Task) (X : NumberedTask) (S : Statics) (atoms : List GroundAtom) (expanded : AreExpanded T X S atoms) where
  start-matched : Matched (facts_of X.numbers atoms) (start T) (start_bits S atoms)
  start-matched =
      let told = start-told T X S expanded.well expanded.numbered expanded.statics atoms expanded.named in
      record {
        count = length-map atoms _ ∙ sym (length-map atoms (fact_of X.numbers));
        atom = λ place fact here.
            let (atom, at, says) = in_map (fact_of X.numbers) atoms place fact here in
            told.bit place atom at ∙ ap (has_fact (start T)) says;
      }

  module _ (G : GroundTask) (is : IsPutTogether T X S atoms G) where
    step-below : (made : GroundStep) → IsKept T X S atoms made → is_step_below (length atoms) made ≡ true
    step-below made kept =
        let bounded = are-bounded X.numbers S atoms in
        let action = numbered_action X.numbers kept.action in
        and_from (is_below (length atoms) made.pre && list_all (λ (pref : GroundPref). is_below (length atoms) pref.body) made.prefs) (list_all (is_sized_change (length atoms)) made.effects)
        (and_from (is_below (length atoms) made.pre) _ (bounded.form (hard_meaning X.numbers kept.slots action.pre) made.pre kept.is.pre) (bounded.prefs (preferences X.numbers kept.slots action.pre) made.prefs kept.is.prefs))
        (bounded.changes (guarded_literals X.numbers always true kept.slots action.effect) made.effects kept.is.effects)

    steps-below : (made : List GroundStep) → All (IsKept T X S atoms) made → list_all (is_step_below (length atoms)) made ≡ true
    steps-below [] all = refl
    steps-below (step ∷ made) all = and_from (is_step_below (length atoms) step) _ (step-below step (All-head (IsKept T X S atoms) step made all)) (steps-below made (All-tail (IsKept T X S atoms) step made all))

    below : HasAtomsBelow G
    below =
        let bounded = are-bounded X.numbers S atoms in
        record {
          steps = ap (λ count. list_all (is_step_below count) G.steps) is.count ∙ steps-below G.steps is.kept;
          goal = ap (λ count. is_below count G.goal) is.count ∙ bounded.form (hard_meaning X.numbers [] X.goal) G.goal is.goal;
          hard = ap (λ count. list_all (is_modal_below count) G.hard) is.count ∙ bounded.operators (task_operators X) G.hard is.hard;
          soft = ap (λ count. list_all (λ (soft : GroundSoft). list_all (is_modal_below count) soft.parts) G.soft) is.count ∙ bounded.instances (task_instances X) G.soft is.soft;
        }

    stands : StandsBy T (facts_of X.numbers atoms) G
    stands = record {
      count = is.count ∙ sym (length-map atoms (fact_of X.numbers));
      different = facts-are-different T X S atoms expanded;
      below = below;
      initial = subst (Matched (facts_of X.numbers atoms) (start T)) (sym is.initial) start-matched;
      initial_cost = is.initial_cost;
      step_count = is.step_count;
      rising = is.rising;
      kept =
          All-weaker (IsKept T X S atoms) (StepStands T (facts_of X.numbers atoms)) (λ made kept. record { step = kept.step; number = kept.number; is = steps-stand T X S atoms expanded kept.action kept.slots kept.step made kept.at kept.is })
          G.steps is.kept;
      goal = the-goal-stands T X S atoms expanded G.goal is.goal;
      hard =
          hard-constraints-stand T X S atoms expanded G.hard
          (subst (λ meant. AllZip (HasTruths X.numbers S atoms) meant G.hard) (operators-named T X expanded.well expanded.numbered) (have-truths X.numbers S atoms (task_operators X) G.hard is.hard));
      soft =
          soft-constraints-stand T X S atoms expanded G.soft
          (subst (λ meant. AllZip (HasInstance X.numbers S atoms) meant G.soft) (instances-named T X expanded.well expanded.numbered) (have-instances X.numbers S atoms (task_instances X) G.soft is.soft));
      name_count = is.names ∙ ap length expanded.numbered.names.preferences;
    }

    stands-with-little : StandsWithLittle T (facts_of X.numbers atoms) G
    stands-with-little = record {
      stands = stands;
      changes =
          All-weaker (IsKept T X S atoms) (AtItsStep T (λ step made. HasFewChanges T (facts_of X.numbers atoms) step made.effects))
          (λ made kept. record { step = kept.step; number = kept.number; says = steps-are-few T X S atoms expanded kept.action kept.slots kept.step made kept.at kept.is }) G.steps is.kept;
      constraints = record { hard = hard-atoms-are-own T X S atoms expanded G.hard is.hard; soft = soft-atoms-are-own T X S atoms expanded G.soft is.soft };
    }

pub what-is-put-together-stands : OfExpanded WhatIsPutTogetherStands
what-is-put-together-stands = stands-with-little
