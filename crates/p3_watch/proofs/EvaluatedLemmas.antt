-- The lines of a valid plan, put one after another.
use Rattle.std.proofs.Common.{◌≡◌, ◌∙◌, ℕ, zero, suc, ◌+◌, List, [], ◌∷◌, ◌++◌, length, take, drop, sym, ap, subst, add-one, append_assoc, Option, Some, None}
use Rattle.std.proofs.lemmas.List.{append-nil, take-append-drop}
use Rattle.std.proofs.lemmas.List.Concat.{flat_map-append}
use Rattle.std.specs.Prelude.{codes, flat_map, pos, slice_get}
use Rattle.p3_base.specs.Outside.{IsPartlyPut, IsPut}
use Rattle.p3_task.specs.Costs.{cost_places}
use Rattle.p3_task.specs.Metrics.{cost}
use Rattle.p3_task.specs.Names.{Name}
use Rattle.p3_task.specs.Plans.{Plan}
use Rattle.p3_tree.specs.Reports.Lines.{entry, line}
use Rattle.p3_tree.specs.Reports.Plans.{evaluated_lines, fault_line, metric_line, steps_line}
use Rattle.p3_tree.specs.Reports.Watching.{judged_by, judged_lines}
use Rattle.p3_task.specs.Validity.{Fault, first_fault}
use Rattle.p3_task.specs.declared.task.Task.{Task}
use Rattle.p3_reports.specs.Contents.{IsMetric, IsQuantity}
use Rattle.p3_reports.specs.Parts.{quantity_text}
use Rattle.p3_reports.specs.declared.quantity.Quantity.{Quantity}
use Rattle.p3_reports.proofs.ContentsLaws.{quantity_is}
use Rattle.p3_reports.proofs.PutLemmas.{both_put, partly_first, partly_second}
use Rattle.p3_watch.specs.Violations.{violated_lines}

-- ---- the names

module _ (text : Name → List ℕ) where
  pub taken_more : (names : List Name) (k : ℕ) (name : Name) → slice_get names k ≡ Some name → flat_map text (take (suc k) names) ≡ flat_map text (take k names) ++ text name
  taken_more [] k name is = absurd (cc)
  taken_more (first ∷ names) zero name is = let same : first ≡ name = cc in append-nil (text first) ∙ ap text same
  taken_more (first ∷ names) (suc k) name is =
      ap (λ rest. text first ++ rest) (taken_more names k name is) ∙ sym (append_assoc (text first) (flat_map text (take k names)) (text name))

  all_taken : (names : List Name) (k : ℕ) → flat_map text names ≡ flat_map text (take k names) ++ flat_map text (drop k names)
  all_taken names k = ap (flat_map text) (sym (take-append-drop k names)) ∙ flat_map-append text (take k names) (drop k names)

  -- a first part of the text of the name at a place is put, behind those before it
  pub partly_at : (names : List Name) (k : ℕ) (name : Name) (old mid new : Option (List ℕ)) → slice_get names k ≡ Some name
      → IsPut (flat_map text (take k names)) old mid → IsPartlyPut (text name) mid new → IsPartlyPut (flat_map text names) old new
  partly_at names k name old mid new is before partly =
      subst (λ whole. IsPartlyPut whole old new) (ap (λ front. front ++ flat_map text (drop (suc k) names)) (sym (taken_more names k name is)) ∙ sym (all_taken names (suc k)))
      (partly_first (flat_map text (take k names) ++ text name) (flat_map text (drop (suc k) names)) old new
      (partly_second (flat_map text (take k names)) (text name) old mid new before partly))

  -- the text of the name at a place is put, too
  pub put_at : (names : List Name) (k : ℕ) (name : Name) (old mid new : Option (List ℕ)) → slice_get names k ≡ Some name
      → IsPut (flat_map text (take k names)) old mid → IsPut (text name) mid new → IsPut (flat_map text (take (k + 1) names)) old new
  put_at names k name old mid new is before now =
      subst (λ whole. IsPut whole old new) (sym (ap (λ n. flat_map text (take n names)) (add-one k) ∙ taken_more names k name is))
      (both_put (flat_map text (take k names)) (text name) old mid new before now)

-- ---- all lines

-- what is said of the plan before the names
abbrev pub before_names : ℕ → Quantity → List ℕ
before_names steps paid = line (codes "valid") ++ steps_line steps ++ entry (codes "cost") (quantity_text paid)

pub metric_is : (T : Task) (plan : Plan) (worth : Quantity) → IsMetric T plan worth → entry (codes "metric") (quantity_text worth) ≡ metric_line T plan
metric_is T plan worth is = λ i. entry (codes "metric") (quantity_is is i)

module _ (T : Task) (plan : Plan) (steps : ℕ) (paid : Quantity) (long : steps ≡ length plan) (costs : IsQuantity paid (cost_places T) (pos (cost T plan))) where
  lines_are : before_names steps paid ++ violated_lines T plan ++ metric_line T plan ≡ evaluated_lines T plan
  lines_are = λ i. line (codes "valid") ++ steps_line (long i) ++ entry (codes "cost") (quantity_is costs i) ++ violated_lines T plan ++ metric_line T plan

  module _ (old : Option (List ℕ)) where
    pub first_partly : (new : Option (List ℕ)) → IsPartlyPut (before_names steps paid) old new → IsPartlyPut (evaluated_lines T plan) old new
    first_partly new partly =
        subst (λ whole. IsPartlyPut whole old new) lines_are
        (partly_first (before_names steps paid ++ violated_lines T plan) (metric_line T plan) old new
        (partly_first (before_names steps paid) (violated_lines T plan) old new partly))

    module _ (mid : Option (List ℕ)) (first : IsPut (before_names steps paid) old mid) where
      pub names_partly : (new : Option (List ℕ)) → IsPartlyPut (violated_lines T plan) mid new → IsPartlyPut (evaluated_lines T plan) old new
      names_partly new partly =
          subst (λ whole. IsPartlyPut whole old new) lines_are
          (partly_first (before_names steps paid ++ violated_lines T plan) (metric_line T plan) old new
          (partly_second (before_names steps paid) (violated_lines T plan) old mid new first partly))

      module _ (late : Option (List ℕ)) (names : IsPut (violated_lines T plan) mid late) where
        both : IsPut (before_names steps paid ++ violated_lines T plan) old late
        both = both_put (before_names steps paid) (violated_lines T plan) old mid late first names

        pub metric_partly : (new : Option (List ℕ)) → IsPartlyPut (metric_line T plan) late new → IsPartlyPut (evaluated_lines T plan) old new
        metric_partly new partly =
            subst (λ whole. IsPartlyPut whole old new) lines_are
            (partly_second (before_names steps paid ++ violated_lines T plan) (metric_line T plan) old late new both partly)

        pub lines_put : (new : Option (List ℕ)) → IsPut (metric_line T plan) late new → IsPut (evaluated_lines T plan) old new
        lines_put new last =
            subst (λ whole. IsPut whole old new) lines_are
            (both_put (before_names steps paid ++ violated_lines T plan) (metric_line T plan) old late new both last)

-- ---- what is judged

pub judged_valid : (T : Task) (plan : Plan) → first_fault T plan ≡ None → evaluated_lines T plan ≡ judged_lines T plan
unfolding judged_lines
judged_valid T plan none = sym (ap (judged_by T plan) none)

pub judged_invalid : (T : Task) (plan : Plan) (fault : Fault) → first_fault T plan ≡ Some fault → fault_line fault ≡ judged_lines T plan
unfolding judged_lines
judged_invalid T plan fault is = sym (ap (judged_by T plan) is)
