-- Where an operator of a group is in one state more, all that is known of the groups stays so.
use Rattle.std.proofs.Common.{◌≡◌, ◌∙◌, ℕ, ◌^◌, ◌<◌, ◌+◌, ◌≤◌, true, false, List, length, map, refl, sym, ap, subst, arith, length-set}
use Rattle.std.specs.Prelude.{◌⊎◌}
use Rattle.std.specs.List.{All}
use Rattle.std.proofs.lemmas.Bool.{cases_eq}
use Rattle.std.proofs.lemmas.List.{get_or-set_same, get_or-set_other, length-map}
use Rattle.std.proofs.lemmas.List.Elements.{All-set}
use mathlib.Core.Logic.{inl, inr}
use Rattle.p3_base.specs.Limits.{instance_limit}
use Rattle.p3_formula.specs.Forms.{State}
use Rattle.p3_formula.specs.Modals.{IsModalBelow}
use Rattle.p3_formula.specs.Weighted.{HasNameBelow}
use Rattle.p3_formula.specs.declared.modal.GroundSoft.{GroundSoft}
use Rattle.p3_formula.specs.declared.task.GroundTask.{GroundTask}
use Rattle.p3_run.specs.Groups.{Watch, is_met, modals_of, modals_at, modal_at, watch_at, later, renewed_at, IsReader, HasShape, CanRenew}
use Rattle.p3_run.specs.Tallies.{Counted, recounted, CanAdd}
use Rattle.p3_run.specs.declared.readers.OperatorReader.{OperatorReader}
use Rattle.p3_run.proofs.ReaderLaws.{modal_below}
use Rattle.p3_run.proofs.TallyLaws.{can_add, recount_law}

pub few_groups : (G : GroundTask) → length G.soft ≤ instance_limit → length (modals_of G) ≤ instance_limit + 1
few_groups G few = let l : length (map (λ (soft : GroundSoft). soft.parts) G.soft) ≡ length G.soft = simp length-map in omega (arith, l, few)

-- there is a stage for each operator still
pub shape_kept : (G : GroundTask) (state : State) (watches : List Watch) → HasShape G watches → (reader : OperatorReader) → IsReader G reader → HasShape G (renewed_at G state watches reader)
shape_kept G state watches shape reader is = record { groups = length-set watches reader.group then_is ∙ shape.groups; places = places } where
  then_is : Watch
  then_is = later (modal_at G reader) state watches reader

  places : (group : ℕ) → length (watch_at (renewed_at G state watches reader) group).stages ≡ length (modals_at G group)
  places group = by (cases_eq group reader.group) where
    by : (group ≡ reader.group) ⊎ (group ≡ reader.group → ⊥) → length (watch_at (renewed_at G state watches reader) group).stages ≡ length (modals_at G group)
    by (inl same) =
        ap (λ (g : ℕ). length (watch_at (renewed_at G state watches reader) g).stages) same
        ∙ ap (λ (w : Watch). length w.stages) (get_or-set_same watches reader.group (later (modal_at G reader) state watches reader) _ (let g = is.group in let s = shape.groups in omega (arith, g, s)))
        ∙ length-set (watch_at watches reader.group).stages reader.place _
        ∙ shape.places reader.group
        ∙ ap (λ (g : ℕ). length (modals_at G g)) (sym same)
    by (inr other) = ap (λ (w : Watch). length w.stages) (get_or-set_other watches reader.group group (later (modal_at G reader) state watches reader) _ other) ∙ shape.places group

module _ (G : GroundTask) (by_name : List ℕ) (state : State) (watches : List Watch) (tally : Counted) (can : CanRenew G by_name state watches tally) (reader : OperatorReader) (is : IsReader G reader) where
  abbrev watch : Watch
  watch = watch_at watches reader.group

  abbrev then_is : Watch
  then_is = later (modal_at G reader) state watches reader

  pub group_within : reader.group < length watches
  group_within = let g = is.group in let s = can.shape.groups in omega (arith, g, s)

  pub place_within : reader.place < length watch.stages
  place_within = let p = is.place in let s = can.shape.places reader.group in omega (arith, p, s)

  pub reader_below : IsModalBelow (length state) (modal_at G reader)
  reader_below = subst (λ count. IsModalBelow count (modal_at G reader)) (sym can.bits) (modal_below G can.below reader is)

  name_below : HasNameBelow (length by_name) watch.name
  name_below = can.named reader.group _ group_within

  few : length watches ≤ instance_limit + 1
  few = let f = few_groups G can.few in let s = can.shape.groups in omega (arith, f, s)

  pub add_fits : All (λ w. w < 2 ^ 64) by_name → is_met watch.stages ≡ true → is_met then_is.stages ≡ false → CanAdd by_name watch.name tally
  add_fits small was now = can_add by_name watches reader.group then_is group_within refl small tally few name_below can.counted was now

  pub renews : CanRenew G by_name state (renewed_at G state watches reader) (recounted by_name watch.name (is_met watch.stages) (is_met then_is.stages) tally)
  renews = record {
    below = can.below;
    bits = can.bits;
    few = can.few;
    named = All-set (λ (w : Watch). HasNameBelow (length by_name) w.name) watches reader.group then_is name_below can.named;
    shape = shape_kept G state watches can.shape reader is;
    counted = recount_law by_name watches reader.group then_is group_within refl tally name_below can.counted;
  }
