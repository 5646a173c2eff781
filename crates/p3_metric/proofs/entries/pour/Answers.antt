use Rattle.std.proofs.Common.{rules, arith, ◌≡◌, ◌∙◌, ap, sym, subst, ◌^◌, ◌<◌, ◌+ℤ◌, ◌*ℤ◌, ⊎_elim, to_z, of_z}
use Rattle.std.specs.Int.RustNames.{unsigned_abs}
use Rattle.std.proofs.lemmas.Int.{to_z-of_z}
use mir.Syntax.{w128}
use mir.Val.{SFits}
use Rattle.p3_task.specs.Names.{Name}
use Rattle.p3_task.specs.Refusals.Metric.{is_within}
use Rattle.p3_task.specs.Sides.{weight_bound}
use Rattle.p3_metric.specs.Entries.{changed, number_at, poured}
use Rattle.p3_metric.proofs.EntryLemmas.{pour_step, rest_below, next_within, poured_below, poured_whole, both_true, one_false}
use Rattle.p3_metric.proofs.entries.pour.Goals as goal

pub add-requires : goal.add-requires
add-requires c =
    let E = number_at c.loop-entry.entries in
    let P = number_at c.loop-entry.part in
    let k = c.in-Some.entry.name.now in
    let F = to_z w128 (of_z w128 c.args.factor) in
    let same : F ≡ c.args.factor = to_z-of_z w128 c.args.factor c.ranges.factor in
    let number : SFits w128 c.in-Some.entry.number = search rules in
    let product : SFits w128 c.times.result = search rules in
    let value : to_z w128 (of_z w128 c.times.result) ≡ F *ℤ P k = to_z-of_z w128 c.times.result product ∙ c.times.ensures ∙ ap (λ x. F *ℤ x) (to_z-of_z w128 c.in-Some.entry.number number ∙ c.in-Some.ensures.own) in
    let sum : E k +ℤ to_z w128 (of_z w128 c.times.result) ≡ poured (number_at c.args.entries.now) c.args.factor (number_at c.args.part) k =
    ap (λ x. E k +ℤ x) value ∙ c.loop-entry.invariant.sums k ∙ ap (λ f. poured (number_at c.args.entries.now) f (number_at c.args.part) k) same in
    record { fits = subst (λ z. unsigned_abs z < 2 ^ 127) (sym sum) (poured_below (number_at c.args.entries.now k) (c.args.factor *ℤ number_at c.args.part k) (c.requires.entries k) (c.requires.part k)) }

pub loop-entry-preserved : goal.loop-entry-preserved
loop-entry-preserved c =
    let E = number_at c.loop-entry.entries in
    let P = number_at c.loop-entry.part in
    let k = c.in-Some.entry.name.now in
    let F = to_z w128 (of_z w128 c.args.factor) in
    let N = to_z w128 (of_z w128 c.in-Some.entry.number) in
    let fits : SFits w128 c.in-Some.entry.number = search rules in
    let product : SFits w128 c.times.result = search rules in
    let own : N ≡ P k = to_z-of_z w128 c.in-Some.entry.number fits ∙ c.in-Some.ensures.own in
    let value : to_z w128 (of_z w128 c.times.result) ≡ F *ℤ N = to_z-of_z w128 c.times.result product ∙ c.times.ensures in
    let next : (n : Name) → number_at c.add.new.entries n ≡ changed E k (E k +ℤ F *ℤ N) n = λ n. c.in_ok-within.ensures.sum n ∙ ap (λ x. changed E k (E k +ℤ x) n) value in
    let one : c.in_ok-within.field-0 ≡ is_within weight_bound (E k +ℤ F *ℤ N) = c.in_ok-within.ensures.within ∙ ap (λ x. is_within weight_bound (E k +ℤ x)) value in
    record {
      sums = λ n. (λ i. next n i +ℤ F *ℤ c.in-Some.ensures.rest n i) ∙ pour_step E P F N k own n ∙ c.loop-entry.invariant.sums n;
      part = λ n. subst (λ z. unsigned_abs (F *ℤ z) < 2 ^ 126) (sym (c.in-Some.ensures.rest n)) (rest_below E P F N k own (2 ^ 126) (omega arith) c.loop-entry.invariant.part n);
      within = λ w all n.
          let parts = both_true c.loop-entry.within c.in_ok-within.field-0 w in
          ap (is_within weight_bound) (next n) ∙ next_within E P F N k own (sym one ∙ parts.1) (c.loop-entry.invariant.within parts.0 all) n;
      large = λ e. ⊎_elim (λ a. c.loop-entry.invariant.large a)
          (λ b. (k, ap (is_within weight_bound) (sym (c.loop-entry.invariant.sums k) ∙ ap (λ x. E k +ℤ F *ℤ x) (sym own)) ∙ sym one ∙ b))
          (one_false c.loop-entry.within c.in_ok-within.field-0 e);
    }

pub returns-clause-sums : goal.returns-clause-sums
returns-clause-sums c = λ n.
    let F = to_z w128 (of_z w128 c.args.factor) in
    poured_whole (number_at c.loop-entry.entries n) F (number_at c.loop-entry.part n) (c.in_default.ensures.none n)
    ∙ c.loop-entry.invariant.sums n
    ∙ ap (λ f. poured (number_at c.args.entries.now) f (number_at c.args.part) n) (to_z-of_z w128 c.args.factor c.ranges.factor)

pub returns-clause-large : goal.returns-clause-large
returns-clause-large c = λ e.
    let F = to_z w128 (of_z w128 c.args.factor) in
    let (n, large) = c.loop-entry.invariant.large e in
    (n, ap (is_within weight_bound) (poured_whole (number_at c.loop-entry.entries n) F (number_at c.loop-entry.part n) (c.in_default.ensures.none n) ∙ c.loop-entry.invariant.sums n) ∙ large)
