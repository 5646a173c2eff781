use Rattle.std.proofs.Common.{◌≡◌, ◌∙◌, List, ap, sym, subst, get_or, arith}
use Rattle.std.specs.List.{All}
use Rattle.p3_numbers.specs.Slots.{range_at}
use Rattle.p3_numbers.specs.declared.task.NumberedAction.{NumberedAction}
use Rattle.p3_numbers.specs.Choices.{choice_count}
use Rattle.p3_types.specs.Finds.{are_among, IsRange, IsChoice}
use Rattle.p3_types.proofs.TableLemmas.{well_formed_from, numbered_from}
use Rattle.p3_types.proofs.StepTableLemmas.{first_below, count_between}
use Rattle.p3_types.proofs.NumberLemmas.{all_ranges, sum_small, number_in, no_number}
use Rattle.p3_types.proofs.checked.Checked.block.Goals as goal

pub overflow_sub-count : goal.overflow_sub-count
overflow_sub-count c =
    let S = c.args.self.now in
    first_below S.task S.numbered c.table-table.result.now (well_formed_from S.task S.well_formed) (numbered_from S.task S.numbered S.names S.numbering S.covers S.trees) (c.table-table.ensures.table ∙ S.firsts) c.requires.few c.args.place c.requires.within

pub returns : goal.returns
returns c =
    let S = c.args.self.now in
    let N = S.numbered.numbers in
    let item = c.index-items-place.result in
    let firsts = c.table-table.result.now in
    let well = well_formed_from S.task S.well_formed in
    let is = numbered_from S.task S.numbered S.names S.numbering S.covers S.trees in
    let table = c.table-table.ensures.table ∙ S.firsts in
    let at : item ≡ get_or S.numbered.actions c.args.place item = c.index-items-place.is ∙ ap (λ (all : List NumberedAction). get_or all c.args.place item) c.items.ensures in
    let ranges : c.items-ranges.result.now ≡ item.ranges = c.items-ranges.ensures in
    let count = count_between S.task S.numbered firsts well is table c.requires.few c.args.place item c.requires.within at in
    record {
      ranges = subst (λ all. All (λ range. IsRange N.objects (range_at N range)) all) (sym ranges) (all_ranges S.task S.numbered firsts well is table c.args.place item c.requires.within at);
      count = count ∙ ap (choice_count N) (sym ranges);
      small = λ number below. sum_small S.task S.numbered firsts well is table c.args.place item c.requires.within at c.requires.few number (omega (arith, count, below));
      number = λ args number choice.
          number_in S.task S.numbered firsts well is table c.args.place item c.requires.within at c.requires.few args number (subst (λ all. IsChoice N all args number) ranges choice);
      none = λ args none.
          no_number S.task S.numbered firsts well is table c.args.place item c.requires.within at args (ap (λ all. are_among N all args) (sym ranges) ∙ none);
    }
