use Rattle.std.proofs.Common.{◌≡◌, ◌∙◌, List, ap, sym, subst, map, false, arith}
use Rattle.std.specs.Str.{str_to_ascii_lowercase}
use Rattle.p3_task.specs.Names.{Name, has_name}
use Rattle.p3_numbers.specs.Slots.{name_at}
use Rattle.p3_types.specs.Finds.{IsRange, IsNarrowed}
use Rattle.p3_lexer.specs.StepWords.{words_left}
use Rattle.p3_types.proofs.FindLemmas.{none_among, too_few, stretch_none, stretch_more, stretch_end}
use Rattle.p3_types.proofs.WordLemmas.{none_left, one_left}
use Rattle.p3_types.proofs.words.choice_of_words.Goals as goal

pub returns-then-count-eq0 : goal.returns-then-count-eq0
returns-then-count-eq0 c = none_among c.args.numbers.now c.args.ranges.now (words_left c.args.lexer.now) (sym c.requires.count ∙ c.if-count-eq0.true)

pub returns-in_default : goal.returns-in_default
returns-in_default c =
    let words = words_left c.args.lexer.now in
    let few = none_left c.loop-place.place words (sym c.loop-place.invariant.words ∙ c.in_default.ensures.word) in
    too_few c.args.numbers.now c.args.ranges.now words (λ same. omega (arith, same, few, c.loop-place-test.true))

pub narrowed-requires-clause-range : goal.narrowed-requires-clause-range
narrowed-requires-clause-range c =
    subst (λ names. IsRange names c.objects_of-objects.result.now) (sym c.items.ensures)
    (subst (IsRange c.args.numbers.now.objects) (sym c.objects_of-objects.ensures) (c.requires.ranges c.loop-place.place 0 c.loop-place-test.true))

pub returns-in-None : goal.returns-in-None
returns-in-None c =
    let N = c.args.numbers.now in
    let words = words_left c.args.lexer.now in
    let objects = c.objects_of-objects.result.now in
    let word = str_to_ascii_lowercase c.in-Some.word.now in
    let here = one_left c.loop-place.place words word (words_left c.next_word.new.self) (sym c.loop-place.invariant.words ∙ c.in-Some.ensures.word) in
    let none : has_name (map (name_at N.objects) objects) word ≡ false = ap (λ names. has_name (map (name_at names) objects) word) (sym c.items.ensures) ∙ c.in-None.ensures in
    stretch_none N c.args.ranges.now words c.loop-place.place c.loop-place.stretch c.loop-place.stretch objects word c.loop-place-test.true here.within c.objects_of-objects.ensures here.is c.loop-place.invariant.stretch none

pub loop-place-preserved : goal.loop-place-preserved
loop-place-preserved c =
    let N = c.args.numbers.now in
    let words = words_left c.args.lexer.now in
    let objects = c.objects_of-objects.result.now in
    let stretch = c.loop-place.stretch in
    let inner = c.in-Some-narrowed.inner in
    let word = str_to_ascii_lowercase c.in-Some.word.now in
    let here = one_left c.loop-place.place words word (words_left c.next_word.new.self) (sym c.loop-place.invariant.words ∙ c.in-Some.ensures.word) in
    let narrow : IsNarrowed N.objects objects stretch word inner = subst (λ (names : List Name). IsNarrowed names objects stretch word inner) c.items.ensures c.in-Some-narrowed.ensures in
    record {
      stretch = stretch_more N c.args.ranges.now words c.loop-place.place stretch inner objects word c.loop-place-test.true here.within c.objects_of-objects.ensures here.is c.loop-place.invariant.stretch narrow;
      taken = omega (arith, here.within);
      words = sym here.others;
    }

pub returns-in-Some-next_word : goal.returns-in-Some-next_word
returns-in-Some-next_word c =
    let words = words_left c.args.lexer.now in
    let here = one_left c.loop-place.place words (str_to_ascii_lowercase c.in-Some-next_word.field-0.now) (words_left c.next_word-2.new.self) (sym c.loop-place.invariant.words ∙ c.in-Some-next_word.ensures.word) in
    too_few c.args.numbers.now c.args.ranges.now words (λ same. omega (arith, same, here.within, c.loop-place-test.false))

pub returns-in-None-next_word : goal.returns-in-None-next_word
returns-in-None-next_word c =
    let words = words_left c.args.lexer.now in
    let few = none_left c.loop-place.place words (sym c.loop-place.invariant.words ∙ c.in-None-next_word.ensures.word) in
    stretch_end c.args.numbers.now c.args.ranges.now words c.loop-place.place c.loop-place.stretch (omega (arith, c.loop-place-test.false)) (omega (arith, few, c.loop-place.invariant.taken, c.loop-place-test.false)) c.loop-place.invariant.stretch
