use Rattle.std.proofs.Common.{◌≡◌, ◌∙◌, ◌<◌, true, length, get_or, sym, subst, arith}
use Rattle.std.proofs.lemmas.List.{get_or_default}
use Rattle.std.specs.List.{list_all}
use Rattle.p3_reach.specs.Derived.{Follows, file_of}
use Rattle.p3_reach.specs.Rules.{is_rule_below}
use Rattle.p3_reach.proofs.DerivedLaws.{file_read, file_below, followed_more, followed_all}
use Rattle.p3_reach.proofs.model.least_model.Goals as goal

pub follow-requires-clause-within : goal.follow-requires-clause-within
follow-requires-clause-within c =
    let theory = c.args.theory.now in
    let files = c.in_ok-files.files.items in
    let at = c.loop-at.at in
    let found = c.loop-at.found in
    let within : at < length found.order = let test = c.loop-at-test.true in let same = c.len.ensures in omega (arith, test, same) in
    let file = c.items-in-loop-at-2.ensures ∙ file_read theory files at found c.items-in-loop-at.result.now c.index.result.now c.loop-at.invariant c.in_ok-files.ensures.size c.items-in-loop-at.ensures within c.index.ensures in
    subst (λ list. list_all (is_rule_below (length found.held)) list ≡ true) (sym file)
    (subst (λ count. list_all (is_rule_below count) (file_of files (get_or found.order at 0)) ≡ true) (sym c.loop-at.invariant.size)
    (file_below theory.rules files (length theory.facts) (get_or found.order at 0) c.in_ok-files.ensures.files theory.within))

pub loop-at-preserved : goal.loop-at-preserved
loop-at-preserved c =
    let theory = c.args.theory.now in
    let files = c.in_ok-files.files.items in
    let at = c.loop-at.at in
    let found = c.loop-at.found in
    let within : at < length found.order = let test = c.loop-at-test.true in let same = c.len.ensures in omega (arith, test, same) in
    let file = c.items-in-loop-at-2.ensures ∙ file_read theory files at found c.items-in-loop-at.result.now c.index.result.now c.loop-at.invariant c.in_ok-files.ensures.size c.items-in-loop-at.ensures within c.index.ensures in
    followed_more theory files c.in_ok-files.ensures.files at (get_or found.order at 0) found c.follow.new.found c.loop-at.invariant within (get_or_default found.order at 0 (get_or found.order at 0) within)
    (subst (λ list. Follows list found c.follow.new.found) file c.in_ok-follow.ensures)

pub returns-clause-model : goal.returns-clause-model
returns-clause-model c = followed_all c.args.theory.now c.loop-at.at c.loop-at.found (let test = c.loop-at-test.false in let same = c.len.ensures in omega (arith, test, same)) c.loop-at.invariant
