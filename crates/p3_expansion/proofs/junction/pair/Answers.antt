use Rattle.std.proofs.Common.{◌∙◌, sym, ap, subst}
use Rattle.p3_formula.specs.Tidy.{is_tidy}
use Rattle.p3_expansion.specs.Expansions.{IsJoined}
use Rattle.p3_expansion.proofs.FormParts.{value-is, joined-begins, joined-pair, junction-tidy}
use Rattle.p3_expansion.proofs.junction.pair.Goals as goal

pub returns-then-is_value-clause-joined : goal.returns-then-is_value-clause-joined
returns-then-is_value-clause-joined c = joined-begins c.args.every c.args.first c.args.second (value-is c.args.first c.args.every (sym c.is_value.ensures ∙ c.if-is_value.true))

pub returns-clause-joined : goal.returns-clause-joined
returns-clause-joined c =
    subst (IsJoined c.args.every c.args.first c.args.second) (sym c.finish.ensures)
    (joined-pair c.args.every c.in_ok-gathered.gathered c.take.new.self c.take-2.new.self c.args.first c.args.second c.in_ok-gathered.ensures.every c.in_ok-gathered.ensures.parts c.in_ok-gathered.ensures.cut c.in_ok-take.ensures.every c.in_ok-take.ensures.joined c.in_ok-take-2.ensures.joined)

pub returns-clause-tidy : goal.returns-clause-tidy
returns-clause-tidy c = ap is_tidy c.finish.ensures ∙ junction-tidy c.take-2.new.self c.in_ok-take-2.ensures.sound
