use Rattle.std.proofs.Common.{◌∙◌, ap, sym}
use Rattle.std.specs.Option.{option_map}
use Rattle.p3_cli.specs.Ending.{ending_of}
use Rattle.p3_why.specs.Asked.{asking_in, asking_of}
use Rattle.p3_why.proofs.EndingLemmas.{ends_so, usage}
use Rattle.p3_why.proofs.call.carried_through.Goals as goal

pub returns-in-Ok-clause-usage : goal.returns-in-Ok-clause-usage
returns-in-Ok-clause-usage g c =
    let asked = ap (option_map asking_in) (sym c.in-Some.is) ∙ c.asked.ensures in
    usage (asking_of c.args.words.now) (asking_in c.in-Some.asking) asked _ _ _ _ c.in-Ok.status c.in-Ok.ensures.ended

pub returns-in-Err-clause-ending : goal.returns-in-Err-clause-ending
returns-in-Err-clause-ending g c =
    let asked = ap (option_map asking_in) (sym c.in-Some.is) ∙ c.asked.ensures in
    ends_so (asking_of c.args.words.now) (asking_in c.in-Some.asking) asked (g.F.Files.seen c.args.files.now) (g.F.Files.seen c.answered.new.files) (g.S.Sink.seen c.args.out.now) (g.S.Sink.seen c.answered.new.out) (g.S.Sink.seen c.told.new.out)
    c.told.result (ap g.S.Sink.seen c.in-Err.ensures.unput) (ending_of c.in-Err.ending) c.in-Err.ensures.comes c.told.ensures
