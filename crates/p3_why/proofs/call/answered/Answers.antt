use Rattle.std.proofs.Common.{◌∙◌, ap}
use Rattle.p3_cli.specs.Asked.{asked_inputs}
use Rattle.p3_cli.specs.Texts.{all_texts}
use Rattle.p3_cli.proofs.ResultLemmas.{if_ok}
use Rattle.p3_why.specs.Asked.{asking_in}
use Rattle.p3_why.specs.declared.question.Question.TheVariants.{Plan}
use Rattle.p3_why.proofs.EndingLemmas.{answers, names}
use Rattle.p3_why.proofs.call.answered.Goals as goal

pub returns-in-Plan-clause-ended : goal.returns-in-Plan-clause-ended
returns-in-Plan-clause-ended g c =
    let same = ap asked_inputs c.as_slice.ensures.value ∙ c.in_ok-inputs.ensures in
    if_ok c.tell_plan.result
    (λ status told. answers (asking_in c.args.asking.now) _ same (g.F.Files.seen c.args.files.now) (g.F.Files.seen c.read_all.new.files) (all_texts c.in-Ok.texts) c.in-Ok.ensures.ok Plan c.in-Plan.is (g.S.Sink.seen c.args.out.now) (g.S.Sink.seen c.tell_plan.new.out) status told)
    c.tell_plan.ensures.told

pub returns-clause-ended : goal.returns-clause-ended
returns-clause-ended g c =
    let same = ap asked_inputs c.as_slice.ensures.value ∙ c.in_ok-inputs.ensures in
    if_ok c.tell_names.result
    (λ status told. names (asking_in c.args.asking.now) _ same (g.F.Files.seen c.args.files.now) (g.F.Files.seen c.read_all.new.files) (all_texts c.in-Ok.texts) c.in-Ok.ensures.ok c.in-Names.is (g.S.Sink.seen c.args.out.now) (g.S.Sink.seen c.tell_names.new.out) status told)
    c.tell_names.ensures.told
