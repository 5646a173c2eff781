use Rattle.std.proofs.Common.{◌∙◌, ◌-◌, ◌++◌, ◌∷◌, [], ap}
use Rattle.p3_simulation.specs.Naming.{numbered}
use Rattle.p3_compile.proofs.NumberedNames.{named_next}
use Rattle.p3_compile.proofs.names.push_numbered.Goals as goal

pub loop-preserved : goal.loop-preserved
loop-preserved c =
    c.in_ok-push.ensures.ok
    ∙ ap (λ name. c.loop.names ++ name ∷ []) (c.in_ok-numbered.ensures ∙ ap (λ count. numbered c.args.letter.now (count - c.args.before)) c.len.ensures)
    ∙ named_next c.args.letter.now c.args.names.now c.args.before c.loop.names c.loop.counter c.requires.before c.loop.invariant
