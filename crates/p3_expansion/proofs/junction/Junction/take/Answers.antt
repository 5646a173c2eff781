use Rattle.std.proofs.Common.{◌∙◌, not, sym}
use Rattle.p3_expansion.specs.Expansions.{junction_form}
use Rattle.p3_expansion.proofs.FormParts.{value-is, part-fits, joined-neutral, joined-cut, joined-taken, sound-taken}
use Rattle.p3_expansion.proofs.junction.Junction.take.Goals as goal

pub returns-then-is_value-clause-joined : goal.returns-then-is_value-clause-joined
returns-then-is_value-clause-joined c = joined-neutral c.args.self.now.every (junction_form c.args.self.now) c.args.part (value-is c.args.part c.args.self.now.every (sym c.is_value.ensures ∙ c.if-is_value.true))

pub returns-then-is_value-2-clause-joined : goal.returns-then-is_value-2-clause-joined
returns-then-is_value-2-clause-joined c = joined-cut c.args.self.now.every (junction_form c.args.self.now) c.args.part (value-is c.args.part (not c.args.self.now.every) (sym c.is_value-2.ensures ∙ c.if-is_value-2.true))

pub returns-clause-sound : goal.returns-clause-sound
returns-clause-sound c =
    sound-taken c.args.self.now.parts c.push.new.self c.args.part c.in_ok-push.ensures.ok c.requires.sound
    (part-fits c.args.part c.args.self.now.every c.requires.tidy (sym c.is_value.ensures ∙ c.if-is_value.false) (sym c.is_value-2.ensures ∙ c.if-is_value-2.false))

pub returns-clause-joined : goal.returns-clause-joined
returns-clause-joined c = joined-taken c.args.self.now.every c.args.self.now.is_cut c.args.self.now.parts c.push.new.self c.args.part c.in_ok-push.ensures.ok
