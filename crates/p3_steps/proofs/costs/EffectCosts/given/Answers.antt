use Rattle.std.proofs.Common.{◌∙◌}
use Rattle.p3_steps.specs.Costs.{entry_at}
use Rattle.p3_steps.proofs.costs.EffectCosts.given.Goals as goal

pub returns : goal.returns
unfolding entry_at
returns c = c.copied.ensures ∙ c.get.ensures.value ∙ c.args.self.now.told c.args.function c.args.objects.now
