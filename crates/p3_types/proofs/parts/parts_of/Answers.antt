use Rattle.std.proofs.Common.{sym, subst, arith}
use Rattle.p3_types.specs.Parts.{ArePartsOf}
use Rattle.p3_types.proofs.parts.parts_of.Goals as goal

pub returns : goal.returns
returns c =
    subst (ArePartsOf c.args.task.now) (sym c.joined.ensures) (record {
      numbered = c.requires.numbered;
      few = omega (arith, c.len.ensures, c.in_ok-_count.ensures);
      firsts = c.in_ok-first_steps.ensures;
      actions = c.in_ok-orders.ensures.actions;
      objects = c.in_ok-orders.ensures.objects;
      places = c.in_ok-costs.ensures.places;
      values = c.in_ok-costs.ensures.values;
    })
