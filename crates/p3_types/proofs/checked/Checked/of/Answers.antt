use Prim.{∣◌∣₁}
use Rattle.p3_types.proofs.TableLemmas.{well_formed_test, trees_from}
use Rattle.p3_types.proofs.ShortTasks.{short_numbers}
use Rattle.p3_types.proofs.checked.Checked.of.Goals as goal

pub invariant_of-result : goal.invariant_of-result
invariant_of-result c = record {
  well_formed = well_formed_test c.args.task c.requires.well_formed;
  texts = ∣ c.requires.texts ∣₁;
  short = short_numbers c.args.side c.args.task c.requires.texts;
  names = c.requires.parts.numbered.names;
  numbering = c.requires.parts.numbered.numbering;
  covers = c.requires.parts.numbered.covers;
  trees = trees_from c.args.task c.args.parts.numbered c.requires.parts.numbered;
  few = c.requires.parts.few;
  firsts = c.requires.parts.firsts;
  action_order = c.requires.parts.actions;
  object_order = c.requires.parts.objects;
  places = c.requires.parts.places;
  values = c.requires.parts.values;
}
