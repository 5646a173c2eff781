use Rattle.std.proofs.Common.{refl, ap, Some}
use Rattle.p3_task.specs.Tokens.{Close}
use Rattle.p3_places.proofs.WalkLemmas.{goes_on, stops}
use Rattle.p3_places.proofs.walk.FaultSearch.pass_close.Goals as goal

pub returns-then-not-close_list : goal.returns-then-not-close_list
returns-then-not-close_list c = record {
  passes = stops c.args.role c.args.self.now (record { walk = c.close_list.new.self; found = Some c.fault_at.result }) (Close c.args.offset) c.in-None.is c.close_list.result c.close_list.ensures c.if-not-close_list.true (ap Some c.fault_at.ensures);
}

pub returns-else-not-close_list : goal.returns-else-not-close_list
returns-else-not-close_list c = record {
  passes = goes_on c.args.role c.args.self.now (record { walk = c.close_list.new.self; found = c.args.self.now.found }) (Close c.args.offset) c.in-None.is c.close_list.result c.close_list.ensures c.if-not-close_list.false refl;
}
