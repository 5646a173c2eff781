use Rattle.std.proofs.Common.{refl, ap, Some}
use Rattle.p3_task.specs.Tokens.{Open}
use Rattle.p3_places.proofs.WalkLemmas.{goes_on, stops}
use Rattle.p3_places.proofs.walk.FaultSearch.pass_open.Goals as goal

pub returns-then-not-branch : goal.returns-then-not-branch
returns-then-not-branch c = record {
  passes = stops c.args.role c.args.self.now (record { walk = c.open_list.new.self; found = Some c.fault_at.result }) (Open c.args.offset) c.in-None.is c.in_ok-open_list-in-None.field-0 c.in_ok-open_list-in-None.ensures c.if-not-branch.true (ap Some c.fault_at.ensures);
}

pub returns-else-not-branch : goal.returns-else-not-branch
returns-else-not-branch c = record {
  passes = goes_on c.args.role c.args.self.now (record { walk = c.open_list.new.self; found = c.args.self.now.found }) (Open c.args.offset) c.in-None.is c.in_ok-open_list-in-None.field-0 c.in_ok-open_list-in-None.ensures c.if-not-branch.false refl;
}
