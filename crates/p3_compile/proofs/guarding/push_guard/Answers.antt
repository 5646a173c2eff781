use Rattle.p3_compile.proofs.GuardLists.{guarded, left_out}
use Rattle.p3_compile.proofs.guarding.push_guard.Goals as goal

pub returns-then-is_true-clause-pushed : goal.returns-then-is_true-clause-pushed
returns-then-is_true-clause-pushed c = left_out c.args.regressed.now.effects c.args.monitor.now c.args.guards.now.items

pub returns-clause-pushed : goal.returns-clause-pushed
returns-clause-pushed c = guarded c.args.regressed.now.effects c.args.monitor.now c.args.guards.now.items c.push.new.self.items c.in_ok-guard.guard c.in_ok-push.ensures.items c.in_ok-guard.ensures.guards c.in_ok-guard.ensures.free c.in_ok-guard.ensures.atoms
