use Rattle.std.proofs.Common.{map}
use Rattle.std.specs.Prelude.{IsTrue}
use Rattle.std.specs.List.{list_all}
use Rattle.p3_base.specs.Words.{is_name}
use Rattle.p3_formula.specs.Targets.{is_sized_action}
use Rattle.p3_writer.specs.Texts.{AreSpelled}
use Rattle.p3_test_calls.proofs.written.alike.Given as goal

abbrev pub invariant-loop : goal.invariant-loop
invariant-loop l =
    IsTrue (list_all (is_sized_action 2) l.actions) × IsTrue (list_all is_name (map (λ action. action.name) l.actions)) × AreSpelled (map (λ action. action.name) l.actions)
