use Rattle.std.proofs.Common.{◌≡◌, ◌++◌, take}
use Rattle.std.specs.Prelude.{flat_map, IsTrue}
use Rattle.std.specs.List.{list_all}
use Rattle.p3_writer.specs.Layout as layout
use Rattle.p3_writer.proofs.layout.push_actions.Given as goal

-- the actions passed stand written, and their costs are machine numbers
abbrev pub invariant-loop-action : goal.invariant-loop-action
invariant-loop-action l = record {
  written : l.out.items ≡ l.fn.out.items ++ flat_map (layout.action_text l.atoms) (take l.action-index l.actions);
  small : IsTrue (list_all layout.is_small (take l.action-index l.actions));
}
