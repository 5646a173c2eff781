use Rattle.std.proofs.Common.{◌∙◌, ap}
use Rattle.std.specs.Prelude.{bytes_eq}
use Rattle.std.specs.Cmp.Lexicographic.{nat_list_eq_equiv}
use Rattle.p3_task.specs.Names.{has_name}
use Rattle.p3_numbers.proofs.NameLemmas.{has-keys}
use Rattle.p3_numbers.proofs.names.Names.has.Goals as goal

pub returns : goal.returns
returns c = c.contains.ensures ∙ has-keys (λ key. key.items) bytes_eq nat_list_eq_equiv.symm c.self.inside.keys.keys c.args.name.now ∙ ap (λ names. has_name names c.args.name.now) c.self.view_is
