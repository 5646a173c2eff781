use Rattle.std.proofs.Common.{◌∙◌}
use Rattle.std.specs.Prelude.{bytes_eq, position}
use Rattle.std.specs.Cmp.Lexicographic.{nat_list_eq_equiv}
use Rattle.p3_task.specs.Names.{same_name}
use Rattle.p3_numbers.proofs.NameLemmas.{number-keys}
use Rattle.p3_numbers.proofs.names.Names.number_of.Goals as goal

pub returns : goal.returns
returns c =
    c.get_index_of.ensures.index ∙ number-keys (λ key. key.items) bytes_eq nat_list_eq_equiv.symm c.self.inside.keys.keys c.bytes.result.now
    ∙ (λ i. position (λ other. same_name other (c.bytes.ensures.bytes i)) (c.self.view_is i))
