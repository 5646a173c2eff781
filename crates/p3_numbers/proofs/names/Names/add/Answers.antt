use Rattle.std.proofs.Common.{◌∙◌, ap, map}
use Rattle.std.specs.Prelude.{bytes_eq}
use Rattle.std.specs.Cmp.Lexicographic.{nat_list_eq_equiv}
use Rattle.std.specs.List.{position_or_len}
use Rattle.p3_task.specs.Names.{same_name}
use Rattle.p3_numbers.specs.Names.{with_name}
use Rattle.p3_numbers.proofs.NameLemmas.{adds-insert, insert-keys, place-keys}
use Rattle.p3_numbers.proofs.names.Names.add.Goals as goal

pub returns-clause-names : goal.returns-clause-names
returns-clause-names c =
    ap (map (λ key. key.items)) c.in_ok-number.ensures.keys ∙ insert-keys (λ key. key.items) bytes_eq nat_list_eq_equiv.symm c.self.inside.keys.keys c.in_ok-key.key
    ∙ (λ i. with_name (c.self.view_is i) ((c.in_ok-key.ensures.items ∙ c.bytes.ensures.bytes) i))

pub returns-clause-number : goal.returns-clause-number
returns-clause-number c =
    c.in_ok-number.ensures.index ∙ place-keys (λ key. key.items) bytes_eq nat_list_eq_equiv.symm c.self.inside.keys.keys c.in_ok-key.key.items
    ∙ (λ i. position_or_len (λ other. same_name other ((c.in_ok-key.ensures.items ∙ c.bytes.ensures.bytes) i)) (c.self.view_is i))

pub returns-clause-more : goal.returns-clause-more
returns-clause-more c = adds-insert _ _ _ (returns-clause-names c)
