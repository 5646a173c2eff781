use Rattle.std.proofs.Common.{◌∙◌, ap, map}
use Rattle.std.specs.Prelude.{bytes_eq}
use Rattle.std.specs.Cmp.Lexicographic.{nat_list_eq_equiv}
use Rattle.p3_numbers.specs.Names.{with_name}
use Rattle.p3_numbers.proofs.NameLemmas.{insert-keys}
use Rattle.p3_hierarchy.proofs.words.Words.add.Goals as goal

pub returns : goal.returns
returns c =
    ap (map (λ key. key.now)) c.in_ok-insert_full.ensures.keys ∙ insert-keys (λ key. key.now) bytes_eq nat_list_eq_equiv.symm c.self.inside.keys.keys c.args.word
    ∙ ap (λ names. with_name names c.args.word.now) c.self.view_is
