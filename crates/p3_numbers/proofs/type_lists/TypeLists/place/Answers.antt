use Rattle.std.proofs.Common.{◌∙◌, map}
use Rattle.std.specs.Prelude.{position}
use Rattle.std.specs.Cmp.Lexicographic.{nat_list_eq_equiv, lists_equiv}
use Rattle.p3_task.specs.Names.{same_names}
use Rattle.p3_numbers.proofs.NameLemmas.{number-keys, same-keys}
use Rattle.p3_numbers.proofs.type_lists.TypeLists.place.Goals as goal

pub returns : goal.returns
returns c =
    c.get_index_of-number.ensures.index ∙ (λ i. position (same-keys (λ word. word.now) (λ key. key.items) i c.in_ok-words.words) c.self.inside.keys.keys)
    ∙ number-keys (λ key. map (λ word. word.now) key.items) same_names (lists_equiv nat_list_eq_equiv).symm c.self.inside.keys.keys _
    ∙ (λ i. position (λ other. same_names other (c.in_ok-words.ensures i)) (c.self.view_is i))
