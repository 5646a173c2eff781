use Rattle.std.proofs.Common.{◌∙◌, ap, map}
use Rattle.std.specs.List.{position_or_len}
use Rattle.std.specs.Cmp.Lexicographic.{nat_list_eq_equiv, lists_equiv}
use Rattle.indexmap.specs.IndexSet.{insert_key}
use Rattle.p3_task.specs.Names.{same_names}
use Rattle.p3_numbers.specs.Names.{with_list}
use Rattle.p3_numbers.proofs.NameLemmas.{insert-keys, place-keys, same-keys}
use Rattle.p3_numbers.proofs.type_lists.TypeLists.number_of.Goals as goal

pub returns-clause-lists : goal.returns-clause-lists
returns-clause-lists c =
    ap (map (λ key. map (λ word. word.now) key.items)) (c.in_ok-number.ensures.keys ∙ (λ i. insert_key (same-keys (λ word. word.now) (λ key. key.items) i) c.self.inside.keys.keys c.in_ok-words.words))
    ∙ insert-keys (λ key. map (λ word. word.now) key.items) same_names (lists_equiv nat_list_eq_equiv).symm c.self.inside.keys.keys c.in_ok-words.words
    ∙ (λ i. with_list (c.self.view_is i) (c.in_ok-words.ensures i))

pub returns-clause-number : goal.returns-clause-number
returns-clause-number c =
    c.in_ok-number.ensures.index ∙ (λ i. position_or_len (same-keys (λ word. word.now) (λ key. key.items) i c.in_ok-words.words) c.self.inside.keys.keys)
    ∙ place-keys (λ key. map (λ word. word.now) key.items) same_names (lists_equiv nat_list_eq_equiv).symm c.self.inside.keys.keys _
    ∙ (λ i. position_or_len (λ other. same_names other (c.in_ok-words.ensures i)) (c.self.view_is i))
