use Rattle.std.proofs.Common.{◌∙◌, ap}
use Rattle.std.specs.Prelude.{position}
use Rattle.std.specs.Cmp.Lexicographic.{nat_list_eq_equiv}
use Rattle.std.specs.Prelude.{bytes_eq}
use Rattle.p3_task.specs.Names.{same_name}
use Rattle.p3_numbers.proofs.NameLemmas.{number-keys}
use Rattle.p3_hierarchy.proofs.PlaceLemmas.{place-none, place-some}
use Rattle.p3_hierarchy.proofs.words.Words.place.Goals as goal

pub returns-in-None : goal.returns-in-None
returns-in-None c =
    c.len.ensures ∙ place-none (λ other. same_name other c.args.word.now) c.args.self.now
    (c.in-None.ensures.index ∙ number-keys (λ key. key.now) bytes_eq nat_list_eq_equiv.symm c.self.inside.keys.keys c.args.word.now
    ∙ ap (position (λ other. same_name other c.args.word.now)) c.self.view_is)

pub returns-in-Some : goal.returns-in-Some
returns-in-Some c =
    place-some (λ other. same_name other c.args.word.now) c.args.self.now c.in-Some.place
    (c.in-Some.ensures.index ∙ number-keys (λ key. key.now) bytes_eq nat_list_eq_equiv.symm c.self.inside.keys.keys c.args.word.now
    ∙ ap (position (λ other. same_name other c.args.word.now)) c.self.view_is)
