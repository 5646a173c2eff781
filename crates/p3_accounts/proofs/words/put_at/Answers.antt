use Rattle.std.proofs.Common.{◌≡◌, ℕ, List, ◌++◌, ap, subst, sym}
use Rattle.std.specs.Prelude.{codes, flat_map, OnErr, OnOk}
use Rattle.std.proofs.lemmas.List.Folds.{flat_map-map}
use Rattle.p3_base.specs.Outside.{IsPartlyPut, IsPut}
use Rattle.p3_numbers.specs.Slots.{name_at, object_names}
use Rattle.p3_numbers.specs.declared.numbers.Numbers.{Numbers}
use Rattle.p3_task.specs.Names.{Name}
use Rattle.p3_accounts.specs.Words.{argument_text, words_text}
use Rattle.p3_accounts.proofs.words.put_at.Goals as goal

by_names : (N : Numbers) (head : Name) (objects : List ℕ)
    → codes "(" ++ head ++ flat_map (λ object. argument_text (name_at N.objects object)) objects ++ codes ")" ≡ words_text head (object_names N objects)
by_names N head objects = ap (λ args. codes "(" ++ head ++ args ++ codes ")") (sym (flat_map-map argument_text (name_at N.objects) objects))

pub returns-clause-ok : goal.returns-clause-ok
returns-clause-ok g c =
    subst (λ text. OnOk c.put_words.result (IsPut text (g.S.Sink.seen c.args.out.now).written (g.S.Sink.seen c.put_words.new.out).written))
    (by_names c.args.terms.now.numbers.now c.args.head.now c.args.objects.now) c.put_words.ensures.ok

pub returns-clause-partly : goal.returns-clause-partly
returns-clause-partly g c =
    subst (λ text. OnErr c.put_words.result (IsPartlyPut text (g.S.Sink.seen c.args.out.now).written (g.S.Sink.seen c.put_words.new.out).written))
    (by_names c.args.terms.now.numbers.now c.args.head.now c.args.objects.now) c.put_words.ensures.partly
