use Rattle.std.proofs.Common.{◌∙◌, ◌++◌, length, refl, sym, ap, subst, le_refl, append_assoc}
use Rattle.std.proofs.lemmas.List.{take_all}
use Rattle.p3_endphase.specs.Ends.{Settles}
use Rattle.p3_compile.proofs.begun.BegunTarget.target.Goals as goal

pub push_settling-requires : goal.push_settling-requires
push_settling-requires c = c.requires.room

pub returns : goal.returns
returns c =
    let begun = c.args.self in
    let settling = c.in_ok-push_settling.ensures in
    let all = sym (take_all (length begun.instances) begun.instances (le_refl (length begun.instances))) in
    let actions = settling.are ∙ ap (λ list. list ++ settling.settling) c.in_ok-push_all.ensures ∙ append_assoc c.args.actions begun.begin settling.settling in
    record {
      ends = begun.begin ++ settling.settling;
      are = record { settling = settling.settling; settles = subst (λ list. Settles begun.frame.go 0 list settling.settling) all settling.settles; are = refl };
      is = λ i. record { predicates = begun.names; initial = begun.initial; actions = actions i; goal = begun.goal };
    }
