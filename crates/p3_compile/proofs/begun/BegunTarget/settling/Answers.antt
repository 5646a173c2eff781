use Rattle.std.proofs.Common.{◌∙◌, [], ◌∷◌, ap, subst, get_or, arith}
use Rattle.std.specs.Prelude.{IfOk}
use Rattle.p3_endphase.specs.Ends.{Settles}
use Rattle.p3_compile.proofs.EndActions.{same_at}
use Rattle.p3_compile.proofs.begun.BegunTarget.settling.Goals as goal

pub settling-requires : goal.settling-requires
settling-requires c = let within = c.requires.within in let room = c.requires.room.room in omega (arith, within, room)

pub returns : goal.returns
returns c = λ instance.
    let begun = c.args.self.now in
    let number = c.args.number in
    let one = c.index-items-number.result in
    subst (λ one. IfOk c.settling.result (Settles begun.frame.go number (one ∷ [])))
    (c.index-items-number.is ∙ ap (λ list. get_or list number one) c.items.ensures ∙ same_at begun.instances number one instance c.requires.within)
    c.settling.ensures
