use Rattle.std.proofs.Common.{◌≡◌, ◌∙◌, true, sym}
use Rattle.std.specs.List.{list_all}
use Rattle.p3_steps.specs.Links.{is_ready}
use Rattle.p3_steps.proofs.LinkLemmas.{tells-of-atom}
use Rattle.p3_steps.proofs.links.links_of_atom.Goals as goal

pub returns : goal.returns
returns c =
    let ready : list_all (is_ready c.args.count) c.args.args.now ≡ true = sym c.are_ready.ensures ∙ c.if-not-are_ready.false in
    tells-of-atom c.args.test.now.numbers.now c.args.test.now.statics.now c.args.count c.in-Some.place
    (record { predicate = c.args.predicate; args = c.args.args; key = c.key_place-key.result; files = c.in_ok-files.files }) ready c.in-Some.ensures c.key_place-key.ensures c.in_ok-files.ensures
