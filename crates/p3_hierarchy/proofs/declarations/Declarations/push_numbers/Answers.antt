use Rattle.std.proofs.Common.{◌∙◌, ◌++◌, ap, sym}
use Rattle.std.proofs.lemmas.List.{append-nil}
use Rattle.p3_hierarchy.specs.Typings.{numbers_in}
use Rattle.p3_hierarchy.proofs.declarations.Declarations.push_numbers.Goals as goal

pub returns-in-None : goal.returns-in-None
returns-in-None c =
    let items = c.args.numbers.now.items in
    sym (append-nil items) ∙ ap (λ more. items ++ more) (ap numbers_in c.in-None.ensures.value ∙ c.args.self.now.filed c.args.kind)

pub returns-in_ok-extend_from_slice-in-Some : goal.returns-in_ok-extend_from_slice-in-Some
returns-in_ok-extend_from_slice-in-Some c =
    let items = c.args.numbers.now.items in
    c.in_ok-extend_from_slice-in-Some.ensures.items ∙ ap (λ more. items ++ more) (c.items.ensures ∙ ap numbers_in c.in-Some.ensures.value ∙ c.args.self.now.filed c.args.kind)
