use Rattle.std.proofs.Common.{◌∙◌, []}
use Rattle.p3_task.specs.Uses.{FunctionUse}
use Rattle.p3_resolve.specs.Spots.{use_step}
use Rattle.p3_resolve.specs.Steps.{word_step}
use Rattle.p3_resolve.specs.Tables.{header_of}
use Rattle.p3_resolve.proofs.HeaderLemmas.{cost-step}
use Rattle.p3_resolve.proofs.atoms.total_cost_noted.Goals as goal

pub returns : goal.returns
returns c = λ scope.
    let T = c.args.tables.now.task.now in
    let header = header_of c.in_ok-looked.looked.declared in
    c.word_noted.ensures ∙ (λ i. word_step c.args.found header c.in_ok-word.word ((c.items.ensures ∙ c.new-none.ensures) i))
    ∙ cost-step T scope c.args.found c.in_ok-word.word header c.in_ok-looked.ensures.header
    ∙ (λ i. use_step T c.args.found (FunctionUse (c.in_ok-word.ensures i) [] scope))
