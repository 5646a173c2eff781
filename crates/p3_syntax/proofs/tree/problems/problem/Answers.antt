use Rattle.std.proofs.Common.{◌∙◌, sym, ap, subst, List, Option, Some}
use Rattle.std.specs.Prelude.{IsSome}
use Rattle.p3_task.specs.Grammar.Words.{◌>>=◌}
use Rattle.p3_task.specs.Grammar.Halves as halves
use Rattle.p3_outline.specs.Nodes.{expression_of}
use Rattle.p3_syntax.specs.declared.tree.parts.HeadedParts.{HeadedParts}
use Rattle.p3_syntax.specs.declared.tree.problems.ProblemContents.{ProblemContents}
use Rattle.p3_syntax.specs.Sections.{half_place, the_half, the_sections}
use Rattle.p3_syntax.specs.Problems.{contents_among, problem_of}
use Rattle.p3_syntax.proofs.HeadLemmas.{some_first}
use Rattle.p3_syntax.proofs.ProblemLemmas.{problem_in, problem_known}
use Rattle.p3_syntax.proofs.tree.problems.problem.Goals as goal

pub named_sections-requires : goal.named_sections-requires
named_sections-requires c =
    let e = expression_of c.args.view in
    record { tree = some_first (half_place e) problem_in (subst IsSome (problem_known e c.requires.tree) c.requires.tree) }

pub contents-requires : goal.contents-requires
contents-requires c =
    let e = expression_of c.args.view in
    let half = the_half c.in_ok-half.half in
    let has : IsSome (problem_in half) = subst (λ (found : Option halves.NamedSections). IsSome (found >>= problem_in)) c.in_ok-half.ensures (subst IsSome (problem_known e c.requires.tree) c.requires.tree) in
    record {
      tree = subst (λ (list : List HeadedParts). IsSome (contents_among (the_sections list))) (sym c.as_slice.ensures.value)
          (some_first (contents_among half.sections) (λ contents. Some (problem_of half.name contents)) has);
    }

pub returns : goal.returns
returns c =
    let half = the_half c.in_ok-half.half in
    problem_known (expression_of c.args.view) c.requires.tree ∙ ap (λ (found : Option halves.NamedSections). found >>= problem_in) c.in_ok-half.ensures
    ∙ ap (λ (list : List HeadedParts). contents_among (the_sections list) >>= λ contents. Some (problem_of half.name contents)) (sym c.as_slice.ensures.value)
    ∙ ap (λ (read : Option ProblemContents). read >>= λ contents. Some (problem_of half.name contents)) c.in_ok-contents.ensures ∙ ap Some (sym c.problem_of.ensures)
