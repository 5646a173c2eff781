use Rattle.std.proofs.Common.{◌≡◌, ◌∙◌, true}
use Rattle.p3_accounts.specs.Vocabularies.{vocabulary}
use Rattle.p3_unmet.specs.Sources as sources
use Rattle.p3_meanings.specs.Names.{names_text}
use Rattle.p3_cli.specs.Texts.{all_texts}
use Rattle.p3_why.specs.Names.{halves_of}
use Rattle.p3_why.proofs.NameLemmas.{tells, told_names}
use Rattle.p3_why.proofs.names.told_names.Goals as goal

pub returns-clause-told : goal.returns-clause-told
returns-clause-told g c =
    let texts = all_texts c.args.texts.now in
    let own = c.args.whole.now.checked in
    let words = c.terms_of-terms.ensures in
    let halves = sources.texts c.in_ok-sources.sources in
    let read : halves ≡ halves_of texts = c.in_ok-sources.ensures ∙ (λ i. record { domain = c.domain_of-domain.ensures.text i; problem = c.problem_of-problem.ensures.text i }) in
    let atoms = c.in_ok-atoms.atoms in
    let lines = names_text (vocabulary c.terms_of-terms.result) halves c.checked-checked.result.now.task c.ground_task.result.now _ in
    record {
      lines = lines;
      is_valid = true;
      says = told_names c.args.names.now texts own c.requires.accepted c.args.whole.now.ground_task c.requires.ready.grounding c.checked-checked.result.now c.checked-checked.ensures.checked c.ground_task.result.now c.ground_task.ensures halves read
          c.terms_of-terms.result (record { domain = words.domain; problem = words.problem; actions = words.actions; numbers = words.numbers; numbered = words.numbered }) _ c.in_ok-atoms.ensures;
      tells = tells c.put_names-put.result lines (g.S.Sink.seen c.args.out.now) (g.S.Sink.seen c.put_names-put.new.out) c.put_names-put.ensures.ok c.put_names-put.ensures.partly c.put_names-put.ensures.failed c.status_of.result c.status_of.ensures;
    }
