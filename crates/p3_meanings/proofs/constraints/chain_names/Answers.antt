use Rattle.std.proofs.Common.{◌≡◌, map}
use Rattle.std.specs.Prelude.{flat_map}
use Rattle.std.proofs.lemmas.Result.{IfOk-weaker}
use Rattle.p3_scenes.specs.Seen.{seen_soft}
use Rattle.p3_accounts.specs.Meanings.{meaning_line}
use Rattle.p3_accounts.specs.Vocabularies.{vocabulary}
use Rattle.p3_unmet.specs.Sources.{texts}
use Rattle.p3_meanings.specs.Chains.{settling_said}
use Rattle.p3_meanings.specs.Heard.{numbered_from}
use Rattle.p3_meanings.specs.Said.{said_lines}
use Rattle.p3_meanings.proofs.SceneLemmas.{as_many, chain_is_said}
use Rattle.p3_meanings.proofs.constraints.chain_names.Goals as goal

pub chain-requires : goal.chain-requires
chain-requires c = as_many c.args.checked.now.task c.args.checked.now.numbered.numbers c.args.softs.now c.args.instances.now c.requires.named c.requires.scenes

pub returns : goal.returns
returns c =
    let T = c.args.checked.now.task in
    let X = c.args.checked.now.numbered in
    let V = vocabulary c.args.telling.now.terms.now in
    let S = texts c.args.telling.now.sources.now in
    IfOk-weaker c.numbered-2.result (λ meanings. meanings ≡ numbered_from 0 c.in_ok-found.found) (λ meanings. flat_map (meaning_line V) meanings ≡ said_lines V 0 (settling_said S T))
    (λ meanings. chain_is_said T X V S c.numbered.ensures.numbered c.requires.words c.args.softs.now (map seen_soft c.args.instances.now) c.requires.named c.requires.scenes c.in_ok-found.found meanings c.in_ok-found.ensures) c.numbered-2.ensures
