use Rattle.std.proofs.Common.{◌∙◌, false, sym, ap}
use Rattle.std.specs.Prelude.{bytes_eq, unwrap_or}
use Rattle.std.specs.Map.{lookup}
use Rattle.std.specs.Option.{option_copied}
use Rattle.p3_reasons.proofs.TruthLemmas.{lookup-plain}
use Rattle.p3_reasons.proofs.state_facts.StateFactsFacts.has.Goals as goal

pub returns-in-Some : goal.returns-in-Some
returns-in-Some c =
    ap (λ found. unwrap_or found false)
    (sym (ap option_copied c.in-Some.is) ∙ c.get.ensures.value ∙ lookup-plain (λ words. words.items) c.self.inside.truths.entries c.args.atom.now ∙ ap (lookup (bytes_eq c.args.atom.now)) c.self.view_is)

pub returns-in-None : goal.returns-in-None
returns-in-None c =
    ap (λ found. unwrap_or found false)
    (sym (ap option_copied c.in-None.is) ∙ c.get.ensures.value ∙ lookup-plain (λ words. words.items) c.self.inside.truths.entries c.args.atom.now ∙ ap (lookup (bytes_eq c.args.atom.now)) c.self.view_is)
