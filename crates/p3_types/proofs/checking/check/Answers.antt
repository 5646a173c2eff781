use Rattle.std.proofs.Common.{subst}
use Rattle.p3_resolve.specs.Answers.{IsResolved}
use Rattle.p3_types.proofs.checking.check.Goals as goal

pub checked-requires-clause-well_formed : goal.checked-requires-clause-well_formed
checked-requires-clause-well_formed c =
    (subst (IsResolved c.args.side (record { domain = c.args.domain; problem = c.args.problem })) c.in-Ok-Numbered.field-0-is c.in-Ok-Numbered.ensures).well_formed

pub checked-requires-clause-numbered : goal.checked-requires-clause-numbered
checked-requires-clause-numbered c =
    (subst (IsResolved c.args.side (record { domain = c.args.domain; problem = c.args.problem })) c.in-Ok-Numbered.field-0-is c.in-Ok-Numbered.ensures).numbered

pub returns-in_ok-checked-in-Ok-Numbered-clause-well_formed : goal.returns-in_ok-checked-in-Ok-Numbered-clause-well_formed
returns-in_ok-checked-in-Ok-Numbered-clause-well_formed c =
    (subst (IsResolved c.args.side (record { domain = c.args.domain; problem = c.args.problem })) c.in-Ok-Numbered.field-0-is c.in-Ok-Numbered.ensures).well_formed
