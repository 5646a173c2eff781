use Rattle.std.proofs.Common.{sym, subst, Option}
use Rattle.std.specs.Prelude.{IsSome}
use Rattle.p3_task.specs.declared.task.Header.{Header}
use Rattle.p3_syntax.specs.Reading.{Gives}
use Rattle.p3_task.specs.Grammar.Words.{is_predicate_name}
use Rattle.p3_outline.specs.Nodes.{expression_of}
use Rattle.p3_syntax.proofs.HeadLemmas.{headed_header}
use Rattle.p3_syntax.proofs.tree.domains.predicate_header.Goals as goal

pub header-requires : goal.header-requires
header-requires c = record { tree = subst IsSome (headed_header is_predicate_name (expression_of c.args.view) c.requires.tree) c.requires.tree }

pub returns : goal.returns
returns c = subst (λ (read : Option Header). Gives c.header.result read) (sym (headed_header is_predicate_name (expression_of c.args.view) c.requires.tree)) c.header.ensures
