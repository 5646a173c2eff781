use Rattle.p3_tree.specs.Commands.{command_of}
use Rattle.p3_cli.proofs.MeaningLemmas.{has_words, done_is_faithful, done_is_laid_out}
use Rattle.p3_cli.proofs.RunLemmas.{refused, rejects, completes, others_stay}
use Rattle.p3_cli.proofs.StatusLemmas.{invalid, put_failed, read_failed, usage, write_failed}
use Rattle.p3_cli.proofs.call.run.Goals as goal

pub returns-clause-rejects : goal.returns-clause-rejects
returns-clause-rejects g c = let ends = c.carried_through.ensures.ending.1 in rejects (command_of c.args.words.now) _ _ _ _ _ _ ends.answers ends.tells

pub returns-clause-completes : goal.returns-clause-completes
returns-clause-completes g c = let ends = c.carried_through.ensures.ending.1 in completes (command_of c.args.words.now) _ _ _ _ _ _ ends.answers ends.tells

pub returns-clause-others : goal.returns-clause-others
returns-clause-others g c = let (how, ends) = c.carried_through.ensures.ending in others_stay (command_of c.args.words.now) _ _ how ends.answers

pub returns-clause-faithful : goal.returns-clause-faithful
returns-clause-faithful g c = let (how, ends) = c.carried_through.ensures.ending in done_is_faithful (command_of c.args.words.now) (has_words c.args.words.now) _ _ _ _ _ how ends.answers ends.tells

pub returns-clause-layout : goal.returns-clause-layout
returns-clause-layout g c = let (how, ends) = c.carried_through.ensures.ending in done_is_laid_out (command_of c.args.words.now) (has_words c.args.words.now) _ _ _ _ _ how ends.answers ends.tells

pub returns-clause-refused : goal.returns-clause-refused
returns-clause-refused g c = let ends = c.carried_through.ensures.ending.1 in refused (command_of c.args.words.now) _ _ _ _ _ _ ends.answers ends.tells

pub returns-clause-usage : goal.returns-clause-usage
returns-clause-usage g c = let ends = c.carried_through.ensures.ending.1 in usage (command_of c.args.words.now) _ _ _ _ _ _ ends.answers ends.tells

pub returns-clause-invalid : goal.returns-clause-invalid
returns-clause-invalid g c = let ends = c.carried_through.ensures.ending.1 in invalid (command_of c.args.words.now) _ _ _ _ _ _ ends.answers ends.tells

pub returns-clause-read_failed : goal.returns-clause-read_failed
returns-clause-read_failed g c = let ends = c.carried_through.ensures.ending.1 in read_failed (command_of c.args.words.now) _ _ _ _ _ _ ends.answers ends.tells

pub returns-clause-write_failed : goal.returns-clause-write_failed
returns-clause-write_failed g c = let ends = c.carried_through.ensures.ending.1 in write_failed (command_of c.args.words.now) _ _ _ _ _ _ ends.answers ends.tells

pub returns-clause-put_failed : goal.returns-clause-put_failed
returns-clause-put_failed g c = let (how, ends) = c.carried_through.ensures.ending in put_failed _ _ _ how ends.tells
