use Rattle.p3_cli.proofs.streaming.domain_of.Given as goal

abbrev pub ghost-push_steps : goal.ghost-push_steps
ghost-push_steps g a = g.task
