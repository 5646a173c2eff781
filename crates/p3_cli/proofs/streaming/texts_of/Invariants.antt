use Rattle.p3_cli.proofs.streaming.texts_of.Given as goal

abbrev pub ghost-domain_of : goal.ghost-domain_of
ghost-domain_of g a = g.task
