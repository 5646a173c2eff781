use Rattle.p3_cli.proofs.streaming.compiled_texts.Given as goal

abbrev pub ghost-target_texts : goal.ghost-target_texts
ghost-target_texts a = a.task.now
