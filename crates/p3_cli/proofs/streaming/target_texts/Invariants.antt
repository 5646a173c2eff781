use Rattle.p3_cli.proofs.streaming.target_texts.Given as goal

abbrev pub ghost-texts_of : goal.ghost-texts_of
ghost-texts_of g a = g.source
