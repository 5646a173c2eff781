use Rattle.p3_syntax.proofs.NumeralLemmas.{is_number, numeral_read, numeral_fits}
use Rattle.p3_syntax.proofs.tree.numerals.numeral_word.Goals as goal

pub digits_of-requires : goal.digits_of-requires
digits_of-requires c = record { number = is_number c.args.at c.args.text.now c.requires.tree }

pub returns-clause-numeral : goal.returns-clause-numeral
returns-clause-numeral c = numeral_read c.args.text.now c.args.at c.digits_of.result c.digits_of.ensures c.numeral_of.result c.numeral_of.ensures

pub returns-clause-room : goal.returns-clause-room
returns-clause-room c = numeral_fits c.args.text.now c.args.at c.digits_of.result c.digits_of.ensures c.numeral_of.result c.numeral_of.ensures
