use Rattle.p3_outline.proofs.NodeLemmas.{view_is_list}
use Rattle.p3_outline.proofs.view.View.word.Goals as goal

pub returns-in-List-clause-word : goal.returns-in-List-clause-word
returns-in-List-clause-word c = view_is_list c.args.self.now.text.now c.args.self.now.node c.in-List.at c.in-List.below c.args.self.now.below.now c.in-List.is
