use Rattle.p3_outline.proofs.NodeLemmas.{view_elements}
use Rattle.p3_outline.proofs.view.View.parts.Goals as goal

pub returns-in-List-clause-parts : goal.returns-in-List-clause-parts
returns-in-List-clause-parts c = view_elements c.args.self.now.text.now c.args.self.now.node c.in-List.at c.in-List.below c.args.self.now.below.now c.in-List.is
