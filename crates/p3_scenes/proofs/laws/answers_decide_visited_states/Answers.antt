use Rattle.p3_scenes.proofs.QuestionLaws.{operators-answered, preferences-answered, preconditions-answered, goals-answered, evidence-kept}
use Rattle.p3_scenes.proofs.laws.answers_decide_visited_states.Goals as goal

pub returns : goal.returns
returns c = record { operators = operators-answered; preferences = preferences-answered; preconditions = preconditions-answered; goals = goals-answered; evidence = evidence-kept }
