use Rattle.p3_task.proofs.ShownLaws.{shown_shows}
use Rattle.p3_task.proofs.laws.what_is_shown_shows.Goals as goal

pub returns : goal.returns
returns c = shown_shows
