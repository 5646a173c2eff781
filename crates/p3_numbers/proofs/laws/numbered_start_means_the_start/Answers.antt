use Rattle.p3_numbers.proofs.StartLaws.{start-means}
use Rattle.p3_numbers.proofs.laws.numbered_start_means_the_start.Goals as goal

pub returns : goal.returns
returns c = start-means
