use Rattle.p3_numbers.proofs.ConstraintLaws.{hard-operators-mean, operators-mean, satisfaction-means, instances-mean}
use Rattle.p3_numbers.proofs.laws.numbered_constraints_mean_their_constraints.Goals as goal

pub returns : goal.returns
returns c = record {
  hard = λ T N ties. hard-operators-mean T N ties;
  operators = λ T N ties. operators-mean T N ties;
  satisfied = λ T N ties. satisfaction-means T N ties;
  preferences = λ T N ties. instances-mean T N ties;
}
