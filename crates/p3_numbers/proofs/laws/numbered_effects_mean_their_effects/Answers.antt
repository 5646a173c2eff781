use Rattle.p3_numbers.proofs.EffectLaws.{adds-mean, deletes-mean, literals-mean, cost-means}
use Rattle.p3_numbers.proofs.laws.numbered_effects_mean_their_effects.Goals as goal

pub returns : goal.returns
returns c = record {
  adds = λ T N ties. adds-mean T N ties;
  deletes = λ T N ties. deletes-mean T N ties;
  literals = λ T N ties. literals-mean T N ties;
  cost = λ T N ties. cost-means T N ties;
}
