use Rattle.std.proofs.Common.{[], sym}
use Rattle.p3_numbers.specs.Slots.{object_names}
use Rattle.p3_numbers.proofs.BindingLemmas.{extended-paired, tuples_mean, tuples_fill}
use Rattle.p3_numbers.proofs.laws.numbered_arguments_mean_their_arguments.Goals as goal

pub returns : goal.returns
returns c = record {
  tuples = λ T N ties. tuples_mean T N ties;
  filled = λ T N ties. tuples_fill T N ties;
  bound = λ N parameters slots. sym (extended-paired [] parameters (object_names N slots));
}
