-- The operations of sums and products in the order of evaluation.
use Rattle.std.specs.Prelude.{List, [], ◌∷◌, ◌++◌}
use Rattle.p3_task.specs.Refusals.Metric.{operations}
use Rattle.p3_task.specs.declared.metric.Num.{Num}

-- the operations of parts behind those that are done, each before the fold that takes it in
abbrev pub operations_from : (List Num → Num) → List Num → List Num → List Num
operations_from operator done [] = []
operations_from operator done (part ∷ parts) = operations part ++ operator (done ++ part ∷ []) ∷ operations_from operator (done ++ part ∷ []) parts
