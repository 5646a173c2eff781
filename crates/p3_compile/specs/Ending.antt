-- What must hold where a plan ends, and what is settled then.
use Rattle.std.specs.Prelude.{ℕ, List, [], ◌∷◌, ◌++◌, length, map, take, drop}
use Rattle.p3_formula.specs.Weighted.{named_weight}
use Rattle.p3_formula.specs.declared.form.Form.{Form}
use Rattle.p3_formula.specs.declared.form.Form.TheVariants.{And}
use Rattle.p3_formula.specs.declared.modal.GroundSoft.{GroundSoft}
use Rattle.p3_endphase.specs.declared.phase.SoftEnd.{SoftEnd}
use Rattle.p3_monitors.specs.declared.monitoring.Monitor.{Monitor}

-- the parts hold, and all monitors accept
abbrev pub accepting : List Form → List Monitor → Form
accepting parts monitors = And (parts ++ map (λ (monitor : Monitor). monitor.accept) monitors)

-- the instances in order, each with as many monitors as it has parts
abbrev pub soft_ends : List ℕ → List GroundSoft → List Monitor → List SoftEnd
soft_ends by_name [] monitors = []
soft_ends by_name (soft ∷ softs) monitors =
    record { accept = accepting [] (take (length soft.parts) monitors); weight = named_weight by_name soft.name } ∷ soft_ends by_name softs (drop (length soft.parts) monitors)
