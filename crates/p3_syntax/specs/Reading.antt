-- What a reader answers.
use Rattle.std.specs.Prelude.{◌≡◌, Option, Some, IfOk, Result}
use Rattle.p3_base.specs.declared.error.NoMemory.{NoMemory}

-- What was answered is what the definition gives, but for want of memory.
abbrev pub Gives : {X : Type 0} → Result X NoMemory → Option X → Type 0
Gives result read = IfOk result (λ x. read ≡ Some x)
