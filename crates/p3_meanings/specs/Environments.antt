-- What the variables of an environment mean, in words.
use Rattle.std.specs.Prelude.{ℕ, List, [], ◌∷◌, ◌++◌}
use Rattle.p3_task.specs.States.{Environment}
use Rattle.p3_accounts.specs.Subjects.{equation_text}

-- the outermost variable first
abbrev pub environment_text : Environment → List ℕ
environment_text [] = []
environment_text (newest ∷ older) = environment_text older ++ equation_text newest.variable newest.object
