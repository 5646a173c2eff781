-- The names of a target's atoms, in their order, and those of the copies of a step.
use Rattle.std.specs.Prelude.{ℕ, nat_lt, Bool, ◌&&◌, List, [], ◌∷◌, ◌++◌, map, codes, decimal, is_some, if◌then◌else◌}
use Rattle.std.specs.List.{filter, range_with_len}
use Rattle.p3_base.specs.Words.{Name}
use Rattle.p3_formula.specs.Weighted.{width_of}
use Rattle.p3_formula.specs.declared.task.GroundStep.{GroundStep}

-- a letter and a number
abbrev pub numbered : Name → ℕ → Name
numbered letter number = letter ++ decimal number

-- as many names of that letter, from a number on
abbrev pub all_numbered : Name → ℕ → ℕ → List Name
all_numbered letter from count = map (numbered letter) (range_with_len from count)

-- a step that may be taken and has more than 8 weighted preferences
abbrev pub is_wide : List ℕ → GroundStep → Bool
is_wide by_name step = is_some step.cost && nat_lt 8 (width_of by_name step)

abbrev pub wide_steps : List ℕ → List GroundStep → List GroundStep
wide_steps by_name steps = filter (is_wide by_name) steps

abbrev pub current_name : GroundStep → Name
current_name step = numbered (codes "c") step.number

-- question atoms stand only where some step is wide
abbrev pub question_names : List GroundStep → List Name
question_names [] = []
question_names (step ∷ steps) = all_numbered (codes "h") 0 201

-- source atoms, monitors' atoms, the running atom, the chain, question atoms, and the current atoms of wide steps
abbrev pub atom_names : ℕ → ℕ → ℕ → List GroundStep → List Name
atom_names sources watched chain wide =
    all_numbered (codes "f") 0 sources ++ (all_numbered (codes "m") 0 watched ++ (codes "go" ∷ (all_numbered (codes "e") 0 chain ++ (question_names wide ++ map current_name wide))))

-- `1` where a preference is violated, else `0`
abbrev pub pattern : List Bool → Name
pattern violated = map (λ one. if one then 49 else 48) violated
