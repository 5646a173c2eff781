-- What is so of every compiled ground task, as far as its texts and its plans need it.
use Rattle.std.proofs.Common.{◌≡◌, true, false, not, List, [], ◌∷◌, ◌++◌, refl, ap}
use Rattle.std.proofs.lemmas.Bool.{and_from, and_parts, not-true, or_from, or_parts}
use Rattle.p3_base.specs.Words.{Name, are_different, has_name, same_name}
use Rattle.p3_formula.specs.Targets.{Compiled, IsNamed, IsWellNamed, Translates, action_names}
use Rattle.p3_formula.specs.declared.target.Target.{Target}
use Rattle.p3_formula.specs.declared.target.Weights.{Weights}
use Rattle.p3_formula.specs.declared.task.GroundTask.{GroundTask}

-- ---- names that differ

fewer : (first second : List Name) (name : Name) → has_name (first ++ second) name ≡ false → has_name first name ≡ false
fewer [] second name h = refl
fewer (x ∷ first) second name h = let parts = or_parts (same_name x name) _ h in or_from _ _ parts.0 (fewer first second name parts.1)

pub different_ahead : (first second : List Name) → are_different (first ++ second) ≡ true → are_different first ≡ true
different_ahead [] second h = refl
different_ahead (name ∷ first) second h =
    let parts = and_parts (not (has_name (first ++ second) name)) _ h in
    and_from _ _ (ap not (fewer first second name (not-true _ parts.0))) (different_ahead first second parts.1)

pub different_behind : (first second : List Name) → are_different (first ++ second) ≡ true → are_different second ≡ true
different_behind [] second h = h
different_behind (name ∷ first) second h = different_behind first second (and_parts (not (has_name (first ++ second) name)) _ h).1

-- ---- compiled ground tasks

pub well_named : (X : Target) → IsNamed X → IsWellNamed X
well_named X named = record {
  predicates = named.predicates;
  actions = named.actions;
  spelled = named.spelled;
  predicates_differ = different_ahead X.predicates (action_names X) named.different;
  actions_differ = different_behind X.predicates (action_names X) named.different;
}

pub translates : (G : GroundTask) (weights : Weights) (X : Target) → Compiled G weights X → Translates G weights X
translates G weights X compiled = record { sound = compiled.sound; one_to_one = compiled.one_to_one; length = compiled.length }
