-- Lists that are made of what is meant, item by item, while atoms come.
use Rattle.std.specs.Prelude.{List, ◌++◌}
use Rattle.p3_expansion.specs.Atoms.{GroundAtom}
use Rattle.p3_expansion.specs.Expansions.{Grows}
use Rattle.p3_expansion.specs.declared.work.Work.{Work}

-- where items stood for what was meant before, they and the new ones stand for that and for what is meant now
pub record Pushes {M A : Type 0} (Stand : List GroundAtom → List M → List A → Type 0) (reads : List GroundAtom) (old new : Work) (meant : List M) (before after : List A) : Type 0 where
  pub grows : Grows reads old new
  pub made : (those : List M) → Stand old.atoms those before → Stand new.atoms (those ++ meant) after
