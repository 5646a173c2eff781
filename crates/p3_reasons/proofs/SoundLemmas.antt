-- What a condition comes to by tests: it holds where it is met, its atoms are among those that it reads, and they decide it.
use Rattle.std.proofs.Common.{◌≡◌, ◌∙◌, Bool, true, false, not, ◌&&◌, ◌||◌, List, [], ◌∷◌, map, refl, sym, ap}
use Rattle.std.specs.Prelude.{flat_map, find, Option, Some, None, unwrap_or}
use Rattle.std.specs.List.{list_all, AllByRecursion}
use Rattle.std.proofs.Math.Bool.{and-false, or-true}
use Rattle.std.proofs.lemmas.Bool.{and_parts, and_from}
use Rattle.std.proofs.lemmas.List.Folds.{list_all-append}
use Rattle.p3_task.specs.States.{State, has_fact}
use Rattle.p3_numbers.specs.declared.numbers.Numbers.{Numbers}
use Rattle.p3_expansion.specs.Atoms.{GroundAtom, fact_of}
use Rattle.p3_expansion.specs.Meanings.{each_or_some}
use Rattle.p3_reasons.specs.Outcomes.{Outcome, Test, settles, joined, opposite}
use Rattle.p3_reasons.specs.Decisions.{agree, test_of}

-- a part of a tree at objects: what it comes to by each test, the atoms that it reads, and where it is met
pub record Part : Type 0 where
  pub come : Test → Outcome
  pub reads : List GroundAtom
  pub met : State → Bool

abbrev pub agreeing : Test → Test → GroundAtom → Bool
agreeing first second atom = agree (first atom) (second atom)

pub record Sound (N : Numbers) (part : Part) : Type 0 where
  pub truth : (s : State) → (part.come (test_of N s)).holds ≡ part.met s
  pub within : (test : Test) (passes : GroundAtom → Bool) → list_all passes part.reads ≡ true → list_all passes (part.come test).atoms ≡ true
  pub decided : (first second : Test) → list_all (agreeing first second) (part.come first).atoms ≡ true → (part.come second).holds ≡ (part.come first).holds

-- ---- several parts

abbrev pub joined_part : Bool → List Part → Part
joined_part every parts = record {
  come = λ test. joined every (map (λ (part : Part). part.come test) parts);
  reads = flat_map (λ (part : Part). part.reads) parts;
  met = λ s. each_or_some every (λ (part : Part). part.met s) parts;
}

abbrev settling : Bool → Outcome → Bool
settling every part = settles every part.holds

abbrev held : Outcome → Bool
held part = part.holds

abbrev over_all : Bool → List GroundAtom → Outcome
over_all every atoms = record { holds = every; atoms = atoms }

-- what is found holds where every part does, or else some part
found-holds : (every : Bool) (atoms : List GroundAtom) (parts : List Outcome) → (unwrap_or (find (settling every) parts) (over_all every atoms)).holds ≡ each_or_some every held parts
found-holds true atoms [] = refl
found-holds false atoms [] = refl
found-holds every atoms (part ∷ parts) = by every part.holds (found-holds every atoms parts)
  where
    by : (every holds : Bool) → (unwrap_or (find (settling every) parts) (over_all every atoms)).holds ≡ each_or_some every held parts
        → (unwrap_or (find (settling every) (record { holds = holds; atoms = part.atoms } ∷ parts)) (over_all every atoms)).holds ≡ each_or_some every held (record { holds = holds; atoms = part.atoms } ∷ parts)
    by true true rest = rest
    by true false rest = refl
    by false true rest = refl
    by false false rest = rest

pub joined-holds : (every : Bool) (parts : List Outcome) → (joined every parts).holds ≡ each_or_some every held parts
joined-holds every parts = found-holds every (flat_map (λ (part : Outcome). part.atoms) parts) parts

-- those of the first part that decides alone, or of all parts
found-atoms : (every : Bool) (passes : GroundAtom → Bool) (atoms : List GroundAtom) (parts : List Outcome) → list_all passes atoms ≡ true → list_all passes (flat_map (λ (part : Outcome). part.atoms) parts) ≡ true
    → list_all passes (unwrap_or (find (settling every) parts) (over_all every atoms)).atoms ≡ true
found-atoms every passes atoms [] all those = all
found-atoms every passes atoms (part ∷ parts) all those =
    let split = and_parts (list_all passes part.atoms) _ (sym (list_all-append passes part.atoms (flat_map (λ (part : Outcome). part.atoms) parts)) ∙ those) in
    by every part.holds split.0 (found-atoms every passes atoms parts all split.1)
  where
    by : (every holds : Bool) → list_all passes part.atoms ≡ true → list_all passes (unwrap_or (find (settling every) parts) (over_all every atoms)).atoms ≡ true
        → list_all passes (unwrap_or (find (settling every) (record { holds = holds; atoms = part.atoms } ∷ parts)) (over_all every atoms)).atoms ≡ true
    by true true here rest = rest
    by true false here rest = here
    by false true here rest = here
    by false false here rest = rest

pub joined-atoms : (every : Bool) (passes : GroundAtom → Bool) (parts : List Outcome) → list_all passes (flat_map (λ (part : Outcome). part.atoms) parts) ≡ true → list_all passes (joined every parts).atoms ≡ true
joined-atoms every passes parts all = found-atoms every passes (flat_map (λ (part : Outcome). part.atoms) parts) parts all all

module _ (N : Numbers) where
  abbrev come_all : Test → List Part → List Outcome
  come_all test parts = map (λ (part : Part). part.come test) parts

  -- they are met where they hold
  truths : (s : State) (every : Bool) (parts : List Part) → AllByRecursion (Sound N) parts → each_or_some every held (come_all (test_of N s) parts) ≡ each_or_some every (λ (part : Part). part.met s) parts
  truths s every [] sound = elim every as (λ v. each_or_some v held [] ≡ each_or_some v (λ (part : Part). part.met s) []) [ true ↦ refl | false ↦ refl ]
  truths s every (part ∷ parts) sound = by every (sound.0.truth s) (truths s every parts sound.1)
    where
      by : (every : Bool) → (part.come (test_of N s)).holds ≡ part.met s → each_or_some every held (come_all (test_of N s) parts) ≡ each_or_some every (λ (part : Part). part.met s) parts
          → each_or_some every held (come_all (test_of N s) (part ∷ parts)) ≡ each_or_some every (λ (part : Part). part.met s) (part ∷ parts)
      by true here rest = λ i. here i && rest i
      by false here rest = λ i. here i || rest i

  within-all : (test : Test) (passes : GroundAtom → Bool) (parts : List Part) → AllByRecursion (Sound N) parts → list_all passes (flat_map (λ (part : Part). part.reads) parts) ≡ true
      → list_all passes (flat_map (λ (part : Outcome). part.atoms) (come_all test parts)) ≡ true
  within-all test passes [] sound all = refl
  within-all test passes (part ∷ parts) sound all =
      let split = and_parts (list_all passes part.reads) _ (sym (list_all-append passes part.reads (flat_map (λ (part : Part). part.reads) parts)) ∙ all) in
      list_all-append passes (part.come test).atoms (flat_map (λ (part : Outcome). part.atoms) (come_all test parts))
      ∙ and_from (list_all passes (part.come test).atoms) _ (sound.0.within test passes split.0) (within-all test passes parts sound.1 split.1)

  module _ (first second : Test) where
    abbrev kept : List GroundAtom → Type 0
    kept atoms = list_all (agreeing first second) atoms ≡ true

    -- where a part decides alone by the first test, the second finds the same
    cut-alike : (every : Bool) (parts : List Part) (cut : Outcome) → AllByRecursion (Sound N) parts → find (settling every) (come_all first parts) ≡ Some cut → kept cut.atoms
        → (each_or_some every held (come_all second parts) ≡ not every) × (each_or_some every held (come_all first parts) ≡ not every)
    cut-alike every [] cut sound found keep = absurd (cc)
    cut-alike every (part ∷ parts) cut sound found keep =
        by every (part.come first).holds (part.come first).atoms (part.come second) (sound.0.decided first second) found (λ behind. cut-alike every parts cut sound.1 behind keep)
      where
        by : (every holds : Bool) (atoms : List GroundAtom) (other : Outcome) → (kept atoms → other.holds ≡ holds) → find (settling every) (record { holds = holds; atoms = atoms } ∷ come_all first parts) ≡ Some cut
            → (find (settling every) (come_all first parts) ≡ Some cut → (each_or_some every held (come_all second parts) ≡ not every) × (each_or_some every held (come_all first parts) ≡ not every))
            → (each_or_some every held (other ∷ come_all second parts) ≡ not every) × (each_or_some every held (record { holds = holds; atoms = atoms } ∷ come_all first parts) ≡ not every)
        by true true atoms other alike found rest = (ap (λ others. other.holds && others) (rest found).0 ∙ and-false other.holds, (rest found).1)
        by true false atoms other alike found rest =
            let is : ◌≡◌ {A = Outcome} (record { holds = false; atoms = atoms }) cut = cc in
            (ap (λ one. one && each_or_some true held (come_all second parts)) (alike (ap (λ (one : Outcome). list_all (agreeing first second) one.atoms) is ∙ keep)), refl)
        by false true atoms other alike found rest =
            let is : ◌≡◌ {A = Outcome} (record { holds = true; atoms = atoms }) cut = cc in
            (ap (λ one. one || each_or_some false held (come_all second parts)) (alike (ap (λ (one : Outcome). list_all (agreeing first second) one.atoms) is ∙ keep)), refl)
        by false false atoms other alike found rest = (ap (λ others. other.holds || others) (rest found).0 ∙ or-true other.holds, (rest found).1)

    -- where the tests agree on the atoms of all parts, so do the parts
    all-alike : (every : Bool) (parts : List Part) → AllByRecursion (Sound N) parts → kept (flat_map (λ (part : Outcome). part.atoms) (come_all first parts)) → each_or_some every held (come_all second parts) ≡ each_or_some every held (come_all first parts)
    all-alike every [] sound keep = elim every as (λ v. each_or_some v held [] ≡ each_or_some v held []) [ true ↦ refl | false ↦ refl ]
    all-alike every (part ∷ parts) sound keep =
        let split = and_parts (list_all (agreeing first second) (part.come first).atoms) _ (sym (list_all-append (agreeing first second) (part.come first).atoms (flat_map (λ (part : Outcome). part.atoms) (come_all first parts))) ∙ keep) in
        by every (sound.0.decided first second split.0) (all-alike every parts sound.1 split.1)
      where
        by : (every : Bool) → (part.come second).holds ≡ (part.come first).holds → each_or_some every held (come_all second parts) ≡ each_or_some every held (come_all first parts)
            → each_or_some every held (come_all second (part ∷ parts)) ≡ each_or_some every held (come_all first (part ∷ parts))
        by true here rest = λ i. here i && rest i
        by false here rest = λ i. here i || rest i

    decided-all : (every : Bool) (parts : List Part) → AllByRecursion (Sound N) parts → kept (joined every (come_all first parts)).atoms → (joined every (come_all second parts)).holds ≡ (joined every (come_all first parts)).holds
    decided-all every parts sound keep = joined-holds every (come_all second parts) ∙ by (find (settling every) (come_all first parts)) refl keep ∙ sym (joined-holds every (come_all first parts))
      where
        by : (found : Option Outcome) → find (settling every) (come_all first parts) ≡ found → kept (unwrap_or found (over_all every (flat_map (λ (part : Outcome). part.atoms) (come_all first parts)))).atoms
            → each_or_some every held (come_all second parts) ≡ each_or_some every held (come_all first parts)
        by None is keep = all-alike every parts sound keep
        by (Some cut) is keep = let both = cut-alike every parts cut sound is keep in both.0 ∙ sym both.1

  pub sound-joined : (every : Bool) (parts : List Part) → AllByRecursion (Sound N) parts → Sound N (joined_part every parts)
  sound-joined every parts sound = record {
    truth = λ s. joined-holds every (come_all (test_of N s) parts) ∙ truths s every parts sound;
    within = λ test passes all. joined-atoms every passes (come_all test parts) (within-all test passes parts sound all);
    decided = λ first second keep. decided-all first second every parts sound keep;
  }

-- ---- one part

abbrev pub opposite_part : Part → Part
opposite_part part = record { come = λ test. opposite (part.come test); reads = part.reads; met = λ s. not (part.met s) }

pub sound-opposite : (N : Numbers) (part : Part) → Sound N part → Sound N (opposite_part part)
sound-opposite N part sound = record { truth = λ s. ap not (sound.truth s); within = sound.within; decided = λ first second keep. ap not (sound.decided first second keep) }

-- what is the same in each state
pub sound-fixed : (N : Numbers) (holds : Bool) → Sound N (record { come = λ test. record { holds = holds; atoms = [] }; reads = []; met = λ s. holds })
sound-fixed N holds = record { truth = λ s. refl; within = λ test passes all. refl; decided = λ first second keep. refl }

pub agree-same : (said is : Bool) → agree said is ≡ true → is ≡ said
agree-same true is agreed = agreed
agree-same false true agreed = sym agreed
agree-same false false agreed = refl

pub same-agree : (said is : Bool) → is ≡ said → agree said is ≡ true
same-agree true is same = same
same-agree false is same = ap not same

pub sound-atom : (N : Numbers) (atom : GroundAtom) → Sound N (record { come = λ test. record { holds = test atom; atoms = atom ∷ [] }; reads = atom ∷ []; met = λ s. has_fact s (fact_of N atom) })
sound-atom N atom = record { truth = λ s. refl; within = λ test passes all. all; decided = λ first second keep. agree-same (first atom) (second atom) (and_parts (agree (first atom) (second atom)) true keep).0 }
