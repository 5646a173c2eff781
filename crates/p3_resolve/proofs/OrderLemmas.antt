-- The first of what was found is the first offence.
use Rattle.std.proofs.Common.{◌≡◌, ◌∙◌, List, [], ◌∷◌, Option, Some, None, refl, sym, ap}
use Rattle.std.specs.Prelude.{option_map}
use Rattle.std.specs.Option.{option_or}
use Rattle.p3_base.specs.declared.refusal.Code.{Code}
use Rattle.p3_base.specs.declared.refusal.Code.TheVariants.{Duplicate, Unknown, Arity, TypeClash}
use Rattle.p3_base.specs.declared.refusal.Refusal.{Refusal}
use Rattle.p3_base.specs.declared.refusal.Side.{Side}
use Rattle.p3_task.specs.FirstOffence.{Offence, offence, first_offence, least_word}
use Rattle.p3_task.specs.Offences.{domain_duplicates, problem_duplicates, domain_unknowns, problem_unknowns, domain_miscounts, problem_miscounts, domain_clashes, problem_clashes}
use Rattle.p3_task.specs.Refusals.First.{refusal_of}
use Rattle.p3_task.specs.Refusals.Places.{first_some}
use Rattle.p3_task.specs.Sides.{Half, InDomain, InProblem, role_of}
use Rattle.p3_task.specs.declared.term.Ref.{Ref}
use Rattle.p3_task.specs.declared.task.Task.{Task}
use Rattle.p3_resolve.specs.Order.{in_order, of_kind, refusal_at_spot}
use Rattle.p3_resolve.specs.Spots.{spot_of}
use Rattle.p3_resolve.specs.Wholes.{domain_found, problem_found}
use Rattle.p3_resolve.specs.declared.spot.FirstOffences.{FirstOffences}
use Rattle.p3_resolve.proofs.WholeLemmas.{domain-duplicate, domain-unknown, domain-miscount, domain-clash, problem-duplicate, problem-unknown, problem-miscount, problem-clash}

or-none : {A : Type 0} (first : Option A) → option_or first None ≡ first
or-none None = refl
or-none (Some x) = refl

or-assoc : {A : Type 0} (first second third : Option A) → option_or (option_or first second) third ≡ option_or first (option_or second third)
or-assoc None second third = refl
or-assoc (Some x) second third = refl

map-or : {A B : Type 0} (f : A → B) (first second : Option A) → option_map f (option_or first second) ≡ option_or (option_map f first) (option_map f second)
map-or f None second = refl
map-or f (Some x) second = refl

-- the refusal of the least word of a list
of-least : (side : Side) (code : Code) (half : Half) (found : Option Ref)
    → option_map (refusal_at_spot code (role_of side half)) (option_map spot_of found) ≡ option_map (refusal_of side) (option_map (λ word. record { code = code; half = half; word = word }) found)
of-least side code half None = refl
of-least side code half (Some word) = refl

module _ (side : Side) where
  two : (code : Code) (domain problem : List Ref) (rest : Option Offence)
      → option_map (refusal_of side) (option_or (offence code InDomain domain) (option_or (offence code InProblem problem) rest))
      ≡ option_or (of_kind side code (option_map spot_of (least_word domain)) (option_map spot_of (least_word problem))) (option_map (refusal_of side) rest)
  two code domain problem rest =
      map-or (refusal_of side) (offence code InDomain domain) (option_or (offence code InProblem problem) rest)
      ∙ ap (option_or (option_map (refusal_of side) (offence code InDomain domain))) (map-or (refusal_of side) (offence code InProblem problem) rest)
      ∙ sym (or-assoc (option_map (refusal_of side) (offence code InDomain domain)) (option_map (refusal_of side) (offence code InProblem problem)) (option_map (refusal_of side) rest))
      ∙ (λ i. option_or (option_or (sym (of-least side code InDomain (least_word domain)) i) (sym (of-least side code InProblem (least_word problem)) i)) (option_map (refusal_of side) rest))

  in-order : (T : Task) (domain problem : FirstOffences)
      → domain.duplicate ≡ option_map spot_of (least_word (domain_duplicates T.domain)) → domain.unknown ≡ option_map spot_of (least_word (domain_unknowns T))
      → domain.miscount ≡ option_map spot_of (least_word (domain_miscounts T)) → domain.clash ≡ option_map spot_of (least_word (domain_clashes T))
      → problem.duplicate ≡ option_map spot_of (least_word (problem_duplicates T.problem)) → problem.unknown ≡ option_map spot_of (least_word (problem_unknowns T))
      → problem.miscount ≡ option_map spot_of (least_word (problem_miscounts T)) → problem.clash ≡ option_map spot_of (least_word (problem_clashes T))
      → in_order side domain problem ≡ option_map (refusal_of side) (first_offence T)
  unfolding first_offence
  in-order T domain problem d6 d7 d8 d9 p6 p7 p8 p9 =
      (λ i. option_or (of_kind side Duplicate (d6 i) (p6 i)) (option_or (of_kind side Unknown (d7 i) (p7 i)) (option_or (of_kind side Arity (d8 i) (p8 i)) (of_kind side TypeClash (d9 i) (p9 i)))))
      ∙ sym (two Duplicate (domain_duplicates T.domain) (problem_duplicates T.problem) rest6 ∙ ap (option_or six) (two Unknown (domain_unknowns T) (problem_unknowns T) rest7
      ∙ ap (option_or seven) (two Arity (domain_miscounts T) (problem_miscounts T) rest8 ∙ ap (option_or eight) (two TypeClash (domain_clashes T) (problem_clashes T) None ∙ or-none nine))))
    where
      rest8 : Option Offence
      rest8 = first_some (offence TypeClash InDomain (domain_clashes T) ∷ offence TypeClash InProblem (problem_clashes T) ∷ [])

      rest7 : Option Offence
      rest7 = option_or (offence Arity InDomain (domain_miscounts T)) (option_or (offence Arity InProblem (problem_miscounts T)) rest8)

      rest6 : Option Offence
      rest6 = option_or (offence Unknown InDomain (domain_unknowns T)) (option_or (offence Unknown InProblem (problem_unknowns T)) rest7)

      six : Option Refusal
      six = of_kind side Duplicate (option_map spot_of (least_word (domain_duplicates T.domain))) (option_map spot_of (least_word (problem_duplicates T.problem)))

      seven : Option Refusal
      seven = of_kind side Unknown (option_map spot_of (least_word (domain_unknowns T))) (option_map spot_of (least_word (problem_unknowns T)))

      eight : Option Refusal
      eight = of_kind side Arity (option_map spot_of (least_word (domain_miscounts T))) (option_map spot_of (least_word (problem_miscounts T)))

      nine : Option Refusal
      nine = of_kind side TypeClash (option_map spot_of (least_word (domain_clashes T))) (option_map spot_of (least_word (problem_clashes T)))

-- what is found over a task's two halves
pub first-found : (side : Side) (T : Task) → in_order side (domain_found T) (problem_found T) ≡ option_map (refusal_of side) (first_offence T)
first-found side T =
    in-order side T (domain_found T) (problem_found T) (domain-duplicate T) (domain-unknown T) (domain-miscount T) (domain-clash T)
    (problem-duplicate T) (problem-unknown T) (problem-miscount T) (problem-clash T)
