-- A task is well-formed exactly where it has no first offence.
use Rattle.std.proofs.Common.{◌≡◌, ◌↔◌, refl, List, [], ◌∷◌, ◌++◌, Option, None}
use Rattle.std.specs.Option.{option_or}
use Rattle.p3_base.specs.declared.refusal.Code.{Code}
use Rattle.p3_base.specs.declared.refusal.Code.TheVariants.{Duplicate, Unknown, Arity, TypeClash}
use Rattle.p3_task.specs.Offences.{WellFormed, domain_duplicates, problem_duplicates, domain_unknowns, problem_unknowns, domain_miscounts, problem_miscounts, domain_clashes, problem_clashes}
use Rattle.p3_task.specs.FirstOffence.{InDomain, InProblem, Offence, offence, first_offence}
use Rattle.p3_task.specs.declared.term.Ref.{Ref}
use Rattle.p3_task.specs.declared.task.Task.{Task}

-- no word of one kind, in the domain, in the problem, and no later offence
no_word : (code : Code) (words more : List Ref) (rest : Option Offence) → (words ++ more ≡ []) × (rest ≡ None) → option_or (offence code InDomain words) (option_or (offence code InProblem more) rest) ≡ None
no_word code [] [] rest e = e.1
no_word code [] (word ∷ more) rest e = absurd (cc)
no_word code (word ∷ words) more rest e = absurd (cc)

no_word_from : (code : Code) (words more : List Ref) (rest : Option Offence) → option_or (offence code InDomain words) (option_or (offence code InProblem more) rest) ≡ None → (words ++ more ≡ []) × (rest ≡ None)
no_word_from code [] [] rest e = (refl, e)
no_word_from code [] (word ∷ more) rest e = absurd (cc)
no_word_from code (word ∷ words) more rest e = absurd (cc)

abbrev no_more : Option Offence
no_more = None

module _ (T : Task) where
  -- the first of the later kinds
  from_clash : Option Offence
  from_clash = option_or (offence TypeClash InDomain (domain_clashes T)) (option_or (offence TypeClash InProblem (problem_clashes T)) None)

  from_arity : Option Offence
  from_arity = option_or (offence Arity InDomain (domain_miscounts T)) (option_or (offence Arity InProblem (problem_miscounts T)) from_clash)

  from_unknown : Option Offence
  from_unknown = option_or (offence Unknown InDomain (domain_unknowns T)) (option_or (offence Unknown InProblem (problem_unknowns T)) from_arity)

  pub well_formed_where_no_offence : WellFormed T ↔ (first_offence T ≡ None)
  unfolding first_offence from_clash from_arity from_unknown
  well_formed_where_no_offence = (
    λ well.
        no_word Duplicate (domain_duplicates T.domain) (problem_duplicates T.problem) from_unknown (
          well.duplicates,
          no_word Unknown (domain_unknowns T) (problem_unknowns T) from_arity (
            well.unknowns,
            no_word Arity (domain_miscounts T) (problem_miscounts T) from_clash (
              well.miscounts,
              no_word TypeClash (domain_clashes T) (problem_clashes T) None (well.clashes, refl),
            ),
          ),
        ),
    λ e.
        let duplicates : (domain_duplicates T.domain ++ problem_duplicates T.problem ≡ []) × (from_unknown ≡ None) = no_word_from Duplicate (domain_duplicates T.domain) (problem_duplicates T.problem) from_unknown e in
        let unknowns : (domain_unknowns T ++ problem_unknowns T ≡ []) × (from_arity ≡ None) = no_word_from Unknown (domain_unknowns T) (problem_unknowns T) from_arity duplicates.1 in
        let miscounts : (domain_miscounts T ++ problem_miscounts T ≡ []) × (from_clash ≡ None) = no_word_from Arity (domain_miscounts T) (problem_miscounts T) from_clash unknowns.1 in
        let clashes : (domain_clashes T ++ problem_clashes T ≡ []) × (no_more ≡ None) = no_word_from TypeClash (domain_clashes T) (problem_clashes T) None miscounts.1 in
        record { duplicates = duplicates.0; unknowns = unknowns.0; miscounts = miscounts.0; clashes = clashes.0 },
  )
