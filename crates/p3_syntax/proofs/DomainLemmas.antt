-- Types and functions of a domain, item by item.
use Rattle.std.proofs.Common.{◌≡◌, ◌∙◌, refl, ap, subst, List, codes, Option, Some, None}
use Rattle.std.specs.Prelude.{IsSome}
use Rattle.p3_task.specs.Grammar.Words.{◌>>=◌, name_place, function_place, is_word}
use Rattle.p3_task.specs.Grammar.Halves.{Section, header_place, kind_item, half_at, domain_keywords, domain_place}
use Rattle.p3_task.specs.Grammar.Halves as halves
use Rattle.p3_task.specs.declared.expression.Expression.{Expression}
use Rattle.p3_task.specs.declared.term.Ref.{Ref}
use Rattle.p3_task.specs.declared.term.Typed.{Typed}
use Rattle.p3_task.specs.declared.constraint.Constraint.{Constraint}
use Rattle.p3_task.specs.declared.task.Part.{Part}
use Rattle.p3_task.specs.declared.task.Kind.{Kind}
use Rattle.p3_task.specs.declared.task.Header.{Header}
use Rattle.p3_task.specs.declared.task.Action.{Action}
use Rattle.p3_task.specs.declared.task.Domain.{Domain}
use Rattle.p3_syntax.specs.declared.tree.domains.Declarations.{Declarations}
use Rattle.p3_syntax.specs.declared.tree.domains.DomainContents.{DomainContents}
use Rattle.p3_syntax.proofs.HeadLemmas.{some_first}
use Rattle.p3_syntax.proofs.SectionLemmas.{half_known}
use Rattle.p3_syntax.specs.Sections.{half_place, requirements_among, constraints_among}
use Rattle.p3_syntax.specs.Groups.{all_grouped, each_item}
use Rattle.p3_syntax.specs.Domains.{kind_at, function_at, kinds_of, functions_of, header_of, kinds_among, constants_among, predicates_among, functions_among, actions_among, declarations_among, contents_among, domain_of}
use Rattle.p3_syntax.proofs.GroupLemmas.{grouped_each}

pub kinds_each : (list : List Expression) → kinds_of list ≡ each_item kind_at (all_grouped list)
kinds_each list = grouped_each name_place name_place kind_item list

pub functions_each : (list : List Expression) → functions_of list ≡ each_item function_at (all_grouped list)
functions_each list = grouped_each (header_place function_place) (is_word (codes "number")) header_of list

-- ---- the sections together

-- parts that are read one after another, and put together in between
module _ {K C P F : Type 0} {D R : Type 0} (declared : K → C → P → F → D) (next : D → Option R) where
  pub declared_first : (k : Option K) (c : Option C) (p : Option P) (f : Option F)
      → (k >>= λ k. c >>= λ c. p >>= λ p. f >>= λ f. next (declared k c p f)) ≡ (k >>= λ k. c >>= λ c. p >>= λ p. f >>= λ f. Some (declared k c p f)) >>= next
  declared_first None c p f = refl
  declared_first (Some k) None p f = refl
  declared_first (Some k) (Some c) None f = refl
  declared_first (Some k) (Some c) (Some p) None = refl
  declared_first (Some k) (Some c) (Some p) (Some f) = refl

module _ {W D C A R S : Type 0} (contents : D → C → A → R) (next : R → S) where
  pub contents_first : (w : Option W) (d : Option D) (c : Option C) (a : Option A)
      → (w >>= λ w. d >>= λ d. c >>= λ c. a >>= λ a. Some (next (contents d c a))) ≡ (w >>= λ w. d >>= λ d. a >>= λ a. c >>= λ c. Some (contents d c a)) >>= λ contents. Some (next contents)
  contents_first None d c a = refl
  contents_first (Some w) None c a = refl
  contents_first (Some w) (Some d) None None = refl
  contents_first (Some w) (Some d) None (Some a) = refl
  contents_first (Some w) (Some d) (Some c) None = refl
  contents_first (Some w) (Some d) (Some c) (Some a) = refl

abbrev declarations_of : List Kind → List Typed → List Header → List Header → Declarations
declarations_of kinds constants predicates functions = record { kinds = kinds; constants = constants; predicates = predicates; functions = functions }

abbrev contents_of : Declarations → Part Constraint → List Action → DomainContents
contents_of declarations constraints actions = record { declarations = declarations; constraints = constraints; actions = actions }

-- what stands behind the declarations
abbrev rest_of : Ref → List Section → Declarations → Option Domain
rest_of name sections declarations = do
  constraints ← constraints_among sections
  actions ← actions_among sections
  Some (domain_of name (contents_of declarations constraints actions))

abbrev pub domain_in : halves.NamedSections → Option Domain
domain_in half = contents_among half.sections >>= λ contents. Some (domain_of half.name contents)

by_sections : (name : Ref) (sections : List Section)
    → (requirements_among sections >>= λ words. kinds_among sections >>= λ kinds. constants_among sections >>= λ constants. predicates_among sections >>= λ predicates. functions_among sections >>= λ functions.
    rest_of name sections (declarations_of kinds constants predicates functions))
    ≡ contents_among sections >>= λ contents. Some (domain_of name contents)
by_sections name sections =
    ap (λ (later : Option Domain). requirements_among sections >>= λ words. later)
    (declared_first declarations_of (rest_of name sections) (kinds_among sections) (constants_among sections) (predicates_among sections) (functions_among sections))
    ∙ contents_first contents_of (domain_of name) (requirements_among sections) (declarations_among sections) (constraints_among sections) (actions_among sections)

by_contents : (e : Expression) → domain_place e ≡ half_at (codes "domain") domain_keywords e >>= domain_in
unfolding domain_place
by_contents e = by (half_at (codes "domain") domain_keywords e)
  where
    by : (half : Option halves.NamedSections) → (half >>= λ half. requirements_among half.sections >>= λ words. kinds_among half.sections >>= λ kinds. constants_among half.sections >>= λ constants.
        predicates_among half.sections >>= λ predicates. functions_among half.sections >>= λ functions. rest_of half.name half.sections (declarations_of kinds constants predicates functions)) ≡ half >>= domain_in
    by None = refl
    by (Some half) = by_sections half.name half.sections

pub domain_known : (e : Expression) → IsSome (domain_place e) → domain_place e ≡ half_place e >>= domain_in
domain_known e has =
    by_contents e
    ∙ ap (λ (half : Option halves.NamedSections). half >>= domain_in)
    (half_known (codes "domain") domain_keywords e (some_first (half_at (codes "domain") domain_keywords e) domain_in (subst IsSome (by_contents e) has)))
