-- What is true of all that a place may give.
use Rattle.std.proofs.Common.{◌≡◌, refl, subst, Bool, true, false, if◌then◌else◌, List, [], ◌∷◌, ◌++◌, map, Option, Some, None}
use Rattle.std.specs.Prelude.{filter, filter_map, flat_map, IfSome}
use Rattle.std.specs.List.{AllByRecursion, cons_option}
use Rattle.std.specs.Option.{option_or}
use Rattle.std.proofs.lemmas.List.Elements.{All-from_recursion, recursion_from_All, All-filter}
use Rattle.std.proofs.lemmas.Bool.{cond_both}
use Rattle.std.proofs.lemmas.Option.{same_Some}
use Rattle.p3_task.specs.Names.{Name, same_name}
use Rattle.p3_task.specs.Grammar.Words.{◌>>=◌, all_trees, only, pair, word_place, headed, choose}
use Rattle.p3_task.specs.declared.expression.Expression.{Expression}

-- a step that may give nothing, and what is true of all that it gives
pub record Gives {A : Type 0} (P : A → Type 0) (found : Option A) : Type 0 where
  pub gives : (a : A) → found ≡ Some a → P a

pub nothing : {A : Type 0} {P : A → Type 0} → Gives P None
nothing = record { gives = λ a is. absurd cc }

pub just : {A : Type 0} {P : A → Type 0} (a : A) → P a → Gives P (Some a)
just {P = P} a of = record { gives = λ b is. subst P (same_Some a b is) of }

-- ---- one step after another

-- the second step may use what is true of what the first gives
pub using : {A B : Type 0} {P : A → Type 0} {Q : B → Type 0} (first : Option A) (next : A → Option B) → Gives P first → ((a : A) → P a → Gives Q (next a)) → Gives Q (first >>= next)
using None next of later = nothing
using (Some a) next of later = later a (of.gives a refl)

-- of what the first gives nothing needs to be known
pub passing : {A B : Type 0} {Q : B → Type 0} (first : Option A) (next : A → Option B) → ((a : A) → Gives Q (next a)) → Gives Q (first >>= next)
passing None next later = nothing
passing (Some a) next later = later a

pub either : {A : Type 0} {P : A → Type 0} (first second : Option A) → Gives P first → Gives P second → Gives P (option_or first second)
either None second of other = other
either (Some a) second of other = of

pub whether : {A : Type 0} {P : A → Type 0} (test : Bool) (first second : Option A) → Gives P first → Gives P second → Gives P (if test then first else second)
whether true first second of other = of
whether false first second of other = other

-- the form of a list, whatever its first word is
pub choice : {F : Type 0} (P : F → Type 0) (word : Name) (forms : List (Name × F)) (other : F) → AllByRecursion (λ form. P form.1) forms → P other → P (choose word forms other)
choice P word [] other each last = last
choice P word (form ∷ forms) other each last = cond_both (same_name form.0 word) form.1 (choose word forms other) P (λ is. each.0) (λ is. choice P word forms other each.1 last)

-- ---- lists

pub each_mapped : {A B : Type 0} (P : A → Type 0) (Q : B → Type 0) (f : A → B) → ((a : A) → P a → Q (f a)) → (list : List A) → AllByRecursion P list → AllByRecursion Q (map f list)
each_mapped P Q f of [] each = tt
each_mapped P Q f of (a ∷ list) each = (of a each.0, each_mapped P Q f of list each.1)

module _ {A : Type 0} (P : A → Type 0) where
  pub each_filtered : (test : A → Bool) (list : List A) → AllByRecursion P list → AllByRecursion P (filter test list)
  each_filtered test list each = recursion_from_All P (filter test list) (All-filter test P list (All-from_recursion P list each))

  pub each_appended : (first second : List A) → AllByRecursion P first → AllByRecursion P second → AllByRecursion P (first ++ second)
  each_appended [] second each other = other
  each_appended (a ∷ first) second each other = (each.0, each_appended first second each.1 other)

  pub each_joined : {B : Type 0} (f : B → List A) (list : List B) → AllByRecursion (λ b. AllByRecursion P (f b)) list → AllByRecursion P (flat_map f list)
  each_joined f [] each = tt
  each_joined f (b ∷ list) each = each_appended (f b) (flat_map f list) each.0 (each_joined f list each.1)

  each_put : (found : Option A) (list : List A) → IfSome found P → AllByRecursion P list → AllByRecursion P (cons_option found list)
  each_put None list of others = others
  each_put (Some a) list of others = (of, others)

  pub each_found : {B : Type 0} (f : B → Option A) (list : List B) → AllByRecursion (λ b. IfSome (f b) P) list → AllByRecursion P (filter_map f list)
  each_found f [] each = tt
  each_found f (b ∷ list) each = each_put (f b) (filter_map f list) each.0 (each_found f list each.1)

  -- ---- what is made of a list

  pub only_gives : (list : List A) → AllByRecursion P list → Gives P (only list)
  only_gives [] each = nothing
  only_gives (a ∷ []) each = just a each.0
  only_gives (a ∷ b ∷ list) each = nothing

  pub pair_gives : (list : List A) → AllByRecursion P list → Gives (λ both. P both.0 × P both.1) (pair list)
  pair_gives [] each = nothing
  pair_gives (a ∷ []) each = nothing
  pair_gives (a ∷ b ∷ []) each = just (a, b) (each.0, each.1.0)
  pair_gives (a ∷ b ∷ c ∷ list) each = nothing

  pub trees_give : (trees : List (Option A)) → AllByRecursion (Gives P) trees → Gives (AllByRecursion P) (all_trees trees)
  trees_give [] each = just [] tt
  trees_give (tree ∷ trees) each =
      using tree _ each.0 (λ first of. using (all_trees trees) _ (trees_give trees each.1) (λ rest others. just (first ∷ rest) (of, others)))

  pub headed_gives : (raw : A → Expression) (list : List A) → AllByRecursion P list → Gives (λ found. AllByRecursion P found.1) (headed raw list)
  headed_gives raw [] each = nothing
  headed_gives raw (first ∷ behind) each = passing (word_place (raw first)) _ (λ word. just (word, behind) each.1)
