-- Lists whose first word is of a class: where they have a tree, the word need not be looked at.
use Rattle.std.proofs.Common.{◌≡◌, ◌∙◌, refl, sym, ap, subst, Bool, true, false, if◌then◌else◌, List, [], ◌∷◌, Option, Some, None}
use Rattle.std.specs.Prelude.{IsSome}
use Rattle.p3_task.specs.Names.{Name, same_name, total_cost}
use Rattle.p3_task.specs.Grammar.Words.{◌>>=◌, each_at, expressions, headed, is_function_name, is_predicate_name, raws, word_if, word_place}
use Rattle.p3_task.specs.Grammar.Lists.{term_place, variables_in}
use Rattle.p3_task.specs.Grammar.Formulas.{AtomText, atom_in}
use Rattle.p3_task.specs.Grammar.Effects.{function_value_in}
use Rattle.p3_task.specs.Grammar.Halves.{header_in, header_place, initial_in}
use Rattle.p3_task.specs.declared.effect.Amount.TheVariants as amount
use Rattle.p3_task.specs.declared.effect.Amount.{Amount}
use Rattle.p3_task.specs.declared.expression.Expression.{Expression, Group'}
use Rattle.p3_task.specs.declared.expression.Expression.TheVariants as expression
use Rattle.p3_task.specs.declared.task.Header.{Header}
use Rattle.p3_task.specs.declared.task.Init.{Init}
use Rattle.p3_task.specs.declared.term.Ref.{Ref}
use Rattle.p3_task.specs.declared.term.Term.{Term}
use Rattle.p3_task.specs.declared.term.Typed.{Typed}
use Rattle.p3_syntax.specs.Trees.{listed, with_head}
use Rattle.p3_syntax.proofs.TreeLemmas.{raws_listed}

-- what is read first has a tree where the whole has one
pub some_first : {A B : Type 0} (read : Option A) (next : A → Option B) → IsSome (read >>= next) → IsSome read
some_first None next has = has
some_first (Some x) next has = refl

-- and what is read next
pub some_next : {A B : Type 0} (read : Option A) (x : A) (next : A → Option B) → read ≡ Some x → IsSome (read >>= next) → IsSome (next x)
some_next {A} {B} read x next is has = subst (λ (found : Option A). IsSome (found >>= next)) is has

module _ {A : Type 0} (test : Name → Bool) (made : Ref → List Expression → Option A) where
  abbrev pub tested_in : List Expression → Option A
  tested_in [] = None
  tested_in (first ∷ behind) = word_if test first >>= λ word. made word behind

  pub tested_known : (es : List Expression) → IsSome (tested_in es) → tested_in es ≡ headed (λ (e : Expression). e) es >>= λ list. made list.0 list.1
  tested_known [] has = refl
  tested_known (first ∷ behind) has = by (word_place first) has
    where
      by_test : (b : Bool) (word : Ref) → IsSome ((if b then Some word else None) >>= λ word. made word behind) → ((if b then Some word else None) >>= λ word. made word behind) ≡ made word behind
      by_test true word has = refl
      by_test false word has = absurd cc

      with_behind : Ref → Ref × List Expression
      with_behind word = (word, behind)

      by : (word : Option Ref) → IsSome ((word >>= λ word. if test word.name then Some word else None) >>= λ word. made word behind)
          → ((word >>= λ word. if test word.name then Some word else None) >>= λ word. made word behind) ≡ (word >>= λ word. Some (with_behind word)) >>= λ list. made list.0 list.1
      by None has = refl
      by (Some word) has = by_test (test word.name) word has

-- ---- atoms

abbrev atom_with : Ref → List Expression → Option AtomText
atom_with head behind = each_at term_place behind >>= λ args. Some (record { pred = head; args = args })

pub headed_atom : (es : List Expression) → IsSome (atom_in es) → atom_in es ≡ headed (λ (e : Expression). e) es >>= λ list. each_at term_place list.1 >>= λ args. Some (record { pred = list.0; args = args })
headed_atom [] has = refl
headed_atom (first ∷ behind) has = tested_known is_predicate_name atom_with (first ∷ behind) has

module _ {A B : Type 0} (place : Expression → A) (head : Ref) (es : List Expression) (f : AtomText → B) where
  abbrev atom_of : List Expression → Option B
  atom_of behind = atom_in (with_head head behind) >>= λ atom. Some (f atom)

  pub named_atom : IsSome (atom_in (raws (listed place (with_head head es))) >>= λ atom. Some (f atom))
      → (atom_in (raws (listed place (with_head head es))) >>= λ atom. Some (f atom)) ≡ each_at term_place es >>= λ args. Some (f (record { pred = head; args = args }))
  named_atom = subst (λ (behind : List Expression). IsSome (atom_of behind) → atom_of behind ≡ each_at term_place es >>= λ args. Some (f (record { pred = head; args = args }))) (sym (raws_listed place es))
      (by (is_predicate_name head.name) (each_at term_place es))
    where
      by : (b : Bool) (args : Option (List Term))
          → IsSome (((if b then Some head else None) >>= λ pred. args >>= λ args. Some (record { pred = pred; args = args })) >>= λ (atom : AtomText). Some (f atom))
          → (((if b then Some head else None) >>= λ pred. args >>= λ args. Some (record { pred = pred; args = args })) >>= λ (atom : AtomText). Some (f atom)) ≡ args >>= λ args. Some (f (record { pred = head; args = args }))
      by true None has = refl
      by true (Some args) has = refl
      by false args has = absurd cc

-- ---- values of functions

value_unless : Ref → List Term → Bool → Option Amount
value_unless function args is_cost = if is_cost then None else Some (amount.Value function args)

pub headed_value : (es : List Expression) → IsSome (function_value_in es) → function_value_in es ≡ headed (λ (e : Expression). e) es >>= λ list. each_at term_place list.1 >>= λ args. Some (amount.Value list.0 args)
unfolding value_unless
headed_value [] has = refl
headed_value (first ∷ behind) has =
    tested_known is_function_name (λ function behind. each_at term_place behind >>= λ args. value_unless function args (same_name function.name total_cost)) (first ∷ behind) has
    ∙ by (word_place first) (subst IsSome (tested_known is_function_name (λ function behind. each_at term_place behind >>= λ args. value_unless function args (same_name function.name total_cost)) (first ∷ behind) has) has)
  where
    with_behind : Ref → Ref × List Expression
    with_behind word = (word, behind)

    by_args : (word : Ref) (args : Option (List Term)) (b : Bool) → IsSome (args >>= λ args. value_unless word args b) → (args >>= λ args. value_unless word args b) ≡ args >>= λ args. Some (amount.Value word args)
    by_args word None b has = refl
    by_args word (Some args) true has = absurd cc
    by_args word (Some args) false has = refl

    by : (word : Option Ref)
        → IsSome ((word >>= λ word. Some (with_behind word)) >>= λ list. each_at term_place list.1 >>= λ args. value_unless list.0 args (same_name list.0.name total_cost))
        → ((word >>= λ word. Some (with_behind word)) >>= λ list. each_at term_place list.1 >>= λ args. value_unless list.0 args (same_name list.0.name total_cost))
        ≡ (word >>= λ word. Some (with_behind word)) >>= λ list. each_at term_place list.1 >>= λ args. Some (amount.Value list.0 args)
    by None has = refl
    by (Some word) has = by_args word (each_at term_place behind) (same_name word.name total_cost) has

-- ---- entries of the initial state, and headers

pub headed_initial : (entry : Ref → List Expression → Option Init) (test : Name → Bool) (es : List Expression) → IsSome (initial_in entry (word_if test) es)
    → initial_in entry (word_if test) es ≡ headed (λ (e : Expression). e) es >>= λ list. entry list.0 list.1
headed_initial entry test [] has = refl
headed_initial entry test (first ∷ behind) has = tested_known test entry (first ∷ behind) has

header_with : Ref → Option (List Typed) → Option Header
header_with name params = params >>= λ params. Some (record { name = name; params = params })

pub headed_header : (test : Name → Bool) (e : Expression) → IsSome (header_place (word_if test) e) → header_place (word_if test) e ≡ header_place word_place e
unfolding header_with
headed_header test (expression.Word at text) has = refl
headed_header test (Group' at shape parts) has = in_list (expressions parts) has
  where
    by_test : (b : Bool) (word : Ref) (params : Option (List Typed)) → IsSome ((if b then Some word else None) >>= λ name. header_with name params)
        → ((if b then Some word else None) >>= λ name. header_with name params) ≡ header_with word params
    by_test true word params has = refl
    by_test false word params has = absurd cc

    by : (word : Option Ref) (params : Option (List Typed)) → IsSome ((word >>= λ word. if test word.name then Some word else None) >>= λ name. header_with name params)
        → ((word >>= λ word. if test word.name then Some word else None) >>= λ name. header_with name params) ≡ word >>= λ name. header_with name params
    by None params has = refl
    by (Some word) params has = by_test (test word.name) word params has

    in_list : (es : List Expression) → IsSome (header_in (word_if test) es) → header_in (word_if test) es ≡ header_in word_place es
    in_list [] has = refl
    in_list (first ∷ behind) has = by (word_place first) (variables_in behind) has

-- ---- what is read behind a head

module _ {X A : Type 0} (each : List Expression → Option X) (made : Ref → X → A) (read : Option A) (es : List Expression)
    (known : read ≡ headed (λ (e : Expression). e) es >>= λ list. each list.1 >>= λ args. Some (made list.0 args)) where
  abbrev made_of : Ref × List Expression → Option A
  made_of list = each list.1 >>= λ args. Some (made list.0 args)

  pub has_head : IsSome read → IsSome (headed (λ (e : Expression). e) es)
  has_head has = some_first (headed (λ (e : Expression). e) es) made_of (subst IsSome known has)

  module _ (list : Ref × List Expression) (at : headed (λ (e : Expression). e) es ≡ Some list) where
    pub has_args : IsSome read → IsSome (each list.1)
    has_args has = some_first (each list.1) (λ args. Some (made list.0 args)) (subst (λ (found : Option (Ref × List Expression)). IsSome (found >>= made_of)) at (subst IsSome known has))

    pub read_with : (args : X) → each list.1 ≡ Some args → (head : Ref) → head ≡ list.0 → read ≡ Some (made head args)
    read_with args is head same = known ∙ ap (λ (found : Option (Ref × List Expression)). found >>= made_of) at ∙ ap (λ (found : Option X). found >>= λ args. Some (made list.0 args)) is ∙ ap (λ (h : Ref). Some (made h args)) (sym same)
