-- The order of types is the reflexive, transitive closure of the declared pairs, with `object` above all.
use Rattle.std.proofs.Common.{◌≡◌, ◌↔◌, ◌⊎◌, inl, inr, ⊎_elim, refl, sym, subst, Bool, true, false, ◌&&◌, ◌||◌, List, [], ◌∷◌, zero, suc, arith}
use Rattle.std.specs.Prelude.{Contains, IsTrue}
use Rattle.std.proofs.lemmas.List.Elements.{Contains-append_left, Contains-append_right, Contains-append_cases, Contains-push}
use Rattle.std.proofs.lemmas.Slice.Eq.{bytes_eq-Decides}
use Rattle.p3_task.specs.Names.{Name, same_name, object_type}
use Rattle.p3_task.specs.Types.{declared_pairs, leads, below}
use Rattle.p3_task.specs.Laws.{Chain, none, step}
use Rattle.p3_task.specs.declared.task.Task.{Task}

abbrev Pair : Type 0
Pair = Name × Name

only_one : (pair other : Pair) → Contains (pair ∷ []) other → pair ≡ other
only_one pair other (zero, within, same) = same
only_one pair other (suc k, within, same) = absurd (omega arith)

-- ---- chains

chained : {pairs : List Pair} {low middle high : Name} → Chain pairs low middle → Chain pairs middle high → Chain pairs low high
chained (none kind) rest = rest
chained (step low next middle here more) rest = step low next _ here (chained more rest)

with_one_more : (pair : Pair) {pairs : List Pair} {low high : Name} → Chain pairs low high → Chain (pair ∷ pairs) low high
with_one_more pair (none kind) = none kind
with_one_more pair (step low middle high here more) = step low middle high (Contains-append_right (pair ∷ []) _ _ here) (with_one_more pair more)

-- a chain goes without the first pair, or by way of it
abbrev Ways : Pair → List Pair → Name → Name → Type 0
Ways pair pairs low high = Chain pairs low high ⊎ (Chain pairs low pair.0 × Chain pairs pair.1 high)

after_first : (pair : Pair) (pairs : List Pair) (low middle high : Name) → pair ≡ (low, middle) → Ways pair pairs middle high → Ways pair pairs low high
after_first pair pairs low middle high same (inl rest) = inr (subst (Chain pairs low) (λ i. (sym same i).0) (none low), subst (λ kind. Chain pairs kind high) (λ i. (sym same i).1) rest)
after_first pair pairs low middle high same (inr both) = inr (subst (Chain pairs low) (λ i. (sym same i).0) (none low), both.1)

after_other : (pair : Pair) (pairs : List Pair) (low middle high : Name) → Contains pairs (low, middle) → Ways pair pairs middle high → Ways pair pairs low high
after_other pair pairs low middle high here (inl rest) = inl (step low middle high here rest)
after_other pair pairs low middle high here (inr both) = inr (step low middle _ here both.0, both.1)

after : (pair : Pair) (pairs : List Pair) (low middle high : Name) → Contains (pair ∷ []) (low, middle) ⊎ Contains pairs (low, middle) → Ways pair pairs middle high → Ways pair pairs low high
after pair pairs low middle high (inl here) ways = after_first pair pairs low middle high (only_one pair (low, middle) here) ways
after pair pairs low middle high (inr here) ways = after_other pair pairs low middle high here ways

ways : (pair : Pair) (pairs : List Pair) {low high : Name} → Chain (pair ∷ pairs) low high → Ways pair pairs low high
ways pair pairs (none kind) = inl (none kind)
ways pair pairs (step low middle high here more) = after pair pairs low middle high (Contains-append_cases (pair ∷ []) pairs (low, middle) here) (ways pair pairs more)

-- ---- the search

some_way : (first second third : Bool) → (first || (second && third)) ≡ true → (first ≡ true) ⊎ ((second ≡ true) × (third ≡ true))
some_way true second third e = inl refl
some_way false true true e = inr (refl, refl)
some_way false true false e = absurd (cc)
some_way false false third e = absurd (cc)

chain_by : (pair : Pair) (pairs : List Pair) (low high : Name) → Ways pair pairs low high → Chain (pair ∷ pairs) low high
chain_by pair pairs low high (inl without) = with_one_more pair without
chain_by pair pairs low high (inr by) = chained (with_one_more pair by.0) (step pair.0 pair.1 high (Contains-append_left (pair ∷ []) pairs pair (Contains-push [] pair)) (with_one_more pair by.1))

chain-from_leads : (pairs : List Pair) (low high : Name) → leads pairs low high ≡ true → Chain pairs low high
chain-from_leads [] low high e = subst (Chain [] low) ((bytes_eq-Decides low high).0 e) (none low)
chain-from_leads (pair ∷ pairs) low high e =
    chain_by pair pairs low high (⊎_elim (λ without. inl (chain-from_leads pairs low high without)) (λ by. inr (chain-from_leads pairs low pair.0 by.0, chain-from_leads pairs pair.1 high by.1)) (some_way (leads pairs low high) (leads pairs low pair.0) (leads pairs pair.1 high) e))

some_way_true : (first second third : Bool) → (first ≡ true) ⊎ ((second ≡ true) × (third ≡ true)) → (first || (second && third)) ≡ true
some_way_true true second third e = refl
some_way_true false true true e = refl
some_way_true false true false (inl e) = e
some_way_true false true false (inr e) = e.1
some_way_true false false third (inl e) = e
some_way_true false false third (inr e) = e.0

leads-from_chain : (pairs : List Pair) (low high : Name) → Chain pairs low high → leads pairs low high ≡ true
leads-from_chain [] low high (none kind) = (bytes_eq-Decides kind kind).1 refl
leads-from_chain [] low high (step _ middle _ here more) = absurd (omega (arith, here.1))
leads-from_chain (pair ∷ pairs) low high chain =
    some_way_true (leads pairs low high) (leads pairs low pair.0) (leads pairs pair.1 high)
    (⊎_elim (λ without. inl (leads-from_chain pairs low high without)) (λ by. inr (leads-from_chain pairs low pair.0 by.0, leads-from_chain pairs pair.1 high by.1)) (ways pair pairs chain))

either_true : (first second : Bool) → (first || second) ≡ true → (first ≡ true) ⊎ (second ≡ true)
either_true true second e = inl refl
either_true false second e = inr e

true_of_either : (first second : Bool) → (first ≡ true) ⊎ (second ≡ true) → (first || second) ≡ true
true_of_either true second e = refl
true_of_either false second (inl e) = absurd (cc)
true_of_either false second (inr e) = e

pub below_is_the_closure : (T : Task) (low high : Name) → IsTrue (below T low high) ↔ ((high ≡ object_type) ⊎ Chain (declared_pairs T) low high)
unfolding below
below_is_the_closure T low high = (
  λ e. ⊎_elim (λ top. inl ((bytes_eq-Decides high object_type).0 top)) (λ way. inr (chain-from_leads (declared_pairs T) low high way)) (either_true (same_name high object_type) (leads (declared_pairs T) low high) e),
  λ way. true_of_either (same_name high object_type) (leads (declared_pairs T) low high) (⊎_elim (λ top. inl ((bytes_eq-Decides high object_type).1 top)) (λ chain. inr (leads-from_chain (declared_pairs T) low high chain)) way),
)
