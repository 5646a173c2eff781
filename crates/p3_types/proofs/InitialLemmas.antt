-- The first value that entries give to the total cost.
use Rattle.std.proofs.Common.{◌≡◌, ◌∙◌, ℕ, ◌+◌, ◌<◌, ◌≤◌, List, [], ◌∷◌, Option, Some, None, length, drop, get_or, refl, sym, ap, arith, zero, suc, add-one}
use Rattle.std.specs.Prelude.{filter_map, slice_get, unwrap_or}
use Rattle.std.specs.List.{cons_option}
use Rattle.std.specs.Option.{option_or}
use Rattle.std.proofs.Math.Seq.{drop-cons}
use Rattle.p3_task.specs.Costs.{entry_value, given_value, initial_cost}
use Rattle.p3_task.specs.Names.{total_cost}
use Rattle.p3_task.specs.declared.task.Init.{Init}
use Rattle.p3_task.specs.declared.task.Task.{Task}

abbrev pub given_in : Task → List Init → Option ℕ
given_in T entries = slice_get (filter_map (entry_value T total_cost []) entries) 0

first-of : (value : Option ℕ) (others : List ℕ) → slice_get (cons_option value others) 0 ≡ option_or value (slice_get others 0)
first-of None others = refl
first-of (Some x) others = refl

-- the entry at a place, and what is behind it
pub given-next : (T : Task) (entries : List Init) (i : ℕ) (entry : Init) → i < length entries → entry ≡ get_or entries i entry → given_in T (drop i entries) ≡ option_or (entry_value T total_cost [] entry) (given_in T (drop (i + 1) entries))
given-next T entries i entry within read =
    ap (given_in T) (drop-cons entries i entry within ∙ (λ j. sym read j ∷ drop (sym (add-one i) j) entries))
    ∙ first-of (entry_value T total_cost [] entry) (filter_map (entry_value T total_cost []) (drop (i + 1) entries))

drop-past : {A : Type 0} (xs : List A) (i : ℕ) → length xs ≤ i → drop i xs ≡ []
drop-past [] zero past = refl
drop-past [] (suc i) past = refl
drop-past (x ∷ xs) zero past = absurd (omega arith)
drop-past (x ∷ xs) (suc i) past = drop-past xs i (omega arith)

pub given-none : (T : Task) (entries : List Init) (i : ℕ) → length entries ≤ i → given_in T (drop i entries) ≡ None
given-none T entries i past = ap (given_in T) (drop-past entries i past)

pub cost-is : (T : Task) (value : Option ℕ) → given_in T T.problem.init ≡ value → unwrap_or value 0 ≡ initial_cost T
unfolding given_value
cost-is T value is = ap (λ found. unwrap_or found 0) (sym is)
