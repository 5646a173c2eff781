-- Putting bytes, and then more.
use Rattle.std.proofs.Common.{◌≡◌, ◌∙◌, ◌++◌, ◌+◌, ◌<◌, ◌≤◌, ℕ, List, length, get_or, take, drop, suc, Option, Some, None, refl, sym, ap, subst, arith, append_assoc}
use Rattle.std.specs.Prelude.{min, Result, Ok, Err, OnErr, flat_map}
use Rattle.std.proofs.Math.Seq.{take-append-add}
use Rattle.std.proofs.lemmas.List.{take_all, take_min, take-append-le}
use Rattle.p3_base.specs.Outside.{IsPartlyPut, IsPut, with_put}
use Rattle.p3_reports.specs.Joined.{joined}
use Rattle.p3_reports.proofs.JoinedLemmas.{around, joined-flat_map, up_to}

with_put-with_put : (xs ys : List ℕ) (told : Option (List ℕ)) → with_put ys (with_put xs told) ≡ with_put (xs ++ ys) told
with_put-with_put xs ys None = refl
with_put-with_put xs ys (Some written) = ap Some (append_assoc written xs ys)

-- bytes, and then more
pub both_put : (xs ys : List ℕ) (old mid new : Option (List ℕ)) → IsPut xs old mid → IsPut ys mid new → IsPut (xs ++ ys) old new
both_put xs ys old mid new first second = second ∙ ap (with_put ys) first ∙ with_put-with_put xs ys old

-- a first part of the bytes is a first part of more
pub partly_first : (xs ys : List ℕ) (old new : Option (List ℕ)) → IsPartlyPut xs old new → IsPartlyPut (xs ++ ys) old new
partly_first xs ys old new (n, is) =
    let short : min n (length xs) ≤ length xs = omega arith in
    (min n (length xs), is ∙ ap (λ bytes. with_put bytes old) (sym (take-append-le (min n (length xs)) xs ys short ∙ take_min n xs)))

-- all of the bytes and a first part of more
pub partly_second : (xs ys : List ℕ) (old mid new : Option (List ℕ)) → IsPut xs old mid → IsPartlyPut ys mid new → IsPartlyPut (xs ++ ys) old new
partly_second xs ys old mid new whole (n, is) =
    (length xs + n, is ∙ ap (with_put (take n ys)) whole ∙ with_put-with_put xs (take n ys) old ∙ ap (λ bytes. with_put bytes old) (sym (take-append-add xs ys n)))

-- what is so anyway is so where there is an error
pub on_err : {T E P : Type 0} (r : Result T E) → P → OnErr r P
on_err (Ok x) p = tt
on_err (Err e) p = p

-- ---- things one behind another

module _ {A : Type 0} (text : A → List ℕ) (things : List A) where
  -- the texts of all things are put
  pub all_put : (k : ℕ) (old new : Option (List ℕ)) → length things ≤ k → IsPut (flat_map text (take k things)) old new → IsPut (flat_map text things) old new
  all_put k old new past is = is ∙ ap (λ some. with_put (flat_map text some) old) (take_all k things past)

  -- the text at a place is put behind those of the things before it
  pub one_more_put : (k : ℕ) (thing : A) (old mid new : Option (List ℕ)) → k < length things → thing ≡ get_or things k thing
      → IsPut (flat_map text (take k things)) old mid → IsPut (text thing) mid new → IsPut (flat_map text (take (k + 1) things)) old new
  one_more_put k thing old mid new low is before at =
      both_put (flat_map text (take k things)) (text thing) old mid new before at
      ∙ ap (λ whole. with_put whole old) (sym (up_to text things k thing low is))

  -- the texts of the things before a place are put, and a first part of the text at it
  pub partly_put : (k : ℕ) (thing : A) (old mid new : Option (List ℕ)) → k < length things → thing ≡ get_or things k thing
      → IsPut (flat_map text (take k things)) old mid → IsPartlyPut (text thing) mid new → IsPartlyPut (flat_map text things) old new
  partly_put k thing old mid new low is before partly =
      let front = flat_map text (take k things) in
      let back = flat_map text (drop (suc k) things) in
      subst (λ whole. IsPartlyPut whole old new) (sym (around text things k thing low is))
      (partly_first (front ++ text thing) back old new (partly_second front (text thing) old mid new before partly))

  -- the same, joined
  pub all_joined : (k : ℕ) (old new : Option (List ℕ)) → length things ≤ k → IsPut (flat_map text (take k things)) old new → IsPut (joined text things) old new
  all_joined k old new past is = all_put k old new past is ∙ ap (λ whole. with_put whole old) (sym (joined-flat_map text things))

  pub partly_joined : (k : ℕ) (thing : A) (old mid new : Option (List ℕ)) → k < length things → thing ≡ get_or things k thing
      → IsPut (flat_map text (take k things)) old mid → IsPartlyPut (text thing) mid new → IsPartlyPut (joined text things) old new
  partly_joined k thing old mid new low is before partly =
      subst (λ whole. IsPartlyPut whole old new) (sym (joined-flat_map text things)) (partly_put k thing old mid new low is before partly)
