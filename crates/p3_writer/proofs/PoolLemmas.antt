-- The texts of atoms in one row: one more, and the part between two starts.
use Rattle.std.proofs.Common.{◌≡◌, ◌∙◌, ℕ, zero, suc, ◌+◌, ◌-◌, ◌<◌, ◌≤◌, List, [], ◌∷◌, ◌++◌, length, take, drop, get_or, refl, sym, ap, subst, arith, append_assoc}
use Rattle.std.proofs.lemmas.List.{append-nil, length-append, drop_at, take_at, take_more}
use Rattle.p3_base.specs.Words.{Name}
use Rattle.p3_writer.specs.Layout.{atom_text, headers_text}
use Rattle.p3_writer.specs.AtomTexts.{IsPool, starts_from}

headers-push : (names : List Name) (name : Name) → headers_text (names ++ name ∷ []) ≡ headers_text names ++ (32 ∷ atom_text name)
headers-push [] name = append-nil (32 ∷ atom_text name)
headers-push (one ∷ names) name = ap (λ rest. (32 ∷ atom_text one) ++ rest) (headers-push names name) ∙ sym (append_assoc (32 ∷ atom_text one) (headers_text names) (32 ∷ atom_text name))

starts-push : (at : ℕ) (names : List Name) (name : Name) → starts_from at (names ++ name ∷ []) ≡ starts_from at names ++ (at + length (headers_text (names ++ name ∷ []))) ∷ []
starts-push at [] name = ap (λ text. at ∷ (at + length text) ∷ []) (sym (append-nil (32 ∷ atom_text name)))
starts-push at (one ∷ names) name =
    let long = length-append (32 ∷ atom_text one) (headers_text (names ++ name ∷ [])) in
    let same : at + length (32 ∷ atom_text one) + length (headers_text (names ++ name ∷ [])) ≡ at + length (headers_text ((one ∷ names) ++ name ∷ [])) = omega (arith, long) in
    ap (λ rest. at ∷ rest) (starts-push (at + length (32 ∷ atom_text one)) names name ∙ ap (λ n. starts_from (at + length (32 ∷ atom_text one)) names ++ n ∷ []) same)

-- one text more
pub next_pool : (names : List Name) (i : ℕ) (name : Name) → i < length names → name ≡ get_or names i name → (text starts : List ℕ) → IsPool (take i names) text starts
    → IsPool (take (i + 1) names) (text ++ (32 ∷ atom_text name)) (starts ++ length (text ++ (32 ∷ atom_text name)) ∷ [])
next_pool names i name within is text starts are =
    let more : take (i + 1) names ≡ take i names ++ name ∷ [] = take_more names i name within ∙ ap (λ one. take i names ++ one ∷ []) (sym is) in
    let whole : text ++ (32 ∷ atom_text name) ≡ headers_text (take i names ++ name ∷ []) = ap (λ front. front ++ (32 ∷ atom_text name)) are.laid ∙ sym (headers-push (take i names) name) in
    let behind : 0 + length (headers_text (take i names ++ name ∷ [])) ≡ length (headers_text (take i names ++ name ∷ [])) = omega arith in
    record {
      laid = whole ∙ ap headers_text (sym more);
      begun = (λ j. are.begun j ++ length (whole j) ∷ []) ∙ ap (λ n. starts_from 0 (take i names) ++ n ∷ []) (sym behind) ∙ sym (starts-push 0 (take i names) name) ∙ ap (starts_from 0) (sym more);
    }

-- ---- the part between two starts

first_start : (at : ℕ) (names : List Name) → get_or (starts_from at names) 0 0 ≡ at
first_start at [] = refl
first_start at (name ∷ names) = refl

pub many_starts : (at : ℕ) (names : List Name) → length (starts_from at names) ≡ suc (length names)
many_starts at [] = refl
many_starts at (name ∷ names) = ap suc (many_starts (at + length (32 ∷ atom_text name)) names)

-- the part from a start, with which a list of starts begins, to the next one
pub record IsPart (text behind part : List ℕ) : Type 0 where
  pub many : 1 < length behind
  pub rises : get_or behind 0 0 ≤ get_or behind 1 0
  pub within : get_or behind 1 0 ≤ length text
  pub is : take (get_or behind 1 0 - get_or behind 0 0) (drop (get_or behind 0 0) text) ≡ part

parts_behind : (before : List ℕ) (names : List Name) (k : ℕ) → k < length names → IsPart (before ++ headers_text names) (drop k (starts_from (length before) names)) (32 ∷ atom_text (get_or names k []))
parts_behind before [] k within = absurd (omega (arith, within))
parts_behind before (name ∷ names) zero within =
    let here = 32 ∷ atom_text name in
    let next = first_start (length before + length here) names in
    let long = length-append before (here ++ headers_text names) in
    let longer = length-append here (headers_text names) in
    let many = many_starts (length before + length here) names in
    record {
      many = omega (arith, many);
      rises = omega (arith, next);
      within = omega (arith, next, long, longer);
      is = (λ i. take (next i - length before) (drop_at before (here ++ headers_text names) (length before) refl i))
          ∙ take_at here (headers_text names) (length before + length here - length before) (omega arith);
    }
parts_behind before (name ∷ names) (suc k) within =
    let here = 32 ∷ atom_text name in
    let rest = parts_behind (before ++ here) names k (omega (arith, within)) in
    let from : length (before ++ here) ≡ length before + length here = length-append before here in
    let whole : (before ++ here) ++ headers_text names ≡ before ++ (here ++ headers_text names) = append_assoc before here (headers_text names) in
    subst (λ n. IsPart (before ++ (here ++ headers_text names)) (drop k (starts_from n names)) (32 ∷ atom_text (get_or names k []))) from
    (subst (λ text. IsPart text (drop k (starts_from (length (before ++ here)) names)) (32 ∷ atom_text (get_or names k []))) whole rest)

pub part_is : (names : List Name) (text starts : List ℕ) → IsPool names text starts → (k : ℕ) → k < length names → (behind : List ℕ) → behind ≡ drop k starts → IsPart text behind (32 ∷ atom_text (get_or names k []))
part_is names text starts are k within behind is =
    subst (λ whole. IsPart whole behind (32 ∷ atom_text (get_or names k []))) (sym are.laid)
    (subst (λ from. IsPart (headers_text names) from (32 ∷ atom_text (get_or names k []))) (sym (is ∙ ap (drop k) are.begun)) (parts_behind [] names k within))

pub start_within : (names : List Name) (text starts : List ℕ) → IsPool names text starts → (k : ℕ) → k < length names → k ≤ length starts
start_within names text starts are k within =
    let many = ap length are.begun ∙ many_starts 0 names in
    omega (arith, many, within)
