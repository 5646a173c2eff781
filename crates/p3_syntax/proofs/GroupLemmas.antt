-- Items with types, one group after another.
use Rattle.std.proofs.Common.{◌≡◌, ◌∙◌, refl, sym, ap, subst, ℕ, zero, suc, ◌+◌, add-one, Bool, true, false, not, ◌&&◌, if◌then◌else◌, List, [], ◌∷◌, ◌++◌, map, fold, take, drop, Option, Some, None, append_assoc}
use Rattle.std.specs.Prelude.{IsSome, MatchOption}
use Rattle.std.proofs.lemmas.List.{append-nil}
use Rattle.std.proofs.lemmas.List.Folds.{fold_stays}
use Rattle.p3_task.specs.Names.{is_empty}
use Rattle.p3_task.specs.Grammar.Words.{◌>>=◌, Place, all_trees, each_at}
use Rattle.p3_task.specs.Grammar.Lists.{Scan, scanned, all_scanned, with_type, with_item, grouped, is_dash}
use Rattle.p3_task.specs.declared.expression.Expression.{Expression}
use Rattle.p3_syntax.specs.Groups.{Item, all_grouped, with_later, item_before, each_item, kind_at, item_at}

abbrev pub front : {A : Type 0} → List A → Option (List A) → Option (List A)
front list later = later >>= λ rest. Some (list ++ rest)

abbrev pub scan_of : {A B : Type 0} → List (A × Option B) → List A → Bool → Scan A B
scan_of typed waiting next = record { typed = typed; waiting = waiting; is_type_next = next }

module _ {A B : Type 0} (item : Place A) (type : Place B) where
  abbrev pub run : Option (Scan A B) → List Expression → Option (List (A × Option B))
  run scan list = fold (scanned item type) scan list >>= all_scanned

  pub run_none : (list : List Expression) → run None list ≡ None
  run_none list = ap (λ (scan : Option (Scan A B)). scan >>= all_scanned) (fold_stays (scanned item type) None (λ e. refl) list)

  -- what is typed stays in front
  abbrev Fronted : List Expression → Type 0
  Fronted list = (t s : List (A × Option B)) (w : List A) (n : Bool) → run (Some (scan_of (t ++ s) w n)) list ≡ front t (run (Some (scan_of s w n)) list)

  none_fronted : (list : List Expression) (t : List (A × Option B)) → run None list ≡ front t (run None list)
  none_fronted list t = run_none list ∙ sym (ap (front t) (run_none list))

  type_fronted : (list : List Expression) → Fronted list → (t s : List (A × Option B)) (w : List A) (found : Option B)
      → run (found >>= λ f. Some (with_type (scan_of (t ++ s) w true) f)) list ≡ front t (run (found >>= λ f. Some (with_type (scan_of s w true) f)) list)
  type_fronted list later t s w None = none_fronted list t
  type_fronted list later t s w (Some f) = ap (λ typed. run (Some (scan_of typed [] false)) list) (append_assoc t s (map (λ x. (x, Some f)) w)) ∙ later t (s ++ map (λ x. (x, Some f)) w) [] false

  item_fronted : (list : List Expression) → Fronted list → (t s : List (A × Option B)) (w : List A) (found : Option A)
      → run (found >>= λ f. Some (with_item (scan_of (t ++ s) w false) f)) list ≡ front t (run (found >>= λ f. Some (with_item (scan_of s w false) f)) list)
  item_fronted list later t s w None = none_fronted list t
  item_fronted list later t s w (Some f) = later t s (w ++ f ∷ []) false

  word_fronted : (list : List Expression) → Fronted list → (t s : List (A × Option B)) (w : List A) (found : Option A) (dash : Bool)
      → run (if dash then Some (scan_of (t ++ s) w true) else (found >>= λ f. Some (with_item (scan_of (t ++ s) w false) f))) list
      ≡ front t (run (if dash then Some (scan_of s w true) else (found >>= λ f. Some (with_item (scan_of s w false) f))) list)
  word_fronted list later t s w found true = later t s w true
  word_fronted list later t s w found false = item_fronted list later t s w found

  pub fronted : (list : List Expression) → Fronted list
  fronted [] t s w true = refl
  fronted [] t s w false = ap Some (append_assoc t s (map (λ x. (x, None)) w))
  fronted (e ∷ list) t s w true = type_fronted list (fronted list) t s w (type e)
  fronted (e ∷ list) t s w false = word_fronted list (fronted list) t s w (item e) (is_dash e && not (is_empty w))

-- ---- items before a place makes anything of them

-- what is found where these items wait for their type
abbrev pub scan : List Expression → List Expression → Option (List Item)
scan waiting list = run {A = Expression} {B = Expression} Some Some (Some (scan_of [] waiting false)) list

abbrev next_scan : List Expression → Expression → Bool → Option (Scan Expression Expression)
next_scan waiting e dash = if dash && not (is_empty waiting) then Some (scan_of [] waiting true) else Some (scan_of [] (waiting ++ e ∷ []) false)

abbrev next_run : List Expression → Expression → List Expression → Bool → Option (List Item)
next_run waiting e list dash = run {A = Expression} {B = Expression} Some Some (next_scan waiting e dash) list

first_run : (f : Expression) (list : List Expression) (dash : Bool) → scan (f ∷ []) list ≡ next_run [] f list dash
first_run f list true = refl
first_run f list false = refl

scan_item : (w : List Expression) (e : Expression) (list : List Expression) → is_dash e ≡ false → scan w (e ∷ list) ≡ scan (w ++ e ∷ []) list
scan_item w e list other = ap (next_run w e list) other

scan_kind : (f : Expression) (w : List Expression) (e k : Expression) (list : List Expression) → is_dash e ≡ true → scan (f ∷ w) (e ∷ k ∷ list) ≡ with_later (Some k) (f ∷ w) (all_grouped list)
scan_kind f w e k list dash =
    let typed : List Item = map (λ x. (x, Some k)) (f ∷ w) in
    ap (next_run (f ∷ w) e (k ∷ list)) dash
    ∙ ap (λ (t : List Item). run {A = Expression} {B = Expression} Some Some (Some (scan_of t [] false)) list) (sym (append-nil typed)) ∙ fronted {A = Expression} {B = Expression} Some Some list typed [] [] false

first_before : (f : Expression) (kind : Option Expression) (w : List Expression) (later : Option (List Item)) → with_later kind (f ∷ w) later ≡ item_before (f, kind) (with_later kind w later)
first_before f kind w None = refl
first_before f kind w (Some items) = refl

taken_more : (n : ℕ) (list : List Expression) (e : Expression) (after : List Expression) → drop n list ≡ e ∷ after → take (suc n) list ≡ take n list ++ e ∷ []
taken_more zero [] e after is = absurd cc
taken_more zero (x ∷ list) e after is = cc
taken_more (suc n) [] e after is = absurd cc
taken_more (suc n) (x ∷ list) e after is = ap (λ l. x ∷ l) (taken_more n list e after is)

dropped_more : (n : ℕ) (list : List Expression) (e : Expression) (after : List Expression) → drop n list ≡ e ∷ after → drop (suc n) list ≡ after
dropped_more zero [] e after is = absurd cc
dropped_more zero (x ∷ list) e after is = cc
dropped_more (suc n) [] e after is = absurd cc
dropped_more (suc n) (x ∷ list) e after is = dropped_more n list e after is

-- ---- the items of a group, one after another

pub group_dropped : (n : ℕ) (list before after : List Expression) (e : Expression) → before ≡ e ∷ after → before ≡ drop n list → after ≡ drop (n + 1) list
group_dropped n list before after e is here = rw add-one (sym (dropped_more n list e after (sym here ∙ is)))

module _ (f : Expression) (n : ℕ) (list before : List Expression) (whole : Option (List Item)) (so_far : scan (f ∷ take n list) before ≡ whole) where
  pub group_item : (e : Expression) (after : List Expression) → before ≡ e ∷ after → before ≡ drop n list → is_dash e ≡ false → scan (f ∷ take (n + 1) list) after ≡ whole
  group_item e after is here other =
      let more : take (n + 1) list ≡ take n list ++ e ∷ [] = rw add-one (taken_more n list e after (sym here ∙ is)) in
      ap (λ w. scan (f ∷ w) after) more ∙ sym (scan_item (f ∷ take n list) e after other) ∙ sym (ap (scan (f ∷ take n list)) is) ∙ so_far

  pub group_kind : (e k : Expression) (dashed after : List Expression) → before ≡ e ∷ dashed → is_dash e ≡ true → dashed ≡ k ∷ after
      → whole ≡ item_before (f, Some k) (with_later (Some k) (take n list) (all_grouped after))
  group_kind e k dashed after is dash behind =
      sym so_far ∙ ap (scan (f ∷ take n list)) (is ∙ ap (λ l. e ∷ l) behind) ∙ scan_kind f (take n list) e k after dash ∙ first_before f (Some k) (take n list) (all_grouped after)

  -- a type follows a dash
  pub group_open : IsSome whole → (e : Expression) (dashed : List Expression) → before ≡ e ∷ dashed → is_dash e ≡ true → dashed ≡ [] → ⊥
  group_open has e dashed is dash none =
      absurd (let no = subst IsSome (sym so_far ∙ ap (scan (f ∷ take n list)) (is ∙ ap (λ l. e ∷ l) none) ∙ ap (next_run (f ∷ take n list) e []) dash) has in cc)

-- what comes next, where something does
module _ {X : Type 0} (es : List Expression) (is : X → Type 0) where
  pub kind_follows : (next : Option X) → MatchOption next (es ≡ []) is → (es ≡ [] → ⊥) → IsSome next
  kind_follows None none some = absurd (some none)
  kind_follows (Some x) found some = refl

  pub kind_is : (next : Option X) → MatchOption next (es ≡ []) is → (x : X) → next ≡ Some x → is x
  kind_is next found x here = subst (λ (next : Option X). MatchOption next (es ≡ []) is) here found

-- ---- what places make of the items

module _ {A B : Type 0} (item : Place A) (kind : Place B) where
  all : List Item → Option (List (A × Option B))
  all items = all_trees (map (item_at item kind) items)

  all_append : (a b : List Item) → all (a ++ b) ≡ all a >>= λ first. front first (all b)
  unfolding all
  all_append [] b = by (all b)
    where
      by : (later : Option (List (A × Option B))) → later ≡ front [] later
      by None = refl
      by (Some rest) = refl
  all_append (g ∷ a) b = by (item_at item kind g) (all a) (all b) (all (a ++ b)) (all_append a b)
    where
      by : (x : Option (A × Option B)) (first later both : Option (List (A × Option B))) → both ≡ first >>= (λ f. front f later)
          → (x >>= λ x. both >>= λ rest. Some (x ∷ rest)) ≡ (x >>= λ x. first >>= λ rest. Some (x ∷ rest)) >>= λ f. front f later
      by None first later both is = refl
      by (Some x) None later both is = ap (λ (b : Option (List (A × Option B))). b >>= λ rest. Some (x ∷ rest)) is
      by (Some x) (Some first) None both is = ap (λ (b : Option (List (A × Option B))). b >>= λ rest. Some (x ∷ rest)) is
      by (Some x) (Some first) (Some later) both is = ap (λ (b : Option (List (A × Option B))). b >>= λ rest. Some (x ∷ rest)) is

  -- each item has the type
  spread : (k : Option Expression) (t : Option B) → kind_at kind k ≡ Some t → (w : List Expression) → (each_at item w >>= λ xs. Some (map (λ x. (x, t)) xs)) ≡ all (map (λ e. (e, k)) w)
  unfolding all
  spread k t is [] = refl
  spread k t is (e ∷ w) = by (item e) (each_at item w) (kind_at kind k) (all (map (λ e. (e, k)) w)) is (spread k t is w)
    where
      by : (x : Option A) (xs : Option (List A)) (found : Option (Option B)) (later : Option (List (A × Option B))) → found ≡ Some t → (xs >>= λ xs. Some (map (λ x. (x, t)) xs)) ≡ later
          → ((x >>= λ x. xs >>= λ xs. Some (x ∷ xs)) >>= λ xs. Some (map (λ x. (x, t)) xs)) ≡ (x >>= λ x. found >>= λ t. Some (x, t)) >>= λ first. later >>= λ rest. Some (first ∷ rest)
      by None xs found later is rest = refl
      by (Some x) None found later is rest = (λ i. rest i >>= λ rest. Some ((x, t) ∷ rest)) ∙ sym (λ i. (is i >>= λ t. Some (x, t)) >>= λ first. later >>= λ rest. Some (first ∷ rest))
      by (Some x) (Some xs) found later is rest = (λ i. rest i >>= λ rest. Some ((x, t) ∷ rest)) ∙ sym (λ i. (is i >>= λ t. Some (x, t)) >>= λ first. later >>= λ rest. Some (first ∷ rest))

  no_kind : (k : Option Expression) → kind_at kind k ≡ None → (e : Expression) (w : List Expression) → all (map (λ e. (e, k)) (e ∷ w)) ≡ None
  unfolding all
  no_kind k is e w = by (item e) (kind_at kind k) is
    where
      by : (x : Option A) (found : Option (Option B)) → found ≡ None
          → ((x >>= λ x. found >>= λ t. Some (x, t)) >>= λ first. all (map (λ e. (e, k)) w) >>= λ rest. Some (first ∷ rest)) ≡ None
      by None found is = refl
      by (Some x) found is = λ i. (is i >>= λ t. Some (x, t)) >>= λ first. all (map (λ e. (e, k)) w) >>= λ rest. Some (first ∷ rest)

  joined : (g : List A → List (A × Option B)) (m : List Item) (xs : Option (List A)) (r : Option (List Item)) → (xs >>= λ xs. Some (g xs)) ≡ all m
      → (xs >>= λ xs. front (g xs) (r >>= all)) ≡ (front m r >>= all)
  joined g m None None is = refl
  joined g m (Some xs) None is = refl
  joined g m None (Some later) is = (λ i. is i >>= λ first. front first (all later)) ∙ sym (all_append m later)
  joined g m (Some xs) (Some later) is = (λ i. is i >>= λ first. front first (all later)) ∙ sym (all_append m later)

  none_joined : (m : List Item) (r : Option (List Item)) → all m ≡ None → (front m r >>= all) ≡ None
  none_joined m None is = refl
  none_joined m (Some later) is = all_append m later ∙ (λ i. is i >>= λ first. front first (all later))

  each_more : (w : List Expression) (e : Expression) → each_at item (w ++ e ∷ []) ≡ each_at item w >>= λ xs. item e >>= λ x. Some (xs ++ x ∷ [])
  each_more [] e = refl
  each_more (f ∷ w) e = by (item f) (each_at item w) (item e) (each_at item (w ++ e ∷ [])) (each_more w e)
    where
      by : (x : Option A) (xs : Option (List A)) (y : Option A) (more : Option (List A)) → more ≡ xs >>= (λ xs. y >>= λ y. Some (xs ++ y ∷ []))
          → (x >>= λ x. more >>= λ xs. Some (x ∷ xs)) ≡ (x >>= λ x. xs >>= λ xs. Some (x ∷ xs)) >>= λ xs. y >>= λ y. Some (xs ++ y ∷ [])
      by None xs y more is = refl
      by (Some x) None y more is = λ i. is i >>= λ xs. Some (x ∷ xs)
      by (Some x) (Some xs) None more is = λ i. is i >>= λ xs. Some (x ∷ xs)
      by (Some x) (Some xs) (Some y) more is = λ i. is i >>= λ xs. Some (x ∷ xs)

  -- what waits becomes the same, whether places make anything of it before or behind
  abbrev Alike : List Expression → List Expression → Bool → Type 0
  Alike list w n = (each_at item w >>= λ xs. run item kind (Some (scan_of [] xs n)) list) ≡ (run {A = Expression} {B = Expression} Some Some (Some (scan_of [] w n)) list >>= all)

  nones : (list : List Expression) (xs : Option (List A)) → (xs >>= λ xs. run item kind None list) ≡ None
  nones list None = refl
  nones list (Some xs) = run_none item kind list

  module _ (list : List Expression) (later : (w : List Expression) → Alike list w false) where
    typed_later : (t : Option B) (xs : Option (List A))
        → (xs >>= λ xs. run item kind (Some (scan_of (map (λ x. (x, t)) xs) [] false)) list)
        ≡ (xs >>= λ xs. front (map (λ x. (x, t)) xs) (run {A = Expression} {B = Expression} Some Some (Some (scan_of [] [] false)) list >>= all))
    typed_later t None = refl
    typed_later t (Some xs) =
        let typed : List (A × Option B) = map (λ x. (x, t)) xs in
        ap (λ (l : List (A × Option B)). run item kind (Some (scan_of l [] false)) list) (sym (append-nil typed)) ∙ fronted item kind list typed [] [] false ∙ ap (front typed) (later [])

    typed_alike : (e f : Expression) (w : List Expression) → Alike (e ∷ list) (f ∷ w) true
    typed_alike e f w = by (kind e) refl ∙ sym split
      where
        typed : List Item
        typed = map (λ x. (x, Some e)) (f ∷ w)

        rest : Option (List Item)
        rest = run {A = Expression} {B = Expression} Some Some (Some (scan_of [] [] false)) list

        split : (run {A = Expression} {B = Expression} Some Some (Some (scan_of typed [] false)) list >>= all) ≡ (front typed rest >>= all)
        split = (λ i. run {A = Expression} {B = Expression} Some Some (Some (scan_of (sym (append-nil typed) i) [] false)) list >>= all)
            ∙ (λ i. fronted {A = Expression} {B = Expression} Some Some list typed [] [] false i >>= all)

        by : (found : Option B) → kind e ≡ found
            → (each_at item (f ∷ w) >>= λ xs. run item kind (found >>= λ t. Some (with_type (scan_of [] xs true) t)) list) ≡ (front typed rest >>= all)
        by None is = nones list (each_at item (f ∷ w)) ∙ sym (none_joined typed rest (no_kind (Some e) (λ i. is i >>= λ t. Some (Some t)) f w))
        by (Some t) is =
            typed_later (Some t) (each_at item (f ∷ w))
            ∙ joined (λ xs. map (λ x. (x, Some t)) xs) typed (each_at item (f ∷ w)) rest (spread (Some e) (Some t) (λ i. is i >>= λ t. Some (Some t)) (f ∷ w))

    first_alike : (e : Expression) → Alike (e ∷ list) [] false
    first_alike e = by (is_dash e) ∙ one (item e) ∙ later (e ∷ []) ∙ (λ i. first_run e list (is_dash e) i >>= all)
      where
        one : (x : Option A) → run item kind (x >>= λ x. Some (scan_of [] (x ∷ []) false)) list ≡ (x >>= λ x. Some (x ∷ [])) >>= λ xs. run item kind (Some (scan_of [] xs false)) list
        one None = run_none item kind list
        one (Some x) = refl

        by : (dash : Bool) → run item kind (if dash && false then Some (scan_of [] [] true) else (item e >>= λ x. Some (scan_of [] (x ∷ []) false))) list
            ≡ run item kind (item e >>= λ x. Some (scan_of [] (x ∷ []) false)) list
        by true = refl
        by false = refl

    more_alike : (typed : (f : Expression) (w : List Expression) → Alike list (f ∷ w) true) (e f : Expression) (w : List Expression) → Alike (e ∷ list) (f ∷ w) false
    more_alike typed e f w = by (is_dash e)
      where
        some : (x : Option A) (xs : Option (List A)) (other : List A → Option (Scan A B))
            → ((x >>= λ x. xs >>= λ xs. Some (x ∷ xs)) >>= λ xs. run item kind (if not (is_empty xs) then Some (scan_of [] xs true) else other xs) list)
            ≡ ((x >>= λ x. xs >>= λ xs. Some (x ∷ xs)) >>= λ xs. run item kind (Some (scan_of [] xs true)) list)
        some None xs other = refl
        some (Some x) None other = refl
        some (Some x) (Some xs) other = refl

        one : (xs : Option (List A)) (y : Option A)
            → (xs >>= λ xs. run item kind (y >>= λ y. Some (scan_of [] (xs ++ y ∷ []) false)) list)
            ≡ ((xs >>= λ xs. y >>= λ y. Some (xs ++ y ∷ [])) >>= λ xs. run item kind (Some (scan_of [] xs false)) list)
        one None y = refl
        one (Some xs) None = run_none item kind list
        one (Some xs) (Some y) = refl

        by : (dash : Bool)
            → (each_at item (f ∷ w) >>= λ xs. run item kind (if dash && not (is_empty xs) then Some (scan_of [] xs true) else (item e >>= λ y. Some (scan_of [] (xs ++ y ∷ []) false))) list)
            ≡ (next_run (f ∷ w) e list dash >>= all)
        by true = some (item f) (each_at item w) (λ xs. item e >>= λ y. Some (scan_of [] (xs ++ y ∷ []) false)) ∙ typed f w
        by false = one (each_at item (f ∷ w)) (item e) ∙ (λ i. sym (each_more (f ∷ w) e) i >>= λ xs. run item kind (Some (scan_of [] xs false)) list) ∙ later (f ∷ w ++ e ∷ [])

  none_later : (xs : Option (List A)) → (xs >>= λ xs. run item kind (Some (scan_of [] xs true)) []) ≡ None
  none_later None = refl
  none_later (Some xs) = refl

  alike : (list : List Expression) → ((w : List Expression) → Alike list w false) × ((f : Expression) (w : List Expression) → Alike list (f ∷ w) true)
  alike [] = ((λ w. spread None None refl w), (λ f w. none_later (each_at item (f ∷ w))))
  alike (e ∷ list) =
      let later = alike list in
      (by later, (λ f w. typed_alike list later.0 e f w))
    where
      by : ((w : List Expression) → Alike list w false) × ((f : Expression) (w : List Expression) → Alike list (f ∷ w) true) → (w : List Expression) → Alike (e ∷ list) w false
      by later [] = first_alike list later.0 e
      by later (f ∷ w) = more_alike list later.0 later.1 e f w

  module _ {C : Type 0} (f : A × Option B → C) where
    each_as : (items : List Item) → (all items >>= λ xs. Some (map f xs)) ≡ all_trees (map (λ g. item_at item kind g >>= λ x. Some (f x)) items)
    unfolding all
    each_as [] = refl
    each_as (g ∷ items) = by (item_at item kind g) (all items) (all_trees (map (λ g. item_at item kind g >>= λ x. Some (f x)) items)) (each_as items)
      where
        by : (x : Option (A × Option B)) (rest : Option (List (A × Option B))) (later : Option (List C)) → (rest >>= λ xs. Some (map f xs)) ≡ later
            → ((x >>= λ x. rest >>= λ xs. Some (x ∷ xs)) >>= λ xs. Some (map f xs)) ≡ (x >>= λ x. Some (f x)) >>= λ first. later >>= λ rest. Some (first ∷ rest)
        by None rest later is = refl
        by (Some x) None later is = λ i. is i >>= λ rest. Some (f x ∷ rest)
        by (Some x) (Some xs) later is = λ i. is i >>= λ rest. Some (f x ∷ rest)

    -- the items of a list are read one after another
    pub grouped_each : (list : List Expression) → (grouped item kind list >>= λ xs. Some (map f xs)) ≡ each_item (λ g. item_at item kind g >>= λ x. Some (f x)) (all_grouped list)
    unfolding all
    grouped_each list = (λ i. (alike list).0 [] i >>= λ xs. Some (map f xs)) ∙ by (all_grouped list)
      where
        by : (items : Option (List Item)) → ((items >>= all) >>= λ xs. Some (map f xs)) ≡ each_item (λ g. item_at item kind g >>= λ x. Some (f x)) items
        by None = refl
        by (Some items) = each_as items

-- ---- one item more

module _ {C : Type 0} (place : Item → Option C) (found : List C) (item : Item) (before later : Option (List Item)) (is : before ≡ item_before item later) where
  pub one_more : (tree : C) → place item ≡ Some tree → front (found ++ tree ∷ []) (each_item place later) ≡ front found (each_item place before)
  one_more tree read = by later ∙ sym (λ i. front found (each_item place (is i)))
    where
      more : (rest : Option (List C)) → front (found ++ tree ∷ []) rest ≡ front found (rest >>= λ rest. Some (tree ∷ rest))
      more None = refl
      more (Some rest) = ap Some (append_assoc found (tree ∷ []) rest)

      by : (later : Option (List Item)) → front (found ++ tree ∷ []) (each_item place later) ≡ front found (each_item place (item_before item later))
      by None = refl
      by (Some items) = more (all_trees (map place items)) ∙ sym (λ i. front found (read i >>= λ first. all_trees (map place items) >>= λ rest. Some (first ∷ rest)))

  pub none_more : place item ≡ None → each_item place before ≡ None
  none_more read = (λ i. each_item place (is i)) ∙ by later
    where
      by : (later : Option (List Item)) → each_item place (item_before item later) ≡ None
      by None = refl
      by (Some items) = λ i. read i >>= λ first. all_trees (map place items) >>= λ rest. Some (first ∷ rest)
