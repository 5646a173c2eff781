-- A table's nodes keep their forms where it grows, and a new node has that of its parts.
use Rattle.std.proofs.Common.{◌≡◌, ◌≢◌, ◌∙◌, ℕ, ◌+◌, ◌<◌, ◌≤◌, ◌⊎◌, inl, inr, cond, AllPairs, List, [], ◌∷◌, ◌++◌, map, length, take, get_or, slice_get, nat_lt, Bool, true, false, subst, Option, Some, None, refl, sym, ap, arith, zero, suc, length-append}
use Rattle.std.specs.Prelude.{fold, All, IfSome}
use Rattle.std.specs.Option.{option_copied}
use Rattle.std.proofs.lemmas.Bool.{and_parts}
use Rattle.std.proofs.lemmas.Bool.Decides.{nat_tests}
use denote.Ref.{Bor}
use Rattle.p3_formula.specs.Forms.{has_atoms, IsBelow, AreBelow}
use Rattle.std.proofs.Math.ListN.{get_or-append}
use Rattle.std.proofs.lemmas.List.{take-append-le, map-append}
use Rattle.std.proofs.lemmas.List.Elements.{All-head, All-tail, All-push, All-weaker}
use Rattle.std.proofs.Math.Seq.{get_or-append_seam}
use Rattle.std.proofs.lemmas.List.{take_more}
use Rattle.p3_formula.specs.declared.form.Form.{Form}
use Rattle.p3_formula.specs.declared.form.Form.TheVariants as form
use Rattle.p3_formula.specs.Nodes.{node_form, form_at, with_next, forms, form_of, HasNumber, IsNodeBelow, ArePlaced, AreDistinct, Grows, FindsNode, PutsLast}
use Rattle.p3_formula.specs.declared.node.Node.{Node}
use Rattle.p3_formula.specs.declared.node.Node.TheVariants.{True, False, Atom, Not, And, Or}

pub grows-refl : (nodes : List Node) → Grows nodes nodes
grows-refl nodes = record { longer = omega arith; kept = take-length nodes }
  where
    take-length : (nodes : List Node) → take (length nodes) nodes ≡ nodes
    take-length [] = refl
    take-length (node ∷ nodes) = ap (λ rest. node ∷ rest) (take-length nodes)

take-shorter : {A : Type 0} (m n : ℕ) (xs : List A) → m ≤ n → take m (take n xs) ≡ take m xs
take-shorter zero n xs le = refl
take-shorter (suc m) zero xs le = absurd (omega arith)
take-shorter (suc m) (suc n) [] le = refl
take-shorter (suc m) (suc n) (x ∷ xs) le = ap (λ rest. x ∷ rest) (take-shorter m n xs (omega arith))

pub grows-trans : (first second third : List Node) → Grows first second → Grows second third → Grows first third
grows-trans first second third a b = record {
  longer = omega (arith, a.longer, b.longer);
  kept = sym (take-shorter (length first) (length second) third a.longer) ∙ ap (take (length first)) b.kept ∙ a.kept;
}

pub grows-push : (nodes : List Node) (node : Node) → Grows nodes (nodes ++ node ∷ [])
grows-push nodes node = record { longer = omega (arith, length-append nodes (node ∷ [])); kept = take-append-le (length nodes) nodes (node ∷ []) (omega arith) ∙ (grows-refl nodes).kept }

pub stored-push : (nodes : List Node) (node : Node) → slice_get (nodes ++ node ∷ []) (length nodes) ≡ Some node
stored-push [] node = refl
stored-push (other ∷ nodes) node = stored-push nodes node

pub within-push : (nodes : List Node) (node : Node) → length nodes < length (nodes ++ node ∷ [])
within-push nodes node = omega (arith, length-append nodes (node ∷ []))

pub within-get : {A : Type 0} (xs : List A) (k : ℕ) (x : A) → slice_get xs k ≡ Some x → k < length xs
within-get [] k x here = absurd (cc)
within-get (y ∷ xs) zero x here = omega arith
within-get (y ∷ xs) (suc k) x here = let rest : k < length xs = within-get xs k x here in omega (arith, rest)

-- the forms of the first nodes stand first
going-on : (done : List Form) (nodes : List Node) (k : ℕ) → k < length done → form_at (fold with_next done nodes) k ≡ form_at done k
going-on done [] k within = refl
going-on done (node ∷ nodes) k within =
    going-on (with_next done node) nodes k (omega (arith, length-append done (node_form (form_at done) node ∷ []), within)) ∙ get_or-append done (node_form (form_at done) node ∷ []) form.False k within

same-front : (done : List Form) (n : ℕ) (nodes : List Node) (k : ℕ) → k < length done + n → n ≤ length nodes → form_at (fold with_next done (take n nodes)) k ≡ form_at (fold with_next done nodes) k
same-front done zero nodes k within le = sym (going-on done nodes k (omega (arith, within)))
same-front done (suc n) [] k within le = absurd (omega arith)
same-front done (suc n) (node ∷ nodes) k within le = same-front (with_next done node) n nodes k (omega (arith, length-append done (node_form (form_at done) node ∷ []), within)) (omega arith)

-- a number keeps its form
pub form-grows : (old new : List Node) (number : ℕ) → Grows old new → number < length old → form_of new number ≡ form_of old number
unfolding forms
form-grows old new number grows within = sym (same-front [] (length old) new number (omega (arith, within)) grows.longer) ∙ ap (λ nodes. form_of nodes number) grows.kept

at-place : (done : List Form) (nodes : List Node) (k : ℕ) (node : Node) → slice_get nodes k ≡ Some node → form_at (fold with_next done nodes) (length done + k) ≡ node_form (form_at (fold with_next done (take k nodes))) node
at-place done [] k node here = absurd (cc)
at-place done (other ∷ nodes) zero node here =
    let same : other ≡ node = cc in
    let place : length done + 0 ≡ length done = omega arith in
    ap (form_at (fold with_next (with_next done other) nodes)) place
    ∙ going-on (with_next done other) nodes (length done) (omega (arith, length-append done (node_form (form_at done) other ∷ [])))
    ∙ get_or-append_seam done (node_form (form_at done) other) [] form.False ∙ ap (node_form (form_at done)) same
at-place done (other ∷ nodes) (suc k) node here =
    let place : length done + suc k ≡ length (with_next done other) + k = omega (arith, length-append done (node_form (form_at done) other ∷ [])) in
    ap (form_at (fold with_next (with_next done other) nodes)) place ∙ at-place (with_next done other) nodes k node here

module _ (f g : ℕ → Form) (count : ℕ) (agree : (k : ℕ) → k < count → f k ≡ g k) where
  pub map-agree : (numbers : List ℕ) → All (λ number. number < count) numbers → map f numbers ≡ map g numbers
  map-agree [] below = refl
  map-agree (number ∷ numbers) below = λ i. agree number (All-head (λ number. number < count) number numbers below) i ∷ map-agree numbers (All-tail (λ number. number < count) number numbers below) i

  pub node-agree : (node : Node) → IsNodeBelow count node → node_form f node ≡ node_form g node
  node-agree True below = refl
  node-agree False below = refl
  node-agree (Atom atom) below = refl
  node-agree (Not number) below = ap form.Not (agree number below)
  node-agree (And numbers) below = ap form.And (map-agree numbers below)
  node-agree (Or numbers) below = ap form.Or (map-agree numbers below)

-- a node has the form that its parts give it
pub form-at : (nodes : List Node) (number : ℕ) (node : Node) → slice_get nodes number ≡ Some node → IsNodeBelow number node → form_of nodes number ≡ node_form (form_of nodes) node
unfolding forms
form-at nodes number node here below =
    let place : number ≡ 0 + number = omega arith in
    ap (form_at (fold with_next [] nodes)) place ∙ at-place [] nodes number node here
    ∙ node-agree (form_at (fold with_next [] (take number nodes))) (form_at (fold with_next [] nodes)) number
    (λ k within. same-front [] number nodes k (omega (arith, within)) (let inside : number < length nodes = within-get nodes number node here in omega (arith, inside))) node below

-- what stood before more nodes still stands
pub node-grows : (old new : List Node) (node : Node) → Grows old new → IsNodeBelow (length old) node → node_form (form_of new) node ≡ node_form (form_of old) node
node-grows old new node grows below = node-agree (form_of new) (form_of old) (length old) (λ k within. form-grows old new k grows within) node below

pub map-grows : (old new : List Node) (numbers : List ℕ) → Grows old new → All (λ number. number < length old) numbers → map (form_of new) numbers ≡ map (form_of old) numbers
map-grows old new numbers grows below = map-agree (form_of new) (form_of old) (length old) (λ k within. form-grows old new k grows within) numbers below

pub stands-new : (old new : List Node) (number : ℕ) (node : Node) → Grows old new → IsNodeBelow (length old) node → slice_get new number ≡ Some node → ArePlaced new → form_of new number ≡ node_form (form_of old) node
stands-new old new number node grows below here placed = form-at new number node here (placed.below number node here) ∙ node-grows old new node grows below

pub node-stands : (nodes : List Node) (number : ℕ) (found : Option (Bor Node)) → ArePlaced nodes → option_copied found ≡ slice_get nodes number
    → IfSome found (λ node. form_of nodes number ≡ node_form (form_of nodes) node.now)
node-stands nodes number None placed is = _
node-stands nodes number (Some node) placed is = form-at nodes number node.now (sym is) (placed.below number node.now (sym is))

pub item-below : (count : ℕ) (f : ℕ → Form) (numbers : List ℕ) (k d : ℕ) → AreBelow count (map f numbers) → k < length numbers → IsBelow count (f (get_or numbers k d))
item-below count f [] k d all within = absurd (omega arith)
item-below count f (number ∷ numbers) zero d all within = (and_parts (has_atoms (λ atom. nat_lt atom count) (f number)) _ all).0
item-below count f (number ∷ numbers) (suc k) d all within = item-below count f numbers k d (and_parts (has_atoms (λ atom. nat_lt atom count) (f number)) _ all).1 (omega arith)

-- more numbers that stand for more forms
pub more-stand : (old new : List Node) (numbers : List ℕ) (number : ℕ) (passed : List Form) (form : Form)
    → Grows old new → All (λ number. number < length old) numbers → map (form_of old) numbers ≡ passed → form_of new number ≡ form
    → map (form_of new) (numbers ++ number ∷ []) ≡ passed ++ form ∷ []
more-stand old new numbers number passed form grows below before here =
    map-append (form_of new) numbers (number ∷ []) ∙ (λ i. (map-grows old new numbers grows below ∙ before) i ++ here i ∷ [])

pub more-below : (old new : List Node) (numbers : List ℕ) (number : ℕ)
    → Grows old new → All (λ number. number < length old) numbers → number < length new → All (λ number. number < length new) (numbers ++ number ∷ [])
more-below old new numbers number grows below within =
    All-push (λ number. number < length new) numbers number
    (All-weaker (λ number. number < length old) (λ number. number < length new) (λ k le. omega (arith, le, grows.longer)) numbers below) within

get-append : {A : Type 0} (xs ys : List A) (k : ℕ) (x : A) → slice_get xs k ≡ Some x → slice_get (xs ++ ys) k ≡ Some x
get-append [] ys k x here = absurd (cc)
get-append (y ∷ xs) ys zero x here = here
get-append (y ∷ xs) ys (suc k) x here = get-append xs ys k x here

or-get : {A : Type 0} (xs : List A) (k : ℕ) (d x : A) → slice_get xs k ≡ Some x → get_or xs k d ≡ x
or-get [] k d x here = absurd (cc)
or-get (y ∷ xs) zero d x here = cc
or-get (y ∷ xs) (suc k) d x here = or-get xs k d x here

-- nodes that all differ have one number each
pub one-number : (nodes : List Node) → AllPairs (λ first second. first ≢ second) nodes → AreDistinct nodes
one-number nodes apart = record { one_number = λ a b x first second. by a b x first second (nat_lt a b) (nat_lt b a) refl refl } where
  by : (a b : ℕ) (x : Node) → HasNumber nodes x a → HasNumber nodes x b → (t u : Bool) → nat_lt a b ≡ t → nat_lt b a ≡ u → a ≡ b
  by a b x first second true u less more = absurd (apart a b x (grind (arith, nat_tests)) (within-get nodes b x second) (or-get nodes a x x first ∙ sym (or-get nodes b x x second)))
  by a b x first second false true less more = absurd (apart b a x (grind (arith, nat_tests)) (within-get nodes a x first) (or-get nodes b x x second ∙ sym (or-get nodes a x x first)))
  by a b x first second false false less more = grind (arith, nat_tests)

-- ---- one node more, or the nodes that were there

module _ (old new : List Node) (node : Node) (grown : (new ≡ old) ⊎ (new ≡ old ++ node ∷ [])) where
  pub grows-grown : Grows old new
  grows-grown = by grown where
    by : (new ≡ old) ⊎ (new ≡ old ++ node ∷ []) → Grows old new
    by (inl same) = subst (Grows old) (sym same) (grows-refl old)
    by (inr more) = subst (Grows old) (sym more) (grows-push old node)

  module _ (distinct : AreDistinct new) (number : ℕ) (stored : HasNumber new node number) where
    pub finds-grown : FindsNode old new node number
    finds-grown there has = by grown where
      by : (new ≡ old) ⊎ (new ≡ old ++ node ∷ []) → (number ≡ there) × (new ≡ old)
      by (inl same) = (distinct.one_number number there node stored (subst (λ nodes. HasNumber nodes node there) (sym same) has), same)
      by (inr more) =
          let place : there ≡ length old = distinct.one_number there (length old) node
          (subst (λ nodes. HasNumber nodes node there) (sym more) (get-append old (node ∷ []) there node has))
          (subst (λ nodes. HasNumber nodes node (length old)) (sym more) (stored-push old node)) in
          let inside : there < length old = within-get old there node has in
          absurd (omega (arith, place, inside))

    pub last-grown : PutsLast old new node number
    last-grown none = by grown where
      by : (new ≡ old) ⊎ (new ≡ old ++ node ∷ []) → (number ≡ length old) × (new ≡ old ++ node ∷ [])
      by (inl same) = absurd (none number (subst (λ nodes. HasNumber nodes node number) same stored))
      by (inr more) = (distinct.one_number number (length old) node stored (subst (λ nodes. HasNumber nodes node (length old)) (sym more) (stored-push old node)), more)

-- either way of a choice
pub either : {A : Type 0} (b : Bool) (x y : A) → (cond b x y ≡ x) ⊎ (cond b x y ≡ y)
either true x y = inl refl
either false x y = inr refl

-- the first items and the next
pub take-next : {A : Type 0} (xs : List A) (k : ℕ) (d x : A) → k < length xs → x ≡ get_or xs k d → take k xs ++ x ∷ [] ≡ take (k + 1) xs
take-next xs k d x within is = ap (λ y. take k xs ++ y ∷ []) is ∙ sym (take_more xs k d within)

pub ruleset table_laws = (grows-push, stored-push, within-push, grows-refl)

pub ruleset form_laws = (form-at, within-get)

pub ruleset add_laws = (stands-new, grows-refl, grows-grown, finds-grown, last-grown)

pub ruleset enter_laws = (grows-refl, grows-trans)
