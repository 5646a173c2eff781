-- What following the rules finds.
use Rattle.std.proofs.Common.{◌≡◌, ◌∙◌, ℕ, zero, suc, ◌+◌, ◌-◌, ◌<◌, ◌≤◌, nat_lt, Bool, true, false, not, ◌&&◌, ◌||◌, List, [], ◌∷◌, ◌++◌, length, take, drop, replicate, get_or, set, ⊎_elim, refl, sym, ap, subst, append_assoc, arith}
use Rattle.std.specs.Prelude.{All, Contains}
use Rattle.std.specs.List.{list_all}
use Rattle.std.proofs.lemmas.Bool.{and_parts, and_from, ltb-true, cases_eq, false≢true}
use Rattle.std.proofs.lemmas.List.{append-nil, length-append, length-set, length-take-le, get_or-set_same, get_or-set_other, get_or_default, set_at, take_more, take_all, take-append-le, take-append-drop}
use Rattle.std.proofs.lemmas.List.Elements.{All-push, All-weaker, All-contains, All-contains_itself, Contains-append_left, Contains-push, Contains-push_cases}
use Rattle.std.proofs.lemmas.List.Folds.{list_all_more}
use Rattle.std.proofs.lemmas.List.Sums.{AllPass-from_list_all, list_all-from_AllPass}
use Rattle.p3_formula.specs.Forms.{State, is_set}
use Rattle.p3_reach.specs.Closed.{IsWithin}
use Rattle.p3_reach.specs.Models.{IsModel}
use Rattle.p3_reach.specs.Rules.{is_rule_below, keeps_rule}
use Rattle.p3_reach.specs.Derived.{IsListed, Continues, Adds, fires, Follows, file_of, AreFiled, IsFollowed, IsFactsUpTo}
use Rattle.p3_reach.specs.declared.model.Derived.{Derived}
use Rattle.p3_reach.specs.declared.rules.Rule.{Rule}
use Rattle.p3_reach.specs.declared.rules.Theory.{Theory}

-- ---- sets with one proposition more

-- what is in a set is below its count
pub is_set-within : (held : State) (n : ℕ) → is_set held n ≡ true → n < length held
is_set-within [] n has = absurd (cc)
is_set-within (bit ∷ held) zero has = omega arith
is_set-within (bit ∷ held) (suc n) has = let rest = is_set-within held n has in omega (arith, rest)

pub set_grows : (held : State) (n : ℕ) → IsWithin held (set held n true)
set_grows [] n other h = h
set_grows (bit ∷ held) zero zero h = refl
set_grows (bit ∷ held) zero (suc other) h = h
set_grows (bit ∷ held) (suc n) zero h = h
set_grows (bit ∷ held) (suc n) (suc other) h = set_grows held n other h

set_least : (held : State) (n : ℕ) (bound : State) → is_set bound n ≡ true → IsWithin held bound → IsWithin (set held n true) bound
set_least held n bound has within other h = ⊎_elim
    (λ same. ap (is_set bound) same ∙ has)
    (λ differ. within other (sym (get_or-set_other held n other true false differ) ∙ h))
    (cases_eq other n)

set_same : (held : State) (n : ℕ) → is_set held n ≡ true → set held n true ≡ held
set_same [] n has = refl
set_same (bit ∷ held) zero has = ap (λ b. b ∷ held) (sym has)
set_same (bit ∷ held) (suc n) has = ap (λ rest. bit ∷ rest) (set_same held n has)

-- ---- one proposition more

continues_itself : (order : List ℕ) → Continues order order
continues_itself order = record { more = []; is = sym (append-nil order) }

continues_more : (old mid new : List ℕ) → Continues old mid → Continues mid new → Continues old new
continues_more old mid new one two = record {
  more = one.more ++ two.more;
  is = two.is ∙ ap (λ list. list ++ two.more) one.is ∙ append_assoc old one.more two.more;
}

-- it was found before
pub adds_known : (proposition : ℕ) (old : Derived) → is_set old.held proposition ≡ true → IsListed old → Adds proposition old old
adds_known proposition old has listed = record { sets = sym (set_same old.held proposition has); order = continues_itself old.order; listed = listed }

-- it is new
pub adds_new : (proposition : ℕ) (old new : Derived) → proposition < length old.held → IsListed old → new.held ≡ set old.held proposition true → new.order ≡ old.order ++ proposition ∷ [] → Adds proposition old new
adds_new proposition old new within listed held order = record {
  sets = held;
  order = record { more = proposition ∷ []; is = order };
  listed = record {
    stands = λ other has. subst (λ list. Contains list other) (sym order) (⊎_elim
        (λ same. subst (Contains (old.order ++ proposition ∷ [])) (sym same) (Contains-push old.order proposition))
        (λ differ. Contains-append_left old.order (proposition ∷ []) other
        (listed.stands other (sym (get_or-set_other old.held proposition other true false differ) ∙ sym (ap (λ list. is_set list other) held) ∙ has)))
        (cases_eq other proposition));
    holds = subst (All (λ other. is_set new.held other ≡ true)) (sym order) (All-push (λ other. is_set new.held other ≡ true) old.order proposition
        (All-weaker (λ other. is_set old.held other ≡ true) (λ other. is_set new.held other ≡ true) (λ other has. ap (λ list. is_set list other) held ∙ set_grows old.held proposition other has) old.order listed.holds)
        (ap (λ list. is_set list proposition) held ∙ get_or-set_same old.held proposition true false within));
  };
}

pub ruleset adds_laws = (adds_known, adds_new)

-- ---- rules that are followed

fires_grow : (old mid new : State) (rules : List Rule) → IsWithin mid new → list_all (fires old mid) rules ≡ true → list_all (fires old new) rules ≡ true
fires_grow old mid new [] grows fired = refl
fires_grow old mid new (rule ∷ rules) grows fired =
    let parts = and_parts (fires old mid rule) _ fired in
    and_from _ _ (by (is_set old rule.first && is_set old rule.second) parts.0) (fires_grow old mid new rules grows parts.1)
  where
    by : (both : Bool) → (not both || is_set mid rule.gives) ≡ true → (not both || is_set new rule.gives) ≡ true
    by true has = grows rule.gives has
    by false has = refl

-- the rule has a premise that was not found, and changes nothing
module _ (rules : List Rule) (old found : Derived) (at : ℕ) (rule : Rule) (within : at < length rules) (is : rule ≡ get_or rules at rule) (so_far : Follows (take at rules) old found) where
  split : (p : Rule → Bool) → list_all p (take (at + 1) rules) ≡ (list_all p (take at rules) && p rule)
  split p = list_all_more p rules at rule within ∙ ap (λ r. list_all p (take at rules) && p r) (sym is)

  pub follows_idle : (is_set found.held rule.first && is_set found.held rule.second) ≡ false → Follows (take (at + 1) rules) old found
  follows_idle idle = record {
    size = so_far.size;
    grows = so_far.grows;
    order = so_far.order;
    listed = so_far.listed;
    all_fire = split (fires old.held found.held) ∙ and_from _ _ so_far.all_fire (by (is_set old.held rule.first) (is_set old.held rule.second) refl refl);
    least = λ bound kept. so_far.least bound (and_parts _ _ (sym (split (keeps_rule bound)) ∙ kept)).0;
  }
    where
      by : (a b : Bool) → is_set old.held rule.first ≡ a → is_set old.held rule.second ≡ b → (not (a && b) || is_set found.held rule.gives) ≡ true
      by true true e f = absurd (let h : (is_set found.held rule.first && is_set found.held rule.second) ≡ true = and_from _ _ (so_far.grows rule.first e) (so_far.grows rule.second f) in cc)
      by true false e f = refl
      by false b e f = refl

  pub follows_more : (new : Derived) → (is_set found.held rule.first && is_set found.held rule.second) ≡ true → rule.gives < length found.held → Adds rule.gives found new → Follows (take (at + 1) rules) old new
  follows_more new both inside adds = record {
    size = ap length adds.sets ∙ length-set found.held rule.gives true ∙ so_far.size;
    grows = λ n has. here n (so_far.grows n has);
    order = continues_more old.order found.order new.order so_far.order adds.order;
    listed = adds.listed;
    all_fire = split (fires old.held new.held) ∙ and_from _ _ (fires_grow old.held found.held new.held (take at rules) here so_far.all_fire) (given (is_set old.held rule.first && is_set old.held rule.second));
    least = λ bound kept within_bound.
        let parts = and_parts _ _ (sym (split (keeps_rule bound)) ∙ kept) in
        let inner = so_far.least bound parts.0 within_bound in
        let premises = and_parts (is_set found.held rule.first) _ both in
        subst (λ list. IsWithin list bound) (sym adds.sets) (set_least found.held rule.gives bound
        (gives (is_set bound rule.first) (is_set bound rule.second) parts.1 (inner rule.first premises.0) (inner rule.second premises.1)) inner);
  }
    where
      here : IsWithin found.held new.held
      here n has = ap (λ list. is_set list n) adds.sets ∙ set_grows found.held rule.gives n has

      has_it : is_set new.held rule.gives ≡ true
      has_it = ap (λ list. is_set list rule.gives) adds.sets ∙ get_or-set_same found.held rule.gives true false inside

      given : (b : Bool) → (not b || is_set new.held rule.gives) ≡ true
      given true = has_it
      given false = refl

      gives : (a b : Bool) → {has : Bool} → (not (a && b) || has) ≡ true → a ≡ true → b ≡ true → has ≡ true
      gives true true kept e f = kept
      gives true false kept e f = absurd (cc)
      gives false b kept e f = absurd (cc)

-- a rule of the list is below the count
pub gives_within : (rules : List Rule) (at : ℕ) (d : Rule) (count : ℕ) → at < length rules → list_all (is_rule_below count) rules ≡ true → (get_or rules at d).gives < count
gives_within rules at d count within below =
    let rule = get_or rules at d in
    let here : is_rule_below count rule ≡ true = AllPass-from_list_all (is_rule_below count) rules below at d within in
    ltb-true rule.gives count (and_parts (nat_lt rule.first count && nat_lt rule.second count) (nat_lt rule.gives count) here).1

pub premises_within : (rules : List Rule) (at : ℕ) (d : Rule) (count : ℕ) → at < length rules → list_all (is_rule_below count) rules ≡ true
    → ((get_or rules at d).first < count) × ((get_or rules at d).second < count)
premises_within rules at d count within below =
    let rule = get_or rules at d in
    let here : is_rule_below count rule ≡ true = AllPass-from_list_all (is_rule_below count) rules below at d within in
    let both = and_parts (nat_lt rule.first count) (nat_lt rule.second count) (and_parts (nat_lt rule.first count && nat_lt rule.second count) (nat_lt rule.gives count) here).0 in
    (ltb-true rule.first count both.0, ltb-true rule.second count both.1)

-- ---- the facts

module _ (facts : List Bool) (at : ℕ) (found : Derived) (so_far : IsFactsUpTo at facts found) (within : at < length facts) where
  one_less : length facts - at ≡ suc (length facts - (at + 1))
  one_less = omega arith

  next_front : (bit : Bool) → get_or facts at false ≡ bit → take (at + 1) facts ++ replicate (length facts - (at + 1)) false ≡ take at facts ++ bit ∷ replicate (length facts - (at + 1)) false
  next_front bit is =
      ap (λ front. front ++ replicate (length facts - (at + 1)) false) (take_more facts at false within ∙ ap (λ b. take at facts ++ b ∷ []) is)
      ∙ append_assoc (take at facts) (bit ∷ []) (replicate (length facts - (at + 1)) false)

  held_now : found.held ≡ take at facts ++ false ∷ replicate (length facts - (at + 1)) false
  held_now = so_far.held ∙ ap (λ n. take at facts ++ replicate n false) one_less

  pub facts_not : get_or facts at false ≡ false → IsFactsUpTo (at + 1) facts found
  facts_not lacks = record { held = held_now ∙ sym (next_front false lacks); listed = so_far.listed }

  pub facts_more : (new : Derived) → get_or facts at false ≡ true → Adds at found new → IsFactsUpTo (at + 1) facts new
  facts_more new has adds = record {
    held = adds.sets ∙ ap (λ list. set list at true) held_now
        ∙ set_at (take at facts) false (replicate (length facts - (at + 1)) false) true at (length-take-le at facts (omega arith))
        ∙ sym (next_front true has);
    listed = adds.listed;
  }

-- ---- files

module _ (files : List (List Rule)) (at : ℕ) (rule : Rule) (within : at < length files) where
  there : file_of (set files at (file_of files at ++ rule ∷ [])) at ≡ file_of files at ++ rule ∷ []
  there = get_or-set_same files at (file_of files at ++ rule ∷ []) [] within

  elsewhere : (other : ℕ) → (other ≡ at → ⊥) → file_of (set files at (file_of files at ++ rule ∷ [])) other ≡ file_of files other
  elsewhere other differ = get_or-set_other files at other (file_of files at ++ rule ∷ []) [] differ

  pub file_has : Contains (file_of (set files at (file_of files at ++ rule ∷ [])) at) rule
  file_has = subst (λ list. Contains list rule) (sym there) (Contains-push (file_of files at) rule)

  pub file_keeps : (other : ℕ) (one : Rule) → Contains (file_of files other) one → Contains (file_of (set files at (file_of files at ++ rule ∷ [])) other) one
  file_keeps other one has = ⊎_elim
      (λ same. subst (λ n. Contains (file_of (set files at (file_of files at ++ rule ∷ [])) n) one) (sym same)
      (subst (λ list. Contains list one) (sym there) (Contains-append_left (file_of files at) (rule ∷ []) one (subst (λ n. Contains (file_of files n) one) same has))))
      (λ differ. subst (λ list. Contains list one) (sym (elsewhere other differ)) has)
      (cases_eq other at)

  pub file_all : (P : Rule → Type 0) → P rule → (other : ℕ) → All P (file_of files other) → All P (file_of (set files at (file_of files at ++ rule ∷ [])) other)
  file_all P here other all = ⊎_elim
      (λ same. subst (λ n. All P (file_of (set files at (file_of files at ++ rule ∷ [])) n)) (sym same)
      (subst (All P) (sym there) (All-push P (file_of files at) rule (subst (λ n. All P (file_of files n)) same all) here)))
      (λ differ. subst (All P) (sym (elsewhere other differ)) all)
      (cases_eq other at)

-- one rule more goes into the files of its premises
module _ (rules : List Rule) (at : ℕ) (rule : Rule) (within : at < length rules) (is : rule ≡ get_or rules at rule) (files mid new : List (List Rule))
    (first_in : rule.first < length files) (second_in : rule.second < length files)
    (one : mid ≡ set files rule.first (file_of files rule.first ++ rule ∷ [])) (two : new ≡ set mid rule.second (file_of mid rule.second ++ rule ∷ []))
    (so_far : AreFiled (take at rules) files) where
  front : take (at + 1) rules ≡ take at rules ++ rule ∷ []
  front = take_more rules at rule within ∙ ap (λ r. take at rules ++ r ∷ []) (sym is)

  second_mid : rule.second < length mid
  second_mid = let long = ap length one ∙ length-set files rule.first (file_of files rule.first ++ rule ∷ []) in omega (arith, long, second_in)

  keeps : (other : ℕ) (r : Rule) → Contains (file_of files other) r → Contains (file_of new other) r
  keeps other r has = subst (λ list. Contains (file_of list other) r) (sym two) (file_keeps mid rule.second rule second_mid other r
      (subst (λ list. Contains (file_of list other) r) (sym one) (file_keeps files rule.first rule first_in other r has)))

  has_first : Contains (file_of new rule.first) rule
  has_first = subst (λ list. Contains (file_of list rule.first) rule) (sym two) (file_keeps mid rule.second rule second_mid rule.first rule
      (subst (λ list. Contains (file_of list rule.first) rule) (sym one) (file_has files rule.first rule first_in)))

  has_second : Contains (file_of new rule.second) rule
  has_second = subst (λ list. Contains (file_of list rule.second) rule) (sym two) (file_has mid rule.second rule second_mid)

  known : Contains (take (at + 1) rules) rule
  known = subst (λ list. Contains list rule) (sym front) (Contains-push (take at rules) rule)

  wider : (r : Rule) → Contains (take at rules) r → Contains (take (at + 1) rules) r
  wider r has = subst (λ list. Contains list r) (sym front) (Contains-append_left (take at rules) (rule ∷ []) r has)

  cases : (P : Rule → Type 0) → ((r : Rule) → Contains (take at rules) r → P r) → P rule → (r : Rule) → Contains (take (at + 1) rules) r → P r
  cases P before here r has = ⊎_elim (before r) (λ same. subst P same here) (Contains-push_cases (take at rules) rule r (subst (λ list. Contains list r) front has))

  pub filed_more : AreFiled (take (at + 1) rules) new
  filed_more = record {
    at_first = cases (λ r. Contains (file_of new r.first) r) (λ r has. keeps r.first r (so_far.at_first r has)) has_first;
    at_second = cases (λ r. Contains (file_of new r.second) r) (λ r has. keeps r.second r (so_far.at_second r has)) has_second;
    among = λ n. subst (λ list. All (Contains (take (at + 1) rules)) (file_of list n)) (sym two) (file_all mid rule.second rule second_mid (Contains (take (at + 1) rules)) known n
        (subst (λ list. All (Contains (take (at + 1) rules)) (file_of list n)) (sym one) (file_all files rule.first rule first_in (Contains (take (at + 1) rules)) known n
        (All-weaker (Contains (take at rules)) (Contains (take (at + 1) rules)) wider (file_of files n) (so_far.among n)))));
  }

-- the rules of all files are below the count
pub file_below : (rules : List Rule) (files : List (List Rule)) (count n : ℕ) → AreFiled rules files → list_all (is_rule_below count) rules ≡ true → list_all (is_rule_below count) (file_of files n) ≡ true
file_below rules files count n filed below = list_all-from_AllPass (is_rule_below count) (file_of files n)
    (All-weaker (Contains rules) (λ r. is_rule_below count r ≡ true) (λ r known. All-contains (λ r. is_rule_below count r ≡ true) rules r (AllPass-from_list_all (is_rule_below count) rules below) known) (file_of files n) (filed.among n))

-- ---- the propositions that were followed

contains_take : (n : ℕ) (xs : List ℕ) (x : ℕ) → Contains (take n xs) x → Contains xs x
contains_take n xs x has = subst (λ list. Contains list x) (take-append-drop n xs) (Contains-append_left (take n xs) (drop n xs) x has)

-- what stands in the order is below the count
pub order_within : (theory : Theory) (count at d : ℕ) (found : Derived) → IsFollowed theory count found → at < length found.order → get_or found.order at d < length theory.facts
order_within theory count at d found so_far within =
    let has : is_set found.held (get_or found.order at d) ≡ true = so_far.listed.holds at d within in
    let inside = is_set-within found.held (get_or found.order at d) has in
    let size = so_far.size in
    omega (arith, inside, size)

-- the file of the proposition at a place of the order
pub file_read : (theory : Theory) (files : List (List Rule)) (at : ℕ) (found : Derived) (order : List ℕ) (file : List Rule) → IsFollowed theory at found → length files ≡ length theory.facts
    → order ≡ found.order → at < length found.order → file ≡ get_or files (get_or order at 0) file → file ≡ file_of files (get_or found.order at 0)
file_read theory files at found order file so_far size same within is =
    let inside = order_within theory at at 0 found so_far within in
    is ∙ ap (λ list. get_or files (get_or list at 0) file) same ∙ get_or_default files (get_or found.order at 0) file [] (omega (arith, inside, size))

module _ (theory : Theory) (files : List (List Rule)) (filed : AreFiled theory.rules files) (at proposition : ℕ) (found new : Derived) (so_far : IsFollowed theory at found)
    (within : at < length found.order) (is : proposition ≡ get_or found.order at proposition) (follows : Follows (file_of files proposition) found new) where
  order_front : take (at + 1) new.order ≡ take at found.order ++ proposition ∷ []
  order_front = ap (take (at + 1)) follows.order.is ∙ take-append-le (at + 1) found.order follows.order.more (omega arith)
      ∙ take_more found.order at proposition within ∙ ap (λ n. take at found.order ++ n ∷ []) (sym is)

  was_held : (n : ℕ) → Contains (take (at + 1) new.order) n → is_set found.held n ≡ true
  was_held n has = All-contains (λ n. is_set found.held n ≡ true) found.order n so_far.listed.holds
      (contains_take (at + 1) found.order n (subst (λ list. Contains list n) (order_front ∙ sym (take_more found.order at proposition within ∙ ap (λ n. take at found.order ++ n ∷ []) (sym is))) has))

  in_file : (rule : Rule) → Contains (file_of files proposition) rule → is_set found.held rule.first ≡ true → is_set found.held rule.second ≡ true → is_set new.held rule.gives ≡ true
  in_file rule here first second =
      by (is_set found.held rule.first) (is_set found.held rule.second) (All-contains (λ r. fires found.held new.held r ≡ true) (file_of files proposition) rule
      (AllPass-from_list_all (fires found.held new.held) (file_of files proposition) follows.all_fire) here) first second
    where
      by : (a b : Bool) → (not (a && b) || is_set new.held rule.gives) ≡ true → a ≡ true → b ≡ true → is_set new.held rule.gives ≡ true
      by true true fired e f = fired
      by true false fired e f = absurd (cc)
      by false b fired e f = absurd (cc)

  done_now : (rule : Rule) → Contains theory.rules rule → Contains (take (at + 1) new.order) rule.first → Contains (take (at + 1) new.order) rule.second → is_set new.held rule.gives ≡ true
  done_now rule known first second = ⊎_elim
      (λ before. ⊎_elim
      (λ before'. follows.grows rule.gives (so_far.done rule known before before'))
      (λ same. in_file rule (subst (λ n. Contains (file_of files n) rule) (sym same) (filed.at_second rule known)) (was_held rule.first first) (was_held rule.second second))
      (Contains-push_cases (take at found.order) proposition rule.second (subst (λ list. Contains list rule.second) order_front second)))
      (λ same. in_file rule (subst (λ n. Contains (file_of files n) rule) (sym same) (filed.at_first rule known)) (was_held rule.first first) (was_held rule.second second))
      (Contains-push_cases (take at found.order) proposition rule.first (subst (λ list. Contains list rule.first) order_front first))

  pub followed_more : IsFollowed theory (at + 1) new
  followed_more = record {
    size = follows.size ∙ so_far.size;
    has_facts = λ n has. follows.grows n (so_far.has_facts n has);
    least = λ bound model. follows.least bound
        (list_all-from_AllPass (keeps_rule bound) (file_of files proposition) (All-weaker (Contains theory.rules) (λ r. keeps_rule bound r ≡ true)
        (λ r known. All-contains (λ r. keeps_rule bound r ≡ true) theory.rules r (AllPass-from_list_all (keeps_rule bound) theory.rules model.keeps) known) (file_of files proposition) (filed.among proposition)))
        (so_far.least bound model);
    listed = follows.listed;
    reached = let long = ap length follows.order.is in let parts = length-append found.order follows.order.more in omega (arith, long, parts, within);
    done = done_now;
  }

pub followed_all : (theory : Theory) (count : ℕ) (found : Derived) → length found.order ≤ count → IsFollowed theory count found → IsModel theory found.held
followed_all theory count found all so_far = record {
  has_facts = so_far.has_facts;
  keeps = list_all-from_AllPass (keeps_rule found.held) theory.rules (All-weaker (Contains theory.rules) (λ r. keeps_rule found.held r ≡ true)
      (λ rule known. by (is_set found.held rule.first) (is_set found.held rule.second) (is_set found.held rule.gives) (λ first second. so_far.done rule known (listed rule.first first) (listed rule.second second)))
      theory.rules (All-contains_itself theory.rules));
}
  where
    listed : (n : ℕ) → is_set found.held n ≡ true → Contains (take count found.order) n
    listed n has = subst (λ list. Contains list n) (sym (take_all count found.order all)) (so_far.listed.stands n has)

    by : (a b has : Bool) → (a ≡ true → b ≡ true → has ≡ true) → (not (a && b) || has) ≡ true
    by true true has f = f refl refl
    by true false has f = refl
    by false b has f = refl
