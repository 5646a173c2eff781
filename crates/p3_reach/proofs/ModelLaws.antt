-- How theories grow: what one says after another.
use Rattle.std.proofs.Common.{◌≡◌, ◌∙◌, ℕ, zero, suc, ◌+◌, ◌<◌, ◌≤◌, nat_lt, Bool, true, false, not, ◌&&◌, ◌||◌, List, [], ◌∷◌, ◌++◌, length, refl, sym, ap, subst, append_assoc, arith}
use Rattle.std.specs.List.{list_all}
use Rattle.std.proofs.lemmas.Bool.{and_parts, and_from, ltb-true}
use Rattle.std.proofs.lemmas.List.{append-nil, length_push, get_or_append_left, get_or_at}
use Rattle.std.proofs.lemmas.List.Folds.{list_all-append}
use Rattle.p3_formula.specs.Forms.{State, is_set}
use Rattle.p3_reach.specs.Closed.{IsWithin}
use Rattle.p3_reach.specs.Rules.{is_rule_below, keeps_rule}
use Rattle.p3_reach.specs.Models.{IsModel, Grows, GrowsAt, Says, Names, leads, IsReadBelow}
use Rattle.p3_reach.specs.declared.rules.Rule.{Rule}
use Rattle.p3_reach.specs.declared.rules.Theory.{Theory}

-- ---- laws

pub says_alike : (law other : State → Bool) (old new : Theory) → ((set : State) → law set ≡ other set) → Says law old new → Says other old new
says_alike law other old new same said = record {
  same_atoms = said.same_atoms;
  grows = said.grows;
  says = λ set model. ((said.says set model).0, sym (same set) ∙ (said.says set model).1);
  adds = λ set size model kept. said.adds set size model (same set ∙ kept);
}

-- one after the other, both are said
module _ (first second : State → Bool) (old mid new : Theory) (one : Says first old mid) (two : Says second mid new) (read : IsReadBelow (length old.facts) second) where
  adds_both : (set : State) → length set ≡ length old.facts → IsModel old set → (first set && second set) ≡ true → Grows new set
  adds_both set size model kept =
      let both = and_parts (first set) (second set) kept in
      let some = one.adds set size model both.0 in
      let more = two.adds (set ++ some.more) some.size some.model (read set some.more (omega (arith, size)) ∙ both.1) in
      let assoc = append_assoc set some.more more.more in
      record { more = some.more ++ more.more; size = ap length (sym assoc) ∙ more.size; model = subst (IsModel new) assoc more.model }

  pub says_both : Says (λ set. first set && second set) old new
  says_both = record {
    same_atoms = two.same_atoms ∙ one.same_atoms;
    grows = let a = one.grows in let b = two.grows in omega (arith, a, b);
    says = λ set model.
        let later = two.says set model in
        let earlier = one.says set later.0 in
        (earlier.0, and_from (first set) (second set) earlier.1 later.1);
    adds = adds_both;
  }

-- ---- rules

pub says_rule : (old new : Theory) (rule : Rule) → new.atoms ≡ old.atoms → new.facts ≡ old.facts → new.rules ≡ old.rules ++ rule ∷ [] → Says (λ set. keeps_rule set rule) old new
says_rule old new rule atoms facts rules = record {
  same_atoms = atoms;
  grows = omega (arith, ap length facts);
  says = λ set model.
      let parts = and_parts _ _ (sym (split set) ∙ model.keeps) in
      (record { has_facts = subst (λ list. IsWithin list set) facts model.has_facts; keeps = parts.0 }, (and_parts (keeps_rule set rule) true parts.1).0);
  adds = λ set size model kept. record {
    more = [];
    size = ap length (append-nil set) ∙ size ∙ sym (ap length facts);
    model = subst (IsModel new) (sym (append-nil set)) (record {
      has_facts = subst (λ list. IsWithin list set) (sym facts) model.has_facts;
      keeps = split set ∙ and_from _ _ model.keeps (and_from (keeps_rule set rule) true kept refl);
    });
  };
}
  where
    split : (set : State) → list_all (keeps_rule set) new.rules ≡ (list_all (keeps_rule set) old.rules && list_all (keeps_rule set) (rule ∷ []))
    split set = ap (list_all (keeps_rule set)) rules ∙ list_all-append (keeps_rule set) old.rules (rule ∷ [])

-- ---- propositions

-- a proposition stands for itself
pub names_itself : (proposition : ℕ) (theory : Theory) → proposition < length theory.facts → Names proposition (λ set. is_set set proposition) theory theory
names_itself proposition theory within = record {
  same_atoms = refl;
  grows = omega arith;
  within = within;
  says = λ set model. (model, λ has. has);
  adds = λ set size model. record {
    more = [];
    size = ap length (append-nil set) ∙ size;
    model = subst (IsModel theory) (sym (append-nil set)) model;
    has = ap (λ list. is_set list proposition) (append-nil set);
  };
}

pub names_alike : (proposition : ℕ) (test other : State → Bool) (old new : Theory) → ((set : State) → test set ≡ other set) → Names proposition test old new → Names proposition other old new
names_alike proposition test other old new same named = record {
  same_atoms = named.same_atoms;
  grows = named.grows;
  within = named.within;
  says = λ set model. ((named.says set model).0, λ passes. (named.says set model).1 (same set ∙ passes));
  adds = λ set size model.
      let some = named.adds set size model in
      record { more = some.more; size = some.size; model = some.model; has = some.has ∙ same set };
}

-- what is below the count is the same with more entries
is_set-more : (set more : State) (n count : ℕ) → nat_lt n count ≡ true → count ≤ length set → is_set (set ++ more) n ≡ is_set set n
is_set-more set more n count below room = get_or_append_left set more false n (omega (arith, ltb-true n count below))

keeps-more : (set more : State) (count : ℕ) (rules : List Rule) → count ≤ length set → list_all (is_rule_below count) rules ≡ true → list_all (keeps_rule (set ++ more)) rules ≡ list_all (keeps_rule set) rules
keeps-more set more count [] room below = refl
keeps-more set more count (rule ∷ rules) room below =
    let parts = and_parts (is_rule_below count rule) _ below in
    let places = and_parts (nat_lt rule.first count && nat_lt rule.second count) _ parts.0 in
    let premises = and_parts (nat_lt rule.first count) _ places.0 in
    λ i. (not (is_set-more set more rule.first count premises.0 room i && is_set-more set more rule.second count premises.1 room i) || is_set-more set more rule.gives count places.1 room i)
    && keeps-more set more count rules room parts.1 i

-- a further fact that does not hold says nothing
one_fact : (facts : List Bool) (atom : ℕ) → is_set (facts ++ false ∷ []) atom ≡ is_set facts atom
one_fact [] zero = refl
one_fact [] (suc atom) = refl
one_fact (fact ∷ facts) zero = refl
one_fact (fact ∷ facts) (suc atom) = one_fact facts atom

-- what a set has, it has with more entries
has-more : (set more : State) (atom : ℕ) → is_set set atom ≡ true → is_set (set ++ more) atom ≡ true
has-more [] more atom has = absurd (cc)
has-more (bit ∷ set) more zero has = has
has-more (bit ∷ set) more (suc atom) has = has-more set more atom has

-- a theory with one proposition more
module _ (old mid : Theory) (facts : mid.facts ≡ old.facts ++ false ∷ []) (rules : mid.rules ≡ old.rules) where
  fewer : (set : State) → IsModel mid set → IsModel old set
  fewer set model = record {
    has_facts = λ atom has. model.has_facts atom (ap (λ list. is_set list atom) facts ∙ one_fact old.facts atom ∙ has);
    keeps = ap (list_all (keeps_rule set)) (sym rules) ∙ model.keeps;
  }

  further : (set : State) (value : Bool) → length set ≡ length old.facts → IsModel old set → IsModel mid (set ++ value ∷ [])
  further set value size model = record {
    has_facts = λ atom has. has-more set (value ∷ []) atom (model.has_facts atom (sym (one_fact old.facts atom) ∙ sym (ap (λ list. is_set list atom) facts) ∙ has));
    keeps = ap (list_all (keeps_rule (set ++ value ∷ []))) rules ∙ keeps-more set (value ∷ []) (length old.facts) old.rules (omega (arith, size)) old.within ∙ model.keeps;
  }

leads_at : (given passes has : Bool) → (given && passes) ≡ has → (not (given && passes) || has) ≡ true
leads_at true true has same = sym same
leads_at true false has same = refl
leads_at false passes has same = refl

leads_on : (given passes has : Bool) → (not (given && passes) || has) ≡ true → given ≡ true → passes ≡ true → has ≡ true
leads_on true true has kept g p = kept
leads_on true false has kept g p = absurd (cc)
leads_on false passes has kept g p = absurd (cc)

-- a further proposition stands for what was named, and a further test
module _ (given : ℕ) (value test : State → Bool) (old mid wide new : Theory) (named : Names given value old mid)
    (atoms : wide.atoms ≡ mid.atoms) (facts : wide.facts ≡ mid.facts ++ false ∷ []) (rules : wide.rules ≡ mid.rules)
    (said : Says (leads given test (length mid.facts)) wide new) (read : IsReadBelow (length old.facts) test) where
  next_adds : (set : State) → length set ≡ length old.facts → IsModel old set → GrowsAt (length mid.facts) (value set && test set) new set
  next_adds set size model =
      let some = named.adds set size model in
      let front : State = set ++ some.more in
      let passes : Bool = value set && test set in
      let whole : State = front ++ passes ∷ [] in
      let inside : given < length front = let w = named.within in let s = some.size in omega (arith, w, s) in
      let given_as : is_set whole given ≡ value set = get_or_append_left front (passes ∷ []) false given inside ∙ some.has in
      let test_as : test whole ≡ test set = ap test (append_assoc set some.more (passes ∷ [])) ∙ read set (some.more ++ passes ∷ []) (omega (arith, size)) in
      let has_as : is_set whole (length mid.facts) ≡ passes = get_or_at front passes [] false (length mid.facts) some.size in
      let long : length whole ≡ length wide.facts = length_push front passes ∙ ap (λ n. n + 1) some.size ∙ sym (length_push mid.facts false) ∙ sym (ap length facts) in
      let kept : leads given test (length mid.facts) whole ≡ true = leads_at (is_set whole given) (test whole) (is_set whole (length mid.facts)) ((λ i. given_as i && test_as i) ∙ sym has_as) in
      let more = said.adds whole long (further mid wide facts rules front passes some.size some.model) kept in
      let assoc : whole ++ more.more ≡ set ++ (some.more ++ (passes ∷ more.more)) = append_assoc front (passes ∷ []) more.more ∙ append_assoc set some.more (passes ∷ more.more) in
      let last : length mid.facts < length whole = let l = length_push front passes in let s = some.size in omega (arith, l, s) in
      record {
        more = some.more ++ (passes ∷ more.more);
        size = ap length (sym assoc) ∙ more.size;
        model = subst (IsModel new) assoc more.model;
        has = sym (ap (λ list. is_set list (length mid.facts)) assoc) ∙ get_or_append_left whole more.more false (length mid.facts) last ∙ has_as;
      }

  pub names_next : Names (length mid.facts) (λ set. value set && test set) old new
  names_next = record {
    same_atoms = said.same_atoms ∙ atoms ∙ named.same_atoms;
    grows = let a = named.grows in let b = said.grows in let c = ap length facts in let d = length_push mid.facts false in omega (arith, a, b, c, d);
    within = let b = said.grows in let c = ap length facts in let d = length_push mid.facts false in omega (arith, b, c, d);
    says = λ set model.
        let later = said.says set model in
        let earlier = named.says set (fewer mid wide facts rules set later.0) in (
          earlier.0,
          λ passes.
              let both = and_parts (value set) (test set) passes in
              leads_on _ _ _ later.1 (earlier.1 both.0) both.1,
        );
    adds = next_adds;
  }

gives_at : (has other : Bool) → (not has || other) ≡ true → has ≡ true → other ≡ true
gives_at true other kept h = kept
gives_at false other kept h = absurd (cc)

gives_from : (has other : Bool) → (has ≡ true → other ≡ true) → (not has || other) ≡ true
gives_from true other f = f refl
gives_from false other f = refl

-- what is said of a named proposition is said of what it stands for
module _ (proposition : ℕ) (value law : State → Bool) (old mid new : Theory) (named : Names proposition value old mid)
    (said : Says (λ set. not (is_set set proposition) || law set) mid new) (read : IsReadBelow (length old.facts) law) where
  of_adds : (set : State) → length set ≡ length old.facts → IsModel old set → (not (value set) || law set) ≡ true → Grows new set
  of_adds set size model kept =
      let some = named.adds set size model in
      let front : State = set ++ some.more in
      let law_as : law front ≡ law set = read set some.more (omega (arith, size)) in
      let more = said.adds front some.size some.model ((λ i. not (some.has i) || law_as i) ∙ kept) in
      let assoc = append_assoc set some.more more.more in
      record { more = some.more ++ more.more; size = ap length (sym assoc) ∙ more.size; model = subst (IsModel new) assoc more.model }

  pub says_of_named : Says (λ set. not (value set) || law set) old new
  says_of_named = record {
    same_atoms = said.same_atoms ∙ named.same_atoms;
    grows = let a = named.grows in let b = said.grows in omega (arith, a, b);
    says = λ set model.
        let later = said.says set model in
        let earlier = named.says set later.0 in
        (earlier.0, gives_from (value set) (law set) (λ h. gives_at _ _ later.1 (earlier.1 h)));
    adds = of_adds;
  }
