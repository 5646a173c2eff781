-- What a link, a form, a change and a step lead to, from what their parts lead to.
use Rattle.std.proofs.Common.{◌≡◌, ◌∙◌, ℕ, ◌+◌, ◌<◌, ◌≤◌, nat_lt, Bool, true, false, not, ◌&&◌, ◌||◌, List, [], ◌∷◌, ◌++◌, length, take, get_or, refl, sym, ap, subst, arith}
use Rattle.std.specs.Prelude.{Result, OnOk}
use Rattle.std.specs.List.{list_any, list_all}
use Rattle.std.proofs.Math.Bool.{and-true, or-true, and_assoc, and_self}
use Rattle.std.proofs.lemmas.Result.{on_ok_weaker}
use Rattle.std.proofs.lemmas.List.Sums.{AllPass-from_list_all}
use Rattle.std.proofs.lemmas.Bool.{and_parts, ltb-true}
use Rattle.std.proofs.lemmas.List.{get_or_append_left, take_all}
use Rattle.std.proofs.lemmas.List.Folds.{list_all_more, list_any_more}
use Rattle.p3_formula.specs.Forms.{State, is_set, IsBelow, has_atoms}
use Rattle.p3_formula.specs.Targets.{is_sized_change}
use Rattle.p3_formula.specs.Conditions.{is_step_below}
use Rattle.p3_formula.specs.declared.form.Change.{Change}
use Rattle.p3_formula.specs.declared.form.Form.{Form}
use Rattle.p3_formula.specs.declared.task.GroundStep.{GroundStep}
use Rattle.p3_reach.specs.Closed.{change_keeps, step_keeps}
use Rattle.p3_reach.specs.May.{may_be, may_hold}
use Rattle.p3_reach.specs.Models.{Says, Names, leads, IsReadBelow}
use Rattle.p3_reach.specs.Rules.{keeps_rule}
use Rattle.p3_reach.specs.declared.rules.Theory.{Theory}
use Rattle.p3_reach.proofs.MayLemmas.{same_may_be}
use Rattle.p3_reach.proofs.ModelLaws.{says_alike, says_both, says_of_named, names_itself, names_alike, names_next}

-- ---- links

pub says_link : (given gives : ℕ) (old new : Theory) → Says (λ set. keeps_rule set (record { first = given; second = given; gives = gives })) old new → Says (leads given (λ set. true) gives) old new
says_link given gives old new said = says_alike _ (leads given (λ set. true) gives) old new (λ set. ap (λ b. not b || is_set set gives) (and_self (is_set set given) ∙ sym (and-true (is_set set given)))) said

-- ---- forms

pub led : {T E : Type 0} (r : Result T E) (given gives : ℕ) (test other : State → Bool) (old new : Theory) → ((set : State) → test set ≡ other set) → OnOk r (Says (leads given test gives) old new) → OnOk r (Says (leads given other gives) old new)
led r given gives test other old new same = on_ok_weaker r (says_alike (leads given test gives) (leads given other gives) old new (λ set. ap (λ b. not (is_set set given && b) || is_set set gives) (same set)))

-- a test of forms whose atoms are below the count reads no more
may_reads : (count more : ℕ) (holds : Bool) (form : Form) → count ≤ more → IsBelow count form → IsReadBelow more (λ set. may_be holds set form)
may_reads count more holds form room below set rest inside = same_may_be set rest count (omega (arith, room, inside)) holds form below

leads_reads : (count given gives : ℕ) (test : State → Bool) → given < count → gives < count → IsReadBelow count test → IsReadBelow count (leads given test gives)
leads_reads count given gives test first last read set rest inside =
    λ i. not (get_or_append_left set rest false given (omega (arith, first, inside)) i && read set rest inside i) || get_or_append_left set rest false gives (omega (arith, last, inside)) i

-- a part of forms that are below a count
part_below : (count : ℕ) (parts : List Form) (i : ℕ) (part : Form) → list_all (has_atoms (λ atom. nat_lt atom count)) parts ≡ true → i < length parts → part ≡ get_or parts i part → IsBelow count part
part_below count parts i part below within is = subst (IsBelow count) (sym is) (AllPass-from_list_all (has_atoms (λ atom. nat_lt atom count)) parts below i part within)

some_more : (given has any next : Bool) → ((not (given && any) || has) && (not (given && next) || has)) ≡ (not (given && (any || next)) || has)
some_more true true true next = or-true (not next)
some_more true true false next = refl
some_more true false true next = refl
some_more true false false next = refl
some_more false has any next = refl

module _ (holds : Bool) (given : ℕ) (parts : List Form) (i : ℕ) (part : Form) (within : i < length parts) (is : part ≡ get_or parts i part)
    (old mid : Theory) (below : list_all (has_atoms (λ atom. nat_lt atom old.atoms)) parts ≡ true) where
  reads : IsReadBelow (length old.facts) (λ set. may_be holds set part)
  reads = may_reads old.atoms (length old.facts) holds part old.room (part_below old.atoms parts i part below within is)

  pub led_by_next : (gives : ℕ) (new : Theory) → given < length old.facts → gives < length old.facts
      → Says (leads given (λ set. list_any (may_be holds set) (take i parts)) gives) old mid → Says (leads given (λ set. may_be holds set part) gives) mid new
      → Says (leads given (λ set. list_any (may_be holds set) (take (i + 1) parts)) gives) old new
  led_by_next gives new first last one two =
      says_alike _ (leads given (λ set. list_any (may_be holds set) (take (i + 1) parts)) gives) old new
      (λ set. some_more (is_set set given) (is_set set gives) (list_any (may_be holds set) (take i parts)) (may_be holds set part)
      ∙ ap (λ b. not (is_set set given && b) || is_set set gives) (sym (list_any_more (may_be holds set) parts i part within ∙ ap (λ p. list_any (may_be holds set) (take i parts) || may_be holds set p) (sym is))))
      (says_both (leads given (λ set. list_any (may_be holds set) (take i parts)) gives) (leads given (λ set. may_be holds set part) gives) old mid new one two
      (leads_reads (length old.facts) given gives (λ set. may_be holds set part) first last reads))

  pub named_next : (reached next : ℕ) (wide new : Theory) → Names reached (λ set. is_set set given && list_all (may_be holds set) (take i parts)) old mid
      → next ≡ length mid.facts → wide.atoms ≡ mid.atoms → wide.facts ≡ mid.facts ++ false ∷ [] → wide.rules ≡ mid.rules → Says (leads reached (λ set. may_be holds set part) next) wide new
      → Names next (λ set. is_set set given && list_all (may_be holds set) (take (i + 1) parts)) old new
  named_next reached next wide new named number atoms facts rules said =
      names_alike next _ (λ set. is_set set given && list_all (may_be holds set) (take (i + 1) parts)) old new
      (λ set. and_assoc (is_set set given) (list_all (may_be holds set) (take i parts)) (may_be holds set part)
      ∙ ap (λ b. is_set set given && b) (sym (list_all_more (may_be holds set) parts i part within ∙ ap (λ p. list_all (may_be holds set) (take i parts) && may_be holds set p) (sym is))))
      (subst (λ n. Names n (λ set. (is_set set given && list_all (may_be holds set) (take i parts)) && may_be holds set part) old new) (sym number)
      (names_next reached (λ set. is_set set given && list_all (may_be holds set) (take i parts)) (λ set. may_be holds set part) old mid wide new named atoms facts rules
      (subst (λ n. Says (leads reached (λ set. may_be holds set part) n) wide new) number said) reads))

-- all parts have been passed
pub led_by_all : (holds : Bool) (given : ℕ) (parts : List Form) (i reached gives : ℕ) (old mid new : Theory) → length parts ≤ i → gives < length old.facts
    → Names reached (λ set. is_set set given && list_all (may_be holds set) (take i parts)) old mid → Says (leads reached (λ set. true) gives) mid new
    → Says (leads given (λ set. list_all (may_be holds set) parts) gives) old new
led_by_all holds given parts i reached gives old mid new all last named said =
    subst (λ list. Says (leads given (λ set. list_all (may_be holds set) list) gives) old new) (take_all i parts all)
    (says_of_named reached (λ set. is_set set given && list_all (may_be holds set) (take i parts)) (λ set. is_set set gives) old mid new named
    (says_alike (leads reached (λ set. true) gives) (λ set. not (is_set set reached) || is_set set gives) mid new (λ set. ap (λ b. not b || is_set set gives) (and-true (is_set set reached))) said)
    (λ set rest inside. get_or_append_left set rest false gives (omega (arith, last, inside))))

-- ---- changes

all_gives : (given all more : Bool) → ((not given || all) && (not given || more)) ≡ (not given || (all && more))
all_gives true all more = refl
all_gives false all more = refl

either_gives : (given holds has : Bool) → (not (given && holds) || has) ≡ (not given || (not holds || has))
either_gives true holds has = refl
either_gives false holds has = refl

module _ (fits : ℕ) (changes : List Change) (i : ℕ) (change : Change) (within : i < length changes) (is : change ≡ get_or changes i change) (old mid : Theory)
    (below : list_all (is_sized_change old.atoms) changes ≡ true)
    (so_far : Says (λ set. not (is_set set fits) || list_all (change_keeps set) (take i changes)) old mid) where
  all_changes : (set : State) → (list_all (change_keeps set) (take i changes) && change_keeps set change) ≡ list_all (change_keeps set) (take (i + 1) changes)
  all_changes set = sym (list_all_more (change_keeps set) changes i change within ∙ ap (λ c. list_all (change_keeps set) (take i changes) && change_keeps set c) (sym is))

  -- a change that clears its atom adds nothing
  pub changes_same : change.add ≡ false → Says (λ set. not (is_set set fits) || list_all (change_keeps set) (take (i + 1) changes)) old mid
  changes_same clears = says_alike _ (λ set. not (is_set set fits) || list_all (change_keeps set) (take (i + 1) changes)) old mid
      (λ set. ap (λ b. not (is_set set fits) || b)
      (sym (and-true (list_all (change_keeps set) (take i changes)))
      ∙ ap (λ b. list_all (change_keeps set) (take i changes) && b) (sym (ap (λ b. not (b && may_hold set change.cond) || is_set set change.atom) clears))
      ∙ all_changes set))
      so_far

  pub changes_next : (new : Theory) → fits < length old.facts → change.add ≡ true → Says (leads fits (λ set. may_be true set change.cond) change.atom) mid new
      → Says (λ set. not (is_set set fits) || list_all (change_keeps set) (take (i + 1) changes)) old new
  changes_next new inside adds said =
      let sized = subst (λ c. is_sized_change old.atoms c ≡ true) (sym is) (AllPass-from_list_all (is_sized_change old.atoms) changes below i change within) in
      let parts = and_parts (nat_lt change.atom old.atoms) _ sized in
      let room = old.room in
      let atom = ltb-true change.atom old.atoms parts.0 in
      says_alike _ (λ set. not (is_set set fits) || list_all (change_keeps set) (take (i + 1) changes)) old new
      (λ set.
      ap (λ b. (not (is_set set fits) || list_all (change_keeps set) (take i changes)) && b)
      (either_gives (is_set set fits) (may_hold set change.cond) (is_set set change.atom) ∙ ap (λ b. not (is_set set fits) || (not (b && may_hold set change.cond) || is_set set change.atom)) (sym adds))
      ∙ all_gives (is_set set fits) (list_all (change_keeps set) (take i changes)) (change_keeps set change)
      ∙ ap (λ b. not (is_set set fits) || b) (all_changes set))
      (says_both (λ set. not (is_set set fits) || list_all (change_keeps set) (take i changes)) (leads fits (λ set. may_be true set change.cond) change.atom) old mid new so_far said
      (leads_reads (length old.facts) fits change.atom (λ set. may_be true set change.cond) inside (omega (arith, atom, room)) (may_reads old.atoms (length old.facts) true change.cond room parts.1)))

-- ---- steps

change_reads : (count more : ℕ) (change : Change) → count ≤ more → is_sized_change count change ≡ true → IsReadBelow more (λ set. change_keeps set change)
change_reads count more change room sized set rest inside =
    let parts = and_parts (nat_lt change.atom count) _ sized in
    let atom = ltb-true change.atom count parts.0 in
    λ i. not (change.add && may_reads count more true change.cond room parts.1 set rest inside i) || get_or_append_left set rest false change.atom (omega (arith, atom, room, inside)) i

changes_read : (count more : ℕ) (changes : List Change) → count ≤ more → list_all (is_sized_change count) changes ≡ true → IsReadBelow more (λ set. list_all (change_keeps set) changes)
changes_read count more [] room sized set rest inside = refl
changes_read count more (change ∷ changes) room sized set rest inside =
    let parts = and_parts (is_sized_change count change) _ sized in
    λ i. change_reads count more change room parts.0 set rest inside i && changes_read count more changes room parts.1 set rest inside i

-- what the places of a step that is below a count are
pub record IsStepBelow (count : ℕ) (step : GroundStep) : Type 0 where
  pub pre : IsBelow count step.pre
  pub effects : list_all (is_sized_change count) step.effects ≡ true

pub step_below : (count : ℕ) (step : GroundStep) → is_step_below count step ≡ true → IsStepBelow count step
step_below count step below =
    let parts = and_parts (has_atoms (λ atom. nat_lt atom count) step.pre && _) (list_all (is_sized_change count) step.effects) below in
    record { pre = (and_parts (has_atoms (λ atom. nat_lt atom count) step.pre) _ parts.0).0; effects = parts.1 }

pub step_reads : (count more : ℕ) (step : GroundStep) → count ≤ more → is_step_below count step ≡ true → IsReadBelow more (λ set. step_keeps set step)
step_reads count more step room below set rest inside =
    let parts = step_below count step below in
    λ i. not (may_reads count more true step.pre room parts.pre set rest inside i) || changes_read count more step.effects room parts.effects set rest inside i

pub steps_read : (count more : ℕ) (steps : List GroundStep) → count ≤ more → list_all (is_step_below count) steps ≡ true → IsReadBelow more (λ set. list_all (step_keeps set) steps)
steps_read count more [] room below set rest inside = refl
steps_read count more (step ∷ steps) room below set rest inside =
    let parts = and_parts (is_step_below count step) _ below in
    λ i. step_reads count more step room parts.0 set rest inside i && steps_read count more steps room parts.1 set rest inside i

-- a proposition for the precondition, and the changes
pub says_step : (given fits : ℕ) (step : GroundStep) (old wide mid new : Theory) → given < length old.facts → is_step_below old.atoms step ≡ true
    → fits ≡ length old.facts → wide.atoms ≡ old.atoms → wide.facts ≡ old.facts ++ false ∷ [] → wide.rules ≡ old.rules
    → Says (leads given (λ set. may_be true set step.pre) fits) wide mid → Says (λ set. not (is_set set fits) || list_all (change_keeps set) step.effects) mid new
    → Says (λ set. not (is_set set given) || step_keeps set step) old new
says_step given fits step old wide mid new inside below number atoms facts rules pre changes =
    let parts = step_below old.atoms step below in
    let named = subst (λ n. Names n (λ set. is_set set given && may_be true set step.pre) old mid) (sym number)
    (names_next given (λ set. is_set set given) (λ set. may_be true set step.pre) old old wide mid (names_itself given old inside) atoms facts rules
    (subst (λ n. Says (leads given (λ set. may_be true set step.pre) n) wide mid) number pre)
    (may_reads old.atoms (length old.facts) true step.pre old.room parts.pre)) in
    says_alike _ (λ set. not (is_set set given) || step_keeps set step) old new
    (λ set. either_gives (is_set set given) (may_hold set step.pre) (list_all (change_keeps set) step.effects))
    (says_of_named fits (λ set. is_set set given && may_be true set step.pre) (λ set. list_all (change_keeps set) step.effects) old mid new named changes
    (changes_read old.atoms (length old.facts) step.effects old.room parts.effects))

-- one step more
pub steps_next : (given : ℕ) (steps : List GroundStep) (i : ℕ) (step : GroundStep) (old mid new : Theory) → i < length steps → step ≡ get_or steps i step → given < length old.facts → list_all (is_step_below old.atoms) steps ≡ true
    → Says (λ set. not (is_set set given) || list_all (step_keeps set) (take i steps)) old mid → Says (λ set. not (is_set set given) || step_keeps set step) mid new
    → Says (λ set. not (is_set set given) || list_all (step_keeps set) (take (i + 1) steps)) old new
steps_next given steps i step old mid new within is inside below one two =
    let here = subst (λ s. is_step_below old.atoms s ≡ true) (sym is) (AllPass-from_list_all (is_step_below old.atoms) steps below i step within) in
    says_alike _ (λ set. not (is_set set given) || list_all (step_keeps set) (take (i + 1) steps)) old new
    (λ set. all_gives (is_set set given) (list_all (step_keeps set) (take i steps)) (step_keeps set step)
    ∙ ap (λ b. not (is_set set given) || b) (sym (list_all_more (step_keeps set) steps i step within ∙ ap (λ s. list_all (step_keeps set) (take i steps) && step_keeps set s) (sym is))))
    (says_both (λ set. not (is_set set given) || list_all (step_keeps set) (take i steps)) (λ set. not (is_set set given) || step_keeps set step) old mid new one two
    (λ set rest more. λ i. not (get_or_append_left set rest false given (omega (arith, inside, more)) i) || step_reads old.atoms (length old.facts) step old.room here set rest more i))
