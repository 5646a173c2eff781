-- Constructs that are left out, and the first of them.
use Rattle.std.proofs.Common.{◌≡◌, ◌∙◌, refl, sym, ap, Bool, true, false, ◌||◌, ◌&&◌, not, List, [], ◌∷◌, ◌++◌, fold, Option, Some, None, append_assoc}
use Rattle.std.specs.Prelude.{nat_lt, if◌then◌else◌, codes, option_map}
use Rattle.std.specs.List.{list_all, list_any}
use mathlib.Core.Former.{Count}
use Rattle.p3_lexer.proofs.ClassLemmas.{same_name_sym, differs, none_passed, test_first}
use Rattle.p3_base.specs.Words.{is_name}
use Rattle.p3_base.specs.declared.refusal.Code.TheVariants.{Construct}
use Rattle.p3_base.specs.declared.refusal.Role.{Role}
use Rattle.p3_task.proofs.OnceLemmas.{Some-injective}
use Rattle.p3_task.specs.Names.{Name, same_name, has_name, total_cost}
use Rattle.p3_task.specs.FirstOffence.{least_word}
use Rattle.p3_task.specs.Grammar.Words.{expressions, word_place}
use Rattle.p3_task.specs.Refusals.Constructs.{left_out, has_some, word_when, is_word_called, shown_by, is_number_or_list, second_is_number, other_increase, not_a_number, constructs, constructs_of, constructs_all}
use Rattle.p3_task.specs.Refusals.Places.{refusal_at, refusal_at_word}
use Rattle.p3_task.specs.declared.expression.Expression.{Expression, Group', Row_of-Expression, end_of-Expression, more_of-Expression}
use Rattle.p3_task.specs.declared.expression.Expression.TheVariants as expression
use Rattle.p3_task.specs.declared.term.Ref.{Ref}
use Rattle.p3_outline.specs.declared.constructs.Around.{Around}
use Rattle.p3_outline.specs.declared.constructs.ConstructFound.{ConstructFound}
use Rattle.p3_outline.specs.Nodes.{elements}
use Rattle.p3_outline.specs.Constructs.{the_found, sooner, least_with, is_left_out, begins_as_left_out, may_tell, is_plain, declaring, conditions, the_around, with_head, with_no_head, Finds, either_shown, increase_shown, other_shown, number_shown, timed_shown, compared_shown, metric_shown, head_shown, behind_shown, place_shown, constructs_in, total_time, behind_head, constructs_below}

-- ---- words

-- a word that fails a test is not called by one that passes it
pub not_called : (test : Name → Bool) (word : Name) → test word ≡ false → (name : Name) → test name ≡ true → same_name word name ≡ false
not_called test word fails name passes = same_name_sym word name ∙ differs test word fails name passes

pub left_out_first : (word : Name) → is_left_out word ≡ (begins_as_left_out word && has_name left_out word)
unfolding is_left_out
left_out_first word = sym (test_first begins_as_left_out left_out refl word)

-- ---- the first word

pub least_append : (least : Option ConstructFound) (words others : List Ref) → least_with least (words ++ others) ≡ least_with (least_with least words) others
least_append least [] others = refl
least_append least (word ∷ words) others = least_append (Some (sooner least (the_found word))) words others

least_by : (b : Bool) (least word : Ref) → (if b then the_found word else the_found least) ≡ the_found (if b then word else least)
least_by true least word = refl
least_by false least word = refl

least_found : (least : Ref) (words : List Ref) → least_with (Some (the_found least)) words ≡ Some (the_found (fold (λ least other. if nat_lt other.at least.at then other else least) least words))
least_found least [] = refl
least_found least (word ∷ words) =
    ap (λ found. least_with (Some found) words) (least_by (nat_lt word.at least.at) least word)
    ∙ least_found (if nat_lt word.at least.at then word else least) words

pub least_is : (role : Role) (words : List Ref)
    → option_map (λ (found : ConstructFound). refusal_at Construct role found.at found.len) (least_with None words) ≡ option_map (refusal_at_word Construct role) (least_word words)
least_is role [] = refl
least_is role (word ∷ words) = ap (option_map (λ (found : ConstructFound). refusal_at Construct role found.at found.len)) (least_found word words)

-- ---- the lists around

or_swap : (a b c d : Bool) → ((a || b) || (c || d)) ≡ ((a || c) || (b || d))
or_swap true b c d = refl
or_swap false true true d = refl
or_swap false true false d = refl
or_swap false false true d = refl
or_swap false false false d = refl

some_more : (names wanted : List Name) (word : Name) → has_some (word ∷ names) wanted ≡ (has_name wanted word || has_some names wanted)
some_more names [] word = refl
some_more names (first ∷ wanted) word =
    ap (λ b. (same_name word first || has_name names first) || b) (some_more names wanted word)
    ∙ or_swap (same_name word first) (has_name names first) (has_name wanted word) (has_some names wanted)
    ∙ ap (λ b. (b || has_name wanted word) || (has_name names first || has_some names wanted)) (same_name_sym word first)

pub head_around : (names : List Name) (innermost : Option Name) (word : Name) → with_head word (the_around names innermost) ≡ the_around (word ∷ names) (Some word)
head_around names innermost word = λ i. record {
  declares = sym (some_more names declaring word) i;
  conditional = sym (some_more names conditions word) i;
  initial = same_name_sym (codes ":init") word i || has_name names (codes ":init");
  metric = same_name_sym (codes ":metric") word i || has_name names (codes ":metric");
  is_right_in_init = same_name (codes ":init") word;
}

pub no_head_around : (names : List Name) (innermost : Option Name) → with_no_head (the_around names innermost) ≡ the_around names None
no_head_around names innermost = refl

-- ---- what a list shows

regroup : (a b c d e f g h : List Ref) → a ++ b ++ c ++ d ++ e ++ f ++ g ++ h ≡ (a ++ b ++ c) ++ (d ++ e) ++ (f ++ g ++ h)
regroup a b c d e f g h = simp append_assoc

pub shown_as : (names : List Name) (innermost : Option Name) (head : Ref) (behind : List Expression)
    → shown_by names innermost head behind
    ≡ head_shown (the_around names innermost) head ++ behind_shown head behind ++ place_shown (the_around names innermost) head behind
unfolding is_left_out
shown_as names innermost head behind =
    regroup
    (word_when (has_name left_out head.name) head) (either_shown (the_around names innermost) head) (increase_shown (the_around names innermost) head) (other_shown head behind) (number_shown head behind)
    (timed_shown (the_around names innermost) head behind) (compared_shown (the_around names innermost) head behind) (metric_shown (the_around names innermost) head)

pub shown_finds : (around : Around) (least first second last : Option ConstructFound) (head : Ref) (behind : List Expression)
    → first ≡ least_with least (head_shown around head) → second ≡ least_with first (behind_shown head behind) → last ≡ least_with second (place_shown around head behind)
    → Finds around least (λ names innermost. shown_by names innermost head behind) last
shown_finds around least first second last head behind by_head behind_it by_place names innermost is =
    let a = head_shown around head in
    let b = behind_shown head behind in
    let c = place_shown around head behind in
    by_place ∙ ap (λ l. least_with l c) (behind_it ∙ ap (λ l. least_with l b) by_head ∙ sym (least_append least a b)) ∙ sym (least_append least (a ++ b) c)
    ∙ ap (λ (x : Around). least_with least (head_shown x head ++ b ++ place_shown x head behind)) is ∙ ap (least_with least) (sym (shown_as names innermost head behind))

-- ---- heads that show nothing

-- a head that fails a test shows nothing outside the metric, where each word passes that shows something there
module _ (test : Name → Bool) (around : Around) (head : Ref) (no_metric : around.metric ≡ false) (fails : test head.name ≡ false)
    (left : list_all test left_out ≡ true) (either : test (codes "either") ≡ true) (increase : test (codes "increase") ≡ true)
    (functions : test (codes ":functions") ≡ true) (at : test (codes "at") ≡ true) (equal : test (codes "=") ≡ true) where
  is_no : (name : Name) → test name ≡ true → same_name head.name name ≡ false
  is_no name passes = not_called test head.name fails name passes

  none_by_head : head_shown around head ≡ []
  unfolding is_left_out
  none_by_head =
      ap (λ b. word_when b head ++ either_shown around head ++ increase_shown around head) (none_passed test head.name fails left_out left)
      ∙ ap (λ b. word_when (b && around.declares) head ++ increase_shown around head) (is_no (codes "either") either)
      ∙ ap (λ b. word_when (b && around.conditional) head) (is_no (codes "increase") increase)

  none_behind : (behind : List Expression) → behind_shown head behind ≡ []
  none_behind behind =
      ap (λ b. (if b then other_increase behind else []) ++ number_shown head behind) (is_no (codes "increase") increase)
      ∙ ap (λ b. if b then not_a_number false behind else []) (is_no (codes ":functions") functions)

  none_by_place : (behind : List Expression) → place_shown around head behind ≡ []
  none_by_place behind =
      ap (λ b. word_when (b && around.is_right_in_init && second_is_number behind) head ++ compared_shown around head behind ++ metric_shown around head) (is_no (codes "at") at)
      ∙ ap (λ b. word_when (b && not around.initial && list_any is_number_or_list behind) head ++ metric_shown around head) (is_no (codes "=") equal)
      ∙ ap (λ b. word_when (b && is_name head.name && not (is_word_called head (codes "is-violated")) && not (is_word_called head total_cost)) head) no_metric

  pub none_shown : (behind : List Expression) → head_shown around head ++ behind_shown head behind ++ place_shown around head behind ≡ []
  none_shown behind =
      ap (λ ws. ws ++ behind_shown head behind ++ place_shown around head behind) none_by_head
      ∙ ap (λ ws. ws ++ place_shown around head behind) (none_behind behind) ∙ none_by_place behind

module _ (around : Around) (head : Ref) (plain : is_plain around head ≡ true) where
  both_false : (a b : Bool) → (not a && not b) ≡ true → (a ≡ false) × (b ≡ false)
  both_false true b is = absurd cc
  both_false false true is = absurd cc
  both_false false false is = (refl, refl)

  no_metric : around.metric ≡ false
  no_metric = (both_false around.metric (may_tell head.name) plain).0

  tells_nothing : may_tell head.name ≡ false
  tells_nothing = (both_false around.metric (may_tell head.name) plain).1

  is_not : (name : Name) → may_tell name ≡ true → same_name head.name name ≡ false
  is_not name tells = not_called may_tell head.name tells_nothing name tells

  is_none : (names : List Name) → list_all may_tell names ≡ true → has_name names head.name ≡ false
  is_none names all = none_passed may_tell head.name tells_nothing names all

  nothing_shown : (least : Option ConstructFound) (behind : List Expression) → Finds around least (λ names innermost. shown_by names innermost head behind) least
  nothing_shown least behind names innermost place =
      sym (ap (least_with least) (
      shown_as names innermost head behind
      ∙ ap (λ (x : Around). head_shown x head ++ behind_shown head behind ++ place_shown x head behind) (sym place)
      ∙ none_shown may_tell around head no_metric tells_nothing refl refl refl refl refl refl behind
      ))

  same_around : with_no_head around ≡ with_head head.name around
  same_around = λ i. record {
    declares = sym (is_none declaring refl) i || around.declares;
    conditional = sym (is_none conditions refl) i || around.conditional;
    initial = sym (differs may_tell head.name tells_nothing (codes ":init") refl) i || around.initial;
    metric = sym (differs may_tell head.name tells_nothing (codes ":metric") refl) i || around.metric;
    is_right_in_init = sym (differs may_tell head.name tells_nothing (codes ":init") refl) i;
  }

-- ---- lists

pub word_shows : (names : List Name) (innermost : Option Name) (e : Expression) (word : Ref) → word_place e ≡ Some word → constructs names innermost e ≡ total_time word
unfolding constructs
word_shows names innermost (expression.Word at text) word is = ap total_time (Some-injective _ word is)
word_shows names innermost (Group' at shape parts) word is = absurd cc

all_are : (names : List Name) (innermost : Option Name) {n : Count} (row : Row_of-Expression n) → constructs_all names innermost row ≡ constructs_in names innermost (expressions row)
unfolding constructs
all_are names innermost end_of-Expression = refl
all_are names innermost (more_of-Expression part rest) = ap (λ ws. constructs names innermost part ++ ws) (all_are names innermost rest)

of_row : (names : List Name) (innermost : Option Name) {n : Count} (row : Row_of-Expression n) → constructs_of names innermost row ≡ constructs_below names innermost (expressions row)
unfolding constructs
of_row names innermost end_of-Expression = refl
of_row names innermost (more_of-Expression (expression.Word at text) rest) =
    ap (λ ws. shown_by names innermost (record { name = text; at = at }) (expressions rest) ++ total_time (record { name = text; at = at }) ++ ws) (all_are (text ∷ names) (Some text) rest)
of_row names innermost (more_of-Expression (Group' at shape parts) rest) = ap (λ ws. constructs_of names None parts ++ ws) (all_are names None rest)

pub list_shows : (names : List Name) (innermost : Option Name) (e : Expression) → word_place e ≡ None → constructs names innermost e ≡ constructs_below names innermost (elements e)
unfolding constructs
list_shows names innermost (expression.Word at text) is = absurd cc
list_shows names innermost (Group' at shape parts) is = of_row names innermost parts

-- ---- one part more

-- what is found in a part, and then in the others
module _ (names : List Name) (innermost : Option Name) (least next : Option ConstructFound) (e : Expression) (rest es : List Expression) (is : es ≡ e ∷ rest) where
  part_next : next ≡ least_with least (constructs names innermost e) → least_with next (constructs_in names innermost rest) ≡ least_with least (constructs_in names innermost es)
  part_next found =
      ap (λ l. least_with l (constructs_in names innermost rest)) found ∙ sym (least_append least (constructs names innermost e) (constructs_in names innermost rest))
      ∙ ap (λ parts. least_with least (constructs_in names innermost parts)) (sym is)

  pub word_next : (test : Bool) (word : Ref) → Some word ≡ word_place e → test ≡ is_word_called word (codes "total-time") → next ≡ least_with least (word_when test word)
      → least_with next (constructs_in names innermost rest) ≡ least_with least (constructs_in names innermost es)
  word_next test word at tested found =
      part_next (found ∙ ap (λ b. least_with least (word_when b word)) tested ∙ ap (least_with least) (sym (word_shows names innermost e word (sym at))))

  pub list_next : (parts : List Expression) → None ≡ word_place e → parts ≡ elements e → next ≡ least_with least (constructs_below names innermost parts)
      → least_with next (constructs_in names innermost rest) ≡ least_with least (constructs_in names innermost es)
  list_next parts at within found =
      part_next (found ∙ ap (λ ps. least_with least (constructs_below names innermost ps)) within ∙ ap (least_with least) (sym (list_shows names innermost e (sym at))))

-- ---- in a list

module _ (around inner : Around) (least last : Option ConstructFound) (first : Expression) (rest es : List Expression) (is : es ≡ first ∷ rest) where
  pub below_head : (shown timed : Option ConstructFound) (test : Bool) (head : Ref) → Some head ≡ word_place first → inner ≡ with_head head.name around
      → Finds around least (λ names innermost. shown_by names innermost head rest) shown → test ≡ is_word_called head (codes "total-time") → timed ≡ least_with shown (word_when test head)
      → Finds inner timed (λ names innermost. constructs_in names innermost rest) last → Finds around least (λ names innermost. constructs_below names innermost es) last
  below_head shown timed test head at within by_head tested by_time by_rest names innermost place =
      let first_words = shown_by names innermost head rest in
      let others = constructs_in (head.name ∷ names) (Some head.name) rest in
      by_rest (head.name ∷ names) (Some head.name) (within ∙ ap (with_head head.name) place ∙ head_around names innermost head.name)
      ∙ ap (λ l. least_with l others) (by_time ∙ ap (λ b. least_with shown (word_when b head)) tested ∙ ap (λ l. least_with l (total_time head)) (by_head names innermost place) ∙ sym (least_append least first_words (total_time head)))
      ∙ sym (least_append least (first_words ++ total_time head) others)
      ∙ ap (λ o. least_with least (behind_head names innermost first rest o)) at ∙ ap (λ parts. least_with least (constructs_below names innermost parts)) (sym is)

  pub below_plain : (head : Ref) → Some head ≡ word_place first → true ≡ is_plain around head → inner ≡ with_no_head around
      → Finds inner least (λ names innermost. constructs_in names innermost rest) last → Finds around least (λ names innermost. constructs_below names innermost es) last
  below_plain head at plain within by_rest =
      below_head least least false head at (within ∙ same_around around head (sym plain)) (nothing_shown around head (sym plain) least rest) (sym (is_not around head (sym plain) (codes "total-time") refl)) refl by_rest

  pub below_list : None ≡ word_place first → inner ≡ with_no_head around
      → Finds inner least (λ names innermost. constructs_in names innermost es) last → Finds around least (λ names innermost. constructs_below names innermost es) last
  below_list at within by_all names innermost place =
      by_all names None (within ∙ ap with_no_head place ∙ no_head_around names innermost)
      ∙ ap (λ parts. least_with least (constructs_in names None parts)) is
      ∙ ap (λ o. least_with least (behind_head names innermost first rest o)) at ∙ ap (λ parts. least_with least (constructs_below names innermost parts)) (sym is)
