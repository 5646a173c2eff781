-- Expressions of the metric have trees exactly where the table takes them.
use Rattle.std.proofs.Common.{◌≡◌, ◌∙◌, refl, sym, ap, Bool, true, false, ◌&&◌, ◌||◌, if◌then◌else◌, List, [], ◌∷◌, map, Option, Some, None}
use Rattle.std.specs.Prelude.{is_some}
use Rattle.std.specs.Option.{option_or}
use Rattle.p3_task.specs.Decimals.{is_decimal}
use Rattle.p3_task.specs.Names.{Name, is_empty, same_name, total_cost}
use Rattle.p3_task.specs.Grammar.Words.{◌>>=◌, ListPart, raws, only, name_place, all_trees}
use Rattle.p3_task.specs.Grammar.Metrics.{num_place, num_in, num_word, num_forms, total_cost_form, violated_form, minus_form, minus_of}
use Rattle.p3_task.specs.declared.expression.Expression.{Expression, Group'}
use Rattle.p3_task.specs.declared.expression.Expression.TheVariants as expression
use Rattle.p3_task.specs.declared.effect.Numeral.{Numeral}
use Rattle.p3_task.specs.declared.metric.Num.{Num}
use Rattle.p3_task.specs.declared.metric.Num.TheVariants as num
use Rattle.p3_task.specs.declared.term.Ref.{Ref}
use Rattle.p3_places.proofs.Runs.{run}
use Rattle.p3_places.specs.Places.{num_head, num_rests, num_slot, takes_word}
use Rattle.p3_places.proofs.Fits.{ends, run_parts, fits, fits_one}
use Rattle.p3_places.specs.declared.state.Class.TheVariants as class
use Rattle.p3_places.specs.declared.state.Place.TheVariants as place
use Rattle.p3_places.specs.declared.state.Slot.{Slot}
use Rattle.p3_places.specs.declared.state.Slot.TheVariants as slot
use Rattle.p3_places.specs.declared.state.Rest.TheVariants as rest
use Rattle.p3_places.specs.declared.state.State.TheVariants as state
use Rattle.p3_places.proofs.FitLemmas.{ends_one, ends_more, nothing_more, Awaits, wrapped, some_awaits_ends, choose_alike, some_bind, some_all, Agree, agree_all, name_fits, and_false, and_true}
use Rattle.p3_places.proofs.HalfLemmas.{the_numeral}
use Rattle.p3_places.proofs.PlaceLemmas.{has, Same, Lists, descend_fits, bind_rest, the_word}

-- ---- expressions of the metric

trees : List (ListPart (Option Num)) → List (Option Num)
trees parts = map (λ part. part.tree) parts

numeral_or : {A : Type 0} (b c : Bool) (word : Ref) (f : Ref → Numeral) (g : Numeral → A) (h : Ref → A)
    → is_some (option_or (((if b then Some word else None) >>= λ w. Some (f w)) >>= λ n. Some (g n)) ((if c then Some word else None) >>= λ w. Some (h w))) ≡ (b || c)
numeral_or true c word f g h = refl
numeral_or false true word f g h = refl
numeral_or false false word f g h = refl

num_words : (at : _) (text : Name) → is_some (num_word (expression.Word at text)) ≡ (is_decimal text || same_name total_cost text)
num_words at text = numeral_or (is_decimal text) (same_name total_cost text) (the_word text at)
    the_numeral num.Number (λ word. num.TotalCost word.at)

total_fits : (at : _) (text : Name) (behind : List (ListPart (Option Num))) → is_some (total_cost_form (the_word text at) behind) ≡ ends (run_parts (state.Rest rest.Nothing) (raws behind))
total_fits at text [] = refl
total_fits at text (part ∷ behind) = sym (nothing_more part.raw (raws behind))

violated_fits : (at : _) (text : Name) (behind : List (ListPart (Option Num))) → is_some (violated_form (the_word text at) behind) ≡ ends (run_parts (state.Rest (rest.One (slot.Word class.Name))) (raws behind))
violated_fits at text behind = by (raws behind) ∙ sym (ends_one (slot.Word class.Name) (raws behind))
  where
    by : (parts : List Expression) → is_some (only parts >>= λ e. name_place e >>= λ name. Some (num.Violated name)) ≡ fits_one (fits (slot.Word class.Name)) parts
    by [] = refl
    by (part ∷ []) = some_bind (name_place part) num.Violated ∙ name_fits part
    by (part ∷ other ∷ parts) = refl

one_or_two_awaits : (s : Slot) → Awaits (state.Rest (rest.OneOrTwo s)) s (state.Rest (rest.Maybe s))
one_or_two_awaits s = record { word = λ text. wrapped (takes_word s text) (rest.Maybe s); list = refl; then_to = λ last. refl }

maybe_awaits : (s : Slot) → Awaits (state.Rest (rest.Maybe s)) s (state.Rest rest.Nothing)
maybe_awaits s = record { word = λ text. wrapped (takes_word s text) rest.Nothing; list = refl; then_to = λ last. refl }

abbrev one_or_two : Slot → List Expression → Bool
one_or_two s (x ∷ []) = fits s x
one_or_two s (x ∷ y ∷ []) = fits s x && fits s y
one_or_two s _ = false

ends_one_or_two : (s : Slot) (parts : List Expression) → ends (run_parts (state.Rest (rest.OneOrTwo s)) parts) ≡ one_or_two s parts
ends_one_or_two s [] = refl
ends_one_or_two s (x ∷ []) = ends_more (state.Rest (rest.OneOrTwo s)) (state.Rest (rest.Maybe s)) s (one_or_two_awaits s) x [] ∙ and_true (fits s x)
ends_one_or_two s (x ∷ y ∷ []) =
    ends_more (state.Rest (rest.OneOrTwo s)) (state.Rest (rest.Maybe s)) s (one_or_two_awaits s) x (y ∷ [])
    ∙ ap (λ b. fits s x && b) (ends_more (state.Rest (rest.Maybe s)) (state.Rest rest.Nothing) s (maybe_awaits s) y [] ∙ and_true (fits s y))
ends_one_or_two s (x ∷ y ∷ z ∷ parts) =
    ends_more (state.Rest (rest.OneOrTwo s)) (state.Rest (rest.Maybe s)) s (one_or_two_awaits s) x (y ∷ z ∷ parts)
    ∙ ap (λ b. fits s x && b) (ends_more (state.Rest (rest.Maybe s)) (state.Rest rest.Nothing) s (maybe_awaits s) y (z ∷ parts) ∙ ap (λ b. fits s y && b) (nothing_more z parts) ∙ and_false (fits s y))
    ∙ and_false (fits s x)

minus_many : (head : Ref) (a b c : Option Num) (rest : Option (List Num)) → is_some ((a >>= λ x. (b >>= λ y. (c >>= λ z. rest >>= λ more. Some (z ∷ more)) >>= λ more. Some (y ∷ more)) >>= λ more. Some (x ∷ more)) >>= minus_of head) ≡ false
minus_many head None b c rest = refl
minus_many head (Some x) None c rest = refl
minus_many head (Some x) (Some y) None rest = refl
minus_many head (Some x) (Some y) (Some z) None = refl
minus_many head (Some x) (Some y) (Some z) (Some more) = refl

minus_one : (head : Ref) (a : Option Num) → is_some ((a >>= λ x. Some [] >>= λ more. Some (x ∷ more)) >>= minus_of head) ≡ is_some a
minus_one head None = refl
minus_one head (Some x) = refl

minus_two : (head : Ref) (a b : Option Num) → is_some ((a >>= λ x. (b >>= λ y. Some [] >>= λ more. Some (y ∷ more)) >>= λ more. Some (x ∷ more)) >>= minus_of head) ≡ (is_some a && is_some b)
minus_two head None b = refl
minus_two head (Some x) None = refl
minus_two head (Some x) (Some y) = refl

minus_fits : (head : Ref) (behind : List (ListPart (Option Num))) → Agree has num_slot behind → is_some (minus_form head behind) ≡ ends (run_parts (state.Rest (rest.OneOrTwo num_slot)) (raws behind))
minus_fits head behind agree = by behind agree ∙ sym (ends_one_or_two num_slot (raws behind))
  where
    by : (behind : List (ListPart (Option Num))) → Agree has num_slot behind → is_some (minus_form head behind) ≡ one_or_two num_slot (raws behind)
    by [] agree = refl
    by (a ∷ []) agree = minus_one head a.tree ∙ agree.0
    by (a ∷ b ∷ []) agree = minus_two head a.tree b.tree ∙ ap (λ x. x && is_some b.tree) agree.0 ∙ ap (λ x. fits num_slot a.raw && x) agree.1.0
    by (a ∷ b ∷ c ∷ behind) agree = minus_many head a.tree b.tree c.tree (all_trees (map (λ (part : ListPart (Option Num)). part.tree) behind))

if_some_list : {A : Type 0} (a : Option Num) (more : Option (List Num)) (f : List Num → A)
    → is_some ((a >>= λ x. more >>= λ xs. Some (x ∷ xs)) >>= λ parts. if is_empty parts then None else Some (f parts)) ≡ (is_some a && is_some more)
if_some_list None more f = refl
if_some_list (Some x) None f = refl
if_some_list (Some x) (Some xs) f = refl

many_fits : (f : List Num → Num) (behind : List (ListPart (Option Num))) → Agree has num_slot behind
    → is_some (all_trees (map (λ (part : ListPart (Option Num)). part.tree) behind) >>= λ parts. if is_empty parts then None else Some (f parts)) ≡ ends (run_parts (state.Rest (rest.Some num_slot)) (raws behind))
many_fits f [] agree = refl
many_fits f (part ∷ behind) agree =
    if_some_list part.tree (all_trees (map (λ part. part.tree) behind)) f
    ∙ ap (λ b. b && is_some (all_trees (map (λ (part : ListPart (Option Num)). part.tree) behind))) agree.0
    ∙ ap (λ b. fits num_slot part.raw && b) (some_all (map (λ part. part.tree) behind) ∙ agree_all has num_slot behind agree.1)
    ∙ sym (some_awaits_ends num_slot part.raw (raws behind))

num_first : (e first : Expression) (tree : Option Num) (behind : List (ListPart (Option Num))) → Agree has num_slot behind
    → is_some (num_in (record { raw = first; tree = tree } ∷ behind)) ≡ ends (run_parts (state.Head place.Num) (first ∷ raws behind))
unfolding run
num_first e (Group' at shape inner) tree behind agree = refl
num_first e (expression.Word at text) tree behind agree =
    choose_alike (λ f r. Same (raws behind) (f (the_word text at) behind) r) text num_forms num_rests (λ head behind. None) None
    ((
      refl,
      total_fits at text behind,
      (
        refl,
        violated_fits at text behind,
        (
          refl,
          minus_fits (the_word text at) behind agree,
          (refl, many_fits (num.Sum at) behind agree, (refl, many_fits (num.Product at) behind agree, tt)),
        ),
      ),
    ))
    refl
    ∙ bind_rest (num_head text) (raws behind)

num_lists : Lists num_slot place.Num (λ list parts. num_in parts)
num_lists e [] agree row = refl
num_lists e (part ∷ behind) agree row = num_first e part.raw part.tree behind agree.1

pub num_fits : (e : Expression) → is_some (num_place e) ≡ fits num_slot e
unfolding num_place
num_fits = descend_fits num_slot place.Num num_word (λ list parts. num_in parts) refl num_words num_lists
