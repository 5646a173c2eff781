-- A walk stays on its way with the action that is taken.
use Rattle.std.proofs.Common.{◌≡◌, ◌∙◌, ◌⊎◌, inl, inr, ℕ, suc, ◌+◌, ◌<◌, Bool, true, false, cond, List, [], ◌∷◌, ◌++◌, length, take, drop, get_or, sum_by, refl, sym, ap, subst, arith, zero-add, true≢false, Option, Some, None}
use Rattle.std.specs.Prelude.{Contains, bytes_eq, find, option_map, slice_get, slice_index_or}
use Rattle.std.proofs.lemmas.Bool.{and_parts, not-true, or_left, or_right}
use Rattle.std.proofs.lemmas.List.{length-map, map-append, take_more}
use Rattle.std.specs.List.{All}
use Rattle.std.proofs.lemmas.List.Elements.{All-push}
use Rattle.std.proofs.lemmas.List.Sums.{sum_by-append}
use Rattle.std.proofs.lemmas.Option.{get_or_from_slice_get, slice_get-get_or, slice_get-map, slice_get_within}
use Rattle.std.proofs.lemmas.Slice.Eq.{bytes_eq-Decides}
use Rattle.std.proofs.Math.Seq.{drop-cons, drop-length}
use Rattle.p3_base.specs.Words.{Name, has_name, are_different}
use Rattle.p3_formula.specs.Forms.{State, truth}
use Rattle.p3_formula.specs.Next.{after}
use Rattle.p3_formula.specs.GroundPlans.{GroundPlan}
use Rattle.p3_formula.specs.Targets.{TargetPlan, Fits, action_of, action_names, cost_by, target_cost}
use Rattle.p3_formula.specs.declared.target.Target.{Target}
use Rattle.p3_formula.specs.declared.target.TargetAction.{TargetAction}
use Rattle.p3_formula.specs.declared.target.Weights.{Weights}
use Rattle.p3_formula.specs.declared.task.GroundTask.{GroundTask}
use Rattle.p3_formula.proofs.NextLaws.{length-after}
use Rattle.p3_embed.specs.declared.actions.Actions.{Actions}
use Rattle.p3_embed.specs.declared.walking.EmbeddingWalk.{EmbeddingWalk}
use Rattle.p3_embed.specs.Actions.{AreActionsOf, FitsAt, NoneFits}
use Rattle.p3_embed.specs.Embeds.{CanEmbed, IsEmbedded, IsOnWay, names_at, plan_length}
use Rattle.p3_embed.specs.Walking.{HasTaken, IsBegun, IsWalk}
use Rattle.p3_simulation.proofs.Walks.{counted, head_or_tail, in_none, names}
use Rattle.p3_embed.proofs.WalkLaws.{OthersNext, copy_next, differ, at_end, at_start, is_short, other_next, other_there, others_amid, others_at_end}

-- ---- the action of a name

has_its_name : (actions : List TargetAction) (a : TargetAction) → Contains actions a → has_name (names actions) a.name ≡ true
has_its_name [] a member = in_none a member
has_its_name (x ∷ xs) a member = elim (head_or_tail x xs a member) [
  | inl is ↦ or_left (bytes_eq x.name a.name) _ ((bytes_eq-Decides x.name a.name).1 (ap (λ (action : TargetAction). action.name) is))
  | inr later ↦ or_right (bytes_eq x.name a.name) _ (has_its_name xs a later)
]

found : (actions : List TargetAction) → are_different (names actions) ≡ true → (a : TargetAction) → Contains actions a → find (λ (action : TargetAction). bytes_eq action.name a.name) actions ≡ Some a
found [] differ a member = in_none a member
found (x ∷ xs) differ a member = by (head_or_tail x xs a member) (bytes_eq x.name a.name) refl (found xs (and_parts _ _ differ).1 a)
  where
    by : (x ≡ a) ⊎ Contains xs a → (b : Bool) → bytes_eq x.name a.name ≡ b → (Contains xs a → find (λ (action : TargetAction). bytes_eq action.name a.name) xs ≡ Some a) → find (λ (action : TargetAction). bytes_eq action.name a.name) (x ∷ xs) ≡ Some a
    by (inl is) b e later = ap (λ t. cond t (Some x) (find (λ (action : TargetAction). bytes_eq action.name a.name) xs)) ((bytes_eq-Decides x.name a.name).1 (ap (λ (action : TargetAction). action.name) is)) ∙ ap Some is
    by (inr behind) true e later =
        let same : x.name ≡ a.name = (bytes_eq-Decides x.name a.name).0 e in
        absurd (true≢false (sym (has_its_name xs a behind) ∙ ap (has_name (names xs)) (sym same) ∙ not-true _ (and_parts _ _ differ).0))
    by (inr behind) false e later = ap (λ t. cond t (Some x) (find (λ (action : TargetAction). bytes_eq action.name a.name) xs)) e ∙ later behind

cost_more : (X : Target) → are_different (names X.actions) ≡ true → (done : TargetPlan) (a : TargetAction) → Contains X.actions a → target_cost X (done ++ a.name ∷ []) ≡ target_cost X done + a.cost
unfolding target_cost
cost_more X differ done a member =
    let cost = λ (name : Name). cost_by (action_of X name) in
    sum_by-append cost done (a.name ∷ []) ∙ ap (λ n. sum_by cost done + n) (zero-add (cost a.name) ∙ ap cost_by (found X.actions differ a member))

-- ---- places and actions

member_at : {A : Type 0} (items : List A) (place : ℕ) (item : A) → slice_get items place ≡ Some item → Contains items item
member_at items place item at = (place, slice_get_within items place item at, get_or_from_slice_get items place item item at)

module _ (G : GroundTask) (X : Target) (actions : Actions) (are : AreActionsOf G X actions) where
  counts_at : (place : ℕ) (action : TargetAction) → slice_get X.actions place ≡ Some action → slice_get actions.counts.items place ≡ Some (counted G action)
  counts_at place action at =
      ap (λ list. slice_get list place) are.counts ∙ slice_get-map (counted G) X.actions place ∙ ap (option_map (counted G)) at

  -- no action of that count fits
  none_of : (state : State) (count : Option ℕ) → NoneFits actions.counts.items X state count → (action : TargetAction) → Contains X.actions action → counted G action ≡ count → truth state action.pre ≡ false
  none_of state count none action member is =
      let at : slice_get X.actions member.0 ≡ Some action = slice_get-get_or X.actions member.0 action member.1 ∙ ap Some member.2 in
      none member.0 action at (counts_at member.0 action at ∙ ap Some is)

  counts_so : (state : State) (count : Option ℕ) (place : ℕ) → (fit : FitsAt actions.counts.items X state count place) → counted G fit.action ≡ count
  counts_so state count place fit = let both = sym (counts_at place fit.action fit.at) ∙ fit.counts_so in cc

name_at : (X : Target) (place : ℕ) (action : TargetAction) → slice_get X.actions place ≡ Some action → slice_index_or (action_names X) place [] ≡ action.name
name_at X place action at = get_or_from_slice_get (action_names X) place action.name [] (slice_get-map (λ (a : TargetAction). a.name) X.actions place ∙ ap (option_map (λ (a : TargetAction). a.name)) at)

names_more : (X : Target) (places : List ℕ) (place : ℕ) (action : TargetAction) → slice_get X.actions place ≡ Some action → names_at X (places ++ place ∷ []) ≡ names_at X places ++ action.name ∷ []
names_more X places place action at = map-append (λ p. slice_index_or (action_names X) p []) places (place ∷ []) ∙ ap (λ name. names_at X places ++ name ∷ []) (name_at X place action at)

-- ---- an action taken

module _ (G : GroundTask) (weights : Weights) (X : Target) (numbers : GroundPlan) (able : CanEmbed G weights X numbers) (actions : Actions) (are : AreActionsOf G X actions)
    (count : ℕ) (walk : EmbeddingWalk) (is : IsWalk G X numbers count walk) where
  abbrev done : TargetPlan
  done = names_at X walk.places.items

  long : length done ≡ length walk.places.items
  long = length-map walk.places.items (λ p. slice_index_or (action_names X) p [])

  taken : (next : ℕ) (new : EmbeddingWalk) (place : ℕ) (action : TargetAction) → slice_get X.actions place ≡ Some action → HasTaken X place walk new
      → IsOnWay G X numbers next (done ++ action.name ∷ []) (after walk.state action.effects) → IsWalk G X numbers next new
  taken next new place action at took way =
      let state = took.state action at in
      let spelled : names_at X new.places.items ≡ done ++ action.name ∷ [] = ap (names_at X) took.places ∙ names_more X walk.places.items place action at in
      record {
        way = subst (λ (plan : TargetPlan). IsOnWay G X numbers next plan new.state) (sym spelled) (subst (IsOnWay G X numbers next (done ++ action.name ∷ [])) (sym state) way);
        places = subst (All (λ p. p < length X.actions)) (sym took.places) (All-push (λ p. p < length X.actions) walk.places.items place is.places (slice_get_within X.actions place action at));
        bits = ap (λ (bits : State). length bits) state ∙ length-after walk.state action.effects ∙ is.bits;
        cost = took.cost action at ∙ ap (λ n. n + action.cost) is.cost ∙ sym (cost_more X (differ G weights X able.compiled numbers) done action (member_at X.actions place action at)) ∙ ap (target_cost X) (sym spelled);
        cheap = took.cheap;
      }

  fits : (count : Option ℕ) (place : ℕ) → (fit : FitsAt actions.counts.items X walk.state count place) → Fits X walk.state fit.action
  fits count place fit = record { own = member_at X.actions place fit.action fit.at; holds = fit.holds }

  -- a copy of the next step
  pub copy_taken : (number : ℕ) (more : List ℕ) → drop count numbers ≡ number ∷ more → take count numbers ++ number ∷ [] ≡ take (count + 1) numbers
      → (place : ℕ) → FitsAt actions.counts.items X walk.state (Some number) place → (new : EmbeddingWalk) → HasTaken X place walk new → IsWalk G X numbers (count + 1) new
  copy_taken number more left one place fit new took =
      taken (count + 1) new place fit.action fit.at took
      (copy_next G weights X able.compiled numbers count done walk.state is.way number more left one fit.action (fits (Some number) place fit) (counts_so G X actions are walk.state (Some number) place fit))

  module _ (others : OthersNext G weights X able.compiled numbers count done walk.state is.way) where
    -- an action that counts as none
    pub other_taken : (place : ℕ) → FitsAt actions.counts.items X walk.state None place → (new : EmbeddingWalk) → HasTaken X place walk new → IsWalk G X numbers count new
    other_taken place fit new took =
        taken count new place fit.action fit.at took
        (other_next G weights X able.compiled numbers count done walk.state is.way others fit.action (fits None place fit) (counts_so G X actions are walk.state None place fit))

    pub other_is_there : NoneFits actions.counts.items X walk.state None → ⊥
    other_is_there none = other_there G weights X able.compiled numbers count done walk.state is.way able.valid others (none_of G X actions are walk.state None none)

    pub goes_on : length walk.places.items < plan_length G weights numbers
    goes_on = let below = is_short G weights X able.compiled numbers count done walk.state is.way able.valid others in let same = long in omega (arith, below, same)

  pub others_at_step : (number : ℕ) (more : List ℕ) → drop count numbers ≡ number ∷ more → NoneFits actions.counts.items X walk.state (Some number) → OthersNext G weights X able.compiled numbers count done walk.state is.way
  others_at_step number more left none = others_amid G weights X able.compiled numbers count done walk.state is.way number more left (none_of G X actions are walk.state (Some number) none)

  -- the same, of the step at the count
  module _ (next : count < length numbers) where
    left : drop count numbers ≡ get_or numbers count 0 ∷ drop (suc count) numbers
    left = drop-cons numbers count 0 next

    pub step_taken : (place : ℕ) → FitsAt actions.counts.items X walk.state (Some (get_or numbers count 0)) place → (new : EmbeddingWalk) → HasTaken X place walk new → IsWalk G X numbers (count + 1) new
    step_taken place fit new took = copy_taken (get_or numbers count 0) (drop (suc count) numbers) left (sym (take_more numbers count 0 next)) place fit new took

    pub others_of_step : NoneFits actions.counts.items X walk.state (Some (get_or numbers count 0)) → OthersNext G weights X able.compiled numbers count done walk.state is.way
    others_of_step none = others_at_step (get_or numbers count 0) (drop (suc count) numbers) left none

  -- behind the last step
  module _ (all : count ≡ length numbers) where
    none_left : drop count numbers ≡ []
    none_left = ap (λ n. drop n numbers) all ∙ drop-length numbers

    pub others_behind : truth walk.state X.goal ≡ false → OthersNext G weights X able.compiled numbers count done walk.state is.way
    others_behind away = others_at_end G weights X able.compiled numbers count done walk.state is.way none_left away

    pub embedded : truth walk.state X.goal ≡ true → IsEmbedded G X numbers done
    embedded goal = at_end G weights X able.compiled numbers count done walk.state is.way (sym all) able.valid goal

pub begins_walk : (G : GroundTask) (weights : Weights) (X : Target) (numbers : GroundPlan) → CanEmbed G weights X numbers → (walk : EmbeddingWalk) → IsBegun X walk → IsWalk G X numbers 0 walk
unfolding target_cost
begins_walk G weights X numbers able walk begun = record {
  way = subst (λ (places : List ℕ). IsOnWay G X numbers 0 (names_at X places) walk.state) (sym begun.places) (subst (IsOnWay G X numbers 0 []) (sym begun.state) (at_start G weights X able.compiled numbers));
  places = subst (All (λ p. p < length X.actions)) (sym begun.places) (λ k d within. absurd (omega (arith, within)));
  bits = ap (λ (bits : State). length bits) begun.state ∙ able.compiled.sized.bits;
  cost = begun.cost ∙ ap (λ (places : List ℕ). target_cost X (names_at X places)) (sym begun.places);
  cheap = let none = begun.cost in omega (arith, none);
}
