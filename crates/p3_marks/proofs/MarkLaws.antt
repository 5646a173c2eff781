-- A mark stays right of one state more, and of one in which the formulas have the truth that they had before.
use Rattle.std.proofs.Common.{◌≡◌, ◌∙◌, ℕ, suc, ◌<◌, Bool, true, false, not, ◌&&◌, ◌||◌, List, [], ◌∷◌, ◌++◌, length, refl, sym, ap, arith, Option, Some, None}
use Rattle.std.specs.Prelude.{is_some, if◌then◌else◌}
use Rattle.std.proofs.lemmas.Bool.{and_parts}
use Rattle.std.proofs.lemmas.List.{length-append, get_or_append_left}
use Rattle.std.proofs.Math.Seq.{get_or-append_seam}
use Rattle.p3_base.specs.Showings.{is_unanswered, is_unprepared}
use Rattle.p3_base.specs.Trajectories.{some}
use Rattle.p3_base.proofs.TrajectoryLemmas.{some-same}
use Rattle.p3_formula.specs.Forms.{State, truth, has_atoms, is_set}
use Rattle.p3_formula.specs.GroundSat.{holds_at}
use Rattle.p3_formula.specs.Modals.{is_read}
use Rattle.p3_formula.specs.declared.form.Form.{Form}
use Rattle.p3_formula.specs.GroundModal.{GroundModal}
use Rattle.p3_base.specs.declared.operator.Operator.TheVariants.{AtEnd, Always, Sometime, AtMostOnce, SometimeAfter, SometimeBefore}
use Rattle.p3_formula.proofs.NextLaws.{truth-agree}
use Rattle.p3_formula.proofs.ReadAtoms.{reads}
use Rattle.p3_formula.proofs.WatchedLaws.{last-next, some-next}
use Rattle.p3_marks.specs.Marks.{least_place, is_gap, is_again, noted, holding, placed, no_mark, mark_of, next_once, next_after, next_before, next_mark}
use Rattle.p3_marks.specs.declared.mark.Mark.{Mark}
use Rattle.p3_marks.proofs.PlaceLaws.{least-more, least-same, gap-same, gap-more, again-same, again-more, unanswered-same, unanswered-more, unprepared-same, unprepared-more}

-- ---- the places over one state more

module _ (W : List State) (next : State) where
  abbrev n : ℕ
  n = length W

  abbrev longer : List State
  longer = W ++ next ∷ []

  more : length longer ≡ suc n
  more = let l = length-append W (next ∷ []) in omega arith

  before : (f : Form) (k : ℕ) → k < n → holds_at longer f k ≡ holds_at W f k
  before f k lt = ap (λ state. truth state f) (get_or_append_left W (next ∷ []) [] k lt)

  at_end : (f : Form) → holds_at longer f n ≡ truth next f
  at_end f = ap (λ state. truth state f) (get_or-append_seam W next [] [])

  module _ (f : Form) where
    fails-next : least_place (length longer) (λ i. not (holds_at longer f i)) ≡ noted (least_place n (λ i. not (holds_at W f i))) n (not (truth next f))
    fails-next =
        ap (λ m. least_place m (λ i. not (holds_at longer f i))) more ∙ least-more (λ i. not (holds_at longer f i)) n
        ∙ (λ i. noted (least-same n (λ k lt. ap not (before f k lt)) i) n (not (at_end f i)))

    holds-next : least_place (length longer) (holds_at longer f) ≡ noted (least_place n (holds_at W f)) n (truth next f)
    holds-next = ap (λ m. least_place m (holds_at longer f)) more ∙ least-more (holds_at longer f) n ∙ (λ i. noted (least-same n (before f) i) n (at_end f i))

    gap-next : least_place (length longer) (is_gap (length longer) (holds_at longer f)) ≡ noted (least_place n (is_gap n (holds_at W f))) n (is_some (least_place n (holds_at W f)) && not (truth next f))
    gap-next =
        ap (λ m. least_place m (is_gap m (holds_at longer f))) more ∙ gap-more (holds_at longer f) n
        ∙ (λ i. noted (gap-same n (before f) i) n (is_some (least-same n (before f) i) && not (at_end f i)))

    again-next : least_place (length longer) (is_again (length longer) (holds_at longer f)) ≡ noted (least_place n (is_again n (holds_at W f))) n (is_some (least_place n (is_gap n (holds_at W f))) && truth next f)
    again-next =
        ap (λ m. least_place m (is_again m (holds_at longer f))) more ∙ again-more (holds_at longer f) n
        ∙ (λ i. noted (again-same n (before f) i) n (is_some (gap-same n (before f) i) && at_end f i))

  module _ (f g : Form) where
    unanswered-next : least_place (length longer) (is_unanswered (length longer) (holds_at longer f) (holds_at longer g))
        ≡ (if truth next g then None else noted (least_place n (is_unanswered n (holds_at W f) (holds_at W g))) n (truth next f))
    unanswered-next =
        ap (λ m. least_place m (is_unanswered m (holds_at longer f) (holds_at longer g))) more ∙ unanswered-more (holds_at longer f) (holds_at longer g) n
        ∙ (λ i. if at_end g i then None else noted (unanswered-same n (before f) (before g) i) n (at_end f i))

    unprepared-next : least_place (length longer) (is_unprepared (length longer) (holds_at longer f) (holds_at longer g))
        ≡ noted (least_place n (is_unprepared n (holds_at W f) (holds_at W g))) n (truth next f && not (some n (holds_at W g)))
    unprepared-next =
        ap (λ m. least_place m (is_unprepared m (holds_at longer f) (holds_at longer g))) more ∙ unprepared-more (holds_at longer f) (holds_at longer g) n
        ∙ (λ i. noted (unprepared-same n (before f) (before g) i) n (at_end f i && not (some_before i)))
      where
        some_before : some n (holds_at longer g) ≡ some n (holds_at W g)
        some_before = some-same n (before g)

  -- the mark of one state more
  pub mark_next : (modal : GroundModal) → next_mark n next modal (mark_of W modal) ≡ mark_of longer modal
  mark_next (AtEnd f) = ap holding (sym (ap (λ state. truth state f) (last-next W next)))
  mark_next (Always f) = ap placed (sym (fails-next f))
  mark_next (Sometime f) = ap placed (sym (holds-next f))
  mark_next (AtMostOnce f) = λ i. record { holds = false; first = sym (holds-next f) i; gap = sym (gap-next f) i; again = sym (again-next f) i }
  mark_next (SometimeAfter f g) = ap placed (sym (unanswered-next f g))
  mark_next (SometimeBefore f g) = λ i. record { holds = sym (some-next W next g) i; first = sym (unprepared-next f g) i; gap = None; again = None }

-- the mark of the first state
pub mark_begins : (state : State) (modal : GroundModal) → next_mark 0 state modal no_mark ≡ mark_of (state ∷ []) modal
mark_begins state (AtEnd f) = refl
mark_begins state (Always f) = mark_next [] state (Always f)
mark_begins state (Sometime f) = mark_next [] state (Sometime f)
mark_begins state (AtMostOnce f) = mark_next [] state (AtMostOnce f)
mark_begins state (SometimeAfter f g) = mark_next [] state (SometimeAfter f g)
mark_begins state (SometimeBefore f g) = mark_next [] state (SometimeBefore f g)

-- ---- the same state twice

module _ (a c : ℕ) where
  noted_twice : (place : Option ℕ) (b : Bool) → noted (noted place a b) c b ≡ noted place a b
  noted_twice None true = refl
  noted_twice None false = refl
  noted_twice (Some place) b = refl

  noted_never : (place : Option ℕ) (b : Bool) → noted place c (b && false) ≡ place
  noted_never None true = refl
  noted_never None false = refl
  noted_never (Some place) b = refl

  gap_twice : (first gap : Option ℕ) (h : Bool) → noted (noted gap a (is_some first && not h)) c (is_some (noted first a h) && not h) ≡ noted gap a (is_some first && not h)
  gap_twice first gap true = noted_never (noted gap a (is_some first && false)) (is_some (noted first a true))
  gap_twice None gap false = noted_twice gap false
  gap_twice (Some first) gap false = noted_twice gap true

  again_twice : (b h : Bool) (gap again : Option ℕ) → noted (noted again a (is_some gap && h)) c (is_some (noted gap a (b && not h)) && h) ≡ noted again a (is_some gap && h)
  again_twice b false gap again = noted_never (noted again a (is_some gap && false)) (is_some (noted gap a (b && true)))
  again_twice true true None again = noted_twice again false
  again_twice false true None again = noted_twice again false
  again_twice b true (Some gap) again = noted_twice again true

  after_twice : (f g : Bool) (place : Option ℕ) → (if g then None else noted (if g then None else noted place a f) c f) ≡ (if g then None else noted place a f)
  after_twice f true place = refl
  after_twice f false place = noted_twice place f

  or_twice : (h g : Bool) → ((h || g) || g) ≡ (h || g)
  or_twice true g = refl
  or_twice false true = refl
  or_twice false false = refl

  before_twice : (f h g : Bool) (place : Option ℕ) → noted (noted place a (f && not h)) c (f && not (h || g)) ≡ noted place a (f && not h)
  before_twice false h g place = noted_twice place false
  before_twice true true g place = noted_twice place false
  before_twice true false true None = refl
  before_twice true false true (Some place) = refl
  before_twice true false false place = noted_twice place true

  pub mark_twice : (state : State) (modal : GroundModal) (mark : Mark) → next_mark c state modal (next_mark a state modal mark) ≡ next_mark a state modal mark
  mark_twice state (AtEnd f) mark = refl
  mark_twice state (Always f) mark = ap placed (noted_twice mark.first (not (truth state f)))
  mark_twice state (Sometime f) mark = ap placed (noted_twice mark.first (truth state f))
  mark_twice state (AtMostOnce f) mark = λ i. record {
    holds = false;
    first = noted_twice mark.first (truth state f) i;
    gap = gap_twice mark.first mark.gap (truth state f) i;
    again = again_twice (is_some mark.first) (truth state f) mark.gap mark.again i;
  }
  mark_twice state (SometimeAfter f g) mark = ap placed (after_twice (truth state f) (truth state g) mark.first)
  mark_twice state (SometimeBefore f g) mark = λ i. record {
    holds = or_twice mark.holds (truth state g) i;
    first = before_twice (truth state f) mark.holds (truth state g) mark.first i;
    gap = None;
    again = None;
  }

-- ---- a state that agrees with the last one

module _ (first second : State) (modal : GroundModal) (agree : (atom : ℕ) → is_read modal atom ≡ true → is_set first atom ≡ is_set second atom) where
  same : (form : Form) → has_atoms (is_read modal) form ≡ true → truth first form ≡ truth second form
  same form has = truth-agree first second (is_read modal) agree form has

next_alike : (next : ℕ) (first second : State) (modal : GroundModal) (mark : Mark) → ((form : Form) → has_atoms (is_read modal) form ≡ true → truth first form ≡ truth second form)
    → next_mark next first modal mark ≡ next_mark next second modal mark
next_alike next first second (AtEnd f) mark same = ap holding (same f (and_parts _ _ (reads (AtEnd f))).0)
next_alike next first second (Always f) mark same = ap (λ b. placed (noted mark.first next (not b))) (same f (and_parts _ _ (reads (Always f))).0)
next_alike next first second (Sometime f) mark same = ap (λ b. placed (noted mark.first next b)) (same f (and_parts _ _ (reads (Sometime f))).0)
next_alike next first second (AtMostOnce f) mark same = ap (λ b. next_once next b mark) (same f (and_parts _ _ (reads (AtMostOnce f))).0)
next_alike next first second (SometimeAfter f g) mark same =
    let both = and_parts _ _ (reads (SometimeAfter f g)) in
    let e = same f both.0 in
    let d = same g (and_parts _ _ both.1).0 in
    λ i. next_after next (e i) (d i) mark
next_alike next first second (SometimeBefore f g) mark same =
    let both = and_parts _ _ (reads (SometimeBefore f g)) in
    let e = same f both.0 in
    let d = same g (and_parts _ _ both.1).0 in
    λ i. next_before next (e i) (d i) mark

-- the mark stays where the next state agrees with the last one on the atoms of the operator
pub mark_stays : (V : List State) (state next : State) (modal : GroundModal) → ((atom : ℕ) → is_read modal atom ≡ true → is_set next atom ≡ is_set state atom)
    → mark_of ((V ++ state ∷ []) ++ next ∷ []) modal ≡ mark_of (V ++ state ∷ []) modal
mark_stays V state next modal agree =
    sym (mark_next (V ++ state ∷ []) next modal)
    ∙ ap (next_mark (length (V ++ state ∷ [])) next modal) (sym (mark_next V state modal))
    ∙ next_alike (length (V ++ state ∷ [])) next state modal (next_mark (length V) state modal (mark_of V modal)) (same next state modal agree)
    ∙ mark_twice (length V) (length (V ++ state ∷ [])) state modal (mark_of V modal)
    ∙ mark_next V state modal
