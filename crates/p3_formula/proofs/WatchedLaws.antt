-- What a monitor's atoms say over one state more, and when its constraint is satisfied.
use Rattle.std.proofs.Common.{◌≡◌, ◌∙◌, ℕ, suc, ◌-◌, ◌<◌, nat_lt, nat_le, Bool, not, ◌&&◌, ◌||◌, List, [], ◌∷◌, ◌++◌, length, refl, ap, arith}
use Rattle.std.specs.Prelude.{slice_index_or}
use Rattle.std.proofs.lemmas.List.{length-append, get_or_append_left}
use Rattle.std.proofs.Math.Seq.{get_or-append_seam}
use Rattle.p3_formula.specs.Forms.{State, truth}
use Rattle.p3_formula.specs.GroundPlans.{last_of}
use Rattle.p3_base.specs.Connectives.{◌implies◌}
use Rattle.p3_base.specs.Trajectories.{each, some, came_back, is_awaited, came_early}
use Rattle.p3_base.proofs.TrajectoryLemmas.{each-more, some-more, came-more, awaited-more, early-more, each-same, some-same, not-came, not-awaited, not-early}
use Rattle.p3_formula.specs.GroundSat.{holds_at, ground_sat}
use Rattle.p3_formula.specs.declared.form.Form.{Form}
use Rattle.p3_formula.specs.GroundModal.{GroundModal}
use Rattle.p3_base.specs.declared.operator.Operator.TheVariants.{AtEnd, AtMostOnce, SometimeAfter, SometimeBefore}
use Rattle.p3_formula.specs.Kept.{watched, atom_count}

pub length-watched : (W : List State) (modal : GroundModal) → length (watched W modal) ≡ atom_count modal
length-watched W (AtEnd f) = refl
length-watched W _ = refl

pub ruleset watched_laws = (length-watched)

-- the same tests at the places, with the tests within them
came-same : (n : ℕ) (h h' : ℕ → Bool) → ((k : ℕ) → k < n → h k ≡ h' k) → came_back n h ≡ came_back n h'
came-same n h h' same =
    some-same n (λ k k_in. λ e. same k k_in e && some-same n (λ j j_in. λ d. nat_lt j k && not (same j j_in d) && some-same n (λ i i_in. ap (λ b. nat_lt i j && b) (same i i_in)) d) e)

module _ (n : ℕ) (h h' g g' : ℕ → Bool) (same : (k : ℕ) → k < n → h k ≡ h' k) (alike : (k : ℕ) → k < n → g k ≡ g' k) where
  awaited-same : is_awaited n h g ≡ is_awaited n h' g'
  awaited-same = some-same n (λ i i_in. λ e. same i i_in e && each-same n (λ j j_in. ap (λ b. nat_le i j implies not b) (alike j j_in)) e)

  early-same : came_early n h g ≡ came_early n h' g'
  early-same = some-same n (λ i i_in. λ e. same i i_in e && each-same n (λ j j_in. ap (λ b. nat_lt j i implies not b) (alike j j_in)) e)

module _ (W : List State) (next : State) where
  more : length (W ++ next ∷ []) ≡ suc (length W)
  more = let l = length-append W (next ∷ []) in omega arith

  before : (f : Form) (k : ℕ) → k < length W → holds_at (W ++ next ∷ []) f k ≡ holds_at W f k
  before f k k_in = ap (λ state. truth state f) (get_or_append_left W (next ∷ []) [] k k_in)

  at_end : (f : Form) → holds_at (W ++ next ∷ []) f (length W) ≡ truth next f
  at_end f = ap (λ state. truth state f) (get_or-append_seam W next [] [])

  pub last-next : last_of (W ++ next ∷ []) ≡ next
  last-next = let l = more in ap (λ k. slice_index_or (W ++ next ∷ []) k []) (omega arith) ∙ get_or-append_seam W next [] []

  module _ (f : Form) where
    pub each-next : each (length (W ++ next ∷ [])) (holds_at (W ++ next ∷ []) f) ≡ (each (length W) (holds_at W f) && truth next f)
    each-next = ap (λ m. each m (holds_at (W ++ next ∷ []) f)) more ∙ each-more _ (length W) ∙ (λ i. each-same (length W) (before f) i && at_end f i)

    pub some-next : some (length (W ++ next ∷ [])) (holds_at (W ++ next ∷ []) f) ≡ (some (length W) (holds_at W f) || truth next f)
    some-next = ap (λ m. some m (holds_at (W ++ next ∷ []) f)) more ∙ some-more _ (length W) ∙ (λ i. some-same (length W) (before f) i || at_end f i)

    pub came-next : came_back (length (W ++ next ∷ [])) (holds_at (W ++ next ∷ []) f) ≡ (came_back (length W) (holds_at W f) || ((some (length W) (holds_at W f) && not (truth (last_of W) f)) && truth next f))
    came-next =
        ap (λ m. came_back m (holds_at (W ++ next ∷ []) f)) more ∙ came-more (length W) _
        ∙ (λ i. came-same (length W) _ _ (before f) i || (ceased W (before f) i && at_end f i)) where
          ceased : (V : List State) → ((k : ℕ) → k < length V → holds_at (V ++ next ∷ []) f k ≡ holds_at V f k)
              → (some (length V) (holds_at (V ++ next ∷ []) f) && not (holds_at (V ++ next ∷ []) f (length V - 1))) ≡ (some (length V) (holds_at V f) && not (truth (last_of V) f))
          ceased [] same = refl
          ceased (state ∷ V) same = λ i. some-same (length (state ∷ V)) same i && not (same (length (state ∷ V) - 1) (omega arith) i)

  module _ (f g : Form) where
    pub awaited-next : is_awaited (length (W ++ next ∷ [])) (holds_at (W ++ next ∷ []) f) (holds_at (W ++ next ∷ []) g) ≡ ((is_awaited (length W) (holds_at W f) (holds_at W g) || truth next f) && not (truth next g))
    awaited-next =
        ap (λ m. is_awaited m (holds_at (W ++ next ∷ []) f) (holds_at (W ++ next ∷ []) g)) more ∙ awaited-more (length W) _ _
        ∙ (λ i. (awaited-same (length W) _ _ _ _ (before f) (before g) i || at_end f i) && not (at_end g i))

    pub early-next : came_early (length (W ++ next ∷ [])) (holds_at (W ++ next ∷ []) f) (holds_at (W ++ next ∷ []) g) ≡ (came_early (length W) (holds_at W f) (holds_at W g) || (truth next f && not (some (length W) (holds_at W g))))
    early-next =
        ap (λ m. came_early m (holds_at (W ++ next ∷ []) f) (holds_at (W ++ next ∷ []) g)) more ∙ early-more (length W) _ _
        ∙ (λ i. early-same (length W) _ _ _ _ (before f) (before g) i || (at_end f i && not (some-same (length W) (before g) i)))

-- ---- satisfaction

module _ (W : List State) (f g : Form) where
  pub sat-AtMostOnce : ground_sat W (AtMostOnce f) ≡ not (came_back (length W) (holds_at W f))
  unfolding ground_sat
  sat-AtMostOnce = not-came (length W) (holds_at W f)

  pub sat-SometimeAfter : ground_sat W (SometimeAfter f g) ≡ not (is_awaited (length W) (holds_at W f) (holds_at W g))
  unfolding ground_sat
  sat-SometimeAfter = not-awaited (length W) (holds_at W f) (holds_at W g)

  pub sat-SometimeBefore : ground_sat W (SometimeBefore f g) ≡ not (came_early (length W) (holds_at W f) (holds_at W g))
  unfolding ground_sat
  sat-SometimeBefore = not-early (length W) (holds_at W f) (holds_at W g)
