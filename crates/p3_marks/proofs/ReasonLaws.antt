-- Reasons of one item more of a list, and that marks show the reasons of all operators.
use Rattle.std.proofs.Common.{◌≡◌, ◌∙◌, ℕ, suc, ◌+◌, ◌<◌, Bool, true, false, not, cond, List, [], ◌∷◌, ◌++◌, length, map, get_or, take, refl, sym, ap, arith, append_assoc, add-one}
use Rattle.std.specs.Prelude.{flat_map, filter, None}
use Rattle.std.specs.List.{enumerate_from}
use Rattle.std.proofs.lemmas.Grind.{flat_map-append}
use Rattle.std.proofs.lemmas.List.{append-nil, get_or-map, length-map, length-take, map-append, take_more, get_or_default}
use Rattle.std.proofs.lemmas.List.Elements.{filter-append}
use Rattle.p3_base.specs.declared.showing.Reason.{Reason}
use Rattle.p3_base.specs.declared.showing.Showing.{Showing}
use Rattle.p3_base.specs.declared.showing.Subject.{Subject}
use Rattle.p3_base.specs.declared.showing.Subject.TheVariants.{Hard, Soft}
use Rattle.p3_formula.specs.Forms.{State, truth}
use Rattle.p3_formula.specs.declared.form.Form.TheVariants.{True}
use Rattle.p3_formula.specs.GroundModal.{GroundModal}
use Rattle.p3_base.specs.declared.operator.Operator.TheVariants.{AtEnd}
use Rattle.p3_formula.specs.declared.modal.GroundPref.{GroundPref}
use Rattle.p3_formula.specs.declared.modal.GroundSoft.{GroundSoft}
use Rattle.p3_formula.specs.declared.task.GroundTask.{GroundTask}
use Rattle.p3_run.specs.Groups.{modal_at, modals_at, modals_of}
use Rattle.p3_run.specs.declared.readers.OperatorReader.{OperatorReader}
use Rattle.p3_marks.specs.Marks.{mark_of, shown_by}
use Rattle.p3_marks.specs.Marked.{AreMarks, Marked, group_at, mark_at, shown_all, shown_reason, shown_reasons, shown_soft, subject_by}
use Rattle.p3_marks.specs.Reasons.{ground_shown, is_false_in, modal_reason, modal_reasons, operator_reasons, pref_reason, pref_reasons, soft_reasons}
use Rattle.p3_marks.specs.declared.mark.Mark.{Mark}
use Rattle.p3_marks.specs.declared.reasons.Owner.TheVariants as owner
use Rattle.p3_marks.proofs.ShownLaws.{shown_is}

-- ---- one item more

pub enumerate_push : {A : Type 0} (from : ℕ) (xs : List A) (x : A) (at : ℕ) → from + length xs ≡ at → enumerate_from from (xs ++ x ∷ []) ≡ enumerate_from from xs ++ (at, x) ∷ []
enumerate_push from [] x at e = let same : from ≡ at = omega (arith, e) in ap (λ (n : ℕ). (n, x) ∷ []) same
enumerate_push from (y ∷ xs) x at e = ap (λ rest. (from, y) ∷ rest) (enumerate_push (from + 1) xs x at (omega (arith, e)))

module _ {A : Type 0} (xs : List A) (place : ℕ) (x : A) (within : place < length xs) (is : x ≡ get_or xs place x) where
  pub enumerate_more : enumerate_from 0 (take (place + 1) xs) ≡ enumerate_from 0 (take place xs) ++ (place, x) ∷ []
  enumerate_more =
      ap (enumerate_from 0) (take_more xs place x within ∙ ap (λ one. take place xs ++ one ∷ []) (sym is))
      ∙ enumerate_push 0 (take place xs) x place (let l = length-take place xs in omega (arith, l, within))

  module _ {B : Type 0} (front : List B) where
    pub mapped_more : (F : (ℕ × A) → B) → (front ++ map F (enumerate_from 0 (take place xs))) ++ F (place, x) ∷ [] ≡ front ++ map F (enumerate_from 0 (take (place + 1) xs))
    mapped_more F =
        append_assoc front (map F (enumerate_from 0 (take place xs))) (F (place, x) ∷ [])
        ∙ ap (λ rest. front ++ rest) (sym (map-append F (enumerate_from 0 (take place xs)) ((place, x) ∷ [])) ∙ ap (map F) (sym enumerate_more))

    pub spread_more : (F : (ℕ × A) → List B) → (front ++ flat_map F (enumerate_from 0 (take place xs))) ++ F (place, x) ≡ front ++ flat_map F (enumerate_from 0 (take (place + 1) xs))
    spread_more F =
        append_assoc front (flat_map F (enumerate_from 0 (take place xs))) (F (place, x))
        ∙ ap (λ rest. front ++ rest)
        (ap (λ last. flat_map F (enumerate_from 0 (take place xs)) ++ last) (sym (append-nil (F (place, x))))
        ∙ sym (flat_map-append F (enumerate_from 0 (take place xs)) ((place, x) ∷ [])) ∙ ap (flat_map F) (sym enumerate_more))

-- one preference more is false, or is not
module _ (state : State) (step : ℕ) (prefs : List GroundPref) (place : ℕ) (pref : GroundPref) (within : place < length prefs) (is : pref ≡ get_or prefs place pref) where
  pub prefs_more : pref_reasons state step (take (place + 1) prefs) ≡ pref_reasons state step (take place prefs) ++ cond (not (truth state pref.body)) (pref_reason step (place, pref) ∷ []) []
  prefs_more =
      ap (λ list. map (pref_reason step) (filter (is_false_in state) list)) (enumerate_more prefs place pref within is)
      ∙ ap (map (pref_reason step)) (filter-append (is_false_in state) (enumerate_from 0 (take place prefs)) ((place, pref) ∷ []))
      ∙ map-append (pref_reason step) (filter (is_false_in state) (enumerate_from 0 (take place prefs))) (filter (is_false_in state) ((place, pref) ∷ []))
      ∙ ap (λ last. map (pref_reason step) (filter (is_false_in state) (enumerate_from 0 (take place prefs))) ++ last) (by (not (truth state pref.body)))
    where
      by : (b : Bool) → map (pref_reason step) (cond b ((place, pref) ∷ []) []) ≡ cond b (pref_reason step (place, pref) ∷ []) []
      by true = refl
      by false = refl

  pub false_more : (front : List Reason) → truth state pref.body ≡ false → (front ++ pref_reasons state step (take place prefs)) ++ pref_reason step (place, pref) ∷ [] ≡ front ++ pref_reasons state step (take (place + 1) prefs)
  false_more front fails =
      append_assoc front (pref_reasons state step (take place prefs)) (pref_reason step (place, pref) ∷ [])
      ∙ ap (λ rest. front ++ rest) (sym (prefs_more ∙ ap (λ b. pref_reasons state step (take place prefs) ++ cond (not b) (pref_reason step (place, pref) ∷ []) []) fails))

  pub true_more : truth state pref.body ≡ true → pref_reasons state step (take place prefs) ≡ pref_reasons state step (take (place + 1) prefs)
  true_more holds = sym (prefs_more ∙ ap (λ b. pref_reasons state step (take place prefs) ++ cond (not b) (pref_reason step (place, pref) ∷ []) []) holds ∙ append-nil (pref_reasons state step (take place prefs)))

-- ---- all operators

-- maps that agree at each item and its number
module _ {A B : Type 0} where
  agree_from : (F H : (ℕ × A) → B) (from : ℕ) (xs : List A) → ((k at : ℕ) (x : A) → from + k ≡ at → k < length xs → x ≡ get_or xs k x → F (at, x) ≡ H (at, x)) → map F (enumerate_from from xs) ≡ map H (enumerate_from from xs)
  agree_from F H from [] same = refl
  agree_from F H from (x ∷ xs) same =
      λ i. same 0 from x (omega arith) (omega arith) refl i ∷ agree_from F H (from + 1) xs (λ k at y e lt is. same (suc k) at y (omega (arith, e)) (omega (arith, lt)) is) i

  spread_from : (F H : (ℕ × A) → List B) (from : ℕ) (xs : List A) → ((k at : ℕ) (x : A) → from + k ≡ at → k < length xs → x ≡ get_or xs k x → F (at, x) ≡ H (at, x)) → flat_map F (enumerate_from from xs) ≡ flat_map H (enumerate_from from xs)
  spread_from F H from [] same = refl
  spread_from F H from (x ∷ xs) same =
      λ i. same 0 from x (omega arith) (omega arith) refl i ++ spread_from F H (from + 1) xs (λ k at y e lt is. same (suc k) at y (omega (arith, e)) (omega (arith, lt)) is) i

  pub agree_all : (F H : (ℕ × A) → B) (xs : List A) → ((k : ℕ) (x : A) → k < length xs → x ≡ get_or xs k x → F (k, x) ≡ H (k, x)) → map F (enumerate_from 0 xs) ≡ map H (enumerate_from 0 xs)
  agree_all F H xs same = agree_from F H 0 xs (λ k at x e lt is. let here : k ≡ at = omega (arith, e) in ap (λ n. F (n, x)) (sym here) ∙ same k x lt is ∙ ap (λ n. H (n, x)) here)

  pub spread_all : (F H : (ℕ × A) → List B) (xs : List A) → ((k : ℕ) (x : A) → k < length xs → x ≡ get_or xs k x → F (k, x) ≡ H (k, x)) → flat_map F (enumerate_from 0 xs) ≡ flat_map H (enumerate_from 0 xs)
  spread_all F H xs same = spread_from F H 0 xs (λ k at x e lt is. let here : k ≡ at = omega (arith, e) in ap (λ n. F (n, x)) (sym here) ∙ same k x lt is ∙ ap (λ n. H (n, x)) here)

-- the operators of an instance
module _ (G : GroundTask) (instance : ℕ) (within : instance < length G.soft) where
  parts_at : (soft : GroundSoft) → modals_at G (instance + 1) ≡ (get_or G.soft instance soft).parts
  parts_at soft = ap (modals_at G) (add-one instance) ∙ get_or-map (λ (s : GroundSoft). s.parts) G.soft instance soft [] within

  -- one instance more shows its reasons
  pub instance_more : (count : ℕ) (groups : List (List Mark)) (front now : List Reason) → now ≡ front ++ flat_map (shown_soft count groups) (enumerate_from 0 (take instance G.soft))
      → now ++ shown_reasons count (group_at groups (instance + 1)) (subject_by (owner.Soft instance)) (modals_at G (instance + 1)) ≡ front ++ flat_map (shown_soft count groups) (enumerate_from 0 (take (instance + 1) G.soft))
  instance_more count groups front now are =
      (λ i. are i ++ shown_reasons count (group_at groups (instance + 1)) (subject_by (owner.Soft instance)) (parts_at none i))
      ∙ spread_more G.soft instance (get_or G.soft instance none) within (get_or_default G.soft instance none (get_or G.soft instance none) within) front (shown_soft count groups)
    where
      none : GroundSoft
      none = record { name = None; parts = [] }

module _ (G : GroundTask) (W : List State) (marked : Marked) (are : AreMarks G W marked) where
  -- the operators of a group
  group_shows : (group : ℕ) (subject : ℕ → Subject) → group < length (modals_of G) → shown_reasons (length W) (group_at marked.groups group) subject (modals_at G group) ≡ modal_reasons W subject (modals_at G group)
  group_shows group subject lt = agree_all (shown_reason (length W) (group_at marked.groups group) subject) (modal_reason W subject) (modals_at G group) one where
    one : (place : ℕ) (modal : GroundModal) → place < length (modals_at G group) → modal ≡ get_or (modals_at G group) place modal
        → shown_reason (length W) (group_at marked.groups group) subject (place, modal) ≡ modal_reason W subject (place, modal)
    one place modal within is =
        let reader : OperatorReader = record { group = group; place = place } in
        let at : modal_at G reader ≡ modal = sym (is ∙ get_or_default (modals_at G group) place modal (AtEnd True) within) in
        let right : mark_at marked.groups reader ≡ mark_of W modal = are.right reader (record { group = lt; place = within }) ∙ ap (mark_of W) at in
        let shows : shown_by (length W) modal (mark_at marked.groups reader) ≡ ground_shown W modal = ap (shown_by (length W) modal) right ∙ sym (shown_is W modal) in
        ap (λ (showing : Showing). record { subject = subject place; showing = showing }) shows

  -- the marks show the reasons of all operators
  pub marks_show : shown_all G (length W) marked.groups ≡ operator_reasons G W
  marks_show = λ i. group_shows 0 Hard (omega arith) i ++ spread_all (shown_soft (length W) marked.groups) (soft_reasons W) G.soft one i where
    one : (instance : ℕ) (soft : GroundSoft) → instance < length G.soft → soft ≡ get_or G.soft instance soft → shown_soft (length W) marked.groups (instance, soft) ≡ soft_reasons W (instance, soft)
    one instance soft within is =
        let parts : modals_at G (instance + 1) ≡ soft.parts = parts_at G instance within soft ∙ ap (λ (s : GroundSoft). s.parts) (sym is) in
        let long = length-map G.soft (λ (s : GroundSoft). s.parts) in
        let whole = group_shows (instance + 1) (Soft instance) (omega (arith, within, long)) in
        ap (λ modals. shown_reasons (length W) (group_at marked.groups (instance + 1)) (Soft instance) modals) (sym parts) ∙ whole ∙ ap (modal_reasons W (Soft instance)) parts
