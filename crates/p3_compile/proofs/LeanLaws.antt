-- A target is lean where each action is of a step, with few changes, or of the end phase.
use Rattle.std.proofs.Common.{◌≡◌, ◌∙◌, ◌≢◌, inl, inr, ⊎_elim, ℕ, ◌+◌, ◌<◌, ◌^◌, nat_lt, Bool, true, false, ◌&&◌, cond, List, [], ◌∷◌, ◌++◌, Option, Some, None, refl, sym, ap, subst, arith, true≢false}
use Rattle.std.specs.Prelude.{◌==◌, Contains, decimal, find}
use Rattle.std.specs.List.{All, list_all}
use Rattle.std.proofs.lemmas.Bool.{and_parts, ltb-true}
use Rattle.std.proofs.lemmas.Fmt.{decimal_injective}
use Rattle.std.proofs.lemmas.List.Elements.{All-contains, All-cons, All-nil, Contains-append_cases}
use Rattle.std.proofs.lemmas.List.Sums.{sum_by-cons}
use Rattle.p3_base.specs.Copies.{Copy, IsNamedFor, IsQuestionOf, Question, copy_name}
use Rattle.p3_base.specs.Words.{Name, is_digit}
use Rattle.p3_base.proofs.CopyLemmas.{decimal_digits, question_parts}
use Rattle.p3_formula.specs.Conditions.{rises}
use Rattle.p3_formula.specs.Forms.{State}
use Rattle.p3_formula.specs.Targets.{lifted_number}
use Rattle.p3_formula.specs.declared.form.Change.{Change}
use Rattle.p3_formula.specs.declared.form.Form.{Form}
use Rattle.p3_formula.specs.declared.form.Form.TheVariants.{True}
use Rattle.p3_formula.specs.declared.target.TargetAction.{TargetAction}
use Rattle.p3_formula.specs.declared.target.Weights.{Weights}
use Rattle.p3_formula.specs.declared.task.GroundStep.{GroundStep}
use Rattle.p3_formula.specs.declared.task.GroundTask.{GroundTask}
use Rattle.p3_formula.proofs.NameLaws.{copy_lifted, other_not_lifted}
use Rattle.p3_endphase.specs.Ends.{AreActions, IsMove, Settles}
use Rattle.p3_endphase.specs.declared.phase.SoftEnd.{SoftEnd}
use Rattle.p3_monitors.specs.declared.monitoring.Monitor.{Monitor}
use Rattle.p3_simulation.specs.Gadgets.{AreRising}
use Rattle.p3_simulation.specs.Monitoring.{all_modals, modals}
use Rattle.p3_simulation.proofs.GadgetLaws.{found_step}
use Rattle.p3_compile.specs.Compiling.{IsFrameOf, target_of}
use Rattle.p3_compile.specs.Lean.{BelongsTo, HasFew, IsLean, IsOfSteps, busy_modals, is_busy}
use Rattle.p3_compile.specs.Stepping.{busy_in}
use Rattle.p3_compile.specs.Updated.{busy_count}
use Rattle.p3_compile.specs.declared.begun.BegunTarget.{BegunTarget}
use Rattle.p3_compile.specs.declared.stepping.Frame.{Frame}
use Rattle.p3_compile.proofs.EndLaws.{all_are}

-- ---- names

first_byte : (a b : ℕ) (xs ys : List ℕ) → a ∷ xs ≡ b ∷ ys → a ≡ b
first_byte a b xs ys same = cc

other_bytes : (a b : ℕ) (xs ys : List ℕ) → a ∷ xs ≡ b ∷ ys → xs ≡ ys
other_bytes a b xs ys same = cc

-- digits end where another byte comes
cut : (ds es : List ℕ) (x y : ℕ) (r q : List ℕ) → list_all is_digit ds ≡ true → list_all is_digit es ≡ true → is_digit x ≡ false → is_digit y ≡ false → ds ++ x ∷ r ≡ es ++ y ∷ q → ds ≡ es
cut [] [] x y r q first second stop halt same = refl
cut [] (e ∷ es) x y r q first second stop halt same =
    absurd (true≢false (sym (and_parts (is_digit e) _ second).0 ∙ ap is_digit (sym (first_byte x e r (es ++ y ∷ q) same)) ∙ stop))
cut (d ∷ ds) [] x y r q first second stop halt same =
    absurd (true≢false (sym (and_parts (is_digit d) _ first).0 ∙ ap is_digit (first_byte d y (ds ++ x ∷ r) q same) ∙ halt))
cut (d ∷ ds) (e ∷ es) x y r q first second stop halt same =
    let here = first_byte d e (ds ++ x ∷ r) (es ++ y ∷ q) same in
    let later = cut ds es x y r q (and_parts (is_digit d) _ first).1 (and_parts (is_digit e) _ second).1 stop halt (other_bytes d e (ds ++ x ∷ r) (es ++ y ∷ q) same) in
    λ i. here i ∷ later i

question_once : (number other : ℕ) (name : Name) → number < 2 ^ 64 → other < 2 ^ 64 → IsQuestionOf number name → IsQuestionOf other name → number ≡ other
question_once number other name small little one two =
    let p = question_parts number name one in
    let q = question_parts other name two in
    decimal_injective number other small little
    (cut (decimal number) (decimal other) p.byte q.byte p.rest q.rest (decimal_digits number) (decimal_digits other) p.stops q.stops (other_bytes 113 113 _ _ (sym p.is ∙ q.is)))

no_question : (byte : ℕ) (rest : List ℕ) (number : ℕ) (name : Name) → name ≡ byte ∷ rest → 113 ≢ byte → IsQuestionOf number name → ⊥
no_question byte rest number name is apart question = let p = question_parts number name question in apart (first_byte 113 byte _ rest (sym p.is ∙ is))

question_not_lifted : (G : GroundTask) (number : ℕ) (name : Name) → IsQuestionOf number name → lifted_number G name ≡ None
question_not_lifted G number name question = let p = question_parts number name question in ap (lifted_number G) p.is ∙ other_not_lifted G 113 (decimal number ++ p.byte ∷ p.rest) (λ same. omega (arith, same))

-- ---- the steps have different numbers

are_rising : (from count : ℕ) (steps : List GroundStep) → rises from count steps ≡ true → AreRising from steps
are_rising from count [] up = tt
are_rising from count (step ∷ steps) up =
    let parts = and_parts (nat_lt step.number count && nat_lt from (step.number + 1)) _ up in
    let low = ltb-true from (step.number + 1) (and_parts (nat_lt step.number count) _ parts.0).1 in
    (omega (arith, low), are_rising (step.number + 1) count steps parts.1)

numbers_below : (from count : ℕ) (steps : List GroundStep) → rises from count steps ≡ true → All (λ (step : GroundStep). step.number < count) steps
numbers_below from count [] up = All-nil (λ (step : GroundStep). step.number < count)
numbers_below from count (step ∷ steps) up =
    let parts = and_parts (nat_lt step.number count && nat_lt from (step.number + 1)) _ up in
    All-cons (λ (step : GroundStep). step.number < count) step steps (ltb-true step.number count (and_parts (nat_lt step.number count) _ parts.0).0) (numbers_below (step.number + 1) count steps parts.1)

some_same : {A : Type 0} (x y : A) → Some x ≡ Some y → x ≡ y
some_same x y same = cc

none_some : {A : Type 0} (x : A) (o : Option A) → o ≡ None → o ≡ Some x → ⊥
none_some x o none some = let clash = sym none ∙ some in absurd (cc)

-- ---- the actions of the end phase

record IsOfEnd (G : GroundTask) (action : TargetAction) : Type 0 where
  uncounted : lifted_number G action.name ≡ None
  unasked : (number : ℕ) → IsQuestionOf number action.name → ⊥
  always : All (λ (change : Change). change.cond ≡ True) action.effects

two_always : (first second : Change) → first.cond ≡ True → second.cond ≡ True → All (λ (change : Change). change.cond ≡ True) (first ∷ second ∷ [])
two_always first second one two = All-cons (λ (change : Change). change.cond ≡ True) first (second ∷ []) one (All-cons (λ (change : Change). change.cond ≡ True) second [] two (All-nil (λ (change : Change). change.cond ≡ True)))

module _ (G : GroundTask) where
  move_of_end : (byte : ℕ) (rest : List ℕ) (atom cost : ℕ) (source : Form) (condition : State → Bool) (action : TargetAction) → 115 ≢ byte → 113 ≢ byte → IsMove atom source condition (byte ∷ rest) cost action → IsOfEnd G action
  move_of_end byte rest atom cost source condition action uncounted unasked move = record {
    uncounted = ap (lifted_number G) move.is_named ∙ other_not_lifted G byte rest uncounted;
    unasked = λ number. no_question byte rest number action.name move.is_named unasked;
    always = subst (All (λ (change : Change). change.cond ≡ True)) (sym move.moves) (two_always _ _ refl refl);
  }

  settles_of_end : (go number : ℕ) (instances : List SoftEnd) (actions : List TargetAction) → Settles go number instances actions → All (IsOfEnd G) actions
  settles_of_end go number [] [] settles = All-nil (IsOfEnd G)
  settles_of_end go number [] (action ∷ actions) settles = absurd settles
  settles_of_end go number (instance ∷ instances) [] settles = absurd settles
  settles_of_end go number (instance ∷ instances) (action ∷ []) settles = absurd settles
  settles_of_end go number (instance ∷ instances) (collect ∷ forgo ∷ actions) settles =
      All-cons (IsOfEnd G) collect (forgo ∷ actions) (move_of_end 99 _ _ _ _ _ collect (λ same. omega (arith, same)) (λ same. omega (arith, same)) settles.0.collects)
      (All-cons (IsOfEnd G) forgo actions (move_of_end 102 _ _ _ _ _ forgo (λ same. omega (arith, same)) (λ same. omega (arith, same)) settles.0.forgoes) (settles_of_end go (number + 1) instances actions settles.1))

  actions_of_end : (go : ℕ) (finish : Form) (instances : List SoftEnd) (actions : List TargetAction) → AreActions go finish instances actions → All (IsOfEnd G) actions
  actions_of_end go finish instances [] are = absurd are
  actions_of_end go finish instances (action ∷ actions) are =
      All-cons (IsOfEnd G) action actions (move_of_end 102 _ _ _ _ _ action (λ same. omega (arith, same)) (λ same. omega (arith, same)) are.0) (settles_of_end go 0 instances actions are.1)

-- ---- the whole

busy_by_modals : (step : List Change) (monitors : List Monitor) → busy_count step monitors ≡ busy_modals step (modals monitors)
busy_by_modals step [] = refl
busy_by_modals step (monitor ∷ monitors) =
    let here = sum_by-cons (λ (one : Monitor). cond (is_busy step one.modal) 1 0) monitor monitors in
    let there = sum_by-cons (λ modal. cond (is_busy step modal) 1 0) monitor.modal (modals monitors) in
    let rest = busy_by_modals step monitors in omega (arith, here, there, rest)

module _ (G : GroundTask) (weights : Weights) (frame : Frame) (up : rises 0 G.step_count G.steps ≡ true) (small : G.step_count < 2 ^ 32) (is : IsFrameOf G frame) where
  below : (step : GroundStep) → Contains G.steps step → step.number < G.step_count
  below step own = All-contains (λ (step : GroundStep). step.number < G.step_count) G.steps step (numbers_below 0 G.step_count G.steps up) own

  fits : (step : GroundStep) → Contains G.steps step → step.number < 2 ^ 64
  fits step own = let b = below step own in omega (arith, b, small)

  same_step : (one other : GroundStep) → Contains G.steps one → Contains G.steps other → one.number ≡ other.number → one ≡ other
  same_step one other own mine same =
      some_same one other (sym (found_step 0 G.steps (are_rising 0 G.step_count G.steps up) one own) ∙ ap (λ n. find (λ (s : GroundStep). s.number == n) G.steps) same ∙ found_step 0 G.steps (are_rising 0 G.step_count G.steps up) other mine)

  copy_counts : (step : GroundStep) → Contains G.steps step → (rest : Name) → lifted_number G (copy_name step.number rest) ≡ Some step.number
  copy_counts step own rest = copy_lifted G step.number rest (below step own) (omega (arith, small))

  -- the step as which an action of a step may count is that step
  counts_as : (step : GroundStep) → Contains G.steps step → (name : Name) → IsNamedFor step.number name → (number : ℕ) → lifted_number G name ≡ Some number → step.number ≡ number
  counts_as step own name (Copy rest) number counts = some_same step.number number (sym (copy_counts step own rest) ∙ counts)
  counts_as step own name (Question _ question) number counts = absurd (none_some number (lifted_number G name) (question_not_lifted G step.number name question) counts)

  belongs_to : (step : GroundStep) → Contains G.steps step → (name : Name) → IsNamedFor step.number name → BelongsTo G step.number name
  belongs_to step own name (Copy rest) = inl (copy_counts step own rest)
  belongs_to step own name (Question _ question) = inr question

  same_number : (step other : GroundStep) → Contains G.steps step → Contains G.steps other → (name : Name) → IsNamedFor step.number name → BelongsTo G other.number name → step.number ≡ other.number
  same_number step other own mine name named (inl counts) = counts_as step own name named other.number counts
  same_number step other own mine name (Copy rest) (inr question) = absurd (no_question 115 _ other.number name refl (λ same. omega (arith, same)) question)
  same_number step other own mine name (Question _ one) (inr question) = question_once step.number other.number name (fits step own) (fits other mine) one question

  busy_is : (step : GroundStep) → busy_in frame step ≡ busy_modals step.effects (all_modals G)
  busy_is step = busy_by_modals step.effects frame.monitors ∙ ap (busy_modals step.effects) (all_are G frame is)

  pub lean_target : (begun : BegunTarget) (actions ends : List TargetAction) (finish : Form) (instances : List SoftEnd) → All (IsOfSteps weights.by_name (busy_in frame) G.steps) actions → AreActions frame.go finish instances ends → IsLean G weights (target_of begun actions ends)
  lean_target begun actions ends finish instances lean are =
      let of_ends = actions_of_end G frame.go finish instances ends are in
      let of_steps : (action : TargetAction) → Contains actions action → IsOfSteps weights.by_name (busy_in frame) G.steps action = λ action member. All-contains (IsOfSteps weights.by_name (busy_in frame) G.steps) actions action lean member in
      let of_end : (action : TargetAction) → Contains ends action → IsOfEnd G action = λ action member. All-contains (IsOfEnd G) ends action of_ends member in
      record {
        kept = λ action number member counts. elim (Contains-append_cases actions ends action member) [
          | inl here ↦ let of = of_steps action here in record { step = of.step; own = of.own; is = counts_as of.step of.own action.name of.is.named number counts }
          | inr there ↦ absurd (none_some number (lifted_number G action.name) (of_end action there).uncounted counts)
        ];
        few = λ action step member own belongs. elim (Contains-append_cases actions ends action member) [
          | inl here ↦
              let of = of_steps action here in
              let same = same_step of.step step of.own own (same_number of.step step of.own own action.name of.is.named belongs) in
              subst (λ (s : GroundStep). HasFew weights.by_name (busy_modals s.effects (all_modals G)) s action) same (subst (λ n. HasFew weights.by_name n of.step action) (busy_is of.step) of.is.few)
          | inr there ↦ absurd (⊎_elim (λ counts. none_some step.number (lifted_number G action.name) (of_end action there).uncounted counts) (λ question. (of_end action there).unasked step.number question) belongs)
        ];
        others = λ action member apart. elim (Contains-append_cases actions ends action member) [
          | inl here ↦ let of = of_steps action here in absurd (apart of.step of.own (belongs_to of.step of.own action.name of.is.named))
          | inr there ↦ (of_end action there).always
        ];
        each = λ action member. elim (Contains-append_cases actions ends action member) [
          | inl here ↦
              let of = of_steps action here in
              inl (record {
                step = of.step;
                own = of.own;
                is = record { named = of.is.named; few = subst (λ n. HasFew weights.by_name n of.step action) (busy_is of.step) of.is.few };
              })
          | inr there ↦ inr (of_end action there).always
        ];
      }
