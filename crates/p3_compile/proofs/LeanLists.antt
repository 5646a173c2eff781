-- The actions of a step have few changes.
use Rattle.std.proofs.Common.{◌≡◌, ◌∙◌, ℕ, ◌+◌, ◌*◌, ◌≤◌, nat_lt, true, false, cond, List, [], ◌∷◌, ◌++◌, length, refl, sym, ap, subst, arith, length-append}
use Rattle.std.specs.Prelude.{count_by, if◌then◌else◌}
use Rattle.std.specs.List.{All}
use Rattle.std.proofs.lemmas.List.Elements.{All-append, All-cons, All-head, All-nil, All-tail}
use Rattle.std.proofs.lemmas.List.Sums.{count_by-le-length, sum_by-append}
use Rattle.p3_formula.specs.Weighted.{weighted, width_of}
use Rattle.p3_formula.specs.declared.form.Change.{Change}
use Rattle.p3_formula.specs.declared.modal.GroundPref.{GroundPref}
use Rattle.p3_formula.specs.declared.target.TargetAction.{TargetAction}
use Rattle.p3_formula.specs.declared.target.Weights.{Weights}
use Rattle.p3_formula.specs.declared.task.GroundStep.{GroundStep}
use Rattle.p3_monitors.specs.declared.monitoring.Monitor.{Monitor}
use Rattle.p3_base.specs.Copies.{Answer, Copy, End, IsNamedFor, Question, answer_name, end_name}
use Rattle.p3_precprefs.specs.Questions.{AreAnswers, IsChain}
use Rattle.p3_precprefs.specs.declared.copies.StepCopy.{StepCopy}
use Rattle.p3_simulation.specs.Assembled.{AreCopyActions}
use Rattle.p3_simulation.specs.Naming.{pattern}
use Rattle.p3_compile.specs.Lean.{HasFew, IsStepAction, chain_changes, is_conditional}
use Rattle.p3_compile.specs.Updated.{HasChanges, HasSimpler, busy_count}

abbrev conditions : List Change → ℕ
conditions changes = count_by is_conditional changes

module _ (by_name : List ℕ) (monitors : List Monitor) (step : GroundStep) (effects : List Change) (has : HasChanges step.pre step.effects monitors effects) where
  abbrev busy : ℕ
  busy = busy_count step.effects monitors

  few_changes : length effects ≤ length step.effects + 2 * busy
  few_changes =
      let same = has.simpler.fewer in
      let joined = length-append step.effects has.updates in
      let few = has.few in omega (arith, same, joined, few)

  few_conditions : conditions effects ≤ conditions step.effects + 2 * busy
  few_conditions =
      let same = has.simpler.conditional in
      let joined = sum_by-append (λ (change : Change). cond (is_conditional change) 1 0) step.effects has.updates in
      let most = count_by-le-length is_conditional has.updates in
      let few = has.few in omega (arith, same, joined, most, few)

  abbrev IsOf : TargetAction → Type 0
  IsOf action = IsStepAction by_name busy step action

  -- ---- copies

  pub copies_lean : (go : ℕ) (copies : List StepCopy) (actions : List TargetAction) → AreCopyActions go step.number effects copies actions → All (HasSimpler effects) actions → All IsOf actions
  copies_lean go [] [] are simpler = All-nil IsOf
  copies_lean go [] (action ∷ actions) are simpler = absurd are
  copies_lean go (copy ∷ copies) [] are simpler = absurd are
  copies_lean go (copy ∷ copies) (action ∷ actions) are simpler =
      let own = All-head (HasSimpler effects) action actions simpler in
      All-cons IsOf action actions
      (record {
        named = subst (IsNamedFor step.number) (sym are.0.named) (Copy (pattern copy.violated));
        few = record {
          all = let a = few_changes in let l = own.fewer in omega (arith, a, l);
          conditional = let a = few_conditions in let l = own.conditional in omega (arith, a, l);
        };
      })
      (copies_lean go copies actions are.1 (All-tail (HasSimpler effects) action actions simpler))

  -- ---- a chain

  module _ (many : nat_lt 8 (width_of by_name step) ≡ true) where
    three : chain_changes by_name step ≡ 3
    three = ap (λ b. if b then 3 else 0) many

    -- three changes that always happen are few
    always_few : (action : TargetAction) (changes : List Change) → action.effects ≡ changes → length changes ≤ 3 → conditions changes ≡ 0 → HasFew by_name busy step action
    always_few action changes does short none = record {
      all = let l = ap length does in let t = three in omega (arith, l, t, short);
      conditional = let l = ap conditions does in omega (arith, l, none);
    }

    answers_lean : (first current place : ℕ) (prefs : List GroundPref) (actions : List TargetAction) → AreAnswers first current step.number by_name place prefs actions → All IsOf actions
    answers_lean first current place [] [] are = All-nil IsOf
    answers_lean first current place [] (action ∷ actions) are = absurd are
    answers_lean first current place (pref ∷ prefs) [] are = absurd are
    answers_lean first current place (pref ∷ prefs) (action ∷ []) are = absurd are
    answers_lean first current place (pref ∷ prefs) (agree ∷ deny ∷ actions) are =
        All-cons IsOf agree (deny ∷ actions)
        (record { named = subst (IsNamedFor step.number) (sym are.0.has_name) (Question (answer_name true step.number place) (Answer true place)); few = always_few agree _ are.0.does (omega arith) refl })
        (All-cons IsOf deny actions
        (record { named = subst (IsNamedFor step.number) (sym are.1.has_name) (Question (answer_name false step.number place) (Answer false place)); few = always_few deny _ are.1.does (omega arith) refl })
        (answers_lean first current (place + 1) prefs actions are.2))

    pub chain_lean : (go first current : ℕ) (weights : Weights) (actions : List TargetAction) → weights.by_name ≡ by_name → IsChain go first current weights step effects actions → All IsOf actions
    chain_lean go first current weights actions same chain = subst (All IsOf) (sym chain.are)
        (All-cons IsOf chain.begin (chain.answers ++ chain.ending ∷ [])
        (record { named = subst (IsNamedFor step.number) (sym chain.begins.has_name) (Copy []); few = always_few chain.begin _ chain.begins.does (omega arith) refl })
        (All-append IsOf chain.answers (chain.ending ∷ [])
        (answers_lean first current 0 (weighted by_name step.prefs) chain.answers (subst (λ names. AreAnswers first current step.number names 0 (weighted names step.prefs) chain.answers) same chain.asks))
        (All-cons IsOf chain.ending []
        (record {
          named = subst (IsNamedFor step.number) (sym chain.ends.has_name) (Question (end_name step.number) End);
          few = record {
            all = let a = few_changes in let l = ap length chain.ends.does ∙ length-append effects _ in let t = three in omega (arith, a, l, t);
            conditional = let a = few_conditions in let l = ap conditions chain.ends.does ∙ sum_by-append (λ (change : Change). cond (is_conditional change) 1 0) effects _ in omega (arith, a, l);
          };
        })
        (All-nil IsOf))))
