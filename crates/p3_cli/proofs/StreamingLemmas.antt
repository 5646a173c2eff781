-- The actions of a begun target, written one step after another.
use Rattle.std.proofs.Common.{◌≡◌, ◌∙◌, ℕ, ◌+◌, ◌<◌, Bool, true, false, true≢false, List, [], ◌∷◌, ◌++◌, length, map, take, get_or, refl, sym, ap, subst, arith}
use Rattle.std.specs.List.{list_all}
use Rattle.std.proofs.lemmas.Bool.{and_from}
use Rattle.std.proofs.lemmas.List.{append-nil, get_or_at, length-append, map-append, take_at, take_more}
use Rattle.std.proofs.lemmas.List.Folds.{list_all-append, list_all-map, list_all_at}
use Rattle.p3_base.specs.Copies.{copy_name}
use Rattle.p3_endphase.specs.Ends.{Settles}
use Rattle.p3_endphase.specs.declared.phase.SoftEnd.{SoftEnd}
use Rattle.p3_formula.specs.Conditions.{IsReady}
use Rattle.p3_formula.specs.Targets.{is_sized_action}
use Rattle.p3_formula.specs.declared.form.Change.{Change}
use Rattle.p3_formula.specs.declared.target.Target.{Target}
use Rattle.p3_formula.specs.declared.target.TargetAction.{TargetAction}
use Rattle.p3_formula.specs.declared.target.Weights.{Weights}
use Rattle.p3_formula.specs.declared.task.GroundStep.{GroundStep}
use Rattle.p3_formula.specs.declared.task.GroundTask.{GroundTask}
use Rattle.p3_formula.proofs.NamedLaws.{well_named}
use Rattle.p3_compile.specs.Compiling.{IsBegun, IsCompiledTo, target_of}
use Rattle.p3_compile.specs.Parts.{copied_action}
use Rattle.p3_compile.specs.declared.begun.BegunTarget.{BegunTarget}
use Rattle.p3_compile.specs.declared.parts.TargetCopy.{TargetCopy}
use Rattle.p3_compile.specs.Stepping.{AreMade, HasStepActions, IsNextStep}
use Rattle.p3_compile.proofs.BegunLaws.{next_step, one_step_more}
use Rattle.p3_compile.proofs.EndActions.{ends_begin, ends_next}
use Rattle.p3_compile.proofs.StepLists.{no_steps}
use Rattle.p3_writer.specs.CopyText.{behind_atom, digits_of}
use Rattle.p3_writer.specs.DomainText.{BegunDomain, HasAllActions, first_text, with_actions}
use Rattle.p3_writer.specs.Layout.{domain_layout, is_small, problem_layout}
use Rattle.p3_writer.specs.TaskOf.{task_of}
use Rattle.p3_writer.specs.Texts.{CanBeWritten, IsDomainTextOf, IsProblemTextOf}
use Rattle.p3_writer.proofs.LayoutLemmas.{with_more}
use Rattle.p3_cli.specs.Streaming.{AreCompiledTexts, HasDomainText, HasWritten, HasWrittenAll, HasWrittenEnds, HasWrittenStep, HasWrittenSteps}

-- ---- what is written

nothing_written : (begun : BegunDomain) → begun ≡ with_actions begun []
nothing_written begun = λ i. record { names = begun.names; text = sym (append-nil begun.text) i }

pub more_written : (first more : List TargetAction) (old mid new : BegunDomain) → HasWritten first old mid → HasWritten more mid new → HasWritten (first ++ more) old new
more_written first more old mid new before behind = record {
  written = behind.written ∙ ap (λ begun. with_actions begun more) before.written ∙ with_more old first more;
  small = list_all-append is_small first more ∙ and_from (list_all is_small first) _ before.small behind.small;
}

pub none_written : (begun : BegunDomain) → HasWritten [] begun begun
none_written begun = record { written = nothing_written begun; small = refl }

-- ---- the copies of a step

pub same_action : (number go : ℕ) (copy : TargetCopy) (violated : List Bool) (changes : List Change) → violated ≡ copy.violated → changes ≡ copy.effects
    → record { name = copy_name number (digits_of violated); pre = behind_atom go copy.pre; effects = changes; cost = copy.cost } ≡ copied_action number go copy
same_action number go copy violated changes shown made = λ i. record { name = copy_name number (digits_of (shown i)); pre = behind_atom go copy.pre; effects = made i; cost = copy.cost }

module _ (number go : ℕ) (copies : List TargetCopy) (index : ℕ) (copy : TargetCopy) (within : index < length copies) (at : copy ≡ get_or copies index copy) where
  abbrev made : TargetCopy → TargetAction
  made one = copied_action number go one

  -- what is asked of all their actions is asked of one
  pub one_copy_sized : (count : ℕ) → list_all (is_sized_action count) (map made copies) ≡ true → is_sized_action count (made copy) ≡ true
  one_copy_sized count all = by (is_sized_action count (made copy)) refl
    where
      by : (b : Bool) → is_sized_action count (made copy) ≡ b → is_sized_action count (made copy) ≡ true
      by true is = is
      by false is = absurd (true≢false (sym all ∙ list_all-map (is_sized_action count) made copies
          ∙ list_all_at (λ one. is_sized_action count (made one)) copies index copy within (ap (λ one. is_sized_action count (made one)) (sym at) ∙ is)))

  pub one_copy_written : (old mid new : BegunDomain) → HasWritten (map made (take index copies)) old mid → HasWritten (made copy ∷ []) mid new → HasWritten (map made (take (index + 1) copies)) old new
  one_copy_written old mid new passed own =
      let next = take_more copies index copy within ∙ ap (λ one. take index copies ++ one ∷ []) (sym at) in
      subst (λ actions. HasWritten actions old new) (sym (ap (map made) next ∙ map-append made (take index copies) (copy ∷ [])))
      (more_written (map made (take index copies)) (made copy ∷ []) old mid new passed own)

-- ---- the steps

pub no_steps_written : (begun : BegunTarget) (weights : Weights) (text : BegunDomain) → HasWrittenSteps begun weights [] begun.current text text
no_steps_written begun weights text = record {
  actions = [];
  made = no_steps begun.frame weights begun.current;
  are = none_written text;
}

pub none_of : {A : Type 0} (items : List A) → length items ≡ 0 → items ≡ []
none_of [] none = refl
none_of (item ∷ items) none = absurd (omega (arith, none))

-- an item stands behind those passed
stands_behind : {A : Type 0} (passed : List A) (one : A) (rest items : List A) → passed ++ one ∷ rest ≡ items
    → (length passed < length items) × (one ≡ get_or items (length passed) one) × (take (length passed) items ≡ passed) × (take (length passed + 1) items ≡ passed ++ one ∷ [])
stands_behind passed one rest items is =
    let counted = sym (length-append passed (one ∷ rest)) ∙ ap length is in
    let within : length passed < length items = omega (arith, counted) in
    let at = sym (ap (λ list. get_or list (length passed) one) (sym is) ∙ get_or_at passed one rest one (length passed) refl) in
    let front = ap (take (length passed)) (sym is) ∙ take_at passed (one ∷ rest) (length passed) refl in
    (within, at, front, take_more items (length passed) one within ∙ (λ i. front i ++ sym at i ∷ []))

module _ (G : GroundTask) (weights : Weights) (begun : BegunTarget) (ready : IsReady G weights) (is : IsBegun G weights begun)
    (passed : List GroundStep) (step : GroundStep) (rest : List GroundStep) (are : passed ++ step ∷ rest ≡ G.steps)
    (current : ℕ) (old mid : BegunDomain) (written : HasWrittenSteps begun weights passed current old mid) where
  abbrev behind : (length passed < length G.steps) × (step ≡ get_or G.steps (length passed) step) × (take (length passed) G.steps ≡ passed) × (take (length passed + 1) G.steps ≡ passed ++ step ∷ [])
  behind = stands_behind passed step rest G.steps are

  passed_made : AreMade begun.frame weights (take (length passed) G.steps) begun.current current written.actions
  passed_made = subst (λ steps. AreMade begun.frame weights steps begun.current current written.actions) (sym behind.2) written.made

  pub next_ready : IsNextStep begun weights step current
  next_ready = next_step G weights begun ready is (length passed) step behind.0 behind.1 current written.actions passed_made

  pub one_step_written : (next : ℕ) (new : BegunDomain) → HasWrittenStep begun weights step current next mid new → HasWrittenSteps begun weights (passed ++ step ∷ []) next old new
  one_step_written next new own = record {
    actions = written.actions ++ own.actions;
    made = subst (λ steps. AreMade begun.frame weights steps begun.current next (written.actions ++ own.actions)) behind.3 (one_step_more G weights begun ready is (length passed) step behind.0 behind.1 current written.actions passed_made next own.actions own.made);
    are = more_written written.actions own.actions old mid new written.are own.are;
  }

pub all_written : (G : GroundTask) (weights : Weights) (begun : BegunTarget) (steps : List GroundStep) (current : ℕ) (old new : BegunDomain) → steps ≡ G.steps → HasWrittenSteps begun weights steps current old new → HasWrittenAll G weights begun old new
all_written G weights begun steps current old new are written = record {
  actions = written.actions;
  made = subst (λ list. HasStepActions begun.frame weights list written.actions) are written.made.has;
  are = written.are;
}

-- ---- the end phase

pub ends_begun : (begun : BegunTarget) (old new : BegunDomain) → HasWritten begun.begin old new → HasWrittenEnds begun 0 old new
ends_begun begun old new written = record { actions = begun.begin; made = ends_begin begun; are = written }

pub one_settled : (begun : BegunTarget) (number : ℕ) (instance : SoftEnd) (own : List TargetAction) (old mid new : BegunDomain) → number < length begun.instances → Settles begun.frame.go number (get_or begun.instances number instance ∷ []) own
    → HasWrittenEnds begun number old mid → HasWritten own mid new → HasWrittenEnds begun (number + 1) old new
one_settled begun number instance own old mid new within settles passed written = record {
  actions = passed.actions ++ own;
  made = ends_next begun number instance passed.actions own within passed.made settles;
  are = more_written passed.actions own old mid new passed.are written;
}

-- ---- the whole target

module _ (G : GroundTask) (weights : Weights) (begun : BegunTarget) (mid new : BegunDomain) (steps : HasWrittenAll G weights begun (first_text begun.names) mid) (ends : HasWrittenEnds begun (length begun.instances) mid new) where
  abbrev pub whole : Target
  whole = target_of begun steps.actions ends.actions

  pub all_actions : HasAllActions whole new
  all_actions =
      let all = more_written steps.actions ends.actions (first_text begun.names) mid new steps.are ends.are in
      record { is = all.written; small = all.small }

  module _ (is : IsCompiledTo G weights whole) where
    pub can_be_written : CanBeWritten whole
    can_be_written =
        let named = well_named whole is.compiled.named in
        record { sized = is.compiled.sized; predicates = named.predicates; actions = named.actions; spelled = named.spelled }

    pub has_domain : (text : List ℕ) → text ≡ domain_layout whole → IsDomainTextOf text (task_of whole).domain → HasDomainText G weights begun text
    has_domain text layout is_text = record {
      target = whole;
      is = is;
      can = can_be_written;
      problem = record { predicates = refl; initial = refl; goal_is = refl };
      layout = layout;
      text = is_text;
    }

pub are_texts : (G : GroundTask) (weights : Weights) (begun : BegunTarget) (od op : List ℕ) → (domain : HasDomainText G weights begun od) → op ≡ problem_layout domain.target → IsProblemTextOf op (task_of domain.target).problem → AreCompiledTexts G weights od op
are_texts G weights begun od op domain layout text = record {
  target = domain.target;
  is = domain.is;
  texts = record { domain = domain.layout; problem = layout; domain_text = domain.text; problem_text = text };
}
