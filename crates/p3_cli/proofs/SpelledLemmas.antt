-- What the texts of a task spell, and what is refused of them.
use Rattle.std.proofs.Common.{◌≡◌, ◌≤◌, ◌∷◌, ◌++◌, ◌⊎◌, Some, None, option_map, length, sym, ap, subst, inl, inr}
use Rattle.p3_base.specs.declared.refusal.Refusal.{Refusal}
use Rattle.p3_base.specs.declared.refusal.Side.{Side}
use Rattle.p3_base.specs.declared.refusal.Side.TheVariants.{Source, Written}
use Rattle.p3_task.specs.Grammar.Halves.{domain_place, problem_place}
use Rattle.p3_task.specs.FirstOffence.{first_offence}
use Rattle.p3_task.specs.PlanTexts.{plan_offence}
use Rattle.p3_task.specs.Refusals.First.{AreReadable, HalfText, IsFirstRefusal, SpellATask, IsReadable, IsRefusedText, given_texts, halves, refusal_of, task_refusal}
use Rattle.p3_task.specs.Refusals.Counts.{action_refusals, size_refusals}
use Rattle.p3_task.specs.Refusals.Metric.{metric_refusals}
use Rattle.p3_task.specs.Refusals.Places.{first_some}
use Rattle.p3_task.specs.Sides.{InDomain, InProblem, byte_limit}
use Rattle.p3_task.specs.declared.task.Domain.{Domain}
use Rattle.p3_task.specs.declared.task.Problem.{Problem}
use Rattle.p3_task.specs.declared.task.Task.{Task}
use Rattle.p3_syntax.specs.Texts.{IsHalfText}
use Rattle.p3_outline.specs.Texts.{IfRefused}
use Rattle.p3_outline.specs.declared.error.ReadFail.{ReadFail}
use Rattle.p3_outline.specs.declared.error.ReadFail.TheVariants as fail
use Rattle.p3_types.specs.Texts.{HasTexts}
use Rattle.p3_cli.specs.Ending as ending
use Rattle.p3_cli.specs.Ending.{Ending}
use Rattle.p3_cli.specs.Evaluation.{given_plan}
use Rattle.p3_cli.specs.Lifting.{given_lift}
use Rattle.p3_cli.specs.Refusing.{AreAcceptedFor, EndsAs, IsOfHalves, IsOfPlan, IsOfTask, IsRefusal, IsRefusedFor, IsRejectedBy, IsSpelled, Says, refused_in}
use Rattle.p3_cli.specs.Texts.{AllTexts, all_texts, domain_of, problem_of, task_texts, text_of}
use Rattle.p3_cli.specs.declared.texts.Texts.{Texts}
use Rattle.p3_cli.specs.declared.ending.Ending as code
use Rattle.p3_cli.specs.declared.ending.Ending.TheVariants as coded

-- ---- endings

module _ (texts : AllTexts) where
  -- an ending that says a refusal that is shown
  pub says : (Shows : Refusal → Type 0) (refusal : Refusal) (how : code.Ending) → Shows refusal → IsRejectedBy (λ end. end ≡ refused_in (text_of refusal.pos.role texts) refusal) how → IsRefusedFor texts Shows how
  says Shows refusal coded.OutOfMemory shows said = tt
  says Shows refusal (coded.Refused line) shows said = record { refusal = refusal; shows = shows; says = said }
  says Shows refusal (coded.Invalid line) shows said = record { refusal = refusal; shows = shows; says = said }
  says Shows refusal (coded.Done report) shows said = said
  says Shows refusal (coded.TooLong role) shows said = said
  says Shows refusal (coded.ReadFailed role) shows said = said
  says Shows refusal (coded.WriteFailed role) shows said = said
  says Shows refusal coded.Usage shows said = said

-- what an ending says, it also says in other words
pub says_more : (Tells Other : Ending → Type 0) → ((how : Ending) → Tells how → Other how) → (how : code.Ending) → IsRejectedBy Tells how → IsRejectedBy Other how
says_more Tells Other more coded.OutOfMemory said = tt
says_more Tells Other more (coded.Refused line) said = more (ending.Refused line) said
says_more Tells Other more (coded.Invalid line) said = more (ending.Invalid line) said
says_more Tells Other more (coded.Done report) said = said
says_more Tells Other more (coded.TooLong role) said = said
says_more Tells Other more (coded.ReadFailed role) said = said
says_more Tells Other more (coded.WriteFailed role) said = said
says_more Tells Other more coded.Usage said = said

-- a refusal that is shown as one thing is shown as another
pub shows_more : (texts : AllTexts) (Shows Other : Refusal → Type 0) → ((refusal : Refusal) → Shows refusal → Other refusal) → (how : code.Ending) → IsRefusedFor texts Shows how → IsRefusedFor texts Other how
shows_more texts Shows Other more = says_more (Says texts Shows) (Says texts Other) (λ how said. record { refusal = said.refusal; shows = more said.refusal said.shows; says = said.says })

-- where a task is refused, an offence of the plan is told before
pub behind : (texts : AllTexts) (Tells : Ending → Type 0) (how result : code.Ending) → ((plan_offence texts.plan ≡ None) × (result ≡ how)) ⊎ IsRefusedFor texts (IsOfPlan texts) result
    → (plan_offence texts.plan ≡ None → IsRejectedBy Tells how) → ((end : code.Ending) → IsRefusedFor texts (IsOfPlan texts) end → IsRejectedBy Tells end) → IsRejectedBy Tells result
behind texts Tells how result (inl (free, is)) task plan = subst (IsRejectedBy Tells) (sym is) (task free)
behind texts Tells how result (inr offence) task plan = plan result offence

-- ---- texts of a side

pub short_domain : (side : Side) (texts : Texts) → length (domain_of side (all_texts texts)) ≤ byte_limit side
short_domain Source texts = texts.domain_short
short_domain Written texts = texts.written_domain_short

pub short_problem : (side : Side) (texts : Texts) → length (problem_of side (all_texts texts)) ≤ byte_limit side
short_problem Source texts = texts.problem_short
short_problem Written texts = texts.written_problem_short

module _ (side : Side) (texts : AllTexts) where
  are_readable : IsReadable (HalfText side InDomain (domain_of side texts)) → IsReadable (HalfText side InProblem (problem_of side texts)) → AreReadable (halves (task_texts side texts))
  are_readable one other refusal (inl shown) = one refusal shown
  are_readable one other refusal (inr (before, inl shown)) = other refusal shown
  are_readable one other refusal (inr (before, inr (also, none))) = none

  -- two halves that are read are those of a task
  pub halves_spell : (domain : Domain) (problem : Problem) → IsHalfText domain_place (domain_of side texts) domain → IsReadable (HalfText side InDomain (domain_of side texts))
      → IsHalfText problem_place (problem_of side texts) problem → IsReadable (HalfText side InProblem (problem_of side texts)) → IsSpelled (task_texts side texts) (record { domain = domain; problem = problem })
  halves_spell domain problem half one other two = record {
    readable = are_readable one two;
    reads = record {
      domain = half.expression;
      problem = other.expression;
      domain_balanced = half.balanced;
      problem_balanced = other.balanced;
      texts = record { domain = half.reads; problem = other.reads };
    };
  }

  pub has_texts : (task : Task) → IsSpelled (task_texts side texts) task → length (domain_of side texts) ≤ byte_limit side → length (problem_of side texts) ≤ byte_limit side → HasTexts side task
  has_texts task spelled domain_short problem_short = record {
    domain = domain_of side texts;
    problem = problem_of side texts;
    short_domain = domain_short;
    short_problem = problem_short;
    readable = spelled.readable;
    reads = spelled.reads;
  }

  -- a task that shows no refusal, of texts that show none
  pub spelled_accepted : (task : Task) → IsSpelled (task_texts side texts) task → length (domain_of side texts) ≤ byte_limit side → length (problem_of side texts) ≤ byte_limit side → task_refusal side task ≡ None
      → AreAcceptedFor side texts task
  spelled_accepted task spelled domain_short problem_short none = record {
    short_domain = domain_short;
    short_problem = problem_short;
    readable = spelled.readable;
    task = record { reads = spelled.reads; shows = none };
  }

  no_memory : (Shows : Refusal → Type 0) (how : code.Ending) → how ≡ coded.OutOfMemory → IsRefusedFor texts Shows how
  no_memory Shows how is = subst (IsRefusedFor texts Shows) (sym is) tt

  pub domain_refused : (found : ReadFail) (how : code.Ending) → IfRefused found (IsRefusedText (HalfText side InDomain (domain_of side texts))) → EndsAs texts found how → IsRefusedFor texts (IsOfHalves side texts) how
  domain_refused fail.NoMemory how shown told = no_memory (IsOfHalves side texts) how told
  domain_refused (fail.Refused refusal) how shown told = says texts (IsOfHalves side texts) refusal how (inl shown) told

  pub problem_refused : (found : ReadFail) (how : code.Ending) → IsReadable (HalfText side InDomain (domain_of side texts)) → IfRefused found (IsRefusedText (HalfText side InProblem (problem_of side texts)))
      → EndsAs texts found how → IsRefusedFor texts (IsOfHalves side texts) how
  problem_refused fail.NoMemory how one shown told = no_memory (IsOfHalves side texts) how told
  problem_refused (fail.Refused refusal) how one shown told = says texts (IsOfHalves side texts) refusal how (inr (one, inl shown)) told

  -- a refusal of the task that the texts spell
  pub task_refused : (task : Task) (refusal : Refusal) (how : code.Ending) → IsSpelled (task_texts side texts) task → task_refusal side task ≡ Some refusal
      → IsRejectedBy (λ end. end ≡ refused_in (text_of refusal.pos.role texts) refusal) how → IsRefusedFor texts (IsOfTask side texts) how
  task_refused task refusal how spelled shown told = says texts (IsOfTask side texts) refusal how (record { task = task; reads = spelled.reads; shows = shown }) told

  offence_first : (task : Task) (refusal : Refusal) → option_map (refusal_of side) (first_offence task) ≡ Some refusal → task_refusal side task ≡ Some refusal
  unfolding task_refusal
  offence_first task refusal shown = ap (λ found. first_some (found ∷ metric_refusals side task ++ size_refusals side task ++ action_refusals side task)) shown

  pub offence_refused : (task : Task) (refusal : Refusal) (how : code.Ending) → IsSpelled (task_texts side texts) task → option_map (refusal_of side) (first_offence task) ≡ Some refusal
      → IsRejectedBy (λ end. end ≡ refused_in (text_of refusal.pos.role texts) refusal) how → IsRefusedFor texts (IsOfTask side texts) how
  offence_refused task refusal how spelled shown told = task_refused task refusal how spelled (offence_first task refusal shown) told

-- ---- a task with a plan

module _ (texts : AllTexts) where
  abbrev Shown : Refusal → Type 0
  Shown = IsFirstRefusal (given_plan texts)

  module _ (task : Task) (spelled : IsSpelled (task_texts Source texts) task) where
    one_readable : IsReadable (HalfText Source InDomain texts.domain)
    one_readable refusal shown = spelled.readable refusal (inl shown)

    two_readable : IsReadable (HalfText Source InProblem texts.problem)
    two_readable refusal shown = spelled.readable refusal (inr (one_readable, inl shown))

    pub plan_of_plan : (how : code.Ending) → IsRefusedFor texts (IsOfPlan texts) how → IsRejectedBy (IsRefusal (given_plan texts) texts) how
    plan_of_plan = shows_more texts (IsOfPlan texts) Shown (λ refusal shown. inl (inr (one_readable, inr (two_readable, inl shown))))

    all_readable : plan_offence texts.plan ≡ None → AreReadable (given_texts (given_plan texts))
    all_readable free refusal (inl one) = one_readable refusal one
    all_readable free refusal (inr (before, inl other)) = two_readable refusal other
    all_readable free refusal (inr (before, inr (also, inl last))) = cc
    all_readable free refusal (inr (before, inr (also, inr none))) = none.1

    pub plan_of_task : plan_offence texts.plan ≡ None → (how : code.Ending) → IsRefusedFor texts (IsOfTask Source texts) how → IsRejectedBy (IsRefusal (given_plan texts) texts) how
    plan_of_task free = shows_more texts (IsOfTask Source texts) Shown (λ refusal shown. inr (all_readable free, inl shown))

-- ---- two tasks with a plan

module _ (texts : AllTexts) where
  abbrev IsShown : Refusal → Type 0
  IsShown = IsFirstRefusal (given_lift texts)

  module _ (task : Task) (spelled : IsSpelled (task_texts Source texts) task) where
    source_one : IsReadable (HalfText Source InDomain texts.domain)
    source_one refusal shown = spelled.readable refusal (inl shown)

    source_two : IsReadable (HalfText Source InProblem texts.problem)
    source_two refusal shown = spelled.readable refusal (inr (source_one, inl shown))

    written_half : (refusal : Refusal) → IsOfHalves Written texts refusal → IsShown refusal
    written_half refusal (inl one) = inl (inr (source_one, inr (source_two, inl one)))
    written_half refusal (inr (before, inl other)) = inl (inr (source_one, inr (source_two, inr (before, inl other))))
    written_half refusal (inr (before, inr (also, none))) = absurd none

    pub lift_of_written : (how : code.Ending) → IsRefusedFor texts (IsOfHalves Written texts) how → IsRejectedBy (IsRefusal (given_lift texts) texts) how
    lift_of_written = shows_more texts (IsOfHalves Written texts) IsShown written_half

    module _ (written : Task) (also : IsSpelled (task_texts Written texts) written) where
      written_one : IsReadable (HalfText Written InDomain texts.written_domain)
      written_one refusal shown = also.readable refusal (inl shown)

      written_two : IsReadable (HalfText Written InProblem texts.written_problem)
      written_two refusal shown = also.readable refusal (inr (written_one, inl shown))

      pub lift_of_plan : (how : code.Ending) → IsRefusedFor texts (IsOfPlan texts) how → IsRejectedBy (IsRefusal (given_lift texts) texts) how
      lift_of_plan = shows_more texts (IsOfPlan texts) IsShown (λ refusal shown. inl (inr (source_one, inr (source_two, inr (written_one, inr (written_two, inl shown))))))

      module _ (free : plan_offence texts.plan ≡ None) where
        five_readable : AreReadable (given_texts (given_lift texts))
        five_readable refusal (inl one) = source_one refusal one
        five_readable refusal (inr (a, inl two)) = source_two refusal two
        five_readable refusal (inr (a, inr (b, inl three))) = written_one refusal three
        five_readable refusal (inr (a, inr (b, inr (c, inl four)))) = written_two refusal four
        five_readable refusal (inr (a, inr (b, inr (c, inr (d, inl last))))) = cc
        five_readable refusal (inr (a, inr (b, inr (c, inr (d, inr none))))) = none.1

        pub lift_of_task : (how : code.Ending) → IsRefusedFor texts (IsOfTask Source texts) how → IsRejectedBy (IsRefusal (given_lift texts) texts) how
        lift_of_task = shows_more texts (IsOfTask Source texts) IsShown (λ refusal shown. inr (five_readable, inl shown))

        pub lift_of_other : SpellATask (task_texts Source texts) → (how : code.Ending) → IsRefusedFor texts (IsOfTask Written texts) how → IsRejectedBy (IsRefusal (given_lift texts) texts) how
        lift_of_other first = shows_more texts (IsOfTask Written texts) IsShown (λ refusal shown. inr (five_readable, inr (first, inl shown)))
