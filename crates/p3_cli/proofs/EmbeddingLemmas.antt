-- The plan that is embedded is the one source of the plan in the task that is written.
use Rattle.std.proofs.Common.{◌≡◌, ◌∙◌, ℕ, List, [], ◌∷◌, length, pos, refl, sym, ap, true}
use Rattle.std.specs.Prelude.{ℤ, slice_index_or}
use Rattle.std.specs.List.{list_all}
use Rattle.std.proofs.lemmas.Bool.{and_from, and_parts}
use Rattle.std.proofs.lemmas.List.{length-map}
use Rattle.p3_task.specs.Erased.{erased}
use Rattle.p3_task.specs.Faithful.{Faithful}
use Rattle.p3_task.specs.Metrics.{value}
use Rattle.p3_task.specs.Names.{Name, is_empty}
use Rattle.p3_task.specs.Plans.{Plan}
use Rattle.p3_task.specs.PlanTexts.{IsPlanText}
use Rattle.p3_tree.specs.Reports.Plans.{embedded_lines}
use Rattle.p3_task.specs.declared.task.Task.{Task}
use Rattle.p3_task.proofs.OffsetLemmas.{offset_free}
use Rattle.p3_formula.specs.Targets.{Compiled, action_names, target_cost}
use Rattle.p3_formula.specs.declared.target.Target.{Target}
use Rattle.p3_formula.specs.declared.target.Weights.{Weights}
use Rattle.p3_formula.specs.declared.task.GroundTask.{GroundTask}
use Rattle.p3_formula.proofs.NamedLaws.{translates, well_named}
use Rattle.p3_ground.specs.PlansByNumber.{are_bare, names_of}
use Rattle.p3_plans.specs.Layout.{has_written_words, is_written_word}
use Rattle.p3_writer.specs.TaskOf.{task_of}
use Rattle.p3_writer.specs.Texts.{IsDomainTextOf, IsProblemTextOf}
use Rattle.p3_embed.specs.Plans.{IsEmbeddedPlan, bare_step, steps_at}
use Rattle.p3_cli.specs.Embedding.{IsEmbedded, IsSource}
use Rattle.p3_cli.specs.Translation.{CanBeCompiled}
use Rattle.p3_tree.specs.Reports.Plans.{generated_lines}
use Rattle.p3_task.specs.Validity.{is_valid}
use Rattle.p3_ground.specs.StandsFor.{StandsFor}
use Rattle.p3_cli.specs.Sampling.{IsSampled}
use Rattle.p3_cli.proofs.FaithfulLaws.{compiled_faithful, faithful_read, is_source, source_cost, text_of_task}
use Rattle.p3_cli.proofs.WordLaws.{target_words}

-- ---- the words of a plan that is embedded

no_words : (args : List Name) → is_empty args ≡ true → list_all is_written_word args ≡ true
no_words [] bare = refl
no_words (arg ∷ args) bare = absurd (cc)

bare_words : (plan : Plan) → are_bare plan ≡ true → list_all is_written_word (names_of plan) ≡ true → list_all has_written_words plan ≡ true
bare_words [] bare words = refl
bare_words (step ∷ plan) bare words =
    let each = and_parts (is_empty step.args) (are_bare plan) bare in
    let are = and_parts (is_written_word step.action) (list_all is_written_word (names_of plan)) words in
    and_from (has_written_words step) (list_all has_written_words plan)
    (and_from (is_written_word step.action) (list_all is_written_word step.args) are.0 (no_words step.args each.0)) (bare_words plan each.1 are.1)

pub embedded_words : (T : Task) (G : GroundTask) (w : Weights) (X : Target) (p q : Plan) → Compiled G w X → IsEmbeddedPlan T G X p q → list_all has_written_words q ≡ true
embedded_words T G w X p q compiled is = bare_words q is.bare (target_words X compiled.named (names_of q) is.embedded.valid)

-- ---- the steps of a source

pub steps_counted : (X : Target) (places : List ℕ) → length (steps_at X places) ≡ length places
steps_counted X places = length-map places (λ place. bare_step (slice_index_or (action_names X) place []))

-- ---- the task that is read of the texts

module _ (T U read : Task) (same : erased read ≡ erased U) where
  as_valid : (q : Plan) → is_valid read q ≡ is_valid U q
  as_valid q = sym ((offset_free read).is_valid q) ∙ (λ i. is_valid (same i) q) ∙ (offset_free U).is_valid q

  as_value : (q : Plan) → value U q ≡ value read q
  as_value q = sym ((offset_free U).value q) ∙ (λ i. value (sym same i) q) ∙ (offset_free read).value q

  source_read : (p q : Plan) → IsSource T U p q → IsSource T read p q
  source_read p q is = record {
    valid = as_valid q ∙ is.valid;
    lifts = is.lifts;
    only = λ other valid lifts. is.only other (sym (as_valid other) ∙ valid) lifts;
  }

-- ---- a plan that is embedded in a target

module _ (T : Task) (G : GroundTask) (w : Weights) (X : Target) (can : CanBeCompiled T G w) (compiled : Compiled G w X) (p q : Plan) (cost : ℤ) (is : IsEmbeddedPlan T G X p q) (costs : cost ≡ pos (target_cost X (names_of q))) where
  stands : StandsFor T G
  stands = record { atoms = can.grounding.atoms; stands = can.grounding.stands; left_out = can.grounding.left_out }

  faithful : Faithful T (task_of X)
  faithful = compiled_faithful T G w X can.well_formed stands can.linear can.weighed compiled

  source : IsSource T (task_of X) p q
  source = is_source T G w X can.well_formed stands can.linear can.weighed compiled.sized (well_named X compiled.named) (translates G w X compiled) p q is

  spent : cost ≡ value (task_of X) q
  spent = costs ∙ sym (source_cost T G w X can.well_formed stands can.linear can.weighed compiled.sized (well_named X compiled.named) (translates G w X compiled) p q is)

  -- its texts
  pub is_embedded : (od op text report : List ℕ) → IsDomainTextOf od (task_of X).domain → IsProblemTextOf op (task_of X).problem → IsPlanText text q → report ≡ embedded_lines T (length q) cost → IsEmbedded T p od op text report
  is_embedded od op written report domain problem spelled told =
      let text = text_of_task od op (task_of X) domain problem in
      record {
        written = text.0;
        reads = text.1;
        faithful = faithful_read T (task_of X) text.0 text.2 faithful;
        source = q;
        spelled = spelled;
        embeds = source_read T (task_of X) text.0 text.2 p q source;
        told = told ∙ ap (embedded_lines T (length q)) (spent ∙ as_value T (task_of X) text.0 text.2 q);
      }

  -- what is told of a sample
  pub is_sampled : (report : List ℕ) → report ≡ generated_lines T p (length q) cost → IsSampled T p report
  is_sampled report told = record {
    written = task_of X;
    faithful = faithful;
    source = q;
    embeds = source;
    told = told ∙ ap (generated_lines T p (length q)) spent;
  }
