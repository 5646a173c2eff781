-- A predicate or a function at arguments, by the header that was found.
use Rattle.std.proofs.Common.{◌≡◌, ◌∙◌, List, [], ◌∷◌, ◌++◌, ◌||◌, Bool, true, false, cond, Option, Some, refl, sym}
use Rattle.std.specs.Prelude.{fold, flat_map, is_some}
use Rattle.std.specs.List.{list_any}
use Rattle.p3_task.specs.Names.{Name, same_name}
use Rattle.p3_task.specs.Uses.{Scope, AtomUse, FunctionUse}
use Rattle.p3_task.specs.Offences.{header_named, unless, unknown_term, unknown_header}
use Rattle.p3_task.specs.declared.term.Ref.{Ref}
use Rattle.p3_task.specs.declared.term.Term.{Term}
use Rattle.p3_task.specs.declared.task.Header.{Header}
use Rattle.p3_task.specs.declared.task.Task.{Task}
use Rattle.p3_resolve.specs.declared.spot.FirstOffences.{FirstOffences}
use Rattle.p3_resolve.specs.Spots.{step, use_step, header_step}
use Rattle.p3_resolve.specs.Steps.{word_step}
use Rattle.p3_resolve.specs.Walk.{Walked, with_found, with_tree}
use Rattle.p3_resolve.proofs.TermLemmas.{no-clash}
use Rattle.p3_resolve.proofs.WalkLemmas.{fold-append}

found-named : (headers : List Header) (name : Name) → is_some (header_named headers name) ≡ list_any (λ header. same_name header.name.name name) headers
found-named [] name = refl
found-named (header ∷ headers) name = by (same_name header.name.name name) (found-named headers name)
  where
    by : (same : Bool) → is_some (header_named headers name) ≡ list_any (λ other. same_name other.name.name name) headers
        → is_some (cond same (Some header) (header_named headers name)) ≡ (same || list_any (λ other. same_name other.name.name name) headers)
    by true rest = refl
    by false rest = rest

module _ (T : Task) (scope : Scope) (found : FirstOffences) (word : Ref) (args : List Term) where
  -- what is told of the header's name and of the terms is told of one after the other
  unknown-both : (headers : List Header)
      → fold step (fold step found.unknown (unless (is_some (header_named headers word.name)) word)) (flat_map (unknown_term T scope) args)
      ≡ fold step found.unknown (unknown_header headers word ++ flat_map (unknown_term T scope) args)
  unknown-both headers =
      (λ i. fold step (fold step found.unknown (unless (found-named headers word.name i) word)) (flat_map (unknown_term T scope) args))
      ∙ sym (fold-append step found.unknown (unknown_header headers word) (flat_map (unknown_term T scope) args))

  predicate-step : (header : Option Header) → header ≡ header_named T.domain.predicates word.name → header_step T scope found header word args ≡ use_step T found (AtomUse word args scope)
  predicate-step header is = (λ i. header_step T scope found (is i) word args) ∙ (λ i. record {
    duplicate = found.duplicate;
    unknown = unknown-both T.domain.predicates i;
    miscount = (use_step T found (AtomUse word args scope)).miscount;
    clash = (use_step T found (AtomUse word args scope)).clash;
  })

  function-step : (header : Option Header) → header ≡ header_named T.domain.functions word.name → header_step T scope found header word args ≡ use_step T found (FunctionUse word args scope)
  function-step header is = (λ i. header_step T scope found (is i) word args) ∙ (λ i. record {
    duplicate = found.duplicate;
    unknown = unknown-both T.domain.functions i;
    miscount = (use_step T found (FunctionUse word args scope)).miscount;
    clash = (use_step T found (FunctionUse word args scope)).clash;
  })

module _ (T : Task) (walk : Walked) (word : Ref) (args : List Term) (header : Option Header) where
  pub atom-tree : header ≡ header_named T.domain.predicates word.name → with_found (header_step T walk.scope walk.found header word args) walk ≡ with_tree T (λ scope. AtomUse word args scope ∷ []) walk
  unfolding with_tree
  atom-tree is = λ i. with_found (predicate-step T walk.scope walk.found word args header is i) walk

  pub function-tree : header ≡ header_named T.domain.functions word.name → with_found (header_step T walk.scope walk.found header word args) walk ≡ with_tree T (λ scope. FunctionUse word args scope ∷ []) walk
  unfolding with_tree
  function-tree is = λ i. with_found (function-step T walk.scope walk.found word args header is i) walk

pub ruleset header_laws = (atom-tree, function-tree)

pub cost-step : (T : Task) (scope : Scope) (found : FirstOffences) (word : Ref) (header : Option Header) → header ≡ header_named T.domain.functions word.name
    → word_step found header word [] ≡ use_step T found (FunctionUse word [] scope)
cost-step T scope found word header is =
    (λ i. record {
      duplicate = found.duplicate;
      unknown = (word_step found header word []).unknown;
      miscount = (word_step found header word []).miscount;
      clash = fold step found.clash (sym (no-clash T scope header) i);
    })
    ∙ function-step T scope found word [] header is

pub ruleset cost_laws = (cost-step)
