-- The layout of a target is, but for offsets, a text of the halves of its task.
use Rattle.std.proofs.Common.{◌≡◌, ◌∙◌, ℕ, ◌^◌, Bool, true, false, List, [], ◌∷◌, ◌++◌, map, length, refl, sym, ap, subst}
use Rattle.std.specs.Prelude.{codes, flat_map, filter_map, zip}
use Rattle.std.specs.List.{list_all}
use Rattle.std.proofs.lemmas.Bool.{and_parts, ltb-true}
use Rattle.std.proofs.lemmas.List.Folds.{list_all-append}
use Rattle.std.proofs.lemmas.Simd.{map-map}
use Rattle.p3_base.specs.Words.{Name, is_lowered, is_name, is_predicate_name}
use Rattle.p3_task.specs.declared.task.Header.{Header}
use Rattle.p3_task.specs.declared.task.Init.{Init}
use Rattle.p3_task.specs.declared.task.Init.TheVariants as init
use Rattle.p3_formula.specs.Forms.{is_below}
use Rattle.p3_formula.specs.Targets.{IsSized, action_names, is_sized_action, is_sized_change}
use Rattle.p3_formula.specs.declared.form.Form.{Form}
use Rattle.p3_formula.specs.declared.target.Target.{Target}
use Rattle.p3_formula.specs.declared.target.TargetAction.{TargetAction}
use Rattle.p3_writer.specs.Layout.{atom_text, spaced, form_text, action_text, set_atoms, is_small, domain_layout, problem_layout}
use Rattle.p3_writer.specs.TaskOf.{task_of, trees_of, header, true_entry}
use Rattle.p3_writer.specs.TaskOf as written
use Rattle.p3_writer.specs.Texts.{AreSpelled, IsDomainTextOf, IsProblemTextOf}
use Rattle.p3_writer.proofs.Texts.Actions.{ActionPiece, action_piece, effect_pieces}
use Rattle.p3_writer.proofs.Texts.Forms.{form_piece}
use Rattle.p3_writer.proofs.Texts.Halves.{ActionPieces, no_action_pieces, one_action_more, atoms_text, header_trees, entry_trees, domain_tree, domain_is_text, problem_tree, problem_is_text}
use Rattle.p3_writer.proofs.Texts.Symbols.{Symbol, names_of, name_fits, symbols_of}

both_spelled : (names more : List Name) → AreSpelled (names ++ more) → AreSpelled names × AreSpelled more
both_spelled names more spelled =
    and_parts (list_all (list_all is_lowered) names) (list_all (list_all is_lowered) more) (sym (list_all-append (list_all is_lowered) names more) ∙ spelled)

-- ---- the domain half

module _ (symbols : List Symbol) where
  written_action : (action : TargetAction) → is_sized_action (length (names_of symbols)) action ≡ true → is_name action.name ≡ true → list_all is_lowered action.name ≡ true
      → is_small action ≡ true → ActionPiece (written.action_of (names_of symbols) action) (action_text (names_of symbols) action)
  unfolding action_text
  written_action action sized named lowered small =
      let both = and_parts (is_below (length (names_of symbols)) action.pre) (list_all (is_sized_change (length (names_of symbols))) action.effects) sized in
      action_piece action.name (name_fits action.name named lowered) named (form_piece symbols action.pre both.0)
      (effect_pieces symbols action.effects action.cost both.1 (ltb-true action.cost (2 ^ 64) small))

  written_actions : (actions : List TargetAction) → list_all (is_sized_action (length (names_of symbols))) actions ≡ true
      → list_all is_name (map (λ (action : TargetAction). action.name) actions) ≡ true
      → list_all (list_all is_lowered) (map (λ (action : TargetAction). action.name) actions) ≡ true → list_all is_small actions ≡ true
      → ActionPieces (map (written.action_of (names_of symbols)) actions) (flat_map (action_text (names_of symbols)) actions)
  written_actions [] sized named lowered small = no_action_pieces
  written_actions (action ∷ actions) sized named lowered small =
      let sizes = and_parts (is_sized_action (length (names_of symbols)) action) _ sized in
      let names = and_parts (is_name action.name) _ named in
      let lows = and_parts (list_all is_lowered action.name) _ lowered in
      let costs = and_parts (is_small action) _ small in
      one_action_more (written_action action sizes.0 names.0 lows.0 costs.0) (written_actions actions sizes.1 names.1 lows.1 costs.1)

abbrev DomainTextWith : List TargetAction → List Name → List Header → Type 0
DomainTextWith actions names headers =
    IsDomainTextOf
    (codes "(define (domain compiled)\n(:requirements :adl :action-costs)\n(:predicates" ++ spaced (map atom_text names)
    ++ codes ")\n(:functions (total-cost) - number)\n" ++ flat_map (action_text names) actions ++ codes ")\n")
    (domain_tree headers (map (written.action_of names) actions))

pub domain_layout_is_text : (X : Target) → IsSized X → list_all is_predicate_name X.predicates ≡ true → list_all is_name (action_names X) ≡ true
    → AreSpelled (X.predicates ++ action_names X) → list_all is_small X.actions ≡ true → IsDomainTextOf (domain_layout X) (task_of X).domain
unfolding task_of
domain_layout_is_text X sized predicates named spelled small =
    let lowered = both_spelled X.predicates (action_names X) spelled in
    let own = symbols_of X.predicates predicates lowered.0 in
    let symbols : List Symbol = own.0 in
    let below : list_all (is_sized_action (length (names_of symbols))) X.actions ≡ true = ap (λ names. list_all (is_sized_action (length names)) X.actions) own.1 ∙ sized.actions in
    let text : DomainTextWith X.actions (names_of symbols) (header_trees symbols) =
    domain_is_text symbols _ _ (written_actions symbols X.actions below named lowered.1 small) in
    subst (λ names. DomainTextWith X.actions names (map header names)) own.1
    (subst (DomainTextWith X.actions (names_of symbols)) (sym (map-map header (λ (s : Symbol). s.name) symbols)) text)

-- ---- the problem half

-- the symbols of the atoms that are set
abbrev set_symbols : List Bool → List Symbol → List Symbol
set_symbols [] symbols = []
set_symbols (bit ∷ bits) [] = []
set_symbols (true ∷ bits) (s ∷ symbols) = s ∷ set_symbols bits symbols
set_symbols (false ∷ bits) (s ∷ symbols) = set_symbols bits symbols

set_text : (bits : List Bool) (symbols : List Symbol) → atoms_text (set_symbols bits symbols) ≡ set_atoms bits (names_of symbols)
set_text [] symbols = refl
set_text (bit ∷ bits) [] = refl
set_text (true ∷ bits) (s ∷ symbols) = ap (λ others. (32 ∷ atom_text s.name) ++ others) (set_text bits symbols)
set_text (false ∷ bits) (s ∷ symbols) = set_text bits symbols

set_trees : (bits : List Bool) (symbols : List Symbol) → entry_trees (set_symbols bits symbols) ≡ filter_map true_entry (zip bits (names_of symbols))
set_trees [] symbols = refl
set_trees (bit ∷ bits) [] = refl
set_trees (true ∷ bits) (s ∷ symbols) = ap (λ others. init.True (written.word s.name) [] ∷ others) (set_trees bits symbols)
set_trees (false ∷ bits) (s ∷ symbols) = set_trees bits symbols

abbrev ProblemTextWith : Form → List Name → List ℕ → List Init → Type 0
ProblemTextWith goal names set entries =
    IsProblemTextOf
    (codes "(define (problem compiled)\n(:domain compiled)\n(:init (= (total-cost) 0)" ++ set
    ++ codes ")\n(:goal " ++ form_text names goal ++ codes ")\n(:metric minimize (total-cost)))\n")
    (problem_tree entries (trees_of names goal).goal)

pub problem_layout_is_text : (X : Target) → IsSized X → list_all is_predicate_name X.predicates ≡ true → AreSpelled (X.predicates ++ action_names X)
    → IsProblemTextOf (problem_layout X) (task_of X).problem
unfolding task_of
problem_layout_is_text X sized predicates spelled =
    let lowered = both_spelled X.predicates (action_names X) spelled in
    let own = symbols_of X.predicates predicates lowered.0 in
    let symbols : List Symbol = own.0 in
    let below : is_below (length (names_of symbols)) X.goal ≡ true = ap (λ names. is_below (length names) X.goal) own.1 ∙ sized.goal in
    let text : ProblemTextWith X.goal (names_of symbols) (atoms_text (set_symbols X.initial symbols)) (entry_trees (set_symbols X.initial symbols)) =
    problem_is_text (set_symbols X.initial symbols) (form_piece symbols X.goal below) in
    subst (λ names. ProblemTextWith X.goal names (set_atoms X.initial names) (filter_map true_entry (zip X.initial names))) own.1
    (subst (ProblemTextWith X.goal (names_of symbols) (set_atoms X.initial (names_of symbols))) (set_trees X.initial symbols)
    (subst (λ set. ProblemTextWith X.goal (names_of symbols) set (entry_trees (set_symbols X.initial symbols))) (set_text X.initial symbols) text))
