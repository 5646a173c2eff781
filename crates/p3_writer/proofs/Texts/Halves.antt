-- Documents of the two halves, the bytes of these, and what the grammar makes of them.
use Rattle.std.proofs.Common.{◌≡◌, ◌∙◌, ℕ, Bool, true, false, List, [], ◌∷◌, ◌++◌, map, append_assoc, Option, Some, None, refl, sym, ap, subst}
use Rattle.std.specs.Prelude.{codes, if◌then◌else◌}
use Rattle.std.specs.List.{list_all}
use Rattle.p3_base.specs.declared.refusal.Direction.TheVariants.{Minimize}
use Rattle.p3_base.specs.Words.{Name, has_name, same_name, total_cost}
use Rattle.p3_task.specs.Erased.{erased_header, erased_action, erased_init, erased_goal, erased_domain, erased_problem}
use Rattle.p3_task.specs.Grammar.Words.{◌>>=◌, Place, each_at, predicate_place}
use Rattle.p3_task.specs.Grammar.Goals.{goal_place}
use Rattle.p3_task.specs.Grammar.Halves.{Section, section_place, sections_named, at_most_one, or_absent, sections_among, part_at, requirements, no_constraints, NamedSections, action_in, all_actions, kinds_in, header_place, predicates_in, functions_in, domain_keywords, domain_place, init_place, problem_place}
use Rattle.p3_task.specs.Grammar.Lists.{objects_in}
use Rattle.p3_task.specs.Grammar.Constraints.{constraint_or_empty_place}
use Rattle.p3_task.specs.Grammar.Texts.{IsBalanced}
use Rattle.p3_task.proofs.Computes.{texts_compute}
use Rattle.p3_task.specs.declared.constraint.Constraint.TheVariants as constraint
use Rattle.p3_task.specs.declared.expression.Expression.{Expression}
use Rattle.p3_task.specs.declared.expression.Expression.TheVariants.{Word, Group}
use Rattle.p3_task.specs.declared.goal.PreGoal.{PreGoal}
use Rattle.p3_task.specs.declared.metric.Num.TheVariants as num
use Rattle.p3_task.specs.declared.task.Action.{Action}
use Rattle.p3_task.specs.declared.task.Domain.{Domain}
use Rattle.p3_task.specs.declared.task.Header.{Header}
use Rattle.p3_task.specs.declared.task.Init.{Init}
use Rattle.p3_task.specs.declared.task.Init.TheVariants as init
use Rattle.p3_task.specs.declared.task.Part.{Part}
use Rattle.p3_task.specs.declared.task.Problem.{Problem}
use Rattle.p3_task.specs.declared.term.Ref.{Ref}
use Rattle.p3_writer.specs.Layout.{atom_text, spaced}
use Rattle.p3_writer.specs.TaskOf.{Trees}
use Rattle.p3_writer.specs.TaskOf as written
use Rattle.p3_writer.specs.Texts.{IsDomainTextOf, IsProblemTextOf}
use Rattle.p3_writer.proofs.Texts.Actions.{IsAction, ActionPiece}
use Rattle.p3_writer.proofs.Texts.Atoms.{atom_at, atom_header, atom_entry}
use Rattle.p3_writer.proofs.Texts.Documents.{Document, end, space, line, word, list, bytes, placed, document_balanced}
use Rattle.p3_writer.proofs.Texts.Forms.{Piece}
use Rattle.p3_writer.proofs.Texts.Places.{Given, given_none, given_more, at_offset, shown, shown_is, shown_given}
use Rattle.p3_writer.proofs.Texts.Symbols.{Symbol, names_of}

-- ---- headers and entries

-- `(name)` for each, behind a space
abbrev pub atoms : List Symbol → Document → Document
atoms [] rest = rest
atoms (s ∷ symbols) rest = space (list s.name s.fits end (atoms symbols rest))

abbrev pub atoms_text : List Symbol → List ℕ
atoms_text symbols = spaced (map atom_text (names_of symbols))

atoms_bytes : (symbols : List Symbol) (others : List ℕ) → bytes (atoms symbols end) others ≡ atoms_text symbols ++ others
atoms_bytes [] others = refl
atoms_bytes (s ∷ symbols) others = ap (λ later. 32 ∷ 40 ∷ later)
    (ap (λ later. s.name ++ (41 ∷ later)) (atoms_bytes symbols others) ∙ sym (append_assoc s.name (codes ")") (atoms_text symbols ++ others))
    ∙ sym (append_assoc (s.name ++ codes ")") (atoms_text symbols) others))

module _ {A : Type 0} (erase : A → A) (place : Place A) (tree_of : Symbol → A)
    (each : (at within : ℕ) (s : Symbol) → Given erase (place (atom_at at within s)) (tree_of s)) where
  atoms_given : (symbols : List Symbol) (at : ℕ) → Given (map erase) (each_at place (placed at (atoms symbols end))) (map tree_of symbols)
  atoms_given [] at = given_none erase place
  atoms_given (s ∷ symbols) at = given_more erase place _ _ _ _ (each _ _ s) (atoms_given symbols _)

abbrev pub header_trees : List Symbol → List Header
header_trees symbols = map (λ (s : Symbol). written.header s.name) symbols

-- The claims have names of their own, so that the offsets in the expressions can be found by unification.
IsHeaders : List Expression → List Header → Type 0
IsHeaders es headers = Given (map erased_header) (each_at (header_place predicate_place) (shown es)) headers

headers_given : (symbols : List Symbol) (at : ℕ) → IsHeaders (placed at (atoms symbols end)) (header_trees symbols)
unfolding IsHeaders
headers_given symbols at =
    shown_given erased_header (header_place predicate_place) _ _ (atoms_given erased_header (header_place predicate_place) (λ (s : Symbol). written.header s.name) atom_header symbols at)

abbrev pub entry_trees : List Symbol → List Init
entry_trees symbols = map (λ (s : Symbol). init.True (written.word s.name) []) symbols

IsEntries : List Expression → List Init → Type 0
IsEntries es entries = Given (map erased_init) (each_at init_place (shown es)) entries

entries_given : (symbols : List Symbol) (at : ℕ) → IsEntries (placed at (atoms symbols end)) (entry_trees symbols)
unfolding IsEntries
entries_given symbols at = shown_given erased_init init_place _ _ (atoms_given erased_init init_place (λ (s : Symbol). init.True (written.word s.name) []) atom_entry symbols at)

-- ---- sections of actions

-- the sections of actions, which are found by the word `:action` alone
pub record IsActions (es : List Expression) (trees : List Action) : Type 0 where
  pub sections : List Section
  pub read : each_at section_place es ≡ Some sections
  pub known : list_all (λ section. has_name domain_keywords section.word.name) sections ≡ true
  pub others : (keyword : Name) → same_name (codes ":action") keyword ≡ false → sections_named keyword sections ≡ []
  pub own : sections_named (codes ":action") sections ≡ sections
  pub given : Given (map erased_action) (all_actions sections) trees

no_actions : IsActions [] []
no_actions = record {
  sections = [];
  read = refl;
  known = refl;
  others = λ keyword differ. refl;
  own = refl;
  given = record { made = []; found = refl; same = refl };
}

one_more : (at within : ℕ) (es others : List Expression) (tree : Action) (trees : List Action)
    → IsAction es tree → IsActions others trees → IsActions (Group at (Word within (codes ":action") ∷ es) ∷ others) (tree ∷ trees)
unfolding texts_compute IsAction
one_more at within es others tree trees action actions =
    let section : Section = record { word = at_offset (codes ":action") within; behind = shown es } in
    let own : Given erased_action (action_in (shown es)) tree = subst (λ list. IsAction list tree) (sym (shown_is es)) action in
    record {
      sections = section ∷ actions.sections;
      read = ap (λ found. found >>= λ list. Some (section ∷ list)) actions.read;
      known = actions.known;
      others = λ keyword differ.
          ap (λ same. if same then section ∷ sections_named keyword actions.sections else sections_named keyword actions.sections) differ
          ∙ actions.others keyword differ;
      own = ap (λ list. section ∷ list) actions.own;
      given = record {
        made = own.made ∷ actions.given.made;
        found = λ i. own.found i >>= λ first. actions.given.found i >>= λ list. Some (first ∷ list);
        same = λ i. own.same i ∷ actions.given.same i;
      };
    }

-- actions, a line or more for each
pub record ActionPieces (trees : List Action) (text : List ℕ) : Type 0 where
  pub inside : Document
  pub laid : (others : List ℕ) → bytes inside others ≡ text ++ others
  pub given : (at : ℕ) → IsActions (placed at inside) trees

pub no_action_pieces : ActionPieces [] []
no_action_pieces = record {
  inside = end;
  laid = λ others. refl;
  given = λ at. no_actions;
}

pub one_action_more : {tree : Action} {text : List ℕ} {trees : List Action} {texts : List ℕ} → ActionPiece tree text → ActionPieces trees texts
    → ActionPieces (tree ∷ trees) (text ++ texts)
one_action_more {tree} {text} {trees} {texts} action rest = record {
  inside = list (codes ":action") refl action.inside (line rest.inside);
  laid = λ others. action.laid (bytes rest.inside others) ∙ ap (λ later. text ++ later) (rest.laid others) ∙ sym (append_assoc text texts others);
  given = λ at. one_more _ _ _ _ tree trees (action.given _) (rest.given _);
}

-- ---- the domain half

-- the document and its one expression
abbrev pub half_document : Document → Document
half_document inside = list (codes "define") refl inside (line end)

abbrev pub half_at : Document → Expression
half_at inside = Group 0 (Word 1 (codes "define") ∷ placed 7 inside)

-- what stands behind `define`
abbrev pub domain_inside : List Symbol → Document → Document
domain_inside symbols actions =
    space (list (codes "domain") refl (word (codes "compiled") refl end)
    (line (list (codes ":requirements") refl (word (codes ":adl") refl (word (codes ":action-costs") refl end))
    (line (list (codes ":predicates") refl (atoms symbols end)
    (line (list (codes ":functions") refl (space (list (codes "total-cost") refl end (word (codes "-") refl (word (codes "number") refl end))))
    (line actions))))))))

unfoldable pub IsDomain : Expression → Domain → Type 0
IsDomain e tree = Given erased_domain (domain_place e) tree

abbrev pub domain_tree : List Header → List Action → Domain
domain_tree headers actions = record {
  name = written.word (codes "compiled");
  kinds = [];
  constants = [];
  predicates = headers;
  functions = written.header total_cost ∷ [];
  constraints = written.part (constraint.Both []);
  actions = actions;
}

-- the domain, by the sections that each keyword has
abbrev domain_by : Ref → (listed types objects predicates functions limits acts : List Section) → Option Domain
domain_by name listed types objects predicates functions limits acts = do
  words ← at_most_one listed >>= or_absent [] requirements
  kinds ← at_most_one types >>= or_absent [] kinds_in
  constants ← at_most_one objects >>= or_absent [] (λ section. objects_in section.behind)
  headers ← at_most_one predicates >>= or_absent [] predicates_in
  costs ← at_most_one functions >>= or_absent [] functions_in
  constraints ← at_most_one limits >>= or_absent no_constraints (part_at constraint_or_empty_place)
  actions ← all_actions acts
  Some (record { name = name; kinds = kinds; constants = constants; predicates = headers; functions = costs; constraints = constraints; actions = actions })

abbrev domain_in : NamedSections → Option Domain
domain_in half =
    let named : Name → List Section = λ keyword. sections_named keyword half.sections in
    domain_by half.name (named (codes ":requirements")) (named (codes ":types")) (named (codes ":constants")) (named (codes ":predicates"))
    (named (codes ":functions")) (named (codes ":constraints")) (named (codes ":action"))

-- the offsets up to those of the predicates are known
module _ (functions word inner function dash number : ℕ) (ps : List Expression) (headers : List Header) (known : IsHeaders ps headers)
    (es : List Expression) (trees : List Action) (behind : IsActions es trees) where
  abbrev words_at : List Expression
  words_at = Word 41 (codes ":adl") ∷ Word 46 (codes ":action-costs") ∷ []

  abbrev costs_at : List Expression
  costs_at = Group inner (Word function (codes "total-cost") ∷ []) ∷ Word dash (codes "-") ∷ Word number (codes "number") ∷ []

  abbrev domain_at : Expression
  domain_at = Group 0 (Word 1 (codes "define") ∷ Group 8 (Word 9 (codes "domain") ∷ Word 16 (codes "compiled") ∷ [])
      ∷ Group 26 (Word 27 (codes ":requirements") ∷ words_at)
      ∷ Group 61 (Word 62 (codes ":predicates") ∷ ps)
      ∷ Group functions (Word word (codes ":functions") ∷ costs_at)
      ∷ es)

  abbrev title : Ref
  title = at_offset (codes "compiled") 16

  abbrev listed : Section
  listed = record { word = at_offset (codes ":requirements") 27; behind = words_at }

  abbrev declared : Section
  declared = record { word = at_offset (codes ":predicates") 62; behind = shown ps }

  abbrev costs : Section
  costs = record { word = at_offset (codes ":functions") word; behind = costs_at }

  abbrev half : List Section → NamedSections
  half sections = record { name = title; sections = sections }

  -- the domain, where the other sections are found
  abbrev with_sections : Option (List Section) → Option Domain
  with_sections found = (((found >>= λ list. Some (costs ∷ list)) >>= λ list. Some (declared ∷ list)) >>= λ list. Some (listed ∷ list))
      >>= (λ list. sections_among domain_keywords list >>= λ sections. Some (half sections)) >>= domain_in

  -- the domain, where the keywords of these sections are known ones or not
  abbrev with_known : List Section → Bool → Option Domain
  with_known sections passes = ((if passes then Some sections else None) >>= λ list. Some (half list)) >>= domain_in

  abbrev domain_with : List Header → List Action → Domain
  domain_with predicates actions = record {
    name = title;
    kinds = [];
    constants = [];
    predicates = predicates;
    functions = record { name = at_offset total_cost function; params = [] } ∷ [];
    constraints = no_constraints;
    actions = actions;
  }

  domain_read : IsDomain domain_at (domain_tree headers trees)
  unfolding texts_compute IsDomain IsHeaders
  domain_read =
      let actions : IsActions (shown es) trees = subst (λ list. IsActions list trees) (sym (shown_is es)) behind in
      record {
        made = domain_with known.made actions.given.made;
        found =
            ap with_sections actions.read
            ∙ ap (with_known (listed ∷ declared ∷ costs ∷ actions.sections)) actions.known
            ∙ (λ i. domain_by title (listed ∷ actions.others (codes ":requirements") refl i) (actions.others (codes ":types") refl i)
            (actions.others (codes ":constants") refl i) (declared ∷ actions.others (codes ":predicates") refl i)
            (costs ∷ actions.others (codes ":functions") refl i) (actions.others (codes ":constraints") refl i) (actions.own i))
            ∙ (λ i. known.found i >>= λ predicates. actions.given.found i >>= λ found. Some (domain_with predicates found));
        same = λ i. record (erased_domain (domain_tree headers trees)) { predicates = known.same i; actions = actions.given.same i };
      }

regroup : (a b c d e : List ℕ) → (((a ++ b) ++ c) ++ d) ++ e ≡ a ++ (b ++ (c ++ (d ++ e)))
regroup a b c d e = simp append_assoc

text_of_half : (inside : Document) (text : List ℕ) → text ≡ bytes (half_document inside) [] → IsBalanced text (half_at inside)
text_of_half inside text same =
    subst (λ bytes. IsBalanced bytes (half_at inside)) (sym same) (document_balanced (half_document inside) (half_at inside) refl)

module _ (symbols : List Symbol) (trees : List Action) (text : List ℕ) (actions : ActionPieces trees text) where
  abbrev domain_text : List ℕ
  domain_text =
      codes "(define (domain compiled)\n(:requirements :adl :action-costs)\n(:predicates" ++ atoms_text symbols
      ++ codes ")\n(:functions (total-cost) - number)\n" ++ text ++ codes ")\n"

  domain_bytes : domain_text ≡ bytes (half_document (domain_inside symbols actions.inside)) []
  domain_bytes =
      let front : List ℕ = codes "(define (domain compiled)\n(:requirements :adl :action-costs)\n(:predicates" in
      let middle : List ℕ = codes ")\n(:functions (total-cost) - number)\n" in
      regroup front (atoms_text symbols) middle text (codes ")\n")
      ∙ ap (λ later. front ++ later)
      (sym (atoms_bytes symbols (middle ++ bytes actions.inside (codes ")\n")) ∙ ap (λ later. atoms_text symbols ++ (middle ++ later)) (actions.laid (codes ")\n"))))

  domain_given : IsDomain (half_at (domain_inside symbols actions.inside)) (domain_tree (header_trees symbols) trees)
  domain_given = domain_read _ _ _ _ _ _ _ _ (headers_given symbols _) _ _ (actions.given _)

  pub domain_is_text : IsDomainTextOf domain_text (domain_tree (header_trees symbols) trees)
  unfolding IsDomain
  domain_is_text = record {
    expression = half_at (domain_inside symbols actions.inside);
    read = domain_given.made;
    balanced = text_of_half (domain_inside symbols actions.inside) domain_text domain_bytes;
    is_text = domain_given.found;
    same = domain_given.same;
  }

-- ---- the problem half

unfoldable pub IsProblem : Expression → Problem → Type 0
IsProblem e tree = Given erased_problem (problem_place e) tree

abbrev pub no_cost : Init
no_cost = init.Value (written.word total_cost) [] (record { at = 0; len = 0; digits = 0; places = 0 })

abbrev pub problem_tree : List Init → PreGoal → Problem
problem_tree entries goal = record {
  name = written.word (codes "compiled");
  domain = written.word (codes "compiled");
  objects = [];
  init = no_cost ∷ entries;
  goal = written.part goal;
  constraints = written.part (constraint.Both []);
  metric = Some (record { direction = Minimize; body = num.TotalCost 0 });
}

-- the offsets up to those of the entries are known
module _ (goals word reached link metric second minimize costs spent : ℕ) (es : List Expression) (entries : List Init) (known : IsEntries es entries)
    (head : Name) (gs : List Expression) (tree : PreGoal) (wanted : Given erased_goal (goal_place (Group reached (Word link head ∷ gs))) tree) where
  abbrev problem_at : Expression
  problem_at = Group 0 (Word 1 (codes "define") ∷ Group 8 (Word 9 (codes "problem") ∷ Word 17 (codes "compiled") ∷ [])
      ∷ Group 27 (Word 28 (codes ":domain") ∷ Word 36 (codes "compiled") ∷ [])
      ∷ Group 46 (Word 47 (codes ":init")
      ∷ Group 53 (Word 54 (codes "=") ∷ Group 56 (Word 57 (codes "total-cost") ∷ []) ∷ Word 69 (codes "0") ∷ [])
      ∷ es)
      ∷ Group goals (Word word (codes ":goal") ∷ Group reached (Word link head ∷ gs) ∷ [])
      ∷ Group metric (Word second (codes ":metric") ∷ Word minimize (codes "minimize") ∷ Group costs (Word spent (codes "total-cost") ∷ []) ∷ [])
      ∷ [])

  abbrev no_cost_at : Init
  no_cost_at = init.Value (at_offset total_cost 57) [] (record { at = 69; len = 1; digits = 0; places = 0 })

  abbrev problem_with : List Init → Part PreGoal → Problem
  problem_with trues goal = record {
    name = at_offset (codes "compiled") 17;
    domain = at_offset (codes "compiled") 36;
    objects = [];
    init = no_cost_at ∷ trues;
    goal = goal;
    constraints = no_constraints;
    metric = Some (record { direction = Minimize; body = num.TotalCost spent });
  }

  problem_read : IsProblem problem_at (problem_tree entries tree)
  unfolding texts_compute IsProblem IsEntries
  problem_read = record {
    made = problem_with known.made (record { at = word; body = wanted.made });
    found = λ i. (known.found i >>= λ trues. Some (no_cost_at ∷ trues)) >>= λ all.
        (wanted.found i >>= λ body. Some (record { at = word; body = body })) >>= λ goal.
        Some (record (problem_with [] goal) { init = all });
    same = λ i. record (erased_problem (problem_tree entries tree)) { init = no_cost ∷ known.same i; goal = written.part (wanted.same i) };
  }

module _ (symbols : List Symbol) {trees : Trees} {text : List ℕ} (goal : Piece trees text) where
  abbrev problem_inside : Document
  problem_inside =
      space (list (codes "problem") refl (word (codes "compiled") refl end)
      (line (list (codes ":domain") refl (word (codes "compiled") refl end)
      (line (list (codes ":init") refl (space (list (codes "=") refl (space (list (codes "total-cost") refl end (word (codes "0") refl end))) (atoms symbols end)))
      (line (list (codes ":goal") refl (space (list goal.head goal.fits goal.inside end))
      (line (list (codes ":metric") refl (word (codes "minimize") refl (space (list (codes "total-cost") refl end end))) end)))))))))

  abbrev problem_text : List ℕ
  problem_text =
      codes "(define (problem compiled)\n(:domain compiled)\n(:init (= (total-cost) 0)" ++ atoms_text symbols
      ++ codes ")\n(:goal " ++ text ++ codes ")\n(:metric minimize (total-cost)))\n"

  problem_bytes : problem_text ≡ bytes (half_document problem_inside) []
  problem_bytes =
      let front : List ℕ = codes "(define (problem compiled)\n(:domain compiled)\n(:init (= (total-cost) 0)" in
      let behind : List ℕ = codes ")\n(:metric minimize (total-cost)))\n" in
      let wanted : List ℕ = 40 ∷ (goal.head ++ bytes goal.inside (41 ∷ behind)) in
      regroup front (atoms_text symbols) (codes ")\n(:goal ") text behind
      ∙ ap (λ later. front ++ later) (sym (atoms_bytes symbols (codes ")\n(:goal " ++ wanted) ∙ ap (λ later. atoms_text symbols ++ (codes ")\n(:goal " ++ later)) (goal.laid behind)))

  problem_given : IsProblem (half_at problem_inside) (problem_tree (entry_trees symbols) trees.goal)
  problem_given = problem_read _ _ _ _ _ _ _ _ _ _ _ (entries_given symbols _) goal.head _ trees.goal (goal.goal _ _ _)

  pub problem_is_text : IsProblemTextOf problem_text (problem_tree (entry_trees symbols) trees.goal)
  unfolding IsProblem
  problem_is_text = record {
    expression = half_at problem_inside;
    read = problem_given.made;
    balanced = text_of_half problem_inside problem_text problem_bytes;
    is_text = problem_given.found;
    same = problem_given.same;
  }
