-- Changes and actions, as they are written: their documents, the bytes of these, and what the grammar makes of them.
use Rattle.std.proofs.Common.{◌≡◌, ◌∙◌, ℕ, ◌+◌, ◌<◌, ◌^◌, Bool, true, false, List, [], ◌∷◌, ◌++◌, map, length, nat_lt, append_assoc, append-nil, Some, None, refl, sym, ap, subst}
use Rattle.std.specs.Prelude.{◌==◌, codes, slice_index_or, if◌then◌else◌}
use Rattle.std.specs.List.{list_all}
use Rattle.std.specs.Option.{option_or}
use Rattle.std.specs.Fmt.{decimal}
use Rattle.std.proofs.lemmas.Bool.{and_parts}
use Rattle.p3_base.specs.Words.{Name, is_name}
use Rattle.p3_task.specs.Erased.{erased_formula, erased_effect, erased_goal, erased_action}
use Rattle.p3_task.specs.Grammar.Words.{◌>>=◌, each_at}
use Rattle.p3_task.specs.Grammar.Effects.{effect_in, effect_or_empty_place}
use Rattle.p3_task.specs.Grammar.Formulas.{formula_place}
use Rattle.p3_task.specs.Grammar.Goals.{goal_place, goal_or_empty_place}
use Rattle.p3_task.specs.Grammar.Halves.{action_in}
use Rattle.p3_task.proofs.Computes.{texts_compute}
use Rattle.p3_task.specs.declared.effect.Amount.TheVariants as amount
use Rattle.p3_task.specs.declared.effect.Effect.{Effect}
use Rattle.p3_task.specs.declared.effect.Effect.TheVariants as effect
use Rattle.p3_task.specs.declared.expression.Expression.{Expression}
use Rattle.p3_task.specs.declared.expression.Expression.TheVariants.{Word, Group}
use Rattle.p3_task.specs.declared.formula.Formula.{Formula}
use Rattle.p3_task.specs.declared.goal.PreGoal.{PreGoal}
use Rattle.p3_task.specs.declared.task.Action.{Action}
use Rattle.p3_task.specs.declared.task.Part.{Part}
use Rattle.p3_task.specs.declared.term.Ref.{Ref}
use Rattle.p3_formula.specs.Forms.{is_below}
use Rattle.p3_formula.specs.Targets.{is_sized_change}
use Rattle.p3_formula.specs.declared.form.Change.{Change}
use Rattle.p3_formula.specs.declared.form.Form.{Form}
use Rattle.p3_formula.specs.declared.form.Form.TheVariants as form
use Rattle.p3_writer.specs.Layout.{spaced, literal_text, under_text, change_text, cost_text, action_head}
use Rattle.p3_writer.specs.TaskOf.{Trees, literal, under, change_of, increase_of}
use Rattle.p3_writer.specs.TaskOf as written
use Rattle.p3_writer.proofs.Texts.Atoms.{effect_at, atom_added, atom_deleted}
use Rattle.p3_writer.proofs.Texts.Documents.{Document, end, space, line, none, word, list, bytes, beyond, placed}
use Rattle.p3_writer.proofs.Texts.Erasures.{erased_all}
use Rattle.p3_writer.proofs.Texts.Forms.{group, Piece, form_piece}
use Rattle.p3_writer.proofs.Texts.Numbers.{Number, number, numeral_at, number_found}
use Rattle.p3_writer.proofs.Texts.Places.{Given, given_none, given_more, given_under, at_offset, checked, parts_given}
use Rattle.p3_writer.proofs.Texts.Symbols.{Symbol, names_of, IsSymbol, symbol_at}
use Rattle.p3_lexer.proofs.WordLemmas.{IsWord, past}

-- an effect that is written as one list, where an increase may stand or not
pub record EffectPiece (free : Bool) (tree : Effect) (text : List ℕ) : Type 0 where
  pub head : Name
  pub fits : IsWord head
  pub inside : Document
  pub laid : (others : List ℕ) → 40 ∷ (head ++ bytes inside (41 ∷ others)) ≡ text ++ others
  pub given : (at within next : ℕ) → Given erased_effect (effect_at free (group at within next head inside)) tree

-- effects, each behind a space
pub record EffectPieces (trees : List Effect) (text : List ℕ) : Type 0 where
  pub inside : Document
  pub laid : (others : List ℕ) → bytes inside others ≡ text ++ others
  pub given : (at : ℕ) → Given (map erased_effect) (each_at (effect_at true) (placed at inside)) trees

-- ---- literals and changes

pub literal_piece : (free add : Bool) (s : Symbol) → EffectPiece free (literal add s.name) (literal_text add s.name)
literal_piece free true s = record {
  head = s.name;
  fits = s.fits;
  inside = end;
  laid = λ others. ap (λ text. 40 ∷ text) (sym (append_assoc s.name (codes ")") others));
  given = λ at within next. atom_added at within s free;
}
literal_piece free false s = record {
  head = codes "not";
  fits = refl;
  inside = space (list s.name s.fits end end);
  laid = λ others. ap (λ text. codes "(not (" ++ text)
      (sym (append_assoc s.name (codes ")") (41 ∷ others)) ∙ sym (append_assoc (s.name ++ codes ")") (codes ")") others));
  given = λ at within next. atom_deleted (next + 1) (next + 1 + 1) s free at within;
}

when_given : (free : Bool) (at within : ℕ) (e f : Expression) (condition : Formula) (tree : Effect)
    → Given erased_formula (formula_place e) condition → Given erased_effect (effect_at false f) tree
    → Given erased_effect (effect_at free (Group at (Word within (codes "when") ∷ e ∷ f ∷ []))) (effect.If condition tree)
unfolding texts_compute effect_at
when_given free at within e f condition tree first second = record {
  made = effect.If first.made second.made;
  found = λ i. first.found i >>= λ holds. second.found i >>= λ body. Some (effect.If holds body);
  same = λ i. effect.If (first.same i) (second.same i);
}

regroup_when : (condition change others : List ℕ)
    → (((condition ++ codes " ") ++ change) ++ codes ")") ++ others ≡ condition ++ (32 ∷ (change ++ (41 ∷ others)))
regroup_when condition change others =
    append_assoc ((condition ++ codes " ") ++ change) (codes ")") others ∙ append_assoc (condition ++ codes " ") change (41 ∷ others)
    ∙ append_assoc condition (codes " ") (change ++ (41 ∷ others))

when_piece : (free : Bool) {trees : Trees} {condition : List ℕ} {tree : Effect} {change : List ℕ} → Piece trees condition → EffectPiece false tree change
    → EffectPiece free (effect.If trees.formula tree) (codes "(when " ++ condition ++ codes " " ++ change ++ codes ")")
when_piece free {trees} {condition} {tree} {change} first second = record {
  head = codes "when";
  fits = refl;
  inside = space (list first.head first.fits first.inside (space (list second.head second.fits second.inside end)));
  laid = λ others. ap (λ later. codes "(when " ++ later)
      (first.laid (32 ∷ 40 ∷ (second.head ++ bytes second.inside (41 ∷ 41 ∷ others)))
      ∙ ap (λ later. condition ++ (32 ∷ later)) (second.laid (41 ∷ others)) ∙ sym (regroup_when condition change others));
  given = λ at within next. when_given free at within _ _ trees.formula tree
      (first.formula (next + 1) (next + 1 + 1) (past (next + 1 + 1) first.head))
      (second.given (beyond (past (next + 1 + 1) first.head) first.inside + 1 + 1) (beyond (past (next + 1 + 1) first.head) first.inside + 1 + 1 + 1)
      (past (beyond (past (next + 1 + 1) first.head) first.inside + 1 + 1 + 1) second.head));
}

module _ (symbols : List Symbol) where
  abbrev IsPart : Form → Type 0
  IsPart tree = is_below (length (names_of symbols)) tree ≡ true

  -- a literal under a condition, or alone
  under_piece : (condition : Form) {tree : Effect} {change : List ℕ} → IsPart condition → EffectPiece true tree change → EffectPiece false tree change
      → EffectPiece true (under (names_of symbols) condition tree) (under_text (names_of symbols) condition change)
  under_piece form.True below free bound = free
  under_piece form.False below free bound = when_piece true (form_piece symbols form.False below) bound
  under_piece (form.Atom atom) below free bound = when_piece true (form_piece symbols (form.Atom atom) below) bound
  under_piece (form.Not' shape part) below free bound = when_piece true (form_piece symbols (form.Not' shape part) below) bound
  under_piece (form.And' shape parts) below free bound = when_piece true (form_piece symbols (form.And' shape parts) below) bound
  under_piece (form.Or' shape parts) below free bound = when_piece true (form_piece symbols (form.Or' shape parts) below) bound

  abbrev NamedChange : Change → Name → Type 0
  NamedChange change name =
      EffectPiece true (under (names_of symbols) change.cond (literal change.add name)) (under_text (names_of symbols) change.cond (literal_text change.add name))

  change_piece : (change : Change) → is_sized_change (length (names_of symbols)) change ≡ true
      → EffectPiece true (change_of (names_of symbols) change) (change_text (names_of symbols) change)
  change_piece change sized =
      let both = and_parts (nat_lt change.atom (length (names_of symbols))) (is_below (length (names_of symbols)) change.cond) sized in
      let own : IsSymbol (slice_index_or (names_of symbols) change.atom []) = symbol_at symbols change.atom both.0 in
      subst (NamedChange change) own.named
      (under_piece change.cond both.1 (literal_piece true change.add own.symbol) (literal_piece false change.add own.symbol))

-- ---- costs

increase_given : (n : Number) (outer keyword inner total at : ℕ)
    → Given erased_effect (effect_at true (Group outer (Word keyword (codes "increase") ∷ Group inner (Word total (codes "total-cost") ∷ []) ∷ Word at (decimal n.value) ∷ [])))
    (effect.Cost 0 (amount.Number (record { at = 0; len = 0; digits = n.value; places = 0 })))
unfolding texts_compute effect_at
increase_given n outer keyword inner total at = record {
  made = effect.Cost total (amount.Number (numeral_at at n));
  found = ap (λ found. option_or (found >>= λ numeral. Some (amount.Number numeral)) None >>= λ increase. Some (effect.Cost total increase)) (number_found at n);
  same = ap (λ value. effect.Cost 0 (amount.Number (record { at = 0; len = 0; digits = value; places = 0 }))) n.reads;
}

pub no_effects : EffectPieces [] []
no_effects = record {
  inside = end;
  laid = λ others. refl;
  given = λ at. given_none erased_effect (effect_at true);
}

pub one_effect : {tree : Effect} {text : List ℕ} {trees : List Effect} {texts : List ℕ} → EffectPiece true tree text → EffectPieces trees texts
    → EffectPieces (tree ∷ trees) (32 ∷ (text ++ texts))
one_effect {tree} {text} {trees} {texts} part rest = record {
  inside = space (list part.head part.fits part.inside rest.inside);
  laid = λ others. ap (λ later. 32 ∷ later)
      (part.laid (bytes rest.inside others) ∙ ap (λ later. text ++ later) (rest.laid others) ∙ sym (append_assoc text texts others));
  given = λ at. given_more erased_effect (effect_at true) _ _ _ _
      (part.given (at + 1) (at + 1 + 1) (past (at + 1 + 1) part.head)) (rest.given (beyond (past (at + 1 + 1) part.head) part.inside + 1));
}

pub increase_piece : (n : Number) → EffectPiece true (effect.Cost 0 (amount.Number (record { at = 0; len = 0; digits = n.value; places = 0 })))
    (codes "(increase (total-cost) " ++ decimal n.value ++ codes ")")
increase_piece n = record {
  head = codes "increase";
  fits = refl;
  inside = space (list (codes "total-cost") refl end (word (decimal n.value) n.fits end));
  laid = λ others. ap (λ later. codes "(increase (total-cost) " ++ later) (sym (append_assoc (decimal n.value) (codes ")") others));
  given = λ at within next. increase_given n at within _ _ _;
}

cost_pieces : (cost : ℕ) → cost < 2 ^ 64 → EffectPieces (increase_of cost) (cost_text cost)
cost_pieces cost small = by (cost == 0)
  where
    by : (free : Bool) → EffectPieces (if free then [] else effect.Cost 0 (amount.Number (record { at = 0; len = 0; digits = cost; places = 0 })) ∷ [])
        (if free then [] else codes " (increase (total-cost) " ++ decimal cost ++ codes ")")
    by true = no_effects
    by false =
        subst (EffectPieces (effect.Cost 0 (amount.Number (record { at = 0; len = 0; digits = cost; places = 0 })) ∷ []))
        (append-nil (codes " (increase (total-cost) " ++ decimal cost ++ codes ")")) (one_effect (increase_piece (number cost small)) no_effects)

pub effect_pieces : (symbols : List Symbol) (changes : List Change) (cost : ℕ) → list_all (is_sized_change (length (names_of symbols))) changes ≡ true → cost < 2 ^ 64
    → EffectPieces (map (change_of (names_of symbols)) changes ++ increase_of cost) (spaced (map (change_text (names_of symbols)) changes) ++ cost_text cost)
effect_pieces symbols [] cost sized small = cost_pieces cost small
effect_pieces symbols (change ∷ changes) cost sized small =
    let both = and_parts (is_sized_change (length (names_of symbols)) change) (list_all (is_sized_change (length (names_of symbols))) changes) sized in
    subst (λ text. EffectPieces (change_of (names_of symbols) change ∷ (map (change_of (names_of symbols)) changes ++ increase_of cost)) (32 ∷ text))
    (sym (append_assoc (change_text (names_of symbols) change) (spaced (map (change_text (names_of symbols)) changes)) (cost_text cost)))
    (one_effect (change_piece symbols change both.0) (effect_pieces symbols changes cost both.1 small))

-- ---- actions

IsEffect : Expression → Effect → Type 0
IsEffect e tree = Given erased_effect (effect_or_empty_place e) tree

IsCondition : Expression → PreGoal → Type 0
IsCondition e tree = Given erased_goal (goal_or_empty_place e) tree

unfoldable pub IsAction : List Expression → Action → Type 0
IsAction parts tree = Given erased_action (action_in parts) tree

all_given : (at within : ℕ) (es : List Expression) (trees : List Effect) → Given (map erased_effect) (each_at (effect_at true) es) trees
    → IsEffect (Group at (Word within (codes "and") ∷ es)) (effect.All trees)
unfolding texts_compute effect_at IsEffect
all_given at within es trees given =
    given_under erased_effect erased_effect effect.All erased_all _ _ (parts_given (λ word free. None) (λ list parts. effect_in parts) (λ tree. tree true) es) trees given

condition_given : (at within : ℕ) (head : Name) (es : List Expression) (tree : PreGoal) → Given erased_goal (goal_place (Group at (Word within head ∷ es))) tree
    → IsCondition (Group at (Word within head ∷ es)) tree
unfolding texts_compute IsCondition
condition_given at within head es tree given = given

-- an action, as it is written behind `:action`
pub record ActionPiece (action : Action) (text : List ℕ) : Type 0 where
  pub inside : Document
  pub laid : (others : List ℕ) → codes "(:action" ++ bytes inside (41 ∷ 10 ∷ others) ≡ text ++ others
  pub given : (at : ℕ) → IsAction (placed at inside) action

abbrev placed_part : {A : Type 0} → ℕ → A → Part A
placed_part at body = record { at = at; body = body }

abbrev action_with : Ref → Part PreGoal → Part Effect → Action
action_with name pre change = record { name = name; params = []; pre = pre; effect = change }

module _ (name : Name) (is : is_name name ≡ true) (pre : PreGoal) (trees : List Effect) (at first second third fourth : ℕ) where
  action_read : (e f : Expression) → IsCondition e pre → IsEffect f (effect.All trees)
      → IsAction (Word at name ∷ Word first (codes ":parameters") ∷ Group second [] ∷ Word third (codes ":precondition") ∷ e ∷ Word fourth (codes ":effect") ∷ f ∷ [])
      (action_with (written.word name) (written.part pre) (written.part (effect.All trees)))
  unfolding texts_compute IsCondition IsEffect IsAction
  action_read e f condition changes = record {
    made = action_with (at_offset name at) (placed_part third condition.made) (placed_part fourth changes.made);
    found = λ i. checked (is i) (at_offset name at) >>= λ word.
        (condition.found i >>= λ body. Some (placed_part third body)) >>= λ pre.
        (changes.found i >>= λ body. Some (placed_part fourth body)) >>= λ change.
        Some (action_with word pre change);
    same = λ i. action_with (written.word name) (written.part (condition.same i)) (written.part (changes.same i));
  }

regroup_action : (name pre effects others : List ℕ)
    → ((((name ++ codes " :parameters ()\n :precondition ") ++ pre) ++ codes "\n :effect ") ++ (codes "(and" ++ effects ++ codes ")") ++ codes ")\n") ++ others
    ≡ name ++ (codes " :parameters ()\n :precondition " ++ (pre ++ (codes "\n :effect (and" ++ (effects ++ (codes "))\n" ++ others)))))
regroup_action name pre effects others = simp append_assoc

module _ (name : Name) (fits : IsWord name) (is : is_name name ≡ true) {trees : Trees} {pre : List ℕ} (condition : Piece trees pre)
    {changes : List Effect} {effects : List ℕ} (behind : EffectPieces changes effects) where
  abbrev act_inside : Document
  act_inside =
      word name fits (word (codes ":parameters") refl (space (none (line (word (codes ":precondition") refl
      (space (list condition.head condition.fits condition.inside
      (line (word (codes ":effect") refl (space (list (codes "and") refl behind.inside end)))))))))))

  pub action_piece : ActionPiece (action_with (written.word name) (written.part trees.goal) (written.part (effect.All changes)))
      (action_head name ++ pre ++ codes "\n :effect " ++ (codes "(and" ++ effects ++ codes ")") ++ codes ")\n")
  action_piece = record {
    inside = act_inside;
    laid = λ others. ap (λ later. codes "(:action " ++ (name ++ (codes " :parameters ()\n :precondition " ++ later)))
        (condition.laid (codes "\n :effect (and" ++ bytes behind.inside (codes "))\n" ++ others))
        ∙ ap (λ later. pre ++ (codes "\n :effect (and" ++ later)) (behind.laid (codes "))\n" ++ others)))
        ∙ ap (λ later. codes "(:action " ++ later) (sym (regroup_action name pre effects others));
    given = λ at. action_read name is trees.goal changes _ _ _ _ _ _ _
        (condition_given _ _ condition.head _ trees.goal (condition.goal _ _ _)) (all_given _ _ _ changes (behind.given _));
  }
