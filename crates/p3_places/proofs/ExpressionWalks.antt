-- Walking over an expression, and over its tokens.
use Rattle.std.proofs.Common.{◌≡◌, ◌∙◌, refl, sym, ap, subst, ℕ, suc, ◌+◌, ◌≤◌, ◌<◌, Bool, true, false, IsTrue, if◌then◌else◌, List, [], ◌∷◌, ◌++◌, map, fold, length, Option, Some, None, append_assoc, arith}
use Rattle.std.proofs.lemmas.List.{append-nil, map-append}
use Rattle.std.specs.Prelude.{nat_lt, is_some}
use Rattle.std.proofs.lemmas.Bool.{lt-ltb}
use Rattle.p3_task.specs.Names.{Name}
use Rattle.p3_task.specs.Tokens.{Token, Open, Close, Word, tokens_of}
use Rattle.p3_task.specs.PlanTexts.{Mark, Opens, Closes, Names, mark_of}
use Rattle.p3_task.specs.Expressions.{kept, spelling, spellings, Spells, Group, Reading, Within, Whole, Stopped, with_part, read_token, whole_of, expression_of}
use Rattle.p3_task.specs.Grammar.Words.{◌>>=◌, Place, IsText}
use Rattle.p3_task.specs.Grammar.Texts.{IsBalanced}
use Rattle.p3_task.proofs.ReadingLemmas.{tokens_spell}
use Rattle.p3_task.specs.declared.expression.Expression.{Expression, Group', Row_of-Expression, end_of-Expression, more_of-Expression}
use Rattle.p3_task.specs.declared.expression.Expression.TheVariants as expression
use Rattle.p3_places.specs.Machine.{Table, step}
use Rattle.p3_places.proofs.Runs.{steps, run, run_row, ends_in_final}
use Rattle.p3_places.proofs.MachineLemmas.{bind_same, bind_assoc, bound, finished, same_some}

closing : {S : Type 0} (table : Table S) (state last : S) (outer : List S) (more : List Mark) (final : Bool)
    → ((if final then Some (table.after state last ∷ outer) else None) >>= λ s. steps table s more)
    ≡ ((if final then Some (table.after state last) else None) >>= λ next. steps table (next ∷ outer) more)
closing table state last outer more true = refl
closing table state last outer more false = refl

-- ---- the marks of an expression

unfoldable mutual
  pub marks_in : Expression → List Mark
  marks_in (expression.Word at text) = Names text ∷ []
  marks_in (Group' at shape parts) = Opens ∷ row_marks parts ++ Closes ∷ []

  pub row_marks : {shape : _} → Row_of-Expression shape → List Mark
  row_marks end_of-Expression = []
  row_marks (more_of-Expression part parts) = marks_in part ++ row_marks parts

mutual
  unfolding spelling marks_in

  spelled_marks : (e : Expression) → map mark_of (spelling e) ≡ marks_in e
  spelled_marks (expression.Word at text) = refl
  spelled_marks (Group' at shape parts) = ap (λ marks. Opens ∷ marks) (map-append mark_of (spellings parts) (Close 0 ∷ []) ∙ ap (λ marks. marks ++ Closes ∷ []) (spelled_row_marks parts))

  spelled_row_marks : {shape : _} (row : Row_of-Expression shape) → map mark_of (spellings row) ≡ row_marks row
  spelled_row_marks end_of-Expression = refl
  spelled_row_marks (more_of-Expression part parts) = map-append mark_of (spelling part) (spellings parts) ∙ (λ i. spelled_marks part i ++ spelled_row_marks parts i)

kept_marks : (tokens : List Token) → map mark_of (map kept tokens) ≡ map mark_of tokens
kept_marks [] = refl
kept_marks (Open at ∷ tokens) = ap (λ marks. Opens ∷ marks) (kept_marks tokens)
kept_marks (Close at ∷ tokens) = ap (λ marks. Closes ∷ marks) (kept_marks tokens)
kept_marks (Word at text ∷ tokens) = ap (λ marks. Names text ∷ marks) (kept_marks tokens)

-- the marks of an expression lead a list on as the expression does
mutual
  unfolding steps run marks_in

  pub spelled : {S : Type 0} (table : Table S) (state : S) (outer : List S) (e : Expression) (more : List Mark)
      → steps table (state ∷ outer) (marks_in e ++ more) ≡ run table state e >>= λ next. steps table (next ∷ outer) more
  spelled table state outer (expression.Word at text) more = bind_assoc (table.on_word state text) (λ next. Some (next ∷ outer)) (λ s. steps table s more)
  spelled table state outer (Group' at shape parts) more =
      bind_assoc (table.on_open state) (λ next. Some (next ∷ state ∷ outer)) (λ s. steps table s ((row_marks parts ++ Closes ∷ []) ++ more))
      ∙ bind_same (table.on_open state) (λ first. steps table (first ∷ state ∷ outer) ((row_marks parts ++ Closes ∷ []) ++ more))
      (λ first. (run_row table first parts >>= λ last. if table.is_final last then Some (table.after state last) else None) >>= λ next. steps table (next ∷ outer) more)
      (λ first. ap (steps table (first ∷ state ∷ outer)) (append_assoc (row_marks parts) (Closes ∷ []) more)
      ∙ spelled_row table first (state ∷ outer) parts (Closes ∷ more)
      ∙ bind_same (run_row table first parts) (λ last. steps table (last ∷ state ∷ outer) (Closes ∷ more))
      (λ last. (if table.is_final last then Some (table.after state last) else None) >>= λ next. steps table (next ∷ outer) more)
      (λ last. closing table state last outer more (table.is_final last))
      ∙ sym (bind_assoc (run_row table first parts) (λ last. if table.is_final last then Some (table.after state last) else None) (λ next. steps table (next ∷ outer) more)))
      ∙ sym (bind_assoc (table.on_open state) (λ first. run_row table first parts >>= λ last. if table.is_final last then Some (table.after state last) else None) (λ next. steps table (next ∷ outer) more))

  pub spelled_row : {S : Type 0} {shape : _} (table : Table S) (state : S) (outer : List S) (row : Row_of-Expression shape) (more : List Mark)
      → steps table (state ∷ outer) (row_marks row ++ more) ≡ run_row table state row >>= λ next. steps table (next ∷ outer) more
  spelled_row table state outer end_of-Expression more = refl
  spelled_row table state outer (more_of-Expression part parts) more =
      ap (steps table (state ∷ outer)) (append_assoc (marks_in part) (row_marks parts) more)
      ∙ spelled table state outer part (row_marks parts ++ more)
      ∙ bind_same (run table state part) (λ next. steps table (next ∷ outer) (row_marks parts ++ more)) (λ next. run_row table next parts >>= λ last. steps table (last ∷ outer) more)
      (λ next. spelled_row table next outer parts more)
      ∙ sym (bind_assoc (run table state part) (λ next. run_row table next parts) (λ last. steps table (last ∷ outer) more))

-- ---- a start that takes one list

pub record IsOneList {S : Type 0} (table : Table S) (start done : S) : Type 0 where
  pub no_word : (text : Name) → table.on_word start text ≡ None
  pub no_end : table.is_final start ≡ false
  pub then_done : (last : S) → table.after start last ≡ done
  pub no_more_words : (text : Name) → table.on_word done text ≡ None
  pub no_more_lists : table.on_open done ≡ None

-- the open lists of a reading are those of a stack, whose last is the start
abbrev Follow : {S : Type 0} (start : S) → List Group → List S → Type 0
Follow start [] [] = ⊥
Follow start [] (state ∷ []) = state ≡ start
Follow start [] (state ∷ above ∷ outer) = ⊥
Follow start (group ∷ groups) [] = ⊥
Follow start (group ∷ groups) (state ∷ outer) = Follow start groups outer

abbrev Follows : {S : Type 0} (start done : S) → Reading → List S → Type 0
Follows start done (Within groups) stack = Follow start groups stack
Follows start done (Whole e) stack = stack ≡ done ∷ []
Follows start done Stopped stack = ⊥

abbrev depth : Reading → ℕ
depth (Within groups) = length groups
depth _ = 0

-- the reading follows the stack, and the limit lies above what the tokens left may open
record Followed {S : Type 0} (start done : S) (limit : ℕ) (read : Reading) (stack : List S) (further : ℕ) : Type 0 where
  follows : Follows start done read stack
  shallow : depth read + further ≤ limit

opens : {S : Type 0} (start done : S) (limit : ℕ) (groups : List Group) (at : ℕ) (stack : List S) (first : S) (further : ℕ) (fits : Bool)
    → nat_lt (length groups) limit ≡ fits → length groups + suc further ≤ limit → Follow start groups stack
    → Followed start done limit (if fits then Within (record { at = at; parts = [] } ∷ groups) else Stopped) (first ∷ stack) further
opens start done limit groups at stack first further true is shallow follows = record { follows = follows; shallow = omega (arith, shallow) }
opens start done limit groups at stack first further false is shallow follows =
    let less : length groups < limit = omega (arith, shallow) in
    let fits : nat_lt (length groups) limit ≡ true = lt-ltb (length groups) limit less in
    absurd (cc)

-- the innermost list goes on
goes_on : {S : Type 0} (start done : S) (limit : ℕ) (group other : Group) (groups : List Group) (state : S) (outer next : List S) (further : ℕ)
    → Follow start groups outer → suc (length groups) + suc further ≤ limit → Followed start done limit (Within (other ∷ groups)) (state ∷ outer) further
goes_on start done limit group other groups state outer next further follows shallow = record { follows = follows; shallow = omega (arith, shallow) }

-- a list closes
closes : {S : Type 0} (table : Table S) (start done : S) → IsOneList table start done → (limit : ℕ) (e : Expression) (groups : List Group) (above last : S) (outer : List S) (further : ℕ)
    → Follow start groups (above ∷ outer) → suc (length groups) + suc further ≤ limit → Followed start done limit (with_part e groups) (table.after above last ∷ outer) further
closes table start done one limit e [] above last [] further follows shallow =
    record { follows = ap (λ s. s ∷ []) (ap (λ s. table.after s last) follows ∙ one.then_done last); shallow = omega (arith, shallow) }
closes table start done one limit e [] above last (other ∷ outer) further follows shallow = elim follows [ ]
closes table start done one limit e (group ∷ groups) above last outer further follows shallow = record { follows = follows; shallow = omega (arith, shallow) }

if_stack : {S : Type 0} (b : Bool) (stack next : List S) → (if b then Some stack else None) ≡ Some next → stack ≡ next
if_stack true stack next is = cc
if_stack false stack next is = absurd cc

follow_step : {S : Type 0} (table : Table S) (start done : S) → IsOneList table start done → (limit : ℕ) (read : Reading) (stack next : List S) (token : Token) (further : ℕ)
    → Followed start done limit read stack (suc further) → step table stack (mark_of token) ≡ Some next → Followed start done limit (read_token limit read token) next further
follow_step table start done one limit Stopped stack next token further f is = elim f.follows [ ]
follow_step table start done one limit (Whole e) stack next (Word at text) further f is =
    let none : step table stack (Names text) ≡ None = ap (λ s. step table s (Names text)) f.follows ∙ ap (λ o. o >>= λ t. Some (t ∷ [])) (one.no_more_words text) in
    absurd (cc)
follow_step table start done one limit (Whole e) stack next (Open at) further f is =
    let none : step table stack Opens ≡ None = ap (λ s. step table s Opens) f.follows ∙ ap (λ o. o >>= λ t. Some (t ∷ done ∷ [])) one.no_more_lists in
    absurd (cc)
follow_step table start done one limit (Whole e) stack next (Close at) further f is =
    let none : step table stack Closes ≡ None = ap (λ s. step table s Closes) f.follows in
    absurd (cc)
follow_step table start done one limit (Within []) [] next token further f is = elim f.follows [ ]
follow_step table start done one limit (Within []) (state ∷ above ∷ outer) next token further f is = elim f.follows [ ]
follow_step table start done one limit (Within []) (state ∷ []) next (Close at) further f is = absurd cc
follow_step table start done one limit (Within []) (state ∷ []) next (Word at text) further f is =
    let none : step table (state ∷ []) (Names text) ≡ None = ap (λ s. table.on_word s text >>= λ t. Some (t ∷ [])) f.follows ∙ ap (λ o. o >>= λ t. Some (t ∷ [])) (one.no_word text) in
    absurd (cc)
follow_step table start done one limit (Within []) (state ∷ []) next (Open at) further f is =
    let b = bound (table.on_open state) (λ t. Some (t ∷ state ∷ [])) next is in
    subst (λ s. Followed start done limit (read_token limit (Within []) (Open at)) s further) (same_some (b.value ∷ state ∷ []) next b.leads)
    (opens start done limit [] at (state ∷ []) b.value further (nat_lt 0 limit) refl f.shallow f.follows)
follow_step table start done one limit (Within (group ∷ groups)) [] next token further f is = elim f.follows [ ]
follow_step table start done one limit (Within (group ∷ groups)) (state ∷ outer) next (Word at text) further f is =
    let b = bound (table.on_word state text) (λ t. Some (t ∷ outer)) next is in
    subst (λ s. Followed start done limit (read_token limit (Within (group ∷ groups)) (Word at text)) s further) (same_some (b.value ∷ outer) next b.leads)
    (record { follows = f.follows; shallow = omega (arith, f.shallow) })
follow_step table start done one limit (Within (group ∷ groups)) (state ∷ outer) next (Open at) further f is =
    let b = bound (table.on_open state) (λ t. Some (t ∷ state ∷ outer)) next is in
    subst (λ s. Followed start done limit (read_token limit (Within (group ∷ groups)) (Open at)) s further) (same_some (b.value ∷ state ∷ outer) next b.leads)
    (opens start done limit (group ∷ groups) at (state ∷ outer) b.value further (nat_lt (length (group ∷ groups)) limit) refl f.shallow f.follows)
follow_step table start done one limit (Within (group ∷ groups)) (state ∷ []) next (Close at) further f is = absurd cc
follow_step table start done one limit (Within (group ∷ groups)) (state ∷ above ∷ outer) next (Close at) further f is =
    subst (λ s. Followed start done limit (read_token limit (Within (group ∷ groups)) (Close at)) s further) (if_stack (table.is_final state) (table.after above state ∷ outer) next is)
    (closes table start done one limit (expression.Group group.at group.parts) groups above state outer further f.follows f.shallow)

-- what ends is whole
pub record IsSpelled (tokens : List Token) : Type 0 where
  pub e : Expression
  pub spelled : Spells tokens e

pub record IsWhole (limit : ℕ) (read : Reading) (tokens : List Token) : Type 0 where
  pub e : Expression
  pub whole : whole_of (fold (read_token limit) read tokens) ≡ Some e

whole_by : {S : Type 0} (table : Table S) (start done : S) → IsOneList table start done → (limit : ℕ) (tokens : List Token) (read : Reading) (stack : List S) (last : S)
    → Followed start done limit read stack (length tokens) → steps table stack (map mark_of tokens) ≡ Some (last ∷ []) → IsTrue (table.is_final last) → IsWhole limit read tokens
unfolding steps
whole_by table start done one limit [] Stopped stack last f is final = elim f.follows [ ]
whole_by table start done one limit [] (Whole e) stack last f is final = record { e = e; whole = refl }
whole_by table start done one limit [] (Within []) [] last f is final = elim f.follows [ ]
whole_by table start done one limit [] (Within []) (state ∷ []) last f is final =
    let same : last ≡ start = cc in
    let no : table.is_final last ≡ false = ap table.is_final same ∙ one.no_end in
    absurd (cc)
whole_by table start done one limit [] (Within []) (state ∷ above ∷ outer) last f is final = elim f.follows [ ]
whole_by table start done one limit [] (Within (group ∷ groups)) [] last f is final = elim f.follows [ ]
whole_by table start done one limit [] (Within (group ∷ [])) (state ∷ []) last f is final = elim f.follows [ ]
whole_by table start done one limit [] (Within (group ∷ other ∷ groups)) (state ∷ []) last f is final = elim f.follows [ ]
whole_by table start done one limit [] (Within (group ∷ groups)) (state ∷ above ∷ outer) last f is final = absurd (cc)
whole_by table start done one limit (token ∷ tokens) read stack last f is final =
    let b = bound (step table stack (mark_of token)) (λ s. steps table s (map mark_of tokens)) (last ∷ []) is in
    let w = whole_by table start done one limit tokens (read_token limit read token) b.value last (follow_step table start done one limit read stack b.value token (length tokens) (record { follows = f.follows; shallow = omega (arith, f.shallow) }) b.first) b.leads final in
    record { e = w.e; whole = w.whole }

-- tokens that lead from the start to an end spell an expression
pub spells_one : {S : Type 0} (table : Table S) (start done : S) → IsOneList table start done → (tokens : List Token) → ends_in_final table [] (steps table (start ∷ []) (map mark_of tokens)) → IsSpelled tokens
unfolding expression_of
spells_one table start done one tokens ends =
    let f = finished table [] (steps table (start ∷ []) (map mark_of tokens)) ends in
    let w = whole_by table start done one (length tokens) tokens (Within []) (start ∷ []) f.last (record { follows = refl; shallow = omega arith }) f.leads f.final in
    record { e = w.e; spelled = tokens_spell (length tokens) tokens w.e w.whole }

-- ---- what ends is what has a tree

-- the tokens of an expression lead where the expression does
pub spelled_leads : {S : Type 0} (table : Table S) (start : S) (tokens : List Token) (e : Expression) → Spells tokens e
    → steps table (start ∷ []) (map mark_of tokens) ≡ run table start e >>= λ next. Some (next ∷ [])
unfolding steps
spelled_leads table start tokens e spells =
    ap (steps table (start ∷ [])) (sym (kept_marks tokens) ∙ ap (map mark_of) spells ∙ spelled_marks e ∙ sym (append-nil (marks_in e))) ∙ spelled table start [] e []

abbrev pub ends_by : {S : Type 0} → Table S → Option S → Bool
ends_by table None = false
ends_by table (Some last) = table.is_final last

ends_of : {S : Type 0} (table : Table S) (o : Option S) → IsTrue (ends_by table o) → ends_in_final table [] (o >>= λ next. Some (next ∷ []))
ends_of table None ends = absurd cc
ends_of table (Some last) ends = (ends, refl)

of_ends : {S : Type 0} (table : Table S) (o : Option S) → ends_in_final table [] (o >>= λ next. Some (next ∷ [])) → IsTrue (ends_by table o)
of_ends table None ends = elim ends [ ]
of_ends table (Some last) ends = ends.0

pub record Tree {A : Type 0} (o : Option A) : Type 0 where
  pub tree : A
  pub is : o ≡ Some tree

pub tree_by : {A : Type 0} (o : Option A) → is_some o ≡ true → Tree o
tree_by None is = absurd cc
tree_by (Some tree) is = record { tree = tree; is = refl }

-- the text is one of the place
pub record IsTextAt {A : Type 0} (place : Place A) (text : List ℕ) : Type 0 where
  pub e : Expression
  pub tree : A
  pub balanced : IsBalanced text e
  pub is_text : IsText place e tree

-- the marks of a text of the place lead from one state to a final one, and no others do
pub record IsAccepting {S A : Type 0} (table : Table S) (start : S) (place : Place A) : Type 0 where
  pub leads : (tokens : List Token) (e : Expression) (tree : A) → Spells tokens e → IsText place e tree → ends_in_final table [] (steps table (start ∷ []) (map mark_of tokens))
  pub enough : (text : List ℕ) → (tokens_of text).foreign ≡ None → ends_in_final table [] (steps table (start ∷ []) (map mark_of (tokens_of text).tokens)) → IsTextAt place text

-- A table takes the texts of a place where it ends on an expression exactly where this has a tree.
pub accepts_trees : {S A : Type 0} (table : Table S) (start done : S) (place : Place A) → IsOneList table start done
    → ((e : Expression) → is_some (place e) ≡ ends_by table (run table start e)) → IsAccepting table start place
accepts_trees table start done place one same = record {
  leads = λ tokens e tree spells reads.
      subst (ends_in_final table []) (sym (spelled_leads table start tokens e spells)) (ends_of table (run table start e) (sym (same e) ∙ ap is_some reads));
  enough = λ text known ends.
      let one_e = spells_one table start done one (tokens_of text).tokens ends in
      let taken = of_ends table (run table start one_e.e) (subst (ends_in_final table []) (spelled_leads table start (tokens_of text).tokens one_e.e one_e.spelled) ends) in
      let t = tree_by (place one_e.e) (same one_e.e ∙ taken) in
      record { e = one_e.e; tree = t.tree; balanced = record { known = known; spelled = one_e.spelled }; is_text = t.is };
}
