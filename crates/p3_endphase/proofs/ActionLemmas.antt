-- Actions that move the set atom on, as they are made.
use Rattle.std.proofs.Common.{◌≡◌, ◌∙◌, ℕ, ◌+◌, ◌<◌, ◌^◌, nat_lt, Bool, true, ◌&&◌, List, [], ◌∷◌, ◌++◌, length, take, get_or, refl, sym, ap, subst, arith}
use Rattle.std.specs.List.{list_all}
use Rattle.std.specs.Str.{str_to_ascii_lowercase}
use Rattle.std.proofs.Math.Bool.{and-true}
use Rattle.std.proofs.lemmas.Bool.{and_from, lt-ltb}
use Rattle.std.proofs.lemmas.List.{take_more, length-take-le}
use Rattle.p3_base.proofs.NameLemmas.{lowered_decimal}
use Rattle.p3_formula.specs.Forms.{State, is_set, truth, has_atoms, is_below, HasAtomsOf}
use Rattle.p3_formula.specs.Guards.{IsGuardedForm}
use Rattle.p3_formula.specs.Targets.{is_sized_action, is_sized_change}
use Rattle.p3_formula.specs.declared.form.Change.{Change}
use Rattle.p3_formula.specs.declared.form.Form.{Form}
use Rattle.p3_formula.specs.declared.target.TargetAction.{TargetAction}
use Rattle.p3_formula.proofs.FormLemmas.{has_atoms-True}
use Rattle.p3_endphase.specs.declared.phase.SoftEnd.{SoftEnd}
use Rattle.p3_endphase.specs.Ends.{collect_name, forgo_name, moving, IsMove, Settles, AreActions}

-- the atom and the condition
pub made : (atom : ℕ) (condition pre : Form) (name : List ℕ) (cost : ℕ) (effects : List Change) → IsGuardedForm (atom ∷ []) condition pre → effects ≡ moving atom
    → IsMove atom condition (λ state. truth state condition) name cost (record { name = name; pre = pre; effects = effects; cost = cost })
made atom condition pre name cost effects form changes = record {
  is_named = refl;
  fits = λ state. form.fits state ∙ ap (λ b. b && truth state condition) (and-true (is_set state atom));
  tidy = form.tidy;
  reads = λ allowed here within. form.reads allowed (λ i. here i && true) within;
  moves = changes;
  costs = refl;
}

-- the same move by another name of the same bytes, where another condition holds in the same states
pub with_condition : (atom cost : ℕ) (name other : List ℕ) (form source : Form) (condition new : State → Bool) (action : TargetAction) → name ≡ other → ((state : State) → condition state ≡ new state) → HasAtomsOf form source → IsMove atom form condition name cost action → IsMove atom source new other cost action
with_condition atom cost name other form source condition new action same holds own move = record {
  is_named = move.is_named ∙ same;
  fits = λ state. move.fits state ∙ ap (λ test. is_set state atom && test) (holds state);
  tidy = move.tidy;
  reads = λ allowed here within. move.reads allowed here (own allowed within);
  moves = move.moves;
  costs = move.costs;
}

-- the same of an equal condition
pub with_same : (atom cost : ℕ) (name other : List ℕ) (form source : Form) (action : TargetAction) → name ≡ other → form ≡ source → IsMove atom form (λ state. truth state form) name cost action → IsMove atom source (λ state. truth state source) other cost action
with_same atom cost name other form source action same is move = with_condition atom cost name other form source (λ state. truth state form) (λ state. truth state source) action same (λ state. ap (truth state) is) (λ allowed within. ap (has_atoms allowed) is ∙ within) move

-- ---- names with numbers have no upper case letters

pub lowered_collect : (n : ℕ) → n < 2 ^ 64 → str_to_ascii_lowercase (collect_name n) ≡ collect_name n
lowered_collect n fits = ap (λ digits. 99 ∷ 111 ∷ 108 ∷ 108 ∷ 101 ∷ 99 ∷ 116 ∷ digits) (lowered_decimal n fits)

pub lowered_forgo : (n : ℕ) → n < 2 ^ 64 → str_to_ascii_lowercase (forgo_name n) ≡ forgo_name n
lowered_forgo n fits = ap (λ digits. 102 ∷ 111 ∷ 114 ∷ 103 ∷ 111 ∷ digits) (lowered_decimal n fits)

-- ---- more actions

settles_more : (first number : ℕ) (front back : List SoftEnd) (actions more : List TargetAction) → Settles first number front actions → Settles first (number + length front) back more → Settles first number (front ++ back) (actions ++ more)
settles_more first number [] back [] more settles own = subst (λ n. Settles first n back more) (omega arith) own
settles_more first number [] back (action ∷ actions) more settles own = absurd settles
settles_more first number (other ∷ front) back [] more settles own = absurd settles
settles_more first number (other ∷ front) back (action ∷ []) more settles own = absurd settles
settles_more first number (other ∷ front) back (one ∷ two ∷ actions) more settles own =
    (settles.0, settles_more first (number + 1) front back actions more settles.1 (subst (λ n. Settles first n back more) (omega arith) own))

-- the actions of the next instance stand behind those of the earlier ones
pub settles_next : (first number : ℕ) (instances : List SoftEnd) (instance : SoftEnd) (settling more : List TargetAction) → number < length instances → get_or instances number instance ≡ instance
    → Settles first 0 (take number instances) settling → Settles first number (instance ∷ []) more → Settles first 0 (take (number + 1) instances) (settling ++ more)
settles_next first number instances instance settling more within is settles own =
    let front : take (number + 1) instances ≡ take number instances ++ instance ∷ [] = take_more instances number instance within ∙ ap (λ one. take number instances ++ one ∷ []) is in
    let count : length (take number instances) ≡ number = length-take-le number instances (omega (arith, within)) in
    subst (λ list. Settles first 0 list (settling ++ more)) (sym front)
    (settles_more first 0 (take number instances) (instance ∷ []) settling more settles (subst (λ n. Settles first n (instance ∷ []) more) (omega (arith, count)) own))

-- `finish`, and behind it those that settle the instances
pub actions_behind : (first : ℕ) (finish : Form) (instances : List SoftEnd) (begin settling : List TargetAction) → AreActions first finish [] begin → Settles first 0 instances settling → AreActions first finish instances (begin ++ settling)
actions_behind first finish instances [] settling are settles = absurd are
actions_behind first finish instances (action ∷ []) settling are settles = (are.0, settles)
actions_behind first finish instances (action ∷ other ∷ actions) settling are settles = absurd are.1

-- ---- their atoms are below a count

move_sized : (size atom cost : ℕ) (source : Form) (condition : State → Bool) (name : List ℕ) (action : TargetAction) → IsMove atom source condition name cost action → is_below size source ≡ true → atom + 1 < size → is_sized_action size action ≡ true
move_sized size atom cost source condition name action move below room =
    let allowed : ℕ → Bool = λ other. nat_lt other size in
    let here = lt-ltb atom size (omega (arith, room)) in
    let next = lt-ltb (atom + 1) size room in
    and_from (is_below size action.pre) _ (move.reads allowed here below)
    (ap (list_all (is_sized_change size)) move.moves ∙ (λ i. (here i && has_atoms-True allowed i) && ((next i && has_atoms-True allowed i) && true)))

pub begin_sized : (size first : ℕ) (finish : Form) (begin : List TargetAction) → AreActions first finish [] begin → is_below size finish ≡ true → first + 1 < size → list_all (is_sized_action size) begin ≡ true
begin_sized size first finish [] are below room = absurd are
begin_sized size first finish (action ∷ []) are below room = and_from (is_sized_action size action) true (move_sized size (first + 0) _ finish _ _ action are.0 below (omega (arith, room))) refl
begin_sized size first finish (action ∷ other ∷ actions) are below room = absurd are.1

pub settling_sized : (size first number : ℕ) (instance : SoftEnd) (actions : List TargetAction) → Settles first number (instance ∷ []) actions → is_below size instance.accept ≡ true → first + number + 2 < size → list_all (is_sized_action size) actions ≡ true
settling_sized size first number instance [] settles below room = absurd settles
settling_sized size first number instance (action ∷ []) settles below room = absurd settles
settling_sized size first number instance (collect ∷ forgo ∷ []) settles below room =
    and_from (is_sized_action size collect) _ (move_sized size (first + (number + 1)) _ instance.accept _ _ collect settles.0.collects below (omega (arith, room)))
    (and_from (is_sized_action size forgo) true (move_sized size (first + (number + 1)) _ instance.accept _ _ forgo settles.0.forgoes below (omega (arith, room))) refl)
settling_sized size first number instance (collect ∷ forgo ∷ other ∷ actions) settles below room = absurd settles.1
