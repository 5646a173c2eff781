-- The names that are told are numbered as those of a written task.
use Rattle.std.proofs.Common.{◌≡◌, ◌∙◌, suc, ◌+◌, List, [], ◌∷◌, map, length, refl, ap, arith, length-append}
use Rattle.std.specs.List.{AllZip}
use Rattle.std.proofs.lemmas.List.{length-map}
use Rattle.p3_base.specs.Operators.{Pairs}
use Rattle.p3_base.specs.declared.operator.Operator.{Operator}
use Rattle.p3_base.specs.declared.operator.Operator.TheVariants.{AtEnd, Always, Sometime, AtMostOnce, SometimeAfter, SometimeBefore}
use Rattle.p3_base.specs.declared.refusal.Role.{Role}
use Rattle.p3_base.specs.declared.refusal.Role.TheVariants.{Domain, Problem}
use Rattle.p3_task.specs.Constraints.{HardModal, Instance, domain_instances, hard_list, instances, operators, problem_instances}
use Rattle.p3_task.specs.declared.state.Fact.{Fact}
use Rattle.p3_task.specs.declared.task.Task.{Task}
use Rattle.p3_formula.specs.GroundModal.{GroundModal}
use Rattle.p3_formula.specs.Kept.{atom_count}
use Rattle.p3_formula.specs.declared.form.Form.{Form}
use Rattle.p3_formula.specs.declared.modal.GroundSoft.{GroundSoft}
use Rattle.p3_expansion.proofs.WalkLemmas.{zip-weaker}
use Rattle.p3_ground.specs.StandsFor.{FormStands, HardStands, SoftStands}
use Rattle.p3_scenes.specs.Bound.{instance_roles}
use Rattle.p3_accounts.specs.Operators.{kind_of}
use Rattle.p3_unmet.specs.Sources.{Texts}
use Rattle.p3_meanings.specs.Chains.{chain_said}
use Rattle.p3_meanings.specs.Monitors.{watch_count}
use Rattle.p3_meanings.specs.Numbered.{ArePartsWatched, IsWatchedBy, NamesAreNumbered}

-- one operator over pairs is watched by as many atoms
pair_is_watched : {F : Type 0} (related : F → Form → Type 0) (operator : Operator F) (made : GroundModal) → Pairs related operator made → watch_count (kind_of operator) ≡ atom_count made
pair_is_watched related (AtEnd f) (AtEnd g) pair = refl
pair_is_watched related (Always f) (Always g) pair = refl
pair_is_watched related (Sometime f) (Sometime g) pair = refl
pair_is_watched related (AtMostOnce f) (AtMostOnce g) pair = refl
pair_is_watched related (SometimeAfter f f2) (SometimeAfter g g2) pair = refl
pair_is_watched related (SometimeBefore f f2) (SometimeBefore g g2) pair = refl
pair_is_watched related _ _ pair = absurd pair

hard_is_watched : (T : Task) (atoms : List Fact) (hard : HardModal) (made : GroundModal) → HardStands T atoms hard made → IsWatchedBy hard made
hard_is_watched T atoms hard made stands = pair_is_watched (FormStands T atoms hard.env) hard.modal made stands

parts_are_watched : (T : Task) (atoms : List Fact) (instance : Instance) (soft : GroundSoft) → SoftStands T atoms instance soft → ArePartsWatched T instance soft
parts_are_watched T atoms instance soft stands = zip-weaker (HardStands T atoms) IsWatchedBy (hard_is_watched T atoms) (operators T instance.env instance.body) soft.parts stands.parts

-- ---- the chain

chain_length : (texts : Texts) (others : List Instance) (roles : List Role) → length others ≡ length roles → length (chain_said texts others roles) ≡ length others + 1
chain_length texts [] roles same = refl
chain_length texts (instance ∷ others) [] same = absurd (omega (arith, same))
chain_length texts (instance ∷ others) (role ∷ roles) same =
    let rest = chain_length texts others roles (omega (arith, same)) in
    ap suc rest ∙ omega arith

zipped_length : {A B : Type 0} (R : A → B → Type 0) (xs : List A) (ys : List B) → AllZip R xs ys → length xs ≡ length ys
zipped_length R [] [] all = refl
zipped_length R [] (y ∷ ys) all = absurd all
zipped_length R (x ∷ xs) [] all = absurd all
zipped_length R (x ∷ xs) (y ∷ ys) all = ap suc (zipped_length R xs ys all.1)

roles_are_many : (T : Task) → length (instances T) ≡ length (instance_roles T)
unfolding instances
roles_are_many T =
    omega (
      arith,
      length-append (domain_instances T) (problem_instances T),
      length-append (map (λ (instance : Instance). Domain) (domain_instances T)) (map (λ (instance : Instance). Problem) (problem_instances T)),
      length-map (domain_instances T) (λ (instance : Instance). Domain),
      length-map (problem_instances T) (λ (instance : Instance). Problem),
    )

pub names_are_numbered : NamesAreNumbered
names_are_numbered T G is = record {
  hard = zip-weaker (HardStands T is.atoms) IsWatchedBy (hard_is_watched T is.atoms) (hard_list T) G.hard is.stands.hard;
  soft = zip-weaker (SoftStands T is.atoms) (ArePartsWatched T) (parts_are_watched T is.atoms) (instances T) G.soft is.stands.soft;
  chain = λ texts. chain_length texts (instances T) (instance_roles T) (roles_are_many T) ∙ ap (λ n. n + 1) (zipped_length (SoftStands T is.atoms) (instances T) G.soft is.stands.soft);
}
