use Rattle.std.proofs.Common.{◌∙◌, ◌≡◌, false, length, subst, sym, ap}
use Rattle.std.specs.Prelude.{IsTrue}
use Rattle.std.specs.List.{All}
use Rattle.std.proofs.lemmas.List.Elements.{All-weaker}
use Rattle.std.proofs.lemmas.Result.{IfOk-weaker}
use Rattle.p3_formula.specs.Simplified.{is_value}
use Rattle.p3_formula.specs.Tidy.{is_tidy}
use Rattle.p3_formula.specs.Weighted.{weighted}
use Rattle.p3_precprefs.specs.declared.copies.StepCopy.{StepCopy}
use Rattle.p3_precprefs.specs.Copies.{AreApart, HasAtomsIn, HasOneCopy, IsSublist, fitting, patterns, violated_lists}
use Rattle.p3_precprefs.proofs.CopyLemmas.{one_copy, no_copy, all_are_parts, in_atoms}
use Rattle.p3_precprefs.proofs.JoinedLaws.{IsPart}
use Rattle.p3_precprefs.proofs.PatternLemmas.{all_of, apart_of, apart_patterns, long_patterns, of_lists, some_patterns}
use Rattle.p3_precprefs.proofs.copies.split_under.Goals as goal

pub returns-clause-one_copy : goal.returns-clause-one_copy
returns-clause-one_copy c = IfOk-weaker c.split_simple.result _ _ (λ copies is state holds. subst (λ list. HasOneCopy c.args.weights.now c.args.step.now list state) (sym is)
    (one_copy c.args.weights.now c.args.step.now c.in_ok-simple.simple state (c.in_ok-simple.ensures.truth state ∙ holds))) c.split_simple.ensures

pub returns-clause-no_copy : goal.returns-clause-no_copy
returns-clause-no_copy c = IfOk-weaker c.split_simple.result _ _ (λ copies is state fails. ap (fitting state) is ∙ no_copy c.args.weights.now c.args.step.now c.in_ok-simple.simple state (c.in_ok-simple.ensures.truth state ∙ fails)) c.split_simple.ensures

pub returns-clause-shown : goal.returns-clause-shown
returns-clause-shown c =
    let count = length (weighted c.args.weights.now.by_name c.args.step.now.prefs) in
    IfOk-weaker c.split_simple.result _ _ (λ copies is. subst (λ list. IsSublist (violated_lists list) (patterns count)) (sym is) (some_patterns c.args.weights.now c.args.step.now c.in_ok-simple.simple)) c.split_simple.ensures

pub returns-clause-apart : goal.returns-clause-apart
returns-clause-apart c =
    let count = length (weighted c.args.weights.now.by_name c.args.step.now.prefs) in
    IfOk-weaker c.split_simple.result _ _ (λ copies is. subst (λ list. AreApart (violated_lists list)) (sym is)
    (apart_of _ (patterns count) (some_patterns c.args.weights.now c.args.step.now c.in_ok-simple.simple) (apart_patterns count))) c.split_simple.ensures

pub returns-clause-entries : goal.returns-clause-entries
returns-clause-entries c =
    let count = length (weighted c.args.weights.now.by_name c.args.step.now.prefs) in
    IfOk-weaker c.split_simple.result _ _ (λ copies is. of_lists (λ list. length list ≡ count) copies (subst (λ list. All (λ list. length list ≡ count) (violated_lists list)) (sym is)
    (all_of (λ list. length list ≡ count) _ (patterns count) (some_patterns c.args.weights.now c.args.step.now c.in_ok-simple.simple) (long_patterns count)))) c.split_simple.ensures

pub returns-clause-possible : goal.returns-clause-possible
returns-clause-possible c = IfOk-weaker c.split_simple.result _ _ (λ copies is. subst (All (λ (copy : StepCopy). is_value false copy.pre ≡ false)) (sym is)
    (All-weaker (λ (copy : StepCopy). IsPart copy.pre) (λ (copy : StepCopy). is_value false copy.pre ≡ false) (λ copy part. part.possible) _ (all_are_parts c.args.weights.now c.args.step.now c.in_ok-simple.simple c.in_ok-simple.ensures.tidy))) c.split_simple.ensures

pub returns-clause-tidy : goal.returns-clause-tidy
returns-clause-tidy c = IfOk-weaker c.split_simple.result _ _ (λ copies is. subst (All (λ (copy : StepCopy). IsTrue (is_tidy copy.pre))) (sym is)
    (All-weaker (λ (copy : StepCopy). IsPart copy.pre) (λ (copy : StepCopy). IsTrue (is_tidy copy.pre)) (λ copy part. part.tidy) _ (all_are_parts c.args.weights.now c.args.step.now c.in_ok-simple.simple c.in_ok-simple.ensures.tidy))) c.split_simple.ensures

pub returns-clause-atoms : goal.returns-clause-atoms
returns-clause-atoms c = IfOk-weaker c.split_simple.result _ _ (λ copies is allowed within bodies. subst (All (λ (copy : StepCopy). HasAtomsIn allowed copy.pre)) (sym is)
    (in_atoms c.args.weights.now c.args.step.now c.in_ok-simple.simple allowed (c.in_ok-simple.ensures.atoms allowed within) bodies)) c.split_simple.ensures
