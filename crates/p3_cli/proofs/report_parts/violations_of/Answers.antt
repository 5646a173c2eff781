use Rattle.std.proofs.Common.{◌≡◌, ◌∙◌, ◌+◌, ℕ, List, [], ◌∷◌, ◌++◌, Some, ap, arith, map, sym, take}
use Rattle.std.specs.Option.{option_copied}
use Rattle.std.specs.Prelude.{slice_get, zero, suc}
use Rattle.p3_reports.specs.Contents.{count_of}
use Rattle.p3_reports.specs.declared.part.NameCount.{NameCount}
use Rattle.p3_task.specs.Metrics.{violated}
use Rattle.p3_task.specs.PreferenceNames.{ordered_names}
use Rattle.p3_cli.proofs.report_parts.violations_of.Goals as goal

map-one_more : {A B : Type 0} (f : A → B) (things : List A) (k : ℕ) (thing : A) → slice_get things k ≡ Some thing → map f (take (suc k) things) ≡ map f (take k things) ++ f thing ∷ []
map-one_more f [] k thing e = absurd (cc)
map-one_more f (first ∷ things) zero thing e = let same : first ≡ thing = cc in ap (λ one. f one ∷ []) same
map-one_more f (first ∷ things) (suc k) thing e = ap (λ rest. f first ∷ rest) (map-one_more f things k thing e)

pub loop-number-preserved : goal.loop-number-preserved
loop-number-preserved c = λ plan are.
    let T = c.args.checked.now.task in
    let number = c.loop-number.number in
    let names = ordered_names T in
    let word = c.in-Some.name.now in
    let counted = map (count_of T plan) (take number names) in
    let found : slice_get names number ≡ Some word = sym c.name.ensures ∙ ap option_copied c.in-Some.is in
    let next : number + 1 ≡ suc number = omega arith in
    let count : c.violations.result ≡ violated T plan word = c.violations.ensures T c.requires plan are word found in
    let entry : NameCount = record { name = c.in_ok-copied.field-0; count = c.violations.result } in
    let same : entry ≡ count_of T plan word = λ i. record { name = c.in_ok-copied.ensures i; count = count i } in
    c.in_ok-push.ensures.ok
    ∙ ap (λ items. items ++ entry ∷ []) (c.loop-number.invariant plan are)
    ∙ ap (λ one. counted ++ one ∷ []) same
    ∙ sym (ap (λ n. map (count_of T plan) (take n names)) next ∙ map-one_more (count_of T plan) names number word found)
