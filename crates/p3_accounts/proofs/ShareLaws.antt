-- Shares that are those of a plan are printed as what its metric is made of, and atoms as facts.
use Rattle.std.proofs.Common.{◌≡◌, ◌++◌, ℕ, ◌-◌, List, [], ◌∷◌, refl}
use Rattle.std.specs.Prelude.{pos, ◌*ℤ◌, codes, flat_map}
use Rattle.std.specs.Fmt.{decimal}
use Rattle.std.specs.List.{AllZip}
use Rattle.p3_numbers.specs.declared.numbers.Numbers.{Numbers}
use Rattle.p3_task.specs.Metrics.{metric_places}
use Rattle.p3_task.specs.Names.{Name}
use Rattle.p3_task.specs.Plans.{Plan}
use Rattle.p3_task.specs.PreferenceNames.{ordered_names}
use Rattle.p3_task.specs.declared.task.Task.{Task}
use Rattle.p3_reports.proofs.ContentsLaws.{quantity_is}
use Rattle.p3_tree.specs.Reports.Lines.{entry}
use Rattle.p3_tree.specs.Reports.Quantities.{shown_quantity}
use Rattle.p3_accounts.specs.Shares.{IsNameShare, SharesAreOfPlans, name_line, name_shares_text, share_line}
use Rattle.p3_accounts.specs.Words.{AtomsAreFacts}
use Rattle.p3_accounts.specs.declared.share.NameShare.{NameShare}

pub atoms_are_facts : AtomsAreFacts
atoms_are_facts N [] = refl
atoms_are_facts N (predicate ∷ objects) = refl

shares-zip : (N : Numbers) (T : Task) (plan : Plan) (places : ℕ) → places ≡ metric_places T → (names : List Name) (shares : List NameShare) → AllZip (IsNameShare N T plan) names shares
    → name_shares_text N places shares ≡ flat_map (name_line T plan) names
shares-zip N T plan places same [] [] are = refl
shares-zip N T plan places same [] (share ∷ shares) are = absurd are
shares-zip N T plan places same (name ∷ names) [] are = absurd are
shares-zip N T plan places same (name ∷ names) (share ∷ shares) (is, are) =
    λ i. share_line (is.name i) (shown_quantity (same i) (is.added i)) (decimal (is.count i)) (shown_quantity (same i) (is.added i *ℤ pos (is.count i)))
    ++ shares-zip N T plan places same names shares are i

pub shares_are_of_plans : SharesAreOfPlans
shares_are_of_plans N T plan shares are = λ i.
    entry (codes "base") (quantity_is are.its_base i)
    ++ shares-zip N T plan shares.places are.places (ordered_names T) shares.names are.names i
    ++ share_line (codes "cost") (shown_quantity (are.places i - are.places_of_costs i) (are.added i)) (shown_quantity (are.places_of_costs i) (pos (are.grown i)))
    (shown_quantity (are.places i) (are.added i *ℤ pos (are.grown i)))
    ++ (entry (codes "loss") (quantity_is are.its_loss i) ++ entry (codes "metric") (quantity_is are.its_value i))
