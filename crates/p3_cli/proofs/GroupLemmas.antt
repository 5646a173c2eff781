-- What is true of each item that a place gives is true of all items of a grouped list.
use Rattle.std.proofs.Common.{true, false, not, ◌&&◌, List, [], ◌∷◌, ◌++◌, map, fold, Option, Some, None}
use Rattle.std.specs.List.{AllByRecursion}
use Rattle.p3_task.specs.Names.{is_empty}
use Rattle.p3_task.specs.Grammar.Words.{Place}
use Rattle.p3_task.specs.Grammar.Lists.{Scan, is_dash, with_type, with_item, scanned, grouped}
use Rattle.p3_task.specs.declared.expression.Expression.{Expression}
use Rattle.p3_types.proofs.Gives.{Gives, nothing, just, using, passing, whether, each_mapped, each_appended}

module _ {A B : Type 0} (P : A → Type 0) (Q : Expression → Type 0) (item : Place A) (type : Place B) (one : (e : Expression) → Q e → Gives P (item e)) where
  abbrev pub IsItem : A × Option B → Type 0
  IsItem pair = P pair.0

  record IsScanned (scan : Scan A B) : Type 0 where
    typed : AllByRecursion IsItem scan.typed
    waiting : AllByRecursion P scan.waiting

  all_items : (scan : Scan A B) → IsScanned scan → (found : Option B) → AllByRecursion IsItem (scan.typed ++ map (λ a. (a, found)) scan.waiting)
  all_items scan are found =
      each_appended IsItem scan.typed (map (λ a. (a, found)) scan.waiting) are.typed (each_mapped P IsItem (λ a. (a, found)) (λ a of. of) scan.waiting are.waiting)

  scanned_one : (state : Option (Scan A B)) → Gives IsScanned state → (e : Expression) → Q e → Gives IsScanned (scanned item type state e)
  scanned_one state before e has =
      using state _ before (λ scan are.
      whether scan.is_type_next _ _ (passing (type e) _ (λ found. just (with_type scan found) (record { typed = all_items scan are (Some found); waiting = tt })))
      (whether (is_dash e && not (is_empty scan.waiting)) _ _ (just (record scan { is_type_next = true }) (record { typed = are.typed; waiting = are.waiting }))
      (using (item e) _ (one e has) (λ found of.
      just (with_item scan found) (record { typed = are.typed; waiting = each_appended P scan.waiting (found ∷ []) are.waiting (of, tt) })))))

  scanned_all : (list : List Expression) → AllByRecursion Q list → (state : Option (Scan A B)) → Gives IsScanned state → Gives IsScanned (fold (scanned item type) state list)
  scanned_all [] each state before = before
  scanned_all (e ∷ list) each state before = scanned_all list each.1 (scanned item type state e) (scanned_one state before e each.0)

  pub grouped_gives : (list : List Expression) → AllByRecursion Q list → Gives (AllByRecursion IsItem) (grouped item type list)
  grouped_gives list each =
      let start : Scan A B = record { typed = []; waiting = []; is_type_next = false } in
      using _ _ (scanned_all list each (Some start) (just start (record { typed = tt; waiting = tt }))) (λ scan are.
      whether scan.is_type_next _ _ nothing (just _ (all_items scan are None)))
