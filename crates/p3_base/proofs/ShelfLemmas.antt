-- A map in memory answers as the finite map that contracts see.
use Rattle.std.proofs.Common.{◌≡◌, ◌∙◌, ℕ, true, false, cond, List, [], ◌∷◌, Option, Some, refl, sym, ap}
use Rattle.std.specs.Option.{option_map}
use Rattle.std.specs.Ordering.{nat_cmp, match_ordering}
use Rattle.std.specs.declared.cmp.Ordering.TheVariants.{Less, Equal, Greater}
use Rattle.std.specs.Cmp.Lexicographic.{slice_cmp, nat_list_cmp_total}
use Rattle.std.specs.Map.{lookup}
use Rattle.std.specs.BTreeMap.{insert_entry, is_at}
use Rattle.std.specs.FinMap.{get, insert, from_entries, get-from_entries, get-insert, same_map, find, slice_cmp-IsAntisymmetric, nat_cmp-IsAntisymmetric}
use Rattle.std.specs.FinMap.Entries.{put, by_order, find-put}
use Rattle.std.specs.declared.vec.Vec.{Vec}
use Rattle.std.specs.declared.alloc.Global.{Global}
use Rattle.p3_base.specs.Outside.{listed}

abbrev pub Bytes : Type 0
Bytes = Vec ℕ Global

-- looking an entry up by its bytes
abbrev found : List ℕ → List (Bytes × Bytes) → Option Bytes
found name entries = lookup (is_at (λ key. slice_cmp nat_cmp name key.items)) entries

find-listed : (entries : List (Bytes × Bytes)) (name : List ℕ) → find (slice_cmp nat_cmp) name (listed entries) ≡ option_map (λ bytes. bytes.items) (found name entries)
find-listed [] name = refl
find-listed (entry ∷ entries) name =
    elim (is_at (slice_cmp nat_cmp name) entry.0.items) as (λ here.
    cond here (Some entry.1.items) (find (slice_cmp nat_cmp) name (listed entries)) ≡ option_map (λ bytes. bytes.items) (cond here (Some entry.1) (found name entries))) [
      | true ↦ refl
      | false ↦ find-listed entries name
    ]

-- what the map holds under a name is what the entries hold
pub get-listed : (entries : List (Bytes × Bytes)) (name : List ℕ)
    → get (from_entries {R = slice_cmp nat_cmp} (listed entries)) name ≡ option_map (λ bytes. bytes.items) (found name entries)
get-listed entries name = get-from_entries nat_list_cmp_total (listed entries) name ∙ find-listed entries name

listed-insert_entry : (entries : List (Bytes × Bytes)) (name bytes : Bytes)
    → listed (insert_entry (λ a b. slice_cmp nat_cmp a.items b.items) entries name bytes) ≡ put (slice_cmp nat_cmp) name.items bytes.items (listed entries)
listed-insert_entry [] name bytes = refl
listed-insert_entry (entry ∷ entries) name bytes =
    elim (slice_cmp nat_cmp name.items entry.0.items) as (λ order.
    listed (match_ordering order ((name, bytes) ∷ entry ∷ entries) ((entry.0, bytes) ∷ entries) (entry ∷ insert_entry (λ a b. slice_cmp nat_cmp a.items b.items) entries name bytes))
    ≡ by_order order ((name.items, bytes.items) ∷ listed (entry ∷ entries)) ((entry.0.items, bytes.items) ∷ listed entries) ((entry.0.items, entry.1.items) ∷ put (slice_cmp nat_cmp) name.items bytes.items (listed entries))) [
      | Less ↦ refl
      | Equal ↦ refl
      | Greater ↦ ap (λ rest. (entry.0.items, entry.1.items) ∷ rest) (listed-insert_entry entries name bytes)
    ]

-- putting an entry into the map in memory puts it into the finite map
pub from_entries-insert_entry : (entries : List (Bytes × Bytes)) (name bytes : Bytes)
    → from_entries {R = slice_cmp nat_cmp} (listed (insert_entry (λ a b. slice_cmp nat_cmp a.items b.items) entries name bytes))
    ≡ insert (from_entries (listed entries)) name.items bytes.items
from_entries-insert_entry entries name bytes =
    same_map nat_list_cmp_total (slice_cmp-IsAntisymmetric nat_cmp-IsAntisymmetric) _ _ (λ q.
    get-from_entries nat_list_cmp_total _ q
    ∙ ap (find (slice_cmp nat_cmp) q) (listed-insert_entry entries name bytes)
    ∙ find-put (slice_cmp nat_cmp) nat_list_cmp_total q name.items bytes.items (listed entries)
    ∙ sym (get-insert nat_list_cmp_total (from_entries (listed entries)) name.items bytes.items q
    ∙ ap (cond (is_at (slice_cmp nat_cmp q) name.items) (Some bytes.items)) (get-from_entries nat_list_cmp_total (listed entries) q)))
