-- Types that are declared directly below others.
use Rattle.std.proofs.Common.{◌≡◌, ◌∙◌, ℕ, ◌+◌, ◌<◌, Bool, true, false, if◌then◌else◌, cond, List, [], ◌∷◌, ◌++◌, map, length, take, get_or, Some, refl, sym, ap}
use Rattle.std.specs.Prelude.{bytes_eq, filter_map}
use Rattle.std.proofs.lemmas.List.{append-nil, take_more}
use Rattle.std.proofs.lemmas.List.Concat.{flat_map-append}
use Rattle.std.proofs.lemmas.List.Elements.{filter_map-append}
use Rattle.std.proofs.lemmas.Slice.Eq.{bytes_eq-Decides}
use denote.Ref.{Bor}
use Rattle.p3_task.specs.Names.{Name, same_name}
use Rattle.p3_task.specs.Types.{pair_of}
use Rattle.p3_task.specs.declared.task.Kind.{Kind}
use Rattle.p3_hierarchy.specs.Kinds.{lows_under, Lookup, words_in, Files, FilesKind, AreFiled}

-- a longer list stands where one stood, or none
pub files-updates : (old new : Lookup) (high : Bor (List ℕ)) (low : Name) (words : List (Bor (List ℕ)))
    → ((one other : Bor (List ℕ)) → one.now ≡ other.now → old one ≡ old other) → map (λ word. word.now) words ≡ words_in (old high) ++ low ∷ []
    → ((other : Bor (List ℕ)) → new other ≡ cond (bytes_eq high.now other.now) (Some words) (old other)) → Files low high.now old new
files-updates old new high low words by_name longer updates other = ap words_in (updates other) ∙ by (bytes_eq high.now other.now) refl
  where
    by : (same : Bool) → bytes_eq high.now other.now ≡ same → words_in (cond same (Some words) (old other)) ≡ words_in (old other) ++ ((if same then low ∷ [] else []) ++ [])
    by true is = longer ∙ ap (λ found. words_in found ++ low ∷ []) (by_name high other ((bytes_eq-Decides high.now other.now).0 is))
    by false is = sym (append-nil (words_in (old other)))

pub lows_under-append : (first second : List (Name × Name)) (high : Name) → lows_under (first ++ second) high ≡ lows_under first high ++ lows_under second high
lows_under-append first second high = flat_map-append (λ pair. if same_name pair.1 high then pair.0 ∷ [] else []) first second

pub filed-more : (kinds : List Kind) (at : ℕ) (kind : Kind) (old new : Lookup) → at < length kinds → kind ≡ get_or kinds at kind
    → AreFiled (take at kinds) old → FilesKind kind old new → AreFiled (take (at + 1) kinds) new
filed-more kinds at kind old new within read before files high =
    files high ∙ (λ i. before high i ++ lows_under (filter_map pair_of (kind ∷ [])) high.now)
    ∙ sym (lows_under-append (filter_map pair_of (take at kinds)) (filter_map pair_of (kind ∷ [])) high.now)
    ∙ ap (λ pairs. lows_under pairs high.now) (sym (filter_map-append pair_of (take at kinds) (kind ∷ [])) ∙ ap (filter_map pair_of) (sym (take_more kinds at kind within ∙ ap (λ one. take at kinds ++ one ∷ []) (sym read))))
