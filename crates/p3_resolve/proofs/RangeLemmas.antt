-- Lists of types, each once.
use Rattle.std.proofs.Common.{◌≡◌, ◌∙◌, ℕ, ◌+◌, ◌<◌, List, [], ◌∷◌, ◌++◌, length, take, get_or, map, refl, sym, ap}
use Rattle.std.specs.Prelude.{fold}
use denote.Ref.{Bor}
use Rattle.std.proofs.lemmas.List.{map-append, take_more}
use Rattle.p3_task.specs.Names.{Name}
use Rattle.p3_numbers.specs.Names.{with_list}
use Rattle.p3_resolve.specs.Listed.{lists_in}
use Rattle.p3_resolve.specs.Numbers.{names_in}
use Rattle.p3_resolve.specs.Ranges.{lists_once}
use Rattle.p3_task.specs.Types.{names_of}
use Rattle.p3_task.specs.declared.term.Ref.{Ref}

fold-push : {A B : Type 0} (f : B → A → B) (start : B) (xs : List A) (x : A) → fold f start (xs ++ x ∷ []) ≡ f (fold f start xs) x
fold-push f start [] x = refl
fold-push f start (y ∷ xs) x = fold-push f (f start y) xs x

-- the names of the lists, one list more
pub names-more : (lists : List (Bor (List Ref))) (i : ℕ) (types : Bor (List Ref)) → i < length lists → types ≡ get_or lists i types
    → map names_of (lists_in (take (i + 1) lists)) ≡ map names_of (lists_in (take i lists)) ++ names_of types.now ∷ []
names-more lists i types within read =
    ap (λ all. map names_of (lists_in all)) (take_more lists i types within ∙ ap (λ item. take i lists ++ item ∷ []) (sym read))
    ∙ ap (map names_of) (map-append (λ (one : Bor (List Ref)). one.now) (take i lists) (types ∷ []))
    ∙ map-append names_of (lists_in (take i lists)) (types.now ∷ [])

pub each_list-more : (now next : List (List Name)) (lists : List (Bor (List Ref))) (i : ℕ) (types : Bor (List Ref)) → i < length lists → types ≡ get_or lists i types
    → now ≡ lists_once (lists_in (take i lists)) → next ≡ with_list now (names_of types.now) → next ≡ lists_once (lists_in (take (i + 1) lists))
each_list-more now next lists i types within read so_far is =
    is ∙ ap (λ all. with_list all (names_of types.now)) so_far ∙ sym (fold-push with_list [] (map names_of (lists_in (take i lists))) (names_of types.now))
    ∙ ap (fold with_list []) (sym (names-more lists i types within read))

-- the same as they are numbered
pub names_in-more : (lists : List (Bor (List Ref))) (i : ℕ) (types : Bor (List Ref)) → i < length lists → types ≡ get_or lists i types
    → names_in (take (i + 1) lists) ≡ names_in (take i lists) ++ names_of types.now ∷ []
names_in-more lists i types within read =
    ap names_in (take_more lists i types within ∙ ap (λ item. take i lists ++ item ∷ []) (sym read)) ∙ map-append (λ (one : Bor (List Ref)). names_of one.now) (take i lists) (types ∷ [])
