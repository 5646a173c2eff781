-- What is held of the inputs that are asked for.
use Rattle.std.proofs.Common.{◌≡◌, ◌∙◌, ◌↔◌, ℕ, Bool, true, List, [], ◌∷◌, Option, Some, length, map, refl, sym, subst}
use Rattle.std.specs.Prelude.{zip}
use Rattle.std.specs.List.{list_all}
use Rattle.std.proofs.lemmas.Bool.{and_from, and_parts}
use Rattle.p3_base.specs.Outside.{Store}
use Rattle.p3_base.specs.declared.refusal.Role.{Role}
use Rattle.p3_tree.specs.Commands.{Command, input, row}
use Rattle.p3_cli.specs.Asked.{asked_command}
use Rattle.p3_cli.specs.Run.{AreHeld}
use Rattle.p3_cli.specs.Store.{AreStored}
use Rattle.p3_cli.specs.Sure.{is_held}
use Rattle.p3_cli.specs.declared.request.Request.{Request}

stored : (store : Store) (roles : List Role) (names : List (List ℕ)) → length names ≡ length roles → list_all (is_held store) names ≡ true → AreStored (Some store) (map input (zip roles names))
stored store [] [] same all = tt
stored store [] (name ∷ names) same all = absurd (cc)
stored store (role ∷ roles) [] same all = tt
stored store (role ∷ roles) (name ∷ names) same all =
    let parts = and_parts (is_held store name) (list_all (is_held store) names) all in
    (parts.0, stored store roles names (cc) parts.1)

holds : (store : Store) (roles : List Role) (names : List (List ℕ)) → length names ≡ length roles → AreStored (Some store) (map input (zip roles names)) → list_all (is_held store) names ≡ true
holds store [] [] same all = refl
holds store [] (name ∷ names) same all = absurd (cc)
holds store (role ∷ roles) [] same all = refl
holds store (role ∷ roles) (name ∷ names) same all = and_from (is_held store name) (list_all (is_held store) names) all.0 (holds store roles names (cc) all.1)

pub are_held_as : (store : Store) (request : Request) (answer : Bool) (command : Option Command) → Some (asked_command request) ≡ command → answer ≡ list_all (is_held store) request.reads.now
    → (answer ≡ true) ↔ AreHeld command (Some store)
are_held_as store request answer command asks is =
    let roles = (row request.kind).reads in
    let names = request.reads.now in
    subst (λ (c : Option Command). (answer ≡ true) ↔ AreHeld c (Some store)) asks
    ((λ yes. stored store roles names request.all_reads (sym is ∙ yes)), (λ all. is ∙ holds store roles names request.all_reads all))
