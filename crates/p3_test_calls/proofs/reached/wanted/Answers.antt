use Rattle.std.proofs.Common.{◌∙◌, ◌+◌, ◌<◌, nat_lt, true, [], ◌∷◌, refl, subst, sym, arith}
use Rattle.std.proofs.lemmas.Bool.{and_from, lt-ltb}
use Rattle.std.proofs.lemmas.List.Folds.{list_all-append}
use Rattle.p3_formula.specs.Forms.{has_atoms, AreBelow}
use Rattle.p3_formula.specs.declared.form.Form.TheVariants.{Atom}
use Rattle.p3_formula.proofs.FormLemmas.{has_atoms-Atom}
use Rattle.p3_test_calls.proofs.reached.wanted.Goals as goal

pub loop-place-preserved : goal.loop-place-preserved
loop-place-preserved c =
    let atom = c.args.first + c.loop-place.place in
    let inside : atom < 100010 = let asked = c.requires in let test = c.loop-place-test.true in omega (arith, asked, test) in
    subst (AreBelow 100010) (sym c.in_ok-push.ensures.ok)
    (list_all-append (has_atoms (λ a. nat_lt a 100010)) c.loop-place.parts (Atom atom ∷ [])
    ∙ and_from _ _ c.loop-place.invariant (and_from (has_atoms (λ a. nat_lt a 100010) (Atom atom)) true (has_atoms-Atom (λ a. nat_lt a 100010) atom ∙ lt-ltb atom 100010 inside) refl))
