use Rattle.std.proofs.Common.{rules, ◌≡◌, true, [], refl, sym, subst}
use Rattle.p3_formula.specs.declared.form.Form.TheVariants.{True}
use Rattle.p3_expansion.specs.Changes.{always, ChangesStand}
use Rattle.p3_expansion.proofs.ExpansionLemmas.{stands-constant}
use Rattle.p3_expansion.proofs.effect.made_changes.Goals as goal

pub returns : goal.returns
returns c =
    let N = c.args.numbers.now in
    let S = c.args.statics.now in
    let atoms = c.args.work.now.atoms in
    let empty : c.from-made.result ≡ [] = search rules in
    record {
      grows = c.in_ok-push_changes.ensures.grows;
      stand =
          c.in_ok-push_changes.ensures.made always (record { stands = stands-constant N S atoms always True true refl (λ s settled. refl); free = λ is. refl }) []
          (subst (ChangesStand N S atoms []) (sym empty) tt);
    }
