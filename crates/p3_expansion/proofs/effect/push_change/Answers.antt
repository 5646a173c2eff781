use Rattle.std.proofs.Common.{◌∙◌, ◌∷◌, [], Some, refl, ap, subst}
use Rattle.p3_expansion.specs.Atoms.{atom_at}
use Rattle.p3_expansion.specs.Expansions.{Grows}
use Rattle.p3_expansion.proofs.GrowthLemmas.{grows-trans, grows-none}
use Rattle.p3_expansion.proofs.effect.push_change.Goals as goal

pub returns : goal.returns
returns c =
    let atom = atom_at c.args.slots.now c.args.predicate c.args.args.now in
    record {
      change = record { cond = c.args.cond; atom = c.in_ok-atom.atom; add = c.args.add };
      is = c.in_ok-push.ensures.ok;
      adds = refl;
      stored = c.in_ok-atom.ensures.stored ∙ ap Some c.in_ok-spell.ensures.words;
      cond = refl;
      tidy = c.requires;
      grows = grows-trans (atom ∷ []) c.args.work.now c.spell.new.self c.atom_number.new.self (grows-none (atom ∷ []) c.args.work.now c.spell.new.self c.in_ok-spell.ensures.grows) (subst (λ words. Grows (words ∷ []) c.spell.new.self c.atom_number.new.self) c.in_ok-spell.ensures.words c.in_ok-atom.ensures.grows);
    }
