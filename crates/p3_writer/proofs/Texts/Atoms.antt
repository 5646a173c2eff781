-- What the places of the grammar make of `(name)` and `(not (name))`.
use Rattle.std.proofs.Common.{◌≡◌, ◌∙◌, ℕ, Bool, [], ◌∷◌, Some, None, refl, ap}
use Rattle.std.specs.Prelude.{codes}
use Rattle.p3_task.specs.Erased.{erased_formula, erased_effect, erased_header, erased_init}
use Rattle.p3_task.specs.Grammar.Words.{◌>>=◌, Place, descend, predicate_place}
use Rattle.p3_task.specs.Grammar.Formulas.{formula_forms, formula_place}
use Rattle.p3_task.specs.Grammar.Formulas as formulas
use Rattle.p3_task.specs.Grammar.Effects.{effect_forms, effect_in}
use Rattle.p3_task.specs.Grammar.Effects as effects
use Rattle.p3_task.specs.Grammar.Halves.{init_forms, initial_in, true_entry, header_place, init_place}
use Rattle.p3_task.proofs.Computes.{texts_compute}
use Rattle.p3_task.specs.declared.effect.Effect.{Effect}
use Rattle.p3_task.specs.declared.effect.Effect.TheVariants as effect
use Rattle.p3_task.specs.declared.expression.Expression.{Expression}
use Rattle.p3_task.specs.declared.expression.Expression.TheVariants.{Word, Group}
use Rattle.p3_task.specs.declared.formula.Formula.TheVariants as formula
use Rattle.p3_task.specs.declared.task.Init.TheVariants as init
use Rattle.p3_task.specs.declared.term.Ref.{Ref}
use Rattle.p3_writer.specs.TaskOf as written
use Rattle.p3_writer.proofs.Texts.Places.{Given, choose_other, at_offset, checked}
use Rattle.p3_writer.proofs.Texts.Symbols.{Symbol, no_formula, no_effect, no_entry}

-- the place for an effect, where an increase may stand or not
unfoldable pub effect_at : Bool → Place Effect
effect_at free e = descend (λ word free. None) (λ list parts. effect_in parts) e free

module _ (at within : ℕ) (s : Symbol) where
  -- `(name)`
  abbrev pub atom_at : Expression
  atom_at = Group at (Word within s.name ∷ [])

  abbrev pred : Ref
  pred = at_offset s.name within

  pred_found : predicate_place (Word within s.name) ≡ Some pred
  pred_found = ap (λ passes. checked passes pred) s.is_predicate

  atom_found : formulas.atom_in (Word within s.name ∷ []) ≡ Some (record { pred = pred; args = [] })
  unfolding texts_compute
  atom_found = ap (λ found. found >>= λ name. Some (record { pred = name; args = [] })) pred_found

  pub atom_formula : Given erased_formula (formula_place atom_at) (formula.Atom (written.word s.name) [])
  unfolding texts_compute
  atom_formula = record {
    made = formula.Atom pred [];
    found = ap (λ form. form [])
        (choose_other s.name formula_forms (λ behind. formulas.atom_form (record { raw = Word within s.name; tree = None } ∷ [])) (no_formula s))
        ∙ ap (λ found. found >>= λ atom. Some (formula.Atom atom.pred atom.args)) atom_found;
    same = refl;
  }

  pub atom_added : (free : Bool) → Given erased_effect (effect_at free atom_at) (effect.Add (written.word s.name) [])
  unfolding texts_compute effect_at
  atom_added free = record {
    made = effect.Add pred [];
    found = ap (λ form. form [] free)
        (choose_other s.name effect_forms (λ behind. effects.add_form (record { raw = Word within s.name; tree = λ free. None } ∷ [])) (no_effect s))
        ∙ ap (λ found. found >>= λ atom. Some (effect.Add atom.pred atom.args)) atom_found;
    same = refl;
  }

  pub atom_deleted : (free : Bool) (outer word : ℕ)
      → Given erased_effect (effect_at free (Group outer (Word word (codes "not") ∷ atom_at ∷ []))) (effect.Del (written.word s.name) [])
  unfolding texts_compute effect_at
  atom_deleted free outer word = record {
    made = effect.Del pred [];
    found = ap (λ found. found >>= λ atom. Some (effect.Del atom.pred atom.args)) atom_found;
    same = refl;
  }

  pub atom_header : Given erased_header (header_place predicate_place atom_at) (written.header s.name)
  unfolding texts_compute
  atom_header = record {
    made = record { name = pred; params = [] };
    found = ap (λ found. found >>= λ name. Some (record { name = name; params = [] })) pred_found;
    same = refl;
  }

  pub atom_entry : Given erased_init (init_place atom_at) (init.True (written.word s.name) [])
  unfolding texts_compute
  atom_entry = record {
    made = init.True pred [];
    found = ap (λ form. form []) (choose_other s.name init_forms (λ behind. initial_in true_entry predicate_place (Word within s.name ∷ [])) (no_entry s))
        ∙ ap (λ found. found >>= λ name. Some (init.True name [])) pred_found;
    same = refl;
  }
