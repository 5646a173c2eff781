-- Changes that stand for the literals of an effect.
use Rattle.std.proofs.Common.{◌≡◌, ◌∙◌, ℕ, ◌+◌, ◌<◌, ◌≤◌, inl, inr, Bool, true, false, ◌&&◌, List, [], ◌∷◌, ◌++◌, map, length, take, get_or, refl, sym, ap, subst, append_assoc, true≢false}
use Rattle.std.specs.Prelude.{flat_map}
use Rattle.std.specs.List.{list_all}
use Rattle.std.proofs.Math.Bool.{and-true, and-false}
use Rattle.std.proofs.lemmas.Bool.{and_parts}
use Rattle.std.proofs.lemmas.List.{append-nil}
use Rattle.std.proofs.lemmas.List.Folds.{flat_map-map, list_all-append}
use mathlib.Core.Former.{Count}
use denote.Hole.Carrier.{hidden}
use Rattle.p3_formula.specs.Forms.{truth}
use Rattle.p3_formula.specs.Simplified.{constant}
use Rattle.p3_formula.specs.declared.form.Change.{Change}
use Rattle.p3_formula.specs.declared.form.Form.{Form}
use Rattle.p3_numbers.specs.Conditions.{met}
use Rattle.p3_numbers.specs.Effects.{NumberedLiteral, under, numbered_literals}
use Rattle.p3_numbers.specs.Folds.{fold_effect, fold_effects}
use Rattle.p3_numbers.specs.Slots.{Slots, bound}
use Rattle.p3_numbers.specs.declared.condition.NumberedArgument.{NumberedArgument}
use Rattle.p3_numbers.specs.declared.condition.NumberedCondition.{NumberedCondition}
use Rattle.p3_numbers.specs.declared.effect.NumberedAmount.{NumberedAmount}
use Rattle.p3_numbers.specs.declared.effect.NumberedEffect.{NumberedEffect, NumberedEffect-F, Row_of-NumberedEffect, end_of-NumberedEffect, more_of-NumberedEffect, items-the_row-NumberedEffect, items_hidden-the_row-NumberedEffect-0}
use Rattle.p3_numbers.specs.declared.effect.NumberedEffect.TheBlock.{hidden-the_row-NumberedEffect-0, hidden-the_row-NumberedEffect-1}
use Rattle.p3_numbers.specs.declared.effect.NumberedEffect.TheVariants.{Add, Del, All, Each, If, Cost}
use Rattle.p3_numbers.specs.declared.numbers.Numbers.{Numbers}
use Rattle.p3_numbers.proofs.EffectLemmas.{numbered_literals-All, numbered_literals-Each, numbered_literals-If}
use Rattle.p3_numbers.proofs.JoinLemmas.{joined}
use Rattle.p3_expansion.specs.Atoms.{GroundAtom, atom_at, Keeps}
use Rattle.p3_expansion.specs.Changes.{effect_atoms_layer, effect_atoms, both, conditions_meaning, GuardedLiteral, guarded, guarded_literals, ChangeStands, IsIdle, ChangesStand, Guards, ChangesUnder, AddsChange}
use Rattle.p3_expansion.specs.Expansions.{Stands, Grows, IsJoined}
use Rattle.p3_expansion.specs.Forms.{Makes}
use Rattle.p3_expansion.specs.Meanings.{Meaning, condition_atoms, condition_meaning}
use Rattle.p3_expansion.specs.declared.effect.Guard.{Guard}
use Rattle.p3_expansion.specs.declared.statics.Statics.{Statics}
use Rattle.p3_expansion.specs.declared.work.Work.{Work}
use Rattle.p3_expansion.proofs.ExpansionLemmas.{stands-grows}
use Rattle.p3_expansion.proofs.FormParts.{constant_truth}
use Rattle.p3_expansion.proofs.GrowthLemmas.{Covers, grows-refl, grows-trans, grows-wider}
use Rattle.p3_expansion.proofs.WalkLemmas.{covers-flat, pushes-part, pushes-all}

-- ---- the literals and atoms of an effect that is built of given parts

module _ {A : Type 0} (layer : NumberedEffect-F A → A) where
  row_effects : {n : Count} (row : Row_of-NumberedEffect n) → fold_effects layer row ≡ map (fold_effect layer) (items-the_row-NumberedEffect n row)
  row_effects end_of-NumberedEffect = refl
  row_effects (more_of-NumberedEffect part rest) = λ i. fold_effect layer part ∷ row_effects rest i

  pub hidden_effects : (parts : List NumberedEffect) → fold_effects layer (hidden-the_row-NumberedEffect-0 parts) ≡ map (fold_effect layer) parts
  hidden_effects parts = row_effects (hidden-the_row-NumberedEffect-0 parts) ∙ ap (map (fold_effect layer)) (items_hidden-the_row-NumberedEffect-0 parts)

all-assoc : (a b c : Bool) → (a && (b && c)) ≡ ((a && b) && c)
all-assoc true b c = refl
all-assoc false b c = refl

module _ (N : Numbers) (slots : Slots) where
  pub atoms-Add : (predicate : ℕ) (args : List NumberedArgument) → effect_atoms N slots (Add predicate args) ≡ atom_at slots predicate args ∷ []
  unfolding effect_atoms
  atoms-Add predicate args = refl

  pub atoms-Del : (predicate : ℕ) (args : List NumberedArgument) → effect_atoms N slots (Del predicate args) ≡ atom_at slots predicate args ∷ []
  unfolding effect_atoms
  atoms-Del predicate args = refl

  pub atoms-All : (parts : List NumberedEffect) → effect_atoms N slots (All parts) ≡ flat_map (effect_atoms N slots) parts
  unfolding effect_atoms
  atoms-All parts = ap (flat_map (λ part. part slots)) (hidden_effects (effect_atoms_layer N) parts) ∙ flat_map-map (λ part. part slots) (fold_effect (effect_atoms_layer N)) parts

  pub atoms-Each : (ranges : List ℕ) (body : NumberedEffect) → effect_atoms N slots (Each ranges body) ≡ flat_map (λ inner. effect_atoms N inner body) (bound N slots ranges)
  unfolding effect_atoms hidden-the_row-NumberedEffect-1 hidden
  atoms-Each ranges body = refl

  pub atoms-If : (condition : NumberedCondition) (body : NumberedEffect) → effect_atoms N slots (If condition body) ≡ condition_atoms N slots condition ++ effect_atoms N slots body
  unfolding effect_atoms hidden-the_row-NumberedEffect-1 hidden
  atoms-If condition body = refl

  module _ (above : Meaning) (is_free : Bool) where
    pub guarded-Add : (predicate : ℕ) (args : List NumberedArgument) → guarded_literals N above is_free slots (Add predicate args) ≡ record { add = true; atom = atom_at slots predicate args; takes_place = both above (conditions_meaning N []); is_free = is_free && true } ∷ []
    unfolding numbered_literals
    guarded-Add predicate args = refl

    pub guarded-Del : (predicate : ℕ) (args : List NumberedArgument) → guarded_literals N above is_free slots (Del predicate args) ≡ record { add = false; atom = atom_at slots predicate args; takes_place = both above (conditions_meaning N []); is_free = is_free && true } ∷ []
    unfolding numbered_literals
    guarded-Del predicate args = refl

    pub guarded-Cost : (amount : NumberedAmount) → guarded_literals N above is_free slots (Cost amount) ≡ []
    unfolding numbered_literals
    guarded-Cost amount = refl

    pub guarded-All : (parts : List NumberedEffect) → guarded_literals N above is_free slots (All parts) ≡ flat_map (guarded_literals N above is_free slots) parts
    guarded-All parts =
        ap (map (guarded N above is_free)) (numbered_literals-All N slots parts) ∙ joined (guarded N above is_free) (numbered_literals N slots) parts
        ∙ flat_map-map (λ found. found) (guarded_literals N above is_free slots) parts

    pub guarded-Each : (ranges : List ℕ) (body : NumberedEffect) → guarded_literals N above is_free slots (Each ranges body) ≡ flat_map (λ inner. guarded_literals N above is_free inner body) (bound N slots ranges)
    guarded-Each ranges body =
        ap (map (guarded N above is_free)) (numbered_literals-Each N slots ranges body) ∙ joined (guarded N above is_free) (λ inner. numbered_literals N inner body) (bound N slots ranges)
        ∙ flat_map-map (λ found. found) (λ inner. guarded_literals N above is_free inner body) (bound N slots ranges)

    narrowed-one : (condition : NumberedCondition) (literal : NumberedLiteral) → guarded N above is_free (under condition slots literal) ≡ guarded N (both above (condition_meaning N slots condition)) false literal
    narrowed-one condition literal = λ i. record {
      add = literal.add;
      atom = literal.predicate ∷ literal.objects;
      takes_place = record {
        test = λ s. all-assoc (above.test s) (met N s slots condition) ((conditions_meaning N literal.conditions).test s) i;
        reads = sym (append_assoc above.reads (condition_atoms N slots condition) ((conditions_meaning N literal.conditions).reads)) i;
      };
      is_free = and-false is_free i;
    }

    narrowed-all : (condition : NumberedCondition) (literals : List NumberedLiteral) → map (guarded N above is_free) (map (under condition slots) literals) ≡ map (guarded N (both above (condition_meaning N slots condition)) false) literals
    narrowed-all condition [] = refl
    narrowed-all condition (literal ∷ literals) = λ i. narrowed-one condition literal i ∷ narrowed-all condition literals i

    pub guarded-If : (condition : NumberedCondition) (body : NumberedEffect) → guarded_literals N above is_free slots (If condition body) ≡ guarded_literals N (both above (condition_meaning N slots condition)) false slots body
    guarded-If condition body = ap (map (guarded N above is_free)) (numbered_literals-If N slots condition body) ∙ narrowed-all condition (numbered_literals N slots body)

module _ (N : Numbers) (S : Statics) where
  pub guards-grow : (old new : List GroundAtom) (guard : Guard) (above : Meaning) → Keeps old new → Guards N S old guard above → Guards N S new guard above
  guards-grow old new guard above keeps guards = record { stands = stands-grows N S old new above guard.form keeps guards.stands; free = guards.free }

  -- a guard with one condition more
  guards-narrowed : (atoms : List GroundAtom) (guard narrow : Guard) (condition : Form) (above below : Meaning) → IsJoined true guard.form condition narrow.form → narrow.is_free ≡ false
      → Guards N S atoms guard above → Stands N S atoms below condition → Guards N S atoms narrow (both above below)
  guards-narrowed atoms guard narrow condition above below join free a b = record {
    stands = record {
      truth = λ s bits settled tells. join.truth bits ∙ (λ i. a.stands.truth s bits settled tells i && b.truth s bits settled tells i);
      reads = λ passes allowed allows those.
          let parts = and_parts (list_all passes above.reads) (list_all passes below.reads) (sym (list_all-append passes above.reads below.reads) ∙ those) in
          join.atoms allowed (a.stands.reads passes allowed allows parts.0) (b.reads passes allowed allows parts.1);
    };
    free = λ is. absurd (true≢false (sym is ∙ free));
  }

  -- ---- lists of changes

  module _ (old new : List GroundAtom) (keeps : Keeps old new) where
    change-keeps : (literal : GuardedLiteral) (change : Change) → ChangeStands N S old literal change → ChangeStands N S new literal change
    change-keeps literal change stands = record { add = stands.add; atom = keeps.kept change.atom literal.atom stands.atom; cond = stands-grows N S old new literal.takes_place change.cond keeps stands.cond; tidy = stands.tidy; free = stands.free }

    idle-keeps : (literal : GuardedLiteral) → IsIdle N S old literal → IsIdle N S new literal
    idle-keeps literal idle = record { never = λ s b settled tells. idle.never s b settled (record { bit = λ k atom here. tells.bit k atom (keeps.kept k atom here) }) }

    pub stand-keeps : (meant : List GuardedLiteral) (made : List Change) → ChangesStand N S old meant made → ChangesStand N S new meant made
    stand-keeps [] [] stand = stand
    stand-keeps [] (change ∷ made) stand = stand
    stand-keeps (literal ∷ meant) [] stand = (idle-keeps literal stand.0, stand-keeps meant [] stand.1)
    stand-keeps (literal ∷ meant) (change ∷ made) (inl stand) = inl (idle-keeps literal stand.0, stand-keeps meant (change ∷ made) stand.1)
    stand-keeps (literal ∷ meant) (change ∷ made) (inr stand) = inr (change-keeps literal change stand.0, stand-keeps meant made stand.1)

  module _ (atoms : List GroundAtom) where
    stand-push : (meant : List GuardedLiteral) (made : List Change) (literal : GuardedLiteral) (change : Change) → ChangesStand N S atoms meant made → ChangeStands N S atoms literal change → ChangesStand N S atoms (meant ++ literal ∷ []) (made ++ change ∷ [])
    stand-push [] [] literal change stand one = inr (one, tt)
    stand-push [] (other ∷ made) literal change stand one = absurd stand
    stand-push (other ∷ meant) [] literal change stand one = inl (stand.0, stand-push meant [] literal change stand.1 one)
    stand-push (other ∷ meant) (first ∷ made) literal change (inl stand) one = inl (stand.0, stand-push meant (first ∷ made) literal change stand.1 one)
    stand-push (other ∷ meant) (first ∷ made) literal change (inr stand) one = inr (stand.0, stand-push meant made literal change stand.1 one)

    module _ {B : Type 0} (literal : B → GuardedLiteral) (idle : (x : B) → IsIdle N S atoms (literal x)) where
      all-idle : (xs : List B) → ChangesStand N S atoms (map literal xs) []
      all-idle [] = tt
      all-idle (x ∷ xs) = (idle x, all-idle xs)

      pub stand-idle : (meant : List GuardedLiteral) (made : List Change) (xs : List B) → ChangesStand N S atoms meant made → ChangesStand N S atoms (meant ++ map literal xs) made
      stand-idle [] [] xs stand = all-idle xs
      stand-idle [] (change ∷ made) xs stand = absurd stand
      stand-idle (other ∷ meant) [] xs stand = (stand.0, stand-idle meant [] xs stand.1)
      stand-idle (other ∷ meant) (change ∷ made) xs (inl stand) = inl (stand.0, stand-idle meant (change ∷ made) xs stand.1)
      stand-idle (other ∷ meant) (change ∷ made) xs (inr stand) = inr (stand.0, stand-idle meant made xs stand.1)

  -- ---- under a guard

  pub under-by : (guard : Guard) (reads reads' : List GroundAtom) (old new : Work) (meant meant' : Meaning → List GuardedLiteral) (before after : List Change) → reads ≡ reads' → ((above : Meaning) → meant above ≡ meant' above)
      → ChangesUnder N S guard reads' old new meant' before after → ChangesUnder N S guard reads old new meant before after
  under-by guard reads reads' old new meant meant' before after same is under = record {
    grows = subst (λ one. Grows one old new) (sym same) under.grows;
    made = λ above guards those stand. subst (λ one. ChangesStand N S new.atoms (those ++ one) after) (sym (is above)) (under.made above guards those stand);
  }

  pub under-none : (guard : Guard) (reads : List GroundAtom) (work : Work) (items : List Change) → ChangesUnder N S guard reads work work (λ above. []) items items
  under-none guard reads work items = record { grows = grows-refl reads work; made = λ above guards those stand. subst (λ all. ChangesStand N S work.atoms all items) (sym (append-nil those)) stand }

  pub under-literal : (guard : Guard) (add : Bool) (atom : GroundAtom) (old new : Work) (before after : List Change) (cond : Form) → cond ≡ guard.form → AddsChange old new cond add atom before after
      → ChangesUnder N S guard (atom ∷ []) old new (λ above. record { add = add; atom = atom; takes_place = both above (conditions_meaning N []); is_free = guard.is_free && true } ∷ []) before after
  under-literal guard add atom old new before after cond same adds = record {
    grows = adds.grows;
    made = λ above guards those stand.
        let literal : GuardedLiteral = record { add = add; atom = atom; takes_place = both above (conditions_meaning N []); is_free = guard.is_free && true } in
        let alone : both above (conditions_meaning N []) ≡ above = λ i. record { test = λ s. and-true (above.test s) i; reads = append-nil above.reads i } in
        subst (ChangesStand N S new.atoms (those ++ literal ∷ [])) (sym adds.is)
        (stand-push new.atoms those before literal adds.change (stand-keeps old.atoms new.atoms adds.grows.atoms those before stand) (record {
          add = adds.adds;
          atom = adds.stored;
          cond = subst (λ meaning. Stands N S new.atoms meaning adds.change.cond) (sym alone) (subst (Stands N S new.atoms above) (sym (adds.cond ∙ same)) (stands-grows N S old.atoms new.atoms above guard.form adds.grows.atoms guards.stands));
          tidy = adds.tidy;
          free = λ is. adds.cond ∙ same ∙ guards.free (sym (and-true guard.is_free) ∙ is);
        }));
  }

  module _ (slots : Slots) (guard narrow : Guard) (condition : NumberedCondition) (body : NumberedEffect) (made : Form) (old mid : Work)
      (makes : Makes N S old mid (condition_meaning N slots condition) made) (join : IsJoined true guard.form made narrow.form) (free : narrow.is_free ≡ false)
    where
      abbrev reads : List GroundAtom
      reads = condition_atoms N slots condition ++ effect_atoms N slots body

      front : Covers reads (condition_atoms N slots condition)
      front passes all = (and_parts (list_all passes (condition_atoms N slots condition)) _ (sym (list_all-append passes (condition_atoms N slots condition) (effect_atoms N slots body)) ∙ all)).0

      back : Covers reads (effect_atoms N slots body)
      back passes all = (and_parts (list_all passes (condition_atoms N slots condition)) _ (sym (list_all-append passes (condition_atoms N slots condition) (effect_atoms N slots body)) ∙ all)).1

      up-to : Grows reads old mid
      up-to = grows-wider reads (condition_atoms N slots condition) old mid front makes.grows

      below : (above : Meaning) → Guards N S old.atoms guard above → Guards N S mid.atoms narrow (both above (condition_meaning N slots condition))
      below above guards = guards-narrowed mid.atoms guard narrow made above (condition_meaning N slots condition) join free (guards-grow old.atoms mid.atoms guard above makes.grows.atoms guards) makes.stands

      -- the condition never holds
      pub under-never : (items : List Change) → narrow.form ≡ constant false → ChangesUnder N S guard reads old mid (λ above. guarded_literals N (both above (condition_meaning N slots condition)) false slots body) items items
      under-never items is = record {
        grows = up-to;
        made = λ above guards those stand.
            stand-idle mid.atoms (guarded N (both above (condition_meaning N slots condition)) false)
            (λ literal. record {
              never = λ s b settled tells.
                  ap (λ holds. holds && (conditions_meaning N literal.conditions).test s)
                  (sym ((below above guards).stands.truth s b settled tells) ∙ ap (truth b) is ∙ constant_truth b false);
            }) those items (numbered_literals N slots body) (stand-keeps old.atoms mid.atoms up-to.atoms those items stand);
      }

      pub under-narrow : (new : Work) (before after : List Change) → ChangesUnder N S narrow (effect_atoms N slots body) mid new (λ above. guarded_literals N above narrow.is_free slots body) before after
          → ChangesUnder N S guard reads old new (λ above. guarded_literals N (both above (condition_meaning N slots condition)) false slots body) before after
      under-narrow new before after inner = record {
        grows = grows-trans reads old mid new up-to (grows-wider reads (effect_atoms N slots body) mid new back inner.grows);
        made = λ above guards those stand.
            subst (λ free. ChangesStand N S new.atoms (those ++ guarded_literals N (both above (condition_meaning N slots condition)) free slots body) after) free
            (inner.made (both above (condition_meaning N slots condition)) (below above guards) those (stand-keeps old.atoms mid.atoms up-to.atoms those before stand));
      }

  -- ---- the parts of a list in turn

  module _ {B : Type 0} (guard : Guard) (meant : Meaning → B → List GuardedLiteral) (reads : B → List GroundAtom) (parts : List B) where
    pub under-part : (a b c : Work) (p q r : List Change) (i : ℕ) (part : B) → i < length parts → part ≡ get_or parts i part → ChangesUnder N S guard (flat_map reads parts) a b (λ above. flat_map (meant above) (take i parts)) p q
        → ChangesUnder N S guard (reads part) b c (λ above. meant above part) q r → ChangesUnder N S guard (flat_map reads parts) a c (λ above. flat_map (meant above) (take (i + 1) parts)) p r
    under-part a b c p q r i part within is first second = record {
      grows = grows-trans (flat_map reads parts) a b c first.grows (grows-wider (flat_map reads parts) (reads part) b c (covers-flat reads parts i part within is) second.grows);
      made = λ above guards.
          (pushes-part (ChangesStand N S) (meant above) reads parts a b c p q r i part within is (record { grows = first.grows; made = first.made above guards })
          (record { grows = second.grows; made = second.made above (guards-grow a.atoms b.atoms guard above first.grows.atoms guards) })).made;
    }

    pub under-all : (a b : Work) (p q : List Change) (i : ℕ) → length parts ≤ i → ChangesUnder N S guard (flat_map reads parts) a b (λ above. flat_map (meant above) (take i parts)) p q
        → ChangesUnder N S guard (flat_map reads parts) a b (λ above. flat_map (meant above) parts) p q
    under-all a b p q i past under = record {
      grows = under.grows;
      made = λ above guards. (pushes-all (ChangesStand N S) (meant above) reads parts a b p q i past (record { grows = under.grows; made = under.made above guards })).made;
    }
