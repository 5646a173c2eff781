-- Forms that stand for a meaning.
use Rattle.std.proofs.Common.{◌≡◌, ◌∙◌, ℕ, ◌+◌, ◌<◌, ◌≤◌, Bool, true, false, not, ◌||◌, List, [], ◌∷◌, ◌++◌, length, take, drop, get_or, slice_get, Some, sym, ap, subst}
use Rattle.std.specs.Prelude.{bytes_eq, IsTrue}
use Rattle.std.specs.List.{list_any, list_all}
use Rattle.std.proofs.Math.Bool.{or-false}
use Rattle.std.proofs.lemmas.Bool.{and_parts}
use Rattle.std.proofs.lemmas.List.Folds.{list_all-append}
use Rattle.std.proofs.lemmas.List.{take-append-drop, take_all, append-nil}
use Rattle.std.proofs.lemmas.List.Concat.{flat_map-append}
use Rattle.p3_task.specs.States.{State, has_fact}
use Rattle.p3_formula.specs.Forms.{truth, has_atoms}
use Rattle.p3_formula.specs.Simplified.{constant, negated}
use Rattle.p3_formula.specs.Tidy.{is_tidy, is_tidy_part}
use Rattle.p3_formula.specs.declared.form.Form.{Form}
use Rattle.p3_formula.specs.declared.form.Form.TheVariants as form
use Rattle.p3_formula.proofs.AtomLaws.{negated_atoms}
use Rattle.p3_formula.proofs.FormLemmas.{truth-Atom, has_atoms-Atom}
use Rattle.p3_formula.proofs.NodeLemmas.{take-next}
use Rattle.p3_formula.proofs.TruthLaws.{negated_truth}
use Rattle.p3_numbers.specs.Slots.{Slots}
use Rattle.p3_numbers.specs.declared.condition.NumberedArgument.{NumberedArgument}
use Rattle.p3_numbers.specs.declared.condition.NumberedCondition.TheVariants.{Atom}
use Rattle.p3_numbers.specs.declared.numbers.Numbers.{Numbers}
use Rattle.p3_expansion.specs.Atoms.{GroundAtom, fact_of, atom_at, Keeps}
use Rattle.p3_expansion.specs.Expansions.{Stands, Grows, IsJoined, IsSound, Gathers, junction_form}
use Rattle.p3_expansion.specs.Forms.{Makes}
use Rattle.p3_expansion.specs.Meanings.{Meaning, both_or_one, each_or_some, joined, opposite, reads_of, atom_meaning, condition_meaning, parts_meanings}
use Rattle.p3_expansion.specs.Statics.{IsSettled, is_decided}
use Rattle.p3_expansion.specs.declared.junction.Junction.{Junction}
use Rattle.p3_expansion.specs.declared.statics.Statics.{Statics}
use Rattle.p3_expansion.specs.declared.work.Work.{Work}
use Rattle.p3_expansion.proofs.FormParts.{constant_truth, constant_atoms, constant_tidy, negated-tidy, each_or_some-append, each_or_some-none, each_or_some-one, both_or_one-decided, junction-tidy, junction-none, junction-cut}
use Rattle.p3_expansion.proofs.GrowthLemmas.{Covers, grows-refl, grows-trans, grows-wider, grows-none}
use Rattle.p3_expansion.proofs.MeaningLemmas.{meaning-Atom, parts-more, covers-part, covers-front, covers-last}

module _ (N : Numbers) (S : Statics) where
  -- ---- forms

  pub stands-atom : (atoms : List GroundAtom) (atom : GroundAtom) (made : Form) (k : ℕ) → slice_get atoms k ≡ Some atom → made ≡ form.Atom k → Stands N S atoms (atom_meaning N atom) made
  stands-atom atoms atom made k here is = record {
    truth = λ s b settled tells. ap (truth b) is ∙ truth-Atom b k ∙ tells.bit k atom here;
    reads = λ passes allowed allows those. ap (has_atoms allowed) is ∙ has_atoms-Atom allowed k ∙ allows.number k atom here (and_parts (passes atom) true those).0;
  }

  pub stands-constant : (atoms : List GroundAtom) (meaning : Meaning) (made : Form) (value : Bool) → made ≡ constant value → ((s : State) → IsSettled N S s → value ≡ meaning.test s) → Stands N S atoms meaning made
  stands-constant atoms meaning made value is holds = record {
    truth = λ s b settled tells. ap (truth b) is ∙ constant_truth b value ∙ holds s settled;
    reads = λ passes allowed allows those. ap (has_atoms allowed) is ∙ constant_atoms allowed value;
  }

  pub stands-grows : (old new : List GroundAtom) (meaning : Meaning) (made : Form) → Keeps old new → Stands N S old meaning made → Stands N S new meaning made
  stands-grows old new meaning made keeps stands = record {
    truth = λ s b settled tells. stands.truth s b settled (record { bit = λ k atom here. tells.bit k atom (keeps.kept k atom here) });
    reads = λ passes allowed allows those. stands.reads passes allowed (record { number = λ k atom here ok. allows.number k atom (keeps.kept k atom here) ok }) those;
  }

  module _ (atoms : List GroundAtom) where
    stands-turned : (meaning : Meaning) (old new : Form) → new ≡ negated old → Stands N S atoms meaning old → Stands N S atoms (opposite meaning) new
    stands-turned meaning old new is stands = record {
      truth = λ s b settled tells. ap (truth b) is ∙ negated_truth b old ∙ ap not (stands.truth s b settled tells);
      reads = λ passes allowed allows those. ap (has_atoms allowed) is ∙ negated_atoms allowed old ∙ stands.reads passes allowed allows those;
    }

    pub stands-joined : (every : Bool) (meanings : List Meaning) (meaning : Meaning) (old part new : Form) → IsJoined every old part new → Stands N S atoms (joined every meanings) old → Stands N S atoms meaning part
        → Stands N S atoms (joined every (meanings ++ meaning ∷ [])) new
    stands-joined every meanings meaning old part new join before one = record {
      truth = λ s b settled tells.
          let test : Meaning → Bool = λ m. m.test s in
          join.truth b ∙ (λ i. both_or_one every (before.truth s b settled tells i) (one.truth s b settled tells i))
          ∙ sym (each_or_some-append every test meanings (meaning ∷ []) ∙ ap (both_or_one every (each_or_some every test meanings)) (each_or_some-one every test meaning));
      reads = λ passes allowed allows those.
          join.atoms allowed (before.reads passes allowed allows (covers-front meanings (meaning ∷ []) passes those)) (one.reads passes allowed allows (covers-last meanings meaning passes those));
    }

    stands-single : (meaning : Meaning) (made : Form) → Stands N S atoms meaning made → Stands N S atoms (joined false (meaning ∷ [])) made
    stands-single meaning made stands = record {
      truth = λ s b settled tells. stands.truth s b settled tells ∙ sym (or-false (meaning.test s));
      reads = λ passes allowed allows those. stands.reads passes allowed allows (sym (ap (list_all passes) (append-nil meaning.reads)) ∙ those);
    }

  -- ---- tidy forms

  pub makes-constant : (old new : Work) (meaning : Meaning) (made : Form) (value : Bool) → Grows [] old new → made ≡ constant value → ((s : State) → IsSettled N S s → value ≡ meaning.test s) → Makes N S old new meaning made
  makes-constant old new meaning made value grows is holds = record {
    grows = grows-none meaning.reads old new grows;
    stands = stands-constant new.atoms meaning made value is holds;
    tidy = ap is_tidy is ∙ constant_tidy value;
  }

  pub makes-turned : (old new : Work) (meaning : Meaning) (part made : Form) → Makes N S old new meaning part → made ≡ negated part → Makes N S old new (opposite meaning) made
  makes-turned old new meaning part made makes is = record {
    grows = makes.grows;
    stands = stands-turned new.atoms meaning part made is makes.stands;
    tidy = ap is_tidy is ∙ negated-tidy part makes.tidy;
  }

  pub makes-by : (old new : Work) (made : Form) (meaning other : Meaning) → meaning ≡ other → Makes N S old new other made → Makes N S old new meaning made
  makes-by old new made meaning other is makes = subst (λ one. Makes N S old new one made) (sym is) makes

  -- the first of two decides, or else both are joined
  pub makes-first : (old new : Work) (first second : Meaning) (made : Form) → Makes N S old new first made → made ≡ constant true → Makes N S old new (joined false (first ∷ second ∷ [])) made
  makes-first old new first second made makes is = record {
    grows = grows-wider (reads_of (first ∷ second ∷ [])) first.reads old new (λ passes those. (and_parts (list_all passes first.reads) _ (sym (list_all-append passes first.reads (second.reads ++ [])) ∙ those)).0) makes.grows;
    stands = record {
      truth = λ s b settled tells.
          ap (truth b) is ∙ constant_truth b true
          ∙ ap (λ a. a || (second.test s || false)) (sym (constant_truth b true) ∙ sym (ap (truth b) is) ∙ makes.stands.truth s b settled tells);
      reads = λ passes allowed allows those. ap (has_atoms allowed) is ∙ constant_atoms allowed true;
    };
    tidy = makes.tidy;
  }

  pub makes-either : (old mid new : Work) (first second : Meaning) (one other made : Form) → Makes N S old mid first one → Makes N S mid new second other → IsJoined false one other made → IsTrue (is_tidy made)
      → Makes N S old new (joined false (first ∷ second ∷ [])) made
  makes-either old mid new first second one other made a b join tidy =
      let all = reads_of (first ∷ second ∷ []) in
      let covers-first : Covers all first.reads = λ passes those. (and_parts (list_all passes first.reads) _ (sym (list_all-append passes first.reads (second.reads ++ [])) ∙ those)).0 in
      record {
        grows = grows-trans all old mid new (grows-wider all first.reads old mid covers-first a.grows) (grows-wider all second.reads mid new (covers-last (first ∷ []) second) b.grows);
        stands = stands-joined new.atoms false (first ∷ []) second one other made join (stands-single new.atoms first one (stands-grows mid.atoms new.atoms first one b.grows.atoms a.stands)) b.stands;
        tidy = tidy;
      }

  -- ---- atoms

  module _ (old new : Work) (slots : Slots) (predicate : ℕ) (args : List NumberedArgument) where
    holds-atom : (s : State) → (condition_meaning N slots (Atom predicate args)).test s ≡ has_fact s (fact_of N (atom_at slots predicate args))
    holds-atom s = ap (λ (m : Meaning). m.test s) (meaning-Atom N slots predicate args)

    pub makes-decided : (value : Bool) (made : Form) → is_decided N S (atom_at slots predicate args) ≡ true → value ≡ list_any (bytes_eq (atom_at slots predicate args)) S.facts
        → Grows [] old new → made ≡ constant value → Makes N S old new (condition_meaning N slots (Atom predicate args)) made
    makes-decided value made decided is grows stands =
        makes-constant old new (condition_meaning N slots (Atom predicate args)) made value grows stands (λ s settled. is ∙ sym (settled.same (atom_at slots predicate args) decided) ∙ sym (holds-atom s))

  pub makes-added : (old mid new : Work) (slots : Slots) (predicate : ℕ) (args : List NumberedArgument) (words : List ℕ) (made : Form) → words ≡ atom_at slots predicate args → Grows [] old mid → Grows (words ∷ []) mid new
      → Stands N S new.atoms (atom_meaning N words) made → IsTrue (is_tidy made) → Makes N S old new (condition_meaning N slots (Atom predicate args)) made
  makes-added old mid new slots predicate args words made is before grows stands tidy =
      makes-by old new made (condition_meaning N slots (Atom predicate args)) (atom_meaning N words) (meaning-Atom N slots predicate args ∙ ap (atom_meaning N) (sym is)) (record {
        grows = grows-trans (words ∷ []) old mid new (grows-none (words ∷ []) old mid before) grows;
        stands = stands;
        tidy = tidy;
      })

  -- ---- junctions

  pub gathers-none : (reads : List GroundAtom) (work : Work) (every : Bool) (junction : Junction) → junction.every ≡ every → junction.parts ≡ [] → junction.is_cut ≡ false → Gathers N S reads work work every [] junction
  gathers-none reads work every junction kind none whole = record {
    kind = kind;
    grows = grows-refl reads work;
    sound = ap (list_all is_tidy_part) none;
    stands = record {
      truth = λ s b settled tells. ap (truth b) is ∙ constant_truth b every ∙ sym (each_or_some-none every (λ (m : Meaning). m.test s));
      reads = λ passes allowed allows those. ap (has_atoms allowed) is ∙ constant_atoms allowed every;
    };
  }
    where
      is : junction_form junction ≡ constant every
      is = junction-none every junction kind none whole

  -- one part more
  pub gathers-more : (reads : List GroundAtom) (old mid new : Work) (every : Bool) (meanings : List Meaning) (before after : Junction) (meaning : Meaning) (made : Form)
      → Gathers N S reads old mid every meanings before → Makes N S mid new meaning made → Covers reads meaning.reads
      → after.every ≡ before.every → IsSound after → IsJoined before.every (junction_form before) made (junction_form after) → Gathers N S reads old new every (meanings ++ meaning ∷ []) after
  gathers-more reads old mid new every meanings before after meaning made gathers makes covers same sound join = record {
    kind = same ∙ gathers.kind;
    grows = grows-trans reads old mid new gathers.grows (grows-wider reads meaning.reads mid new covers makes.grows);
    sound = sound;
    stands = stands-joined new.atoms every meanings meaning (junction_form before) made (junction_form after)
        (subst (λ kind. IsJoined kind (junction_form before) made (junction_form after)) gathers.kind join)
        (stands-grows mid.atoms new.atoms (joined every meanings) (junction_form before) makes.grows.atoms gathers.stands) makes.stands;
  }

  pub gathers-cut : (reads : List GroundAtom) (old new : Work) (every : Bool) (meanings rest : List Meaning) (junction : Junction) → Gathers N S reads old new every meanings junction → junction.is_cut ≡ true → Gathers N S reads old new every (meanings ++ rest) junction
  gathers-cut reads old new every meanings rest junction gathers cut = record {
    kind = gathers.kind;
    grows = gathers.grows;
    sound = gathers.sound;
    stands = record {
      truth = λ s b settled tells.
          let test : Meaning → Bool = λ m. m.test s in
          let decided : truth b (junction_form junction) ≡ not every = ap (truth b) (junction-cut junction cut) ∙ constant_truth b (not junction.every) ∙ ap not gathers.kind in
          decided ∙ sym (both_or_one-decided every (each_or_some every test rest))
          ∙ ap (λ first. both_or_one every first (each_or_some every test rest)) (sym decided ∙ gathers.stands.truth s b settled tells) ∙ sym (each_or_some-append every test meanings rest);
      reads = λ passes allowed allows those. gathers.stands.reads passes allowed allows (covers-front meanings rest passes those);
    };
  }

  pub makes-finished : (old new : Work) (every : Bool) (meanings : List Meaning) (junction : Junction) (made : Form) → Gathers N S (reads_of meanings) old new every meanings junction → made ≡ junction_form junction → Makes N S old new (joined every meanings) made
  makes-finished old new every meanings junction made gathers is =
      subst (Makes N S old new (joined every meanings)) (sym is) (record { grows = gathers.grows; stands = gathers.stands; tidy = junction-tidy junction gathers.sound })

  -- ---- the parts of a list in turn

  module _ {A : Type 0} (meaning : A → Meaning) (parts : List A) where
    pub gathers-part : (old mid new : Work) (every : Bool) (before after : Junction) (i : ℕ) (part : A) (made : Form) → i < length parts → part ≡ get_or parts i part
        → Gathers N S (reads_of (parts_meanings meaning parts)) old mid every (parts_meanings meaning (take i parts)) before → Makes N S mid new (meaning part) made
        → after.every ≡ before.every → IsSound after → IsJoined before.every (junction_form before) made (junction_form after)
        → Gathers N S (reads_of (parts_meanings meaning parts)) old new every (parts_meanings meaning (take (i + 1) parts)) after
    gathers-part old mid new every before after i part made within is gathers makes same sound join =
        subst (λ meanings. Gathers N S (reads_of (parts_meanings meaning parts)) old new every meanings after) (sym (parts-more meaning parts i part (sym (take-next parts i part part within is))))
        (gathers-more (reads_of (parts_meanings meaning parts)) old mid new every (parts_meanings meaning (take i parts)) before after (meaning part) made gathers makes (covers-part meaning parts i part within is) same sound join)

    pub gathers-decided : (old new : Work) (every : Bool) (junction : Junction) (i : ℕ) → Gathers N S (reads_of (parts_meanings meaning parts)) old new every (parts_meanings meaning (take i parts)) junction → junction.is_cut ≡ true
        → Gathers N S (reads_of (parts_meanings meaning parts)) old new every (parts_meanings meaning parts) junction
    gathers-decided old new every junction i gathers cut =
        subst (λ meanings. Gathers N S (reads_of (parts_meanings meaning parts)) old new every meanings junction)
        (sym (flat_map-append (λ part. meaning part ∷ []) (take i parts) (drop i parts)) ∙ ap (parts_meanings meaning) (take-append-drop i parts))
        (gathers-cut (reads_of (parts_meanings meaning parts)) old new every (parts_meanings meaning (take i parts)) (parts_meanings meaning (drop i parts)) junction gathers cut)

    pub gathers-all : (old new : Work) (every : Bool) (junction : Junction) (i : ℕ) → length parts ≤ i → Gathers N S (reads_of (parts_meanings meaning parts)) old new every (parts_meanings meaning (take i parts)) junction
        → Gathers N S (reads_of (parts_meanings meaning parts)) old new every (parts_meanings meaning parts) junction
    gathers-all old new every junction i past gathers = subst (λ all. Gathers N S (reads_of (parts_meanings meaning parts)) old new every (parts_meanings meaning all) junction) (take_all i parts past) gathers
