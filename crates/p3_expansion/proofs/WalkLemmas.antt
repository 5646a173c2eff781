-- Lists that are made of what is meant, one part after another.
use Rattle.std.proofs.Common.{◌≡◌, ◌∙◌, ℕ, ◌+◌, ◌<◌, ◌≤◌, Bool, true, List, [], ◌∷◌, ◌++◌, length, take, get_or, refl, sym, ap, subst, append_assoc, arith, zero, suc}
use Rattle.std.specs.Prelude.{flat_map}
use Rattle.std.specs.List.{list_all, AllZip}
use Rattle.std.proofs.lemmas.Bool.{and_parts}
use Rattle.std.proofs.lemmas.List.{append-nil, take_all}
use Rattle.std.proofs.lemmas.List.Concat.{flat_map-append}
use Rattle.std.proofs.lemmas.List.Folds.{list_all-append}
use Rattle.p3_formula.proofs.NodeLemmas.{take-next}
use Rattle.p3_expansion.specs.Atoms.{GroundAtom}
use Rattle.p3_expansion.specs.Walks.{Pushes}
use Rattle.p3_expansion.specs.declared.work.Work.{Work}
use Rattle.p3_expansion.proofs.GrowthLemmas.{Covers, grows-refl, grows-trans, grows-wider}

pub covers-flat : {B : Type 0} (reads : B → List GroundAtom) (parts : List B) (i : ℕ) (part : B) → i < length parts → part ≡ get_or parts i part → Covers (flat_map reads parts) (reads part)
covers-flat reads [] i part within is passes all = absurd (omega arith)
covers-flat reads (other ∷ parts) zero part within is passes all =
    ap (λ one. list_all passes (reads one)) is ∙ (and_parts (list_all passes (reads other)) _ (sym (list_all-append passes (reads other) (flat_map reads parts)) ∙ all)).0
covers-flat reads (other ∷ parts) (suc i) part within is passes all =
    covers-flat reads parts i part (omega arith) is passes (and_parts (list_all passes (reads other)) _ (sym (list_all-append passes (reads other) (flat_map reads parts)) ∙ all)).1

pub flat-flat : {A B C : Type 0} (f : B → List C) (g : A → List B) (xs : List A) → flat_map f (flat_map g xs) ≡ flat_map (λ x. flat_map f (g x)) xs
flat-flat f g [] = refl
flat-flat f g (x ∷ xs) = flat_map-append f (g x) (flat_map g xs) ∙ ap (λ rest. flat_map f (g x) ++ rest) (flat-flat f g xs)

-- relations that hold entry by entry
pub zip-weaker : {M A : Type 0} (R Q : M → A → Type 0) → ((m : M) (a : A) → R m a → Q m a) → (ms : List M) (made : List A) → AllZip R ms made → AllZip Q ms made
zip-weaker R Q weaker [] [] all = all
zip-weaker R Q weaker [] (a ∷ made) all = all
zip-weaker R Q weaker (m ∷ ms) [] all = all
zip-weaker R Q weaker (m ∷ ms) (a ∷ made) all = (weaker m a all.0, zip-weaker R Q weaker ms made all.1)

pub zip-push : {M A : Type 0} (R : M → A → Type 0) (ms : List M) (made : List A) (m : M) (a : A) → AllZip R ms made → R m a → AllZip R (ms ++ m ∷ []) (made ++ a ∷ [])
zip-push R [] [] m a all one = (one, tt)
zip-push R [] (b ∷ made) m a all one = absurd all
zip-push R (n ∷ ms) [] m a all one = absurd all
zip-push R (n ∷ ms) (b ∷ made) m a all one = (all.0, zip-push R ms made m a all.1 one)

pub zip-append : {M A : Type 0} (R : M → A → Type 0) (ms : List M) (made : List A) (more : List M) (others : List A) → AllZip R ms made → AllZip R more others → AllZip R (ms ++ more) (made ++ others)
zip-append R [] [] more others first second = second
zip-append R [] (b ∷ made) more others first second = absurd first
zip-append R (n ∷ ms) [] more others first second = absurd first
zip-append R (n ∷ ms) (b ∷ made) more others first second = (first.0, zip-append R ms made more others first.1 second)

module _ {M A : Type 0} (Stand : List GroundAtom → List M → List A → Type 0) where
  pub pushes-none : (reads : List GroundAtom) (work : Work) (items : List A) → Pushes Stand reads work work [] items items
  pushes-none reads work items = record { grows = grows-refl reads work; made = λ those stand. subst (λ all. Stand work.atoms all items) (sym (append-nil those)) stand }

  pub pushes-by : (reads reads' : List GroundAtom) (old new : Work) (meant meant' : List M) (before after : List A) → reads ≡ reads' → meant ≡ meant' → Pushes Stand reads' old new meant' before after → Pushes Stand reads old new meant before after
  pushes-by reads reads' old new meant meant' before after same is pushes = subst (λ one. Pushes Stand one old new meant before after) (sym same) (subst (λ one. Pushes Stand reads' old new one before after) (sym is) pushes)

  pub pushes-more : (reads part : List GroundAtom) (a b c : Work) (xs ys : List M) (p q r : List A) → Covers reads part → Pushes Stand reads a b xs p q → Pushes Stand part b c ys q r → Pushes Stand reads a c (xs ++ ys) p r
  pushes-more reads part a b c xs ys p q r covers first second = record {
    grows = grows-trans reads a b c first.grows (grows-wider reads part b c covers second.grows);
    made = λ those stand. subst (λ all. Stand c.atoms all r) (append_assoc those xs ys) (second.made (those ++ xs) (first.made those stand));
  }

  -- two stretches, whose atoms are those of what is meant
  pub pushes-join : (reads : M → List GroundAtom) (a b c : Work) (xs ys : List M) (p q r : List A) → Pushes Stand (flat_map reads xs) a b xs p q → Pushes Stand (flat_map reads ys) b c ys q r → Pushes Stand (flat_map reads (xs ++ ys)) a c (xs ++ ys) p r
  pushes-join reads a b c xs ys p q r first second = record {
    grows = grows-trans all a b c (grows-wider all (flat_map reads xs) a b (λ passes those. (split passes those).0) first.grows) (grows-wider all (flat_map reads ys) b c (λ passes those. (split passes those).1) second.grows);
    made = λ those stand. subst (λ meant. Stand c.atoms meant r) (append_assoc those xs ys) (second.made (those ++ xs) (first.made those stand));
  }
    where
      all : List GroundAtom
      all = flat_map reads (xs ++ ys)

      split : (passes : GroundAtom → Bool) → list_all passes all ≡ true → (list_all passes (flat_map reads xs) ≡ true) × (list_all passes (flat_map reads ys) ≡ true)
      split passes those = and_parts (list_all passes (flat_map reads xs)) _ (sym (ap (list_all passes) (flat_map-append reads xs ys) ∙ list_all-append passes (flat_map reads xs) (flat_map reads ys)) ∙ those)

  module _ {B : Type 0} (meant : B → List M) (reads : B → List GroundAtom) (parts : List B) where
    pub pushes-part : (a b c : Work) (p q r : List A) (i : ℕ) (part : B) → i < length parts → part ≡ get_or parts i part → Pushes Stand (flat_map reads parts) a b (flat_map meant (take i parts)) p q → Pushes Stand (reads part) b c (meant part) q r
        → Pushes Stand (flat_map reads parts) a c (flat_map meant (take (i + 1) parts)) p r
    pushes-part a b c p q r i part within is first second =
        subst (λ all. Pushes Stand (flat_map reads parts) a c all p r)
        (ap (λ last. flat_map meant (take i parts) ++ last) (sym (append-nil (meant part))) ∙ sym (flat_map-append meant (take i parts) (part ∷ [])) ∙ ap (flat_map meant) (take-next parts i part part within is))
        (pushes-more (flat_map reads parts) (reads part) a b c (flat_map meant (take i parts)) (meant part) p q r (covers-flat reads parts i part within is) first second)

    pub pushes-all : (a b : Work) (p q : List A) (i : ℕ) → length parts ≤ i → Pushes Stand (flat_map reads parts) a b (flat_map meant (take i parts)) p q → Pushes Stand (flat_map reads parts) a b (flat_map meant parts) p q
    pushes-all a b p q i past pushes = subst (λ all. Pushes Stand (flat_map reads parts) a b (flat_map meant all) p q) (take_all i parts past) pushes
