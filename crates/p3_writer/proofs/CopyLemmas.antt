-- The text of a form behind an atom, and what has to be asked of its parts.
use Rattle.std.proofs.Common.{◌≡◌, ◌∙◌, ℕ, ◌<◌, Bool, true, false, List, [], ◌∷◌, ◌++◌, map, refl, sym, ap, append_assoc, true≢false}
use Rattle.std.specs.Prelude.{codes, slice_index_or}
use Rattle.std.proofs.lemmas.Bool.{and_parts}
use Rattle.p3_base.specs.Words.{Name}
use Rattle.p3_formula.specs.Forms.{AreBelow, IsBelow, is_below}
use Rattle.p3_formula.specs.Simplified.{joined, spread}
use Rattle.p3_formula.specs.declared.form.Form.{Form}
use Rattle.p3_formula.specs.declared.form.Form.TheVariants.{Atom, And}
use Rattle.p3_formula.proofs.FormLemmas.{below-And, below-Atom}
use Rattle.p3_task.specs.Names.{is_empty}
use Rattle.p3_writer.specs.CopyText.{behind_atom}
use Rattle.p3_writer.specs.Layout.{atom_text, form_text, spaced}
use Rattle.p3_writer.proofs.LayoutLemmas.{form_text-And, form_text-Atom}

-- ---- the precondition

joined_alone : (atom : ℕ) (parts : List Form) → is_empty parts ≡ true → joined true (Atom atom ∷ parts) ≡ Atom atom
joined_alone atom [] e = refl
joined_alone atom (part ∷ parts) e = absurd (true≢false (sym e))

joined_more : (atom : ℕ) (parts : List Form) → is_empty parts ≡ false → joined true (Atom atom ∷ parts) ≡ And (Atom atom ∷ parts)
joined_more atom [] e = absurd (true≢false e)
joined_more atom (part ∷ parts) e = refl

module _ (count atom : ℕ) (form : Form) (below : IsBelow count (behind_atom atom form)) where
  parts_below : is_empty (spread form) ≡ false → AreBelow count (Atom atom ∷ spread form)
  parts_below some = below-And count (behind_atom atom form) (Atom atom ∷ spread form) (joined_more atom (spread form) some) below

  pub atom_below : (b : Bool) → is_empty (spread form) ≡ b → atom < count
  atom_below true none = below-Atom count (behind_atom atom form) atom (joined_alone atom (spread form) none) below
  atom_below false some = below-Atom count (Atom atom) atom refl (and_parts (is_below count (Atom atom)) _ (parts_below some)).0

  pub others_below : is_empty (spread form) ≡ false → AreBelow count (spread form)
  others_below some = (and_parts (is_below count (Atom atom)) _ (parts_below some)).1

module _ (names : List Name) (atom : ℕ) (form : Form) where
  pub alone_text : is_empty (spread form) ≡ true → form_text names (behind_atom atom form) ≡ atom_text (slice_index_or names atom [])
  alone_text none = ap (form_text names) (joined_alone atom (spread form) none) ∙ form_text-Atom names atom

  pub behind_text : (old : List ℕ) → is_empty (spread form) ≡ false
      → (((old ++ codes " (and") ++ (32 ∷ atom_text (slice_index_or names atom []))) ++ spaced (map (form_text names) (spread form))) ++ codes ")" ≡ old ++ (32 ∷ form_text names (behind_atom atom form))
  behind_text old some =
      let first = 32 ∷ atom_text (slice_index_or names atom []) in
      let others = spaced (map (form_text names) (spread form)) in
      append_assoc ((old ++ codes " (and") ++ first) others (codes ")")
      ∙ append_assoc (old ++ codes " (and") first (others ++ codes ")")
      ∙ append_assoc old (codes " (and") (first ++ (others ++ codes ")"))
      ∙ ap (λ text. old ++ (codes " (and" ++ text)) (sym (append_assoc first others (codes ")")))
      ∙ ap (λ text. old ++ (codes " (and" ++ (((32 ∷ text) ++ others) ++ codes ")"))) (sym (form_text-Atom names atom))
      ∙ ap (λ text. old ++ (32 ∷ text)) (sym (append_assoc (codes "(and") (spaced (map (form_text names) (Atom atom ∷ spread form))) (codes ")")) ∙ sym (form_text-And names (Atom atom ∷ spread form)) ∙ ap (form_text names) (sym (joined_more atom (spread form) some)))

-- ---- the name

pub copy_begun : (old digits number : List ℕ) → ((((old ++ codes "(:action s") ++ number) ++ codes "v") ++ digits) ++ codes " :parameters ()\n :precondition" ≡ old ++ (codes "(:action " ++ (codes "s" ++ (number ++ (codes "v" ++ digits))) ++ codes " :parameters ()\n :precondition")
copy_begun old digits number =
    let end = codes " :parameters ()\n :precondition" in
    append_assoc (((old ++ codes "(:action s") ++ number) ++ codes "v") digits end
    ∙ append_assoc ((old ++ codes "(:action s") ++ number) (codes "v") (digits ++ end)
    ∙ append_assoc (old ++ codes "(:action s") number (codes "v" ++ (digits ++ end))
    ∙ append_assoc old (codes "(:action s") (number ++ (codes "v" ++ (digits ++ end)))
    ∙ ap (λ text. old ++ (codes "(:action s" ++ text)) (sym (append_assoc number (codes "v" ++ digits) end))
