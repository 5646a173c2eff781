use Rattle.std.proofs.Common.{◌≡◌, ℕ, List, [], ◌∷◌, ◌++◌, ◌∙◌, ap, append_assoc, subst}
use Rattle.std.specs.Prelude.{codes, OnErr, OnOk}
use Rattle.std.specs.Fmt.{decimal}
use Rattle.p3_base.specs.Outside.{IsPartlyPut, IsPut}
use Rattle.p3_base.specs.declared.refusal.Code.{Code}
use Rattle.p3_base.specs.declared.refusal.Role.{Role}
use Rattle.p3_tree.specs.Reports.Lines.{line, role_name}
use Rattle.p3_tree.specs.Reports.Refusals.{code_text, refusal_head}
use Rattle.p3_reports.specs.Rejections.{placed_line}
use Rattle.p3_reports.specs.declared.placed.PlacedRefusal.{PlacedRefusal}
use Rattle.p3_reports.proofs.refusal.put_placed_refusal.Goals as goal

in_a_row : (a b c d e f g h i j k : List ℕ) → a ++ b ++ c ++ d ++ e ++ f ++ g ++ h ++ i ++ j ++ k ≡ (a ++ (b ++ (c ++ (d ++ (e ++ (f ++ (g ++ (h ++ i)))))))) ++ (j ++ k)
in_a_row a b c d e f g h i j k = simp append_assoc

in_pieces : (code : Code) (role : Role) (row column : ℕ) (shown : List ℕ)
    → codes "refused " ++ code_text code ++ codes ": " ++ role_name role ++ codes " " ++ decimal row ++ codes ":" ++ decimal column ++ codes " " ++ shown ++ 10 ∷ []
    ≡ refusal_head (code_text code) (role_name role) row column ++ line shown
in_pieces code role row column shown =
    in_a_row (codes "refused ") (code_text code) (codes ": ") (role_name role) (codes " ") (decimal row) (codes ":") (decimal column) (codes " ") shown (10 ∷ [])

same : (placed : PlacedRefusal) (shown : List ℕ) → shown ≡ placed.shown.items
    → codes "refused " ++ code_text placed.code ++ codes ": " ++ role_name placed.role ++ codes " " ++ decimal placed.row ++ codes ":" ++ decimal placed.column ++ codes " " ++ shown ++ 10 ∷ []
    ≡ placed_line placed
same placed shown is =
    in_pieces placed.code placed.role placed.row placed.column shown
    ∙ ap (λ word. refusal_head (code_text placed.code) (role_name placed.role) placed.row placed.column ++ line word) is

pub returns-clause-ok : goal.returns-clause-ok
returns-clause-ok g c =
    subst (λ text. OnOk c.put_pieces.result (IsPut text (g.S.Sink.seen c.args.out.now).written (g.S.Sink.seen c.put_pieces.new.out).written))
    (same c.args.placed.now c.as_slice.result.now c.as_slice.ensures.value) c.put_pieces.ensures.ok

pub returns-clause-partly : goal.returns-clause-partly
returns-clause-partly g c =
    subst (λ text. OnErr c.put_pieces.result (IsPartlyPut text (g.S.Sink.seen c.args.out.now).written (g.S.Sink.seen c.put_pieces.new.out).written))
    (same c.args.placed.now c.as_slice.result.now c.as_slice.ensures.value) c.put_pieces.ensures.partly
