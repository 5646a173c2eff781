use Rattle.std.proofs.Common.{append_assoc, ap, ◌∙◌, ◌++◌, sym}
use Rattle.std.specs.Prelude.{string_bytes}
use Rattle.p3_gen.proofs.PieceLemmas.{objects_are}
use Rattle.p3_gen.proofs.sample_problem.push_objects.Goals as goal

pub returns : goal.returns
returns c =
    rw (c.in_ok-push_str-3.ensures.bytes, c.in_ok-push_pieces-2.ensures, c.in_ok-push_str-2.ensures.bytes, c.in_ok-push_pieces.ensures, c.in_ok-push_str.ensures.bytes) (simp append_assoc)
    ∙ ap (λ text. string_bytes c.args.text.now ++ text) (sym (objects_are c.args.n))
