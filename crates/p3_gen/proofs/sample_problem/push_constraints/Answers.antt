use Rattle.std.proofs.Common.{append_assoc, ap, ◌∙◌, ◌++◌, sym}
use Rattle.std.specs.Prelude.{string_bytes}
use Rattle.p3_gen.proofs.PieceLemmas.{constraints_are}
use Rattle.p3_gen.proofs.sample_problem.push_constraints.Goals as goal

pub returns : goal.returns
returns c =
    rw (c.in_ok-push_str.ensures.bytes, c.in_ok-write-2.ensures.bytes, c.in_ok-write.ensures.bytes) (simp append_assoc)
    ∙ ap (λ text. string_bytes c.args.text.now ++ text) (sym (constraints_are c.args.n))
