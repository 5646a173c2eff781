use Rattle.std.proofs.Common.{◌∙◌, ◌++◌, take, sym, ap}
use Rattle.std.proofs.lemmas.List.{append_assoc, take-append-drop, take_rest}
use Rattle.std.proofs.KnownBytes.{Appends-trans}
use Rattle.p3_base.proofs.real_files.write_all.Goals as goal

pub loop-rest-preserved : goal.loop-rest-preserved
loop-rest-preserved g c =
    let front = c.loop-rest.invariant.0 in
    let count = c.in-Ok.count in
    let rest = c.loop-rest.rest.now in (
      front ++ take count rest,
      c.loop-rest.invariant.1 ∙ ap (λ list. front ++ list) (sym (ap (λ list. take count rest ++ list) (take_rest rest count) ∙ take-append-drop count rest)) ∙ sym (append_assoc front (take count rest) _),
      Appends-trans _ _ _ front (take count rest) c.loop-rest.invariant.2 c.in-Ok.ensures.bytes,
    )
