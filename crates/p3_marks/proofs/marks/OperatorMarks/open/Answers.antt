use Rattle.std.proofs.Common.{List, ◌∷◌, [], sym, subst}
use Rattle.p3_marks.specs.Marked.{AreMarks}
use Rattle.p3_marks.specs.declared.mark.Mark.{Mark}
use Rattle.p3_marks.proofs.FollowLaws.{all_begin}
use Rattle.p3_marks.proofs.marks.OperatorMarks.open.Goals as goal

pub returns : goal.returns
returns c =
    let G = c.args.task.now in
    let readers = c.in_ok-readers.readers.items in
    subst (λ (groups : List (List Mark)). AreMarks G (G.initial ∷ []) (record { readers = readers; groups = groups })) (sym c.in_ok-groups.ensures)
    (all_begin G c.requires.below c.requires.few readers c.in_ok-readers.ensures)
