use Rattle.std.proofs.Common.{◌≡◌, ◌++◌, drop, map}
use Rattle.p3_unmet.specs.Sketches.{headings_with, seen_draft}
use Rattle.p3_unmet.proofs.telling.headings.Given as goal

abbrev pub invariant-loop-draft : goal.invariant-loop-draft
invariant-loop-draft l = l.headings ++ headings_with (map seen_draft (drop l.draft-index l.drafts)) l.answers ≡ headings_with (map seen_draft l.drafts) l.fn.answers
