use Rattle.std.proofs.Common.{◌≡◌, ◌++◌, drop, map}
use Rattle.p3_unmet.specs.Sketches.{seen_inquiry, states_with}
use Rattle.p3_unmet.proofs.telling.shown_states.Given as goal

-- the states so far, and those of what is left, are those of all
abbrev pub invariant-loop-inquiry : goal.invariant-loop-inquiry
invariant-loop-inquiry l = record {
  states : l.states ++ states_with (map seen_inquiry (drop l.inquiry-index l.inquiries)) l.answers ≡ states_with (map seen_inquiry l.inquiries) l.fn.answers;
  left : l.answers ≡ drop l.inquiry-index l.fn.answers;
}
