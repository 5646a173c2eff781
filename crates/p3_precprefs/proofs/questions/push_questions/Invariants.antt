use Rattle.std.proofs.Common.{◌≡◌, length, take}
use Rattle.p3_formula.specs.Weighted.{weighted}
use Rattle.p3_precprefs.specs.Questions.{IsAsked}
use Rattle.p3_precprefs.proofs.questions.push_questions.Given as goal

-- the preferences passed are asked for
abbrev pub invariant-loop-pref : goal.invariant-loop-pref
invariant-loop-pref l = record {
  count : l.place ≡ length (weighted l.by_name (take l.pref-index l.step.prefs));
  asked : IsAsked l.first l.current l.step.number l.by_name (weighted l.by_name (take l.pref-index l.step.prefs)) l.fn.actions l.actions;
}
