use Rattle.std.proofs.Common.{◌≡◌, ◌<◌, ◌+◌, ◌∙◌, ◌∷◌, [], nat_lt, true, false, length, take, get_or, sym, ap, subst, arith, lt-ltb, le-ltb, length-append}
use Rattle.p3_formula.specs.Weighted.{weighted, weight_of}
use Rattle.p3_precprefs.specs.Questions.{IsAsked, HasBothAnswers}
use Rattle.p3_precprefs.proofs.LinkLaws.{weighted_yes, weighted_no, weighted_room, asked_more}
use Rattle.p3_precprefs.proofs.questions.push_questions.Goals as goal
use Rattle.p3_precprefs.proofs.questions.push_questions.Goals.{then-weight-gt0+in_ok-push_answers, else-weight-gt0}

pub push_answers-requires : goal.push_answers-requires
push_answers-requires c =
    let prefs = c.args.step.now.prefs in
    let within = subst (λ list. c.loop-pref.pref-index < length list) c.items-pref-items.ensures c.loop-pref-test.true in
    let is = c.pref-item.is ∙ ap (λ list. get_or list c.loop-pref.pref-index c.pref-item.result) c.items-pref-items.ensures in
    let few = weighted_room c.args.by_name.now prefs c.loop-pref.pref-index c.pref-item.result within is 200 c.requires.few (ap (nat_lt 0) (sym c.weight_of-weight.ensures) ∙ lt-ltb 0 c.weight_of-weight.result c.if-weight-gt0.true) in
    let place = c.loop-pref.invariant.count in let room = c.requires.current in let fits = c.ranges.current in
    omega (arith, few, place, room, fits)

pub overflow_add-place : goal.overflow_add-place
overflow_add-place c =
    let prefs = c.args.step.now.prefs in
    let within = subst (λ list. c.loop-pref.pref-index < length list) c.items-pref-items.ensures c.loop-pref-test.true in
    let is = c.pref-item.is ∙ ap (λ list. get_or list c.loop-pref.pref-index c.pref-item.result) c.items-pref-items.ensures in
    let few = weighted_room c.args.by_name.now prefs c.loop-pref.pref-index c.pref-item.result within is 200 c.requires.few (ap (nat_lt 0) (sym c.weight_of-weight.ensures) ∙ lt-ltb 0 c.weight_of-weight.result c.if-weight-gt0.true) in
    let place = c.loop-pref.invariant.count in omega (arith, few, place)

pub loop-pref-preserved : goal.loop-pref-preserved
loop-pref-preserved c =
    let by_name = c.args.by_name.now in
    let prefs = c.args.step.now.prefs in
    let index = c.loop-pref.pref-index in
    let pref = c.pref-item.result in
    let within = subst (λ list. index < length list) c.items-pref-items.ensures c.loop-pref-test.true in
    let is = c.pref-item.is ∙ ap (λ list. get_or list index pref) c.items-pref-items.ensures in
    elim c.if-weight-gt0.branch [
      | then-weight-gt0+in_ok-push_answers w ↦
          let has : nat_lt 0 (weight_of by_name pref) ≡ true = ap (nat_lt 0) (sym c.weight_of-weight.ensures) ∙ lt-ltb 0 c.weight_of-weight.result w.if-weight-gt0.true in
          let both = subst (λ weight. HasBothAnswers c.args.first c.args.current c.args.step.now.number c.loop-pref.place pref.body weight c.loop-pref.actions w.push_answers.new.actions) c.weight_of-weight.ensures w.in_ok-push_answers.ensures in
          record {
            count = w.place-is ∙ ap (λ n. n + 1) c.loop-pref.invariant.count ∙ sym (ap length (weighted_yes by_name prefs index pref within is has) ∙ length-append (weighted by_name (take index prefs)) (pref ∷ []));
            asked = subst (IsAsked c.args.first c.args.current c.args.step.now.number by_name (weighted by_name (take (index + 1) prefs)) c.args.actions.now) (sym w.actions-is)
                (asked_more by_name prefs index pref within is c.args.first c.args.current c.args.step.now.number c.loop-pref.place c.args.actions.now c.loop-pref.actions w.push_answers.new.actions has c.loop-pref.invariant.count c.loop-pref.invariant.asked both);
          }
      | else-weight-gt0 w ↦
          let none : nat_lt 0 (weight_of by_name pref) ≡ false = ap (nat_lt 0) (sym c.weight_of-weight.ensures) ∙ le-ltb 0 c.weight_of-weight.result w.if-weight-gt0.false in
          let same = weighted_no by_name prefs index pref within is none in
          record {
            count = w.place-is ∙ c.loop-pref.invariant.count ∙ sym (ap length same);
            asked = subst (IsAsked c.args.first c.args.current c.args.step.now.number by_name (weighted by_name (take (index + 1) prefs)) c.args.actions.now) (sym w.actions-is)
                (subst (λ list. IsAsked c.args.first c.args.current c.args.step.now.number by_name list c.args.actions.now c.loop-pref.actions) (sym same) c.loop-pref.invariant.asked);
          }
    ]
