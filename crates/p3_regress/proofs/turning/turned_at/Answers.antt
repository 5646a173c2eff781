use Rattle.std.proofs.Common.{◌≡◌, ◌∙◌, ◌++◌, inl, inr, [], ◌∷◌, take, get_or, refl, sym, ap, arith}
use Rattle.std.proofs.lemmas.Bool.{cases_lt}
use Rattle.p3_regress.specs.Sorted.{lent}
use Rattle.p3_regress.specs.Turned.{turned_parts}
use Rattle.p3_regress.proofs.PartLaws.{all_turned, one_turned}
use Rattle.p3_regress.proofs.turning.turned_at.Goals as goal
use Rattle.p3_regress.proofs.turning.turned_at.Goals.{then-place-next+then-place-parts+in_ok-push_turned, else-place-next, else-place-next-via-then-place-next+else-place-parts, else-place-next-via-else-place-next}

pub loop-place-preserved : goal.loop-place-preserved
loop-place-preserved c =
    let changes = lent c.args.changes.now in
    let parts = c.args.parts.now in
    let places = c.args.places.now in
    let place = get_or places c.loop-place.place-index 0 in
    let invariant = c.loop-place.invariant in
    elim c.if-place-next.branch [
      | then-place-next+then-place-parts+in_ok-push_turned w ↦
          let part = w.index-parts-place.result in
          let next = w.next-is in
          let within = w.if-place-parts.true in
          record {
            are = ap (λ kept. kept.items) w.kept-is ∙ w.in_ok-push_turned.ensures ∙ ap (λ kept. kept ++ turned_parts changes c.args.up (part ∷ [])) invariant.are
                ∙ one_turned changes c.args.up parts places c.requires.all c.requires.sorted c.loop-place.next c.loop-place.place-index invariant.passed place part c.loop-place-test.true refl w.if-place-next.true within w.index-parts-place.is
                ∙ ap (λ n. turned_parts changes c.args.up (take n parts)) (sym next);
            bound = omega (arith, next, within);
            passed = λ index low inside. elim (cases_lt index c.loop-place.place-index) [
              | inl early ↦ let p = invariant.passed index early inside in let t = w.if-place-next.true in omega (arith, next, p, t)
              | inr late ↦ let e : index ≡ c.loop-place.place-index = omega (arith, low, late) in let same = ap (λ n. get_or places n 0) e in omega (arith, next, same)
            ];
          }
      | else-place-next w ↦
          let next = w.next-is in
          record {
            are = ap (λ kept. kept.items) w.kept-is ∙ invariant.are ∙ ap (λ n. turned_parts changes c.args.up (take n parts)) (sym next);
            bound = let b = invariant.bound in omega (arith, next, b);
            passed = λ index low inside. elim (cases_lt index c.loop-place.place-index) [
              | inl early ↦ let p = invariant.passed index early inside in omega (arith, next, p)
              | inr late ↦
                  let e : index ≡ c.loop-place.place-index = omega (arith, low, late) in
                  let same = ap (λ n. get_or places n 0) e in
                  elim w.else-place-next.branch [
                    | else-place-next-via-then-place-next+else-place-parts v ↦ let far = v.if-place-parts.false in absurd (omega (arith, same, inside, far))
                    | else-place-next-via-else-place-next v ↦ let t = v.if-place-next.false in omega (arith, next, same, t)
                  ]
            ];
          }
    ]

pub returns : goal.returns
returns c =
    c.loop-place.invariant.are
    ∙ all_turned (lent c.args.changes.now) c.args.up c.args.parts.now c.args.places.now c.requires.all c.requires.sorted c.loop-place.next c.loop-place.place-index c.loop-place.invariant.passed c.loop-place-test.false c.loop-place.invariant.bound
