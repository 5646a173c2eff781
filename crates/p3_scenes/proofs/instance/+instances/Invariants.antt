use Rattle.std.proofs.Common.{◌≡◌, ◌++◌, length, map, take}
use Rattle.std.specs.Prelude.{flat_map}
use Rattle.p3_numbers.specs.Slots.{bound}
use Rattle.p3_scenes.specs.Lent.{lent_words}
use Rattle.p3_scenes.specs.Scenes.{soft_scenes}
use Rattle.p3_scenes.specs.Seen.{seen_soft}
use Rattle.p3_scenes.proofs.instance.+instances.Given as goal

-- the preferences of the parts passed are there
abbrev pub invariant-push_parts-loop-place : goal.invariant-push_parts-loop-place
invariant-push_parts-loop-place l = map seen_soft l.found ≡ map seen_soft l.fn.found ++ flat_map (λ part. soft_scenes l.half.numbers.now l.half.role part (lent_words l.scope) l.slots) (take l.place l.parts)

abbrev pub invariant-push_bodies-loop-choice : goal.invariant-push_bodies-loop-choice
invariant-push_bodies-loop-choice l = record {
  outer : take (length l.slots) l.inner.items ≡ l.slots;
  found : map seen_soft l.found ≡ map seen_soft l.fn.found ++ flat_map (soft_scenes l.half.numbers.now l.half.role l.body (lent_words l.scope)) (take l.choice (bound l.half.numbers.now l.slots l.ranges));
}
