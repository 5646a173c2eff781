use Rattle.std.proofs.Common.{◌≡◌, take}
use Rattle.p3_embed.specs.Plans.{steps_at}
use Rattle.p3_plans.specs.Layout.{plan_layout}
use Rattle.p3_cli.proofs.embedding.source_text.Given as goal

-- the lines of the places passed are there
abbrev pub invariant-loop-place : goal.invariant-loop-place
invariant-loop-place l = l.text.items ≡ plan_layout (steps_at l.target (take l.place-index l.places))
