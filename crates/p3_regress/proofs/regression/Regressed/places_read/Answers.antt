use Rattle.std.proofs.Common.{◌≡◌, ◌∙◌, ℕ, IfOk, subst, sym}
use Rattle.std.specs.List.{list_any}
use Rattle.std.proofs.lemmas.List.Sorted.{list_any-IsPermutation}
use Rattle.std.proofs.lemmas.Result.{IfOk-weaker}
use Rattle.p3_formula.specs.declared.form.Change.{Change}
use Rattle.p3_regress.specs.Memory.{Regression}
use Rattle.p3_regress.specs.Readers.{is_at, is_read_at, mentions}
use Rattle.p3_regress.specs.Sorted.{lent}
use Rattle.p3_regress.proofs.regression.Regressed.places_read.Goals as goal

pub returns-clause-read : goal.returns-clause-read
returns-clause-read c =
    subst (λ (all : Regression). IfOk c.places_read.result (λ places. (place : ℕ) → mentions place places.items ≡ is_read_at all.effects c.args.readers.now place)) c.self.view_is
    (IfOk-weaker c.places_read.result _ _ (λ places read place. read place ∙ (λ i. is_read_at (lent (c.deref.ensures.value i)) c.args.readers.now place)
    ∙ sym (list_any-IsPermutation (λ (change : Change). list_any (is_at change.atom place) c.args.readers.now) c.self.inside.effects.now (lent c.self.inside.changes.items) c.self.invariant.0)) c.places_read.ensures.read)
