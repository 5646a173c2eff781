use Rattle.std.proofs.Common.{◌∙◌, ap, refl, arith}
use Rattle.std.specs.Cmp.Lexicographic.{slice_cmp}
use Rattle.std.specs.Ordering.{is_eq, nat_cmp}
use Rattle.std.specs.Map.{lookup}
use Rattle.p3_numbers.proofs.ScopeLemmas.{by-bytes, indexed-push, indexed-same, take-push}
use Rattle.p3_numbers.proofs.scope.Scope.push.Goals as goal

pub invariant_of-self : goal.invariant_of-self
invariant_of-self c = indexed-same _ _ _ c.self.inside.entries.items _ _ c.self.invariant c.in_err-push.ensures.items (λ other. refl)

pub invariant_of-self-in-Ok : goal.invariant_of-self-in-Ok
invariant_of-self-in-Ok c =
    indexed-push _ _ _ c.self.inside.entries.items _ _ _ c.bytes-name.result c.self.invariant c.in_ok-push.ensures.items c.bytes-name.ensures.bytes
    (c.copied-hidden.ensures ∙ c.get.ensures.value) c.len-place.result (omega (arith, c.len-place.ensures, c.self.inside.entries.ok.0)) (λ other. by-bytes c.bytes-name.result other _ _ _ (c.in-Ok.ensures.updates.0 other))

pub invariant_of-self-in-Err : goal.invariant_of-self-in-Err
invariant_of-self-in-Err c =
    indexed-same _ _ _ c.self.inside.entries.items _ _ c.self.invariant (c.pop.ensures.rest ∙ take-push _ _ _ _ (omega (arith, c.push.new.self.ok.0)) c.in_ok-push.ensures.items)
    (λ other. ap (lookup (λ key. is_eq (slice_cmp nat_cmp other.now key.now))) c.in-Err.ensures.err)
