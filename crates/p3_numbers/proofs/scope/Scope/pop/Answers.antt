use Rattle.std.proofs.Common.{rules, ◌∙◌, sym, refl, Some, None}
use Rattle.std.proofs.lemmas.List.{append-nil}
use Rattle.p3_numbers.proofs.ScopeLemmas.{by-bytes, indexed-pop, indexed-found, indexed-same}
use Rattle.p3_numbers.proofs.scope.Scope.pop.Goals as goal

pub invariant_of-self : goal.invariant_of-self
invariant_of-self c =
    indexed-pop _ _ c.self.inside.entries.items _ c.in-Some.entry _ _ c.bytes-name.result c.self.invariant c.in-Some.ensures.items c.bytes-name.ensures.bytes
    (Some c.in-Some-hidden.place) c.in-Some-hidden.is (λ other. by-bytes c.bytes-name.result other _ _ _ (((c.get_mut.follows.holds c.in-Some-hidden.place).3 (search rules)).0 other))

pub invariant_of-self-in_default-get_mut : goal.invariant_of-self-in_default-get_mut
invariant_of-self-in_default-get_mut c =
    absurd (indexed-found _ _ c.self.inside.entries.items _ c.in-Some.entry _ c.bytes-name.result c.self.invariant c.in-Some.ensures.items c.bytes-name.ensures.bytes
    (search rules))

pub invariant_of-self-in-None : goal.invariant_of-self-in-None
invariant_of-self-in-None c =
    indexed-pop _ _ c.self.inside.entries.items _ c.in-Some.entry _ _ c.bytes-name.result c.self.invariant c.in-Some.ensures.items c.bytes-name.ensures.bytes
    None c.in-None.is (λ other. by-bytes c.bytes-name.result other _ _ _ (c.remove.ensures.updates.0 other))

pub invariant_of-self-in_default : goal.invariant_of-self-in_default
invariant_of-self-in_default c = indexed-same _ _ _ c.self.inside.entries.items _ _ c.self.invariant (sym (c.in_default.ensures.items ∙ append-nil _)) (λ other. refl)
