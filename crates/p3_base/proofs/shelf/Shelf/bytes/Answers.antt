use Rattle.std.proofs.Common.{◌∙◌, sym, ap, Some, List, ℕ}
use Rattle.std.specs.Option.{option_map}
use Rattle.p3_base.specs.Outside.{bytes_under}
use Rattle.p3_base.proofs.ShelfLemmas.{Bytes, get-listed}
use Rattle.p3_base.proofs.shelf.Shelf.bytes.Goals as goal

pub returns-in-Some : goal.returns-in-Some
returns-in-Some c =
    ap (λ (bytes : List ℕ). Some bytes) c.as_slice.ensures.value
    ∙ ap (option_map (λ (bytes : Bytes). bytes.items)) c.in-Some.ensures.value
    ∙ sym (get-listed c.self.inside.names.entries c.bytes.result.now)
    ∙ ap (λ store. bytes_under store c.bytes.result.now) c.self.view_is
    ∙ ap (bytes_under c.args.self.now) c.bytes.ensures

pub returns-in-None : goal.returns-in-None
returns-in-None c =
    ap (option_map (λ (bytes : Bytes). bytes.items)) c.in-None.ensures.value
    ∙ sym (get-listed c.self.inside.names.entries c.bytes.result.now)
    ∙ ap (λ store. bytes_under store c.bytes.result.now) c.self.view_is
    ∙ ap (bytes_under c.args.self.now) c.bytes.ensures
