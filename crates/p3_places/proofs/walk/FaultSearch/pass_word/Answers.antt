use Rattle.std.proofs.Common.{◌∙◌, refl, sym, ap, Some}
use Rattle.std.specs.Char.{to_ascii_lowercase}
use Rattle.std.specs.Str.{str_to_ascii_lowercase}
use Rattle.std.proofs.lemmas.List.{length-map}
use Rattle.p3_base.specs.declared.refusal.Code.TheVariants.{Malformed}
use Rattle.p3_task.specs.Refusals.Places.{refusal_at}
use Rattle.p3_task.specs.Tokens.{Word}
use Rattle.p3_places.proofs.WalkLemmas.{goes_on, stops}
use Rattle.p3_places.proofs.walk.FaultSearch.pass_word.Goals as goal

pub returns-then-not-pass_word : goal.returns-then-not-pass_word
returns-then-not-pass_word c = record {
  passes = stops c.args.role c.args.self.now (record { walk = c.pass_word.new.self; found = Some c.fault_at.result }) (Word c.args.offset (str_to_ascii_lowercase c.args.text.now)) c.in-None.is c.pass_word.result c.pass_word.ensures c.if-not-pass_word.true (ap Some (c.fault_at.ensures ∙ ap (refusal_at Malformed c.args.role c.args.offset) (sym (length-map c.args.text.now to_ascii_lowercase))));
}

pub returns-else-not-pass_word : goal.returns-else-not-pass_word
returns-else-not-pass_word c = record {
  passes = goes_on c.args.role c.args.self.now (record { walk = c.pass_word.new.self; found = c.args.self.now.found }) (Word c.args.offset (str_to_ascii_lowercase c.args.text.now)) c.in-None.is c.pass_word.result c.pass_word.ensures c.if-not-pass_word.false refl;
}
