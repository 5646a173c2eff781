use Rattle.std.proofs.Common.{◌≡◌, ◌++◌, map}
use Rattle.std.specs.Prelude.{codes, replicate}
use Rattle.p3_numbers.specs.Places.{environment_of}
use Rattle.p3_scenes.specs.Lent.{lent_words}
use Rattle.p3_accounts.specs.Operators.{operator_word}
use Rattle.p3_accounts.specs.Vocabularies.{vocabulary}
use Rattle.p3_meanings.specs.Environments.{environment_text}
use Rattle.p3_meanings.specs.Heard.{heard, of_watched}
use Rattle.p3_meanings.proofs.watch.push_watches.Given as goal

-- one atom more for each turn
abbrev pub invariant-loop : goal.invariant-loop
invariant-loop l =
    let V = vocabulary l.telling.terms.now in
    map (heard V) l.found ≡ map (heard V) l.fn.found ++ replicate l.counter (record {
      letter = codes "m";
      spot = l.spot;
      text = of_watched V l.of (operator_word l.operator ++ environment_text (environment_of V.numbers (lent_words l.scene.bindings.variables) l.scene.bindings.objects));
    })
