use Rattle.std.proofs.Common.{◌∙◌, ap, sym, Ok, Err}
use Rattle.std.specs.Prelude.{slice_get}
use Rattle.std.proofs.lemmas.List.Sorted.{searched}
use Rattle.std.specs.Str.{str_to_ascii_lowercase}
use Rattle.p3_task.specs.Names.{has_name}
use Rattle.p3_types.proofs.FindLemmas.{none_named, none_there, not_there, there}
use Rattle.p3_types.proofs.NameOrderLemmas.{map_same}
use Rattle.p3_types.proofs.finding.place_in.Goals as goal

pub returns-in_default : goal.returns-in_default
returns-in_default c =
    let word = str_to_ascii_lowercase c.args.word.now in
    none_named c.args.names.now c.args.objects.now c.requires.range word (ap (λ all. has_name all word) (sym (map_same c.args.names.now)) ∙ c.in_default.ensures)

pub returns-in-Ok : goal.returns-in-Ok
returns-in-Ok c =
    let object = c.in-Some.object in
    let found = searched c.args.objects.now object (Ok c.in-Ok.place) c.in-Ok.ensures.position c.requires.range.rising in
    there c.args.names.now c.args.objects.now c.requires.range object c.in-Ok.place _ (ap (λ all. slice_get all object) (sym (map_same c.args.names.now)) ∙ c.in-Some.ensures) found.0 found.1

pub returns-in-Err : goal.returns-in-Err
returns-in-Err c =
    let names = c.args.names.now in
    let objects = c.args.objects.now in
    let object = c.in-Some.object in
    none_there names objects c.requires.range object _ c.requires.distinct (ap (λ all. slice_get all object) (sym (map_same names)) ∙ c.in-Some.ensures)
    (not_there names objects c.requires.range object c.in-Err.field-0 (searched objects object (Err c.in-Err.field-0) c.in-Err.ensures.position c.requires.range.rising))
