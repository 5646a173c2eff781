use Rattle.p3_task.specs.Grammar.Words.{each_at, function_place, is_function_name}
use Rattle.p3_task.specs.Grammar.Lists.{object_place}
use Rattle.p3_task.specs.declared.term.Ref.{Ref}
use Rattle.p3_task.specs.declared.term.Term.{Term}
use Rattle.std.specs.Prelude.{List}
use Rattle.p3_task.specs.Grammar.Words.{◌>>=◌}
use Rattle.std.specs.Prelude.{Some}
use Rattle.p3_task.specs.Grammar.Halves.{initial_in}
use Rattle.p3_task.specs.declared.task.Init.TheVariants as init
use Rattle.p3_outline.specs.Nodes.{expressions_of}
use Rattle.p3_syntax.specs.Trees.{the_head}
use Rattle.p3_syntax.proofs.HeadLemmas.{headed_initial, has_head, has_args, read_with}
use Rattle.p3_syntax.proofs.tree.problems.value_entry.Goals as goal

pub headed-list-requires : goal.headed-list-requires
headed-list-requires c = let es = expressions_of c.args.parts in record { tree = has_head (each_at object_place) (λ (function : Ref) (args : List Term). init.Value function args c.args.number) (initial_in (λ function others. each_at object_place others >>= λ args. Some (init.Value function args c.args.number)) function_place es) es (headed_initial (λ function others. each_at object_place others >>= λ args. Some (init.Value function args c.args.number)) is_function_name es c.requires.tree) c.requires.tree }

pub object_terms-requires : goal.object_terms-requires
object_terms-requires c =
    let es = expressions_of c.args.parts in
    record { tree = has_args (each_at object_place) (λ (function : Ref) (args : List Term). init.Value function args c.args.number) (initial_in (λ function others. each_at object_place others >>= λ args. Some (init.Value function args c.args.number)) function_place es) es (headed_initial (λ function others. each_at object_place others >>= λ args. Some (init.Value function args c.args.number)) is_function_name es c.requires.tree) (the_head c.headed-list.result) c.headed-list.ensures.headed c.requires.tree }

pub returns : goal.returns
returns c =
    let es = expressions_of c.args.parts in
    read_with (each_at object_place) (λ (function : Ref) (args : List Term). init.Value function args c.args.number) (initial_in (λ function others. each_at object_place others >>= λ args. Some (init.Value function args c.args.number)) function_place es) es (headed_initial (λ function others. each_at object_place others >>= λ args. Some (init.Value function args c.args.number)) is_function_name es c.requires.tree) (the_head c.headed-list.result) c.headed-list.ensures.headed c.in_ok-args.args c.in_ok-args.ensures _ c.in_ok-function.ensures
