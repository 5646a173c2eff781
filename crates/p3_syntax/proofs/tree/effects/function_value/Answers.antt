use Rattle.p3_task.specs.Grammar.Words.{each_at}
use Rattle.p3_task.specs.Grammar.Lists.{term_place}
use Rattle.p3_task.specs.declared.term.Ref.{Ref}
use Rattle.p3_task.specs.declared.term.Term.{Term}
use Rattle.std.specs.Prelude.{List}
use Rattle.p3_task.specs.Grammar.Effects.{function_value_in}
use Rattle.p3_task.specs.declared.effect.Amount.TheVariants as amount
use Rattle.p3_outline.specs.Nodes.{expressions_of}
use Rattle.p3_syntax.specs.Trees.{the_head}
use Rattle.p3_syntax.proofs.HeadLemmas.{headed_value, has_head, has_args, read_with}
use Rattle.p3_syntax.proofs.tree.effects.function_value.Goals as goal

pub headed-list-requires : goal.headed-list-requires
headed-list-requires c = let es = expressions_of c.args.parts in record { tree = has_head (each_at term_place) (amount.Value) (function_value_in es) es (headed_value es c.requires.tree) c.requires.tree }

pub terms-requires : goal.terms-requires
terms-requires c =
    let es = expressions_of c.args.parts in
    record { tree = has_args (each_at term_place) (amount.Value) (function_value_in es) es (headed_value es c.requires.tree) (the_head c.headed-list.result) c.headed-list.ensures.headed c.requires.tree }

pub returns : goal.returns
returns c =
    let es = expressions_of c.args.parts in
    read_with (each_at term_place) (amount.Value) (function_value_in es) es (headed_value es c.requires.tree) (the_head c.headed-list.result) c.headed-list.ensures.headed c.in_ok-args.args c.in_ok-args.ensures _ c.in_ok-function.ensures
