-- A pair of texts has one task at most.
use Rattle.std.proofs.Common.{◌≡◌, ◌∙◌, sym, subst, ℕ, List, Some}
use Rattle.p3_task.specs.Tokens.{tokens_of}
use Rattle.p3_task.specs.Grammar.Words.{Place, IsText}
use Rattle.p3_task.specs.Grammar.Halves.{domain_place, problem_place}
use Rattle.p3_task.specs.Grammar.Texts.{IsBalanced, Reads}
use Rattle.p3_task.proofs.SpellingLemmas.{one_expression_at_most}
use Rattle.p3_task.specs.declared.expression.Expression.{Expression}
use Rattle.p3_task.specs.declared.task.Task.{Task}

-- of a text at a place
one_tree_at_most : {A : Type 0} (place : Place A) (text : List ℕ) (e f : Expression) (first second : A) → IsBalanced text e → IsBalanced text f → IsText place e first → IsText place f second → first ≡ second
one_tree_at_most place text e f first second balanced others reads read =
    let one : e ≡ f = one_expression_at_most (tokens_of text).tokens e f balanced.spelled others.spelled in
    let same : Some first ≡ Some second = sym (subst (λ expression. place expression ≡ Some first) one reads) ∙ read in
    cc

pub one_task_at_most : (d p : List ℕ) (T U : Task) → Reads d p T → Reads d p U → T ≡ U
one_task_at_most d p T U reads others = λ i. record {
  domain = one_tree_at_most domain_place d reads.domain others.domain T.domain U.domain reads.domain_balanced others.domain_balanced reads.texts.domain others.texts.domain i;
  problem = one_tree_at_most problem_place p reads.problem others.problem T.problem U.problem reads.problem_balanced others.problem_balanced reads.texts.problem others.texts.problem i;
}
