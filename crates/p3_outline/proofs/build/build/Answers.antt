use Rattle.std.proofs.Common.{◌≡◌, ◌∷◌, List, [], ◌∙◌, refl, sym, ap, subst, length, take, drop, true, Some, None, arith}
use Rattle.std.specs.Option.{option_map}
use Rattle.p3_lexer.specs.Lexing.{Progress, left, token_of, with_next}
use Rattle.p3_places.specs.Searches.{side_of}
use Rattle.p3_places.specs.Walks.{fault_left}
use Rattle.p3_places.proofs.WalkLemmas.{all_passed}
use Rattle.p3_outline.specs.Nodes.{expressions_in}
use Rattle.p3_outline.specs.declared.view.Node.{Node}
use Rattle.p3_outline.specs.Builds.{Built, the_built, only_if, with_token}
use Rattle.p3_outline.proofs.BuildLemmas.{Goes, at_start, one_more, none_more, at_end, token_stands, one_node}
use Rattle.p3_outline.proofs.NumberLemmas.{numbers_from, numbers_more}
use Rattle.p3_outline.proofs.build.build.Goals as goal

pub loop-word-init : goal.loop-word-init
loop-word-init c = record {
  source = ap (λ (p : Progress). p.source) c.new-lexer.ensures.starts;
  few = let none = ap (λ (built : Built). length built.nodes) c.in_ok-passed.ensures.nodes in omega (arith, none);
  goes = rw (c.in_ok-passed.ensures.nodes, c.new-lexer.ensures.starts) (at_start c.args.limit c.args.text.now);
  numbers = rw (c.in_ok-passed.ensures.number, c.new-lexer.ensures.starts) refl;
  faults = ap (λ (p : Progress). fault_left c.args.role c.in_ok-passed.passed.faults (left p)) c.new-lexer.ensures.starts ∙ c.in_ok-passed.ensures.faults c.args.text.now;
}

pub returns-then-not-branch-clause-nodes : goal.returns-then-not-branch-clause-nodes
returns-then-not-branch-clause-nodes c =
    let token = token_of c.in-Token.offset c.in-Token.word.now in
    let later = left c.next.new.self in
    let built = the_built c.loop-word.passed.building in
    let leads = c.next.ensures.tokens ∙ ap (λ n. with_next n later) c.in-Token.is in
    let goes = subst (λ l. Goes c.args.limit c.args.text.now l built) leads c.loop-word.invariant.goes in
    let slice = subst (λ s. c.in-Token.word.now ≡ take (length c.in-Token.word.now) (drop c.in-Token.offset s)) c.loop-word.invariant.source c.in-Token.ensures.slice.slice in
    let stands = token_stands c.args.text.now c.in-Token.offset c.in-Token.word.now slice in
    let is : with_token c.args.limit built token ≡ None = sym c.in_ok-pass-in-Token.ensures.nodes ∙ ap (λ b. only_if b (the_built c.pass.new.self.building)) c.if-not-branch.true in
    sym (ap (option_map (λ e. e ∷ [])) (none_more c.args.limit c.args.text.now token later built stands goes is))

pub loop-word-preserved : goal.loop-word-preserved
loop-word-preserved c =
    let token = token_of c.in-Token.offset c.in-Token.word.now in
    let later = left c.next.new.self in
    let built = the_built c.loop-word.passed.building in
    let next = the_built c.pass.new.self.building in
    let leads = c.next.ensures.tokens ∙ ap (λ n. with_next n later) c.in-Token.is in
    let goes = subst (λ l. Goes c.args.limit c.args.text.now l built) leads c.loop-word.invariant.goes in
    let slice = subst (λ s. c.in-Token.word.now ≡ take (length c.in-Token.word.now) (drop c.in-Token.offset s)) c.loop-word.invariant.source c.in-Token.ensures.slice.slice in
    let stands = token_stands c.args.text.now c.in-Token.offset c.in-Token.word.now slice in
    let is : with_token c.args.limit built token ≡ Some next = sym c.in_ok-pass-in-Token.ensures.nodes ∙ ap (λ b. only_if b next) c.if-not-branch.false in
    let place = c.in-Token.ensures.slice in
    let few = one_node c.args.limit built next token is in
    record {
      source = c.next.ensures.source ∙ c.loop-word.invariant.source;
      few = omega (arith, few, c.loop-word.invariant.few, place.some, place.ends, place.behind_gap);
      goes = one_more c.args.limit c.args.text.now token later built next stands goes is;
      numbers =
          sym (numbers_more (side_of c.args.role) c.args.role c.loop-word.passed.number c.pass.new.self.number token later c.in_ok-pass-in-Token.ensures.number)
          ∙ ap (numbers_from (side_of c.args.role) c.args.role c.loop-word.passed.number) (sym leads) ∙ c.loop-word.invariant.numbers;
      faults = sym (c.in_ok-pass-in-Token.ensures.faults later) ∙ ap (fault_left c.args.role c.loop-word.passed.faults) (sym leads) ∙ c.loop-word.invariant.faults;
    }

pub returns-in-End-clause-nodes : goal.returns-in-End-clause-nodes
returns-in-End-clause-nodes c =
    let built = the_built c.loop-word.passed.building in
    let leads = c.next.ensures.tokens ∙ ap (λ n. with_next n (left c.next.new.self)) c.in-End.is in
    let goes = subst (λ l. Goes c.args.limit c.args.text.now l built) leads c.loop-word.invariant.goes in
    ap (λ (nodes : List Node). Some (expressions_in c.args.text.now nodes)) c.into_nodes.ensures.nodes
    ∙ at_end c.args.limit c.args.text.now built true (sym c.is_done.ensures ∙ c.if-not-is_done.false) goes

pub returns-in-End-clause-fault : goal.returns-in-End-clause-fault
returns-in-End-clause-fault c =
    let leads = c.next.ensures.tokens ∙ ap (λ n. with_next n (left c.next.new.self)) c.in-End.is in
    c.into_nodes.ensures.fault ∙ sym (all_passed c.args.role c.loop-word.passed.faults) ∙ ap (fault_left c.args.role c.loop-word.passed.faults) (sym leads) ∙ c.loop-word.invariant.faults
