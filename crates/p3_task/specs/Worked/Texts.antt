-- Worked cases on the grammar: texts and their trees, whose offsets are left out here.
use Rattle.std.specs.Prelude.{◌≡◌, codes, Option, Some, None, option_map, option_and_then}
use Prim.Native.String.{String}
use Rattle.p3_task.specs.Expressions.{expression_of_text}
use Rattle.p3_task.specs.Grammar.Halves.{domain_place, problem_place}
use Rattle.p3_task.specs.Erased.{erased_domain, erased_problem}
use Rattle.p3_task.specs.Worked.FirstExample.{read, written}
use Rattle.p3_task.specs.Worked.Trucks.{trucks_domain, trucks_problem}
use Rattle.p3_task.specs.declared.task.Domain.{Domain}
use Rattle.p3_task.specs.declared.task.Problem.{Problem}

unfoldable pub domain_text : String → Option Domain
domain_text text = option_map erased_domain (option_and_then domain_place (expression_of_text 200 (codes text)))

unfoldable pub problem_text : String → Option Problem
problem_text text = option_map erased_problem (option_and_then problem_place (expression_of_text 200 (codes text)))

pub record TextsOfTasks : Type 0 where
  pub first_domain : domain_text "(define (domain d) (:predicates (p)) (:action a :parameters () :precondition () :effect (p)))" ≡ Some (erased_domain read.domain)
  pub first_problem : problem_text "(define (problem q) (:domain d) (:init) (:goal (preference g (p))) (:metric minimize (* 5 (is-violated g))))" ≡ Some (erased_problem read.problem)
  pub written_domain : domain_text "(define (domain compiled) (:requirements :adl :action-costs) (:predicates (f0) (go) (e0) (e1)) (:functions (total-cost) - number) (:action s0v :parameters () :precondition (go) :effect (and (f0))) (:action finish :parameters () :precondition (go) :effect (and (not (go)) (e0))) (:action collect0 :parameters () :precondition (and (e0) (f0)) :effect (and (not (e0)) (e1))) (:action forgo0 :parameters () :precondition (and (e0) (not (f0))) :effect (and (not (e0)) (e1) (increase (total-cost) 5))) )" ≡ Some (erased_domain written.domain)
  pub written_problem : problem_text "(define (problem compiled) (:domain compiled) (:init (= (total-cost) 0) (go)) (:goal (e1)) (:metric minimize (total-cost)))" ≡ Some (erased_problem written.problem)
  pub delivery_domain : domain_text "(define (domain Trucks-Pref) (:requirements :adl :preferences :constraints :action-costs) (:types truck crate - movable place) (:predicates (at ?x - (either truck crate) ?p - place) (in ?c - crate ?t - truck)) (:functions (total-cost) - number (road-length ?a ?b - place) - number) (:action drive :parameters (?t - truck ?a ?b - place) :precondition (at ?t ?a) :effect (and (not (at ?t ?a)) (at ?t ?b) (increase (total-cost) (road-length ?a ?b)))) (:action load :parameters (?c - crate ?t - truck ?p - place) :precondition (and (at ?t ?p) (at ?c ?p) (preference light (forall (?d - crate) (not (in ?d ?t))))) :effect (and (not (at ?c ?p)) (in ?c ?t))) (:action unload :parameters (?c - crate ?t - truck ?p - place) :precondition (and (at ?t ?p) (in ?c ?t)) :effect (and (not (in ?c ?t)) (at ?c ?p))))" ≡ Some (erased_domain trucks_domain)
  pub delivery_problem : problem_text "(define (problem deliver-2) (:domain trucks-pref) (:objects t1 - truck c1 c2 - crate a b c - place) (:init (at t1 a) (at c1 a) (at c2 a) (= (total-cost) 0) (= (road-length a b) 4) (= (road-length b a) 4) (= (road-length b c) 7) (= (road-length c b) 7)) (:goal (and (at c1 b) (preference home (at c2 c)) (preference back (at t1 a)))) (:constraints (and (always (forall (?t - truck) (exists (?p - place) (at ?t ?p)))) (forall (?c - crate) (preference once (at-most-once (in ?c t1)))) (preference late (sometime-before (at t1 c) (at c1 b))))) (:metric minimize (+ (total-cost) (* 6 (is-violated light)) (* 20 (is-violated back)) (* 15 (is-violated home)) (* 3 (is-violated once)) (* 1 (is-violated late)))))" ≡ Some (erased_problem trucks_problem)

-- an operator in an operator, a number as an argument, a conditional increase, a section twice, a preference in a preference
pub record TextsOfNoTask : Type 0 where
  pub nested_operator : problem_text "(define (problem q) (:domain d) (:init) (:goal (p)) (:constraints (always (sometime (p)))))" ≡ None
  pub number_argument : domain_text "(define (domain d) (:action a :parameters () :precondition (p 5)))" ≡ None
  pub increase_under_when : domain_text "(define (domain d) (:functions (total-cost)) (:action a :effect (when (p) (increase (total-cost) 5))))" ≡ None
  pub twice : domain_text "(define (domain d) (:predicates (p)) (:predicates (q)))" ≡ None
  pub nested_preference : problem_text "(define (problem q) (:domain d) (:init) (:goal ()) (:constraints (preference a (preference b (always (p))))))" ≡ None
