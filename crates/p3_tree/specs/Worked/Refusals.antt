-- Worked refusals: the texts of a domain and a problem, and the line that is printed of the first refusal that they show.
use Rattle.std.specs.Prelude.{◌≡◌, ℕ, ◌+◌, List, [], ◌∷◌, ◌++◌, flat_map, codes, Option, Some, None, option_map, option_and_then}
use Prim.Native.String.{String}
use Rattle.std.specs.Fmt.{decimal}
use Rattle.std.specs.List.{range_with_len}
use Rattle.std.specs.Option.{option_or}
use Rattle.p3_base.specs.declared.refusal.Refusal.{Refusal}
use Rattle.p3_base.specs.declared.refusal.Role.{Role}
use Rattle.p3_base.specs.declared.refusal.Role.TheVariants as role
use Rattle.p3_base.specs.declared.refusal.Side.TheVariants.{Source}
use Rattle.p3_task.specs.Sides.{InDomain, InProblem, level_limit}
use Rattle.p3_task.specs.Expressions.{expression_of_text}
use Rattle.p3_task.specs.Grammar.Halves.{domain_place, problem_place}
use Rattle.p3_task.specs.Refusals.Texts.{text_refusal}
use Rattle.p3_task.specs.Refusals.First.{task_refusal}
use Rattle.p3_tree.specs.Reports.Lines.{line}
use Rattle.p3_tree.specs.Reports.Refusals.{refusal_line}
use Rattle.p3_task.specs.declared.task.Task.{Task}

-- a text of lines
abbrev pub text_of : List String → List ℕ
text_of lines = flat_map (λ text. line (codes text)) lines

-- the task that two texts spell
abbrev pub task_of_texts : List ℕ → List ℕ → Option Task
task_of_texts d p =
    option_and_then (λ domain. option_map (λ problem. record { domain = domain; problem = problem }) (option_and_then problem_place (expression_of_text (level_limit Source) p)))
    (option_and_then domain_place (expression_of_text (level_limit Source) d))

-- the text in which a refusal stands
abbrev pub text_in : List ℕ → List ℕ → Role → List ℕ
text_in d p role.Domain = d
text_in d p _ = p

abbrev pub told : List ℕ → List ℕ → Option Refusal → Option (List ℕ)
told d p refusal = option_map (λ (shown : Refusal). refusal_line (text_in d p shown.pos.role) shown) refusal

-- the line of the first refusal, malformed texts apart
unfoldable pub refused : List ℕ → List ℕ → Option (List ℕ)
refused d p =
    told d p (option_or (text_refusal Source InDomain d) (option_or (text_refusal Source InProblem p) (option_and_then (task_refusal Source) (task_of_texts d p))))

abbrev pub prints : String → Option (List ℕ)
prints text = Some (line (codes text))

-- ---- the texts

-- a goal under so many negations
abbrev pub nested : ℕ → List ℕ
nested n = text_of ("(define (problem q) (:domain d) (:init)" ∷ []) ++ line (codes "(:goal " ++ flat_map (λ k. codes "(not ") (range_with_len 0 n) ++ codes "(p)" ++ flat_map (λ k. codes ")") (range_with_len 0 (n + 2)))

-- so many names
abbrev pub objects_up_to : ℕ → List ℕ
objects_up_to n = flat_map (λ k. codes " o" ++ decimal k) (range_with_len 1 n)

abbrev pub first_domain : List ℕ
first_domain = text_of ("(define (domain d) (:predicates (p))" ∷ "(:action a :parameters () :precondition () :effect (p)))" ∷ [])

-- a problem with this line as its last one
abbrev pub with_metric : String → List ℕ
with_metric metric = text_of ("(define (problem q) (:domain d) (:init)" ∷ "(:goal (preference g (p)))" ∷ metric ∷ [])

abbrev pub first_problem : List ℕ
first_problem = with_metric "(:metric minimize (* 5 (is-violated g))))"

abbrev pub wide_domain : List ℕ
wide_domain = text_of ("(define (domain d) (:types t) (:predicates (r ?x - t))" ∷ "(:action b :parameters (?x - t) :effect (r ?x))" ∷ "(:action a :precondition (forall (?x - t) (preference w (r ?x)))))" ∷ [])

abbrev pub wide_problem : ℕ → List ℕ
wide_problem n = line (codes "(define (problem q) (:domain d) (:init) (:goal (and)) (:metric minimize (is-violated w)) (:objects" ++ objects_up_to n ++ codes " - t))")

-- a domain with this line as its last one
abbrev pub with_condition : String → List ℕ
with_condition action = text_of ("(define (domain d) (:types t) (:constants k) (:predicates (p) (r ?x - t))" ∷ action ∷ [])

abbrev pub plain_problem : List ℕ
plain_problem = text_of ("(define (problem q) (:domain d) (:init) (:goal (p)))" ∷ [])

-- ---- the lines

-- texts by themselves
pub record RefusedTexts : Type 0 where
  pub empty_text : refused [] first_problem ≡ prints "refused 2 unbalanced: domain 1:1 end of text"
  pub unbalanced_problem : refused first_domain (with_metric "(:metric minimize (* 5 (is-violated g)))") ≡ prints "refused 2 unbalanced: problem 4:1 end of text"
  pub left_out_operator : refused first_domain (text_of ("(define (problem q) (:domain d) (:init) (:goal (p))" ∷ "(:constraints (within 5 (p))))" ∷ [])) ≡ prints "refused 4 construct: problem 2:16 within"
  pub derived_predicate : refused (text_of ("(define (domain d) (:predicates (p))" ∷ "(:derived (p) (and)))" ∷ [])) first_problem ≡ prints "refused 4 construct: domain 2:2 :derived"
  pub too_deep : refused first_domain (nested 198) ≡ prints "refused 3 too deep: problem 2:998 ("
  pub foreign_byte : refused (text_of ("(define (domain d) (:types t) (:constants k) (:predicates (p) (r ?x - t))" ∷ []) ++ 0 ∷ text_of ("(:action a :parameters () :precondition (p)))" ∷ [])) plain_problem ≡ prints "refused 1 bad byte: domain 2:1 byte 00"
  pub texts_first : refused (with_condition "(:action a :parameters () :precondition (s)))") (codes "(define (problem q) (:domain d) (:init) (:goal (p))") ≡ prints "refused 2 unbalanced: problem 1:52 end of text"
  pub numeric_condition : refused (with_condition "(:action a :parameters () :precondition (> (f) 3)))") plain_problem ≡ prints "refused 4 construct: domain 2:42 >"
  pub long_number : refused first_domain (with_metric "(:metric minimize 1234567890123456))") ≡ prints "refused 12 number too long: problem 3:19 1234567890123456"
  pub too_many_places : refused first_domain (with_metric "(:metric minimize (* 0.0000005 (is-violated g))))") ≡ prints "refused 12 number too long: problem 3:22 0.0000005"

-- names, arguments and types
pub record RefusedNames : Type 0 where
  pub duplicate_variable : refused (with_condition "(:action a :parameters () :precondition (exists (?x ?x) (p))))") plain_problem ≡ prints "refused 6 duplicate: domain 2:53 ?x"
  pub unknown_predicate : refused (with_condition "(:action a :parameters () :precondition (s)))") plain_problem ≡ prints "refused 7 unknown: domain 2:42 s"
  pub too_few_arguments : refused (with_condition "(:action a :parameters () :precondition (r)))") plain_problem ≡ prints "refused 8 arity: domain 2:42 r"
  pub type_clash : refused (with_condition "(:action a :parameters () :precondition (r k)))") plain_problem ≡ prints "refused 9 type clash: domain 2:44 k"
  pub unknown_preference : refused first_domain (with_metric "(:metric minimize (is-violated h)))") ≡ prints "refused 7 unknown: problem 3:32 h"

-- metrics, costs and sizes
pub record RefusedTasks : Type 0 where
  pub negative_weight : refused first_domain (with_metric "(:metric minimize (- 0 (is-violated g))))") ≡ prints "refused 10 negative weight: problem 3:37 g"
  pub dear_action : refused (text_of ("(define (domain d) (:predicates (p)) (:functions (total-cost) - number)" ∷ "(:action a :parameters () :effect (and (p) (increase (total-cost) 2147483648))))" ∷ [])) (text_of ("(define (problem q) (:domain d) (:init) (:goal (p))" ∷ "(:metric minimize (* 2147483648 (total-cost))))" ∷ [])) ≡ prints "refused 13 cost too large: domain 2:10 a"
  pub too_many_steps : refused (text_of ("(define (domain d) (:predicates (p))" ∷ "(:action a :parameters (?a ?b ?c ?d ?e ?f ?g ?h ?i) :effect (p)))" ∷ [])) (text_of ("(define (problem q) (:domain d) (:objects o1 o2 o3 o4 o5 o6 o7) (:init) (:goal (p)))" ∷ [])) ≡ prints "refused 14 too many instances: domain 2:10 a"
  pub not_linear : refused first_domain (with_metric "(:metric minimize (* (is-violated g) (is-violated g))))") ≡ prints "refused 11 not linear: problem 3:20 *"
  pub large_product : refused first_domain (with_metric "(:metric minimize (* 3000000000 3000000000 (is-violated g))))") ≡ prints "refused 13 cost too large: problem 3:20 *"
  pub too_many_places_of_a_product : refused first_domain (with_metric "(:metric minimize (* 0.0005 0.0005 (is-violated g))))") ≡ prints "refused 13 cost too large: problem 3:20 *"
  pub dear_value : refused (text_of ("(define (domain d) (:predicates (p)) (:functions (total-cost) - number (f) - number)" ∷ "(:action a :effect (increase (total-cost) (f))))" ∷ [])) (text_of ("(define (problem q) (:domain d) (:init (= (total-cost) 0.0001)" ∷ "(= (f) 999999999999999)) (:goal (p)))" ∷ [])) ≡ prints "refused 13 cost too large: problem 2:8 999999999999999"
  pub large_goal : refused first_domain (line (codes "(define (problem q) (:domain d) (:init) (:objects" ++ objects_up_to 100 ++ codes ")") ++ line (codes "(:goal (forall (?x ?y ?z) (= ?x ?x))))")) ≡ prints "refused 15 formula too large: problem 2:2 :goal"
  pub many_preferences : refused first_domain (line (codes "(define (problem q) (:domain d) (:init) (:objects" ++ objects_up_to 317 ++ codes ")") ++ line (codes "(:goal (forall (?x ?y) (preference g (= ?x ?y)))))")) ≡ prints "refused 16 too many preferences: problem 2:25 preference"
  pub wide_action : refused wide_domain (wide_problem 201) ≡ prints "refused 17 split too wide: domain 3:10 a"

-- what is just within the limits
pub record NotRefused : Type 0 where
  pub fine : refused first_domain first_problem ≡ None
  pub greatest_cost : refused (text_of ("(define (domain d) (:predicates (p)) (:functions (total-cost) - number)" ∷ "(:action a :parameters () :effect (and (p) (increase (total-cost) 2147483649))))" ∷ [])) (text_of ("(define (problem q) (:domain d) (:init) (:goal (p))" ∷ "(:metric minimize (* 2147483647 (total-cost))))" ∷ [])) ≡ None
  pub deep_enough : refused first_domain (nested 197) ≡ None
  pub wide_action : refused wide_domain (wide_problem 9) ≡ None
