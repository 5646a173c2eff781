-- What is read shows one first refusal at most, and none where it is accepted.
use Rattle.std.proofs.Common.{◌≡◌, ◌∙◌, ℕ, sym, ap, subst, List, [], ◌∷◌, ◌++◌, map, Option, Some, None, ◌⊎◌, inl, inr, append_assoc}
use Rattle.std.proofs.lemmas.List.{map-append}
use Rattle.p3_base.specs.declared.refusal.Code.TheVariants.{Malformed}
use Rattle.p3_base.specs.declared.refusal.Refusal.{Refusal}
use Rattle.p3_base.specs.declared.refusal.Side.{Side}
use Rattle.p3_task.specs.Sides.{Half, InDomain, InProblem, role_of}
use Rattle.p3_task.specs.Tokens.{Token}
use Rattle.p3_task.specs.PlanTexts.{mark_of}
use Rattle.p3_task.specs.Grammar.Words.{Place}
use Rattle.p3_task.specs.Grammar.Halves.{domain_place, problem_place}
use Rattle.p3_task.specs.Refusals.Places.{refusal_at_token}
use Rattle.p3_task.specs.Refusals.Malformed.{Begins, IsMalformedAt, IsHalfMalformedAt}
use Rattle.p3_task.specs.Refusals.Texts.{text_refusal}
use Rattle.p3_task.specs.Refusals.First.{Text, HalfText, PlanText, IsFirstOfHalf, IsRefusedText, IsFirstOfTexts, TaskTexts, Given, given_texts, IsRefusedTask, AreOfTask, IsFirstOfTasks, IsFirstRefusal, given_task, AreAccepted, task_refusal}
use Rattle.p3_task.proofs.OnceLemmas.{Some-injective}
use Rattle.p3_task.proofs.TextLemmas.{one_task_at_most}
use Rattle.p3_task.specs.declared.task.Task.{Task}

-- ---- malformed texts

-- a list goes on behind the first items and one more
record Behind (front : List Token) (token : Token) (other : List Token) : Type 0 where
  rest : List Token
  is : other ≡ front ++ token ∷ rest

-- two places of one list are the same, or one of them stands behind the other
abbrev Compared : List Token → Token → List Token → Token → Type 0
Compared f t g u = (t ≡ u) ⊎ (Behind f t g ⊎ Behind g u f)

more : (x : Token) (f : List Token) (t : Token) (g : List Token) (u : Token) → Compared f t g u → Compared (x ∷ f) t (x ∷ g) u
more x f t g u (inl same) = inl same
more x f t g u (inr (inl b)) = inr (inl (record { rest = b.rest; is = ap (λ l. x ∷ l) b.is }))
more x f t g u (inr (inr b)) = inr (inr (record { rest = b.rest; is = ap (λ l. x ∷ l) b.is }))

compared : (f : List Token) (t : Token) (l : List Token) (g : List Token) (u : Token) (m : List Token) → f ++ t ∷ l ≡ g ++ u ∷ m → Compared f t g u
compared [] t l [] u m is = inl cc
compared [] t l (x ∷ g) u m is = inr (inl (record { rest = g; is = cc }))
compared (x ∷ f) t l [] u m is = inr (inr (record { rest = f; is = cc }))
compared (x ∷ f) t l (y ∷ g) u m is =
    let head : x ≡ y = cc in
    let tail : f ++ t ∷ l ≡ g ++ u ∷ m = cc in
    subst (λ z. Compared (x ∷ f) t (z ∷ g) u) head (more x f t g u (compared f t l g u m tail))

module _ {A : Type 0} (place : Place A) where
  -- what begins with more begins with less
  shorter : (front : List Token) (token : Token) (other : List Token) → Behind front token other → Begins place (map mark_of other) → Begins place (map mark_of (front ++ token ∷ []))
  shorter front token other b on = record {
    text = on.text;
    e = on.e;
    tree = on.tree;
    balanced = on.balanced;
    is_text = on.is_text;
    later = map mark_of b.rest ++ on.later;
    begins = on.begins ∙ ap (λ l. map mark_of l ++ on.later) (b.is ∙ sym (append_assoc front (token ∷ []) b.rest)) ∙ ap (λ l. l ++ on.later) (map-append mark_of (front ++ token ∷ []) b.rest)
        ∙ append_assoc (map mark_of (front ++ token ∷ [])) (map mark_of b.rest) on.later;
  }

  pub one_malformed_token : (text : List ℕ) (t u : Token) → IsMalformedAt place text t → IsMalformedAt place text u → t ≡ u
  one_malformed_token text t u first second = by (compared first.before t first.later second.before u second.later (sym first.parts ∙ second.parts))
    where
      by : Compared first.before t second.before u → t ≡ u
      by (inl same) = same
      by (inr (inl b)) = absurd (first.ends (shorter first.before t second.before b second.goes_on))
      by (inr (inr b)) = absurd (second.ends (shorter second.before u first.before b first.goes_on))

one_of_half : (half : Half) (text : List ℕ) (t u : Token) → IsHalfMalformedAt half text t → IsHalfMalformedAt half text u → t ≡ u
one_of_half InDomain = one_malformed_token domain_place
one_of_half InProblem = one_malformed_token problem_place

-- ---- texts

one_first_of_half : (found : Option Refusal) (side : Side) (half : Half) (bytes : List ℕ) (r s : Refusal) → IsFirstOfHalf found side half bytes r → IsFirstOfHalf found side half bytes s → r ≡ s
one_first_of_half (Some first) side half bytes r s e f = e ∙ sym f
one_first_of_half None side half bytes r s e f = e.is ∙ ap (refusal_at_token Malformed (role_of side half)) (one_of_half half bytes e.token f.token e.first f.first) ∙ sym f.is

one_of_text : (text : Text) (r s : Refusal) → IsRefusedText text r → IsRefusedText text s → r ≡ s
one_of_text (HalfText side half bytes) r s e f = one_first_of_half (text_refusal side half bytes) side half bytes r s e f
one_of_text (PlanText bytes) r s e f = Some-injective r s (sym e ∙ f)

one_of_texts : (texts : List Text) (r s : Refusal) → IsFirstOfTexts texts r → IsFirstOfTexts texts s → r ≡ s
one_of_texts [] r s e f = absurd e
one_of_texts (text ∷ texts) r s (inl e) (inl f) = one_of_text text r s e f
one_of_texts (text ∷ texts) r s (inl e) (inr f) = absurd (f.0 r e)
one_of_texts (text ∷ texts) r s (inr e) (inl f) = absurd (e.0 s f)
one_of_texts (text ∷ texts) r s (inr e) (inr f) = one_of_texts texts r s e.1 f.1

-- ---- tasks

one_of_task : (texts : TaskTexts) (r s : Refusal) → IsRefusedTask texts r → IsRefusedTask texts s → r ≡ s
one_of_task texts r s e f =
    Some-injective r s (sym e.shows ∙ ap (task_refusal texts.side) (one_task_at_most texts.domain texts.problem e.task f.task e.reads f.reads) ∙ f.shows)

not_both : (texts : TaskTexts) (T : Task) (r : Refusal) → IsRefusedTask texts r → AreOfTask texts T → ⊥
not_both texts T r e of = let wrong : Some r ≡ None = sym e.shows ∙ ap (task_refusal texts.side) (one_task_at_most texts.domain texts.problem e.task T e.reads of.reads) ∙ of.shows in absurd cc

one_of_tasks : (all : List TaskTexts) (r s : Refusal) → IsFirstOfTasks all r → IsFirstOfTasks all s → r ≡ s
one_of_tasks [] r s e f = absurd e
one_of_tasks (texts ∷ all) r s (inl e) (inl f) = one_of_task texts r s e f
one_of_tasks (texts ∷ all) r s (inl e) (inr f) = absurd (not_both texts f.0.task r e f.0.are_of)
one_of_tasks (texts ∷ all) r s (inr e) (inl f) = absurd (not_both texts e.0.task s f e.0.are_of)
one_of_tasks (texts ∷ all) r s (inr e) (inr f) = one_of_tasks all r s e.1 f.1

pub one_first_refusal : (given : Given) (r s : Refusal) → IsFirstRefusal given r → IsFirstRefusal given s → r ≡ s
one_first_refusal given r s (inl e) (inl f) = one_of_texts (given_texts given) r s e f
one_first_refusal given r s (inl e) (inr f) = absurd (f.0 r e)
one_first_refusal given r s (inr e) (inl f) = absurd (e.0 s f)
one_first_refusal given r s (inr e) (inr f) = one_of_tasks given.tasks r s e.1 f.1

pub nothing_is_refused : (side : Side) (d p : List ℕ) (T : Task) → AreAccepted side d p T → (r : Refusal) → IsFirstRefusal (given_task side d p) r → ⊥
nothing_is_refused side d p T accepted r (inl e) = accepted.readable r e
nothing_is_refused side d p T accepted r (inr (readable, inl e)) = not_both _ T r e accepted.task
nothing_is_refused side d p T accepted r (inr (readable, inr e)) = e.1
