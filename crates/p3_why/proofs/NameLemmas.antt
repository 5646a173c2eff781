-- What is told of the names of a written task, by its parts.
use Rattle.std.proofs.Common.{◌≡◌, ◌⊎◌, ℕ, true, List, refl, sym, subst, inl, inr}
use Rattle.std.specs.Prelude.{IfErr, OnErr, OnOk, Result, Ok, Err}
use Rattle.p3_base.specs.Outside.{IsPartlyPut, IsPut, SinkSeen}
use Rattle.p3_base.specs.declared.refusal.Side.TheVariants.{Source}
use Rattle.p3_formula.specs.declared.task.GroundTask.{GroundTask}
use Rattle.p3_expansion.specs.Atoms.{GroundAtom}
use Rattle.p3_numbers.specs.Tasks.{IsNumberedTask}
use Rattle.p3_types.specs.declared.checked.Checked.{Checked}
use Rattle.p3_ground.specs.Sparse.{IsGroundingOf}
use Rattle.p3_accounts.specs.Vocabularies.{vocabulary}
use Rattle.p3_accounts.specs.declared.terms.Terms.{Terms}
use Rattle.p3_unmet.specs.Sources as sources
use Rattle.p3_meanings.specs.Atoms.{AreAtomsOf}
use Rattle.p3_meanings.specs.Names.{IsFailOf, names_text}
use Rattle.p3_meanings.specs.declared.error.NamesFail.{NamesFail}
use Rattle.p3_meanings.specs.declared.error.NamesFail.TheVariants.{NoMemory, SinkFailed}
use Rattle.p3_cli.specs.Refusing.{AreAcceptedFor}
use Rattle.p3_cli.specs.Texts.{AllTexts}
use Rattle.p3_why.specs.Accounts.{name_of}
use Rattle.p3_why.specs.Ending.{Answered, CutShort, Tells}
use Rattle.p3_why.specs.Names.{AreToldNames, halves_of, put_status}

-- what the words of the names of the task stand for
pub record AreNameTerms (names : List (List ℕ)) (checked : Checked) (terms : Terms) : Type 0 where
  pub domain : terms.domain.now ≡ name_of names 0
  pub problem : terms.problem.now ≡ name_of names 1
  pub actions : terms.actions.now ≡ checked.task.domain.actions
  pub numbers : terms.numbers.now ≡ checked.numbered.numbers
  pub numbered : IsNumberedTask checked.task checked.numbered

module _ (names : List (List ℕ)) (texts : AllTexts) (own : Checked) (accepted : AreAcceptedFor Source texts own.task) (whole : GroundTask) (grounding : IsGroundingOf own.task whole) where
  told_by : (terms : Terms) → AreNameTerms names own terms → (atoms : List GroundAtom) → AreAtomsOf own.task own.numbered.numbers atoms → AreToldNames names texts (names_text (vocabulary terms) (halves_of texts) own.task whole atoms) true
  told_by terms words atoms are_atoms = record {
    task = own.task;
    accepted = accepted;
    numbered = own.numbered;
    is_numbered = words.numbered;
    ground = whole;
    grounding = grounding;
    atoms = atoms;
    are_atoms = are_atoms;
    words = vocabulary terms;
    domain = words.domain;
    problem = words.problem;
    are_words = record { actions = words.actions; numbers = words.numbers };
    told = refl;
    says = refl;
  }

  -- by the task, its ground task and its texts as they were lent
  pub told_names : (checked : Checked) → checked ≡ own → (ground : GroundTask) → ground ≡ whole → (halves : sources.Texts) → halves ≡ halves_of texts → (terms : Terms) → AreNameTerms names checked terms
      → (atoms : List GroundAtom) → AreAtomsOf checked.task checked.numbered.numbers atoms → AreToldNames names texts (names_text (vocabulary terms) halves checked.task ground atoms) true
  told_names checked same ground grounds halves read terms words atoms are_atoms =
      subst (λ its. AreToldNames names texts (names_text (vocabulary terms) its checked.task ground atoms) true) (sym read)
      (subst (λ its. AreToldNames names texts (names_text (vocabulary terms) (halves_of texts) checked.task its atoms) true) (sym grounds)
      (subst (λ (checked : Checked). AreNameTerms names checked terms → AreAtomsOf checked.task checked.numbered.numbers atoms → AreToldNames names texts (names_text (vocabulary terms) (halves_of texts) checked.task whole atoms) true) (sym same)
      (λ words are_atoms. told_by terms words atoms are_atoms) words are_atoms))

-- the lines are put, or a first part of them, and the status says which
pub tells : {A : Type 0} (result : Result A NamesFail) (lines : List ℕ) (before after : SinkSeen) → OnOk result (IsPut lines before.written after.written) → OnErr result (IsPartlyPut lines before.written after.written) → IfErr result (IsFailOf before.faults after.faults)
    → (answered : ℕ) → answered ≡ put_status result → Tells before after answered (Answered lines true) ⊎ Tells before after answered (CutShort lines)
tells (Ok all) lines before after put partly failed answered is = inl (inl (is, put))
tells (Err SinkFailed) lines before after put partly failed answered is = inl (inr (is, failed, partly))
tells (Err NoMemory) lines before after put partly failed answered is = inr (is, partly)
