-- What follows from how a run ends.
use Rattle.std.proofs.Common.{◌≡◌, ◌∙◌, ◌≢◌, ◌⊎◌, ℕ, false, cond, List, [], ◌∷◌, take, Option, Some, None, IfSome, refl, sym, ap, subst, inl, inr, ◌≤◌, arith}
use Rattle.std.specs.Option.{option_map}
use Rattle.std.specs.List.{AllByRecursion, slice_get}
use Rattle.std.specs.Prelude.{IsSomeAnd, zero, suc}
use Rattle.std.specs.Ordering.{nat_cmp, is_eq}
use Rattle.std.specs.declared.cmp.Ordering.{Ordering}
use Rattle.std.specs.declared.cmp.Ordering.TheVariants.{Less, Equal, Greater}
use Rattle.std.specs.Cmp.Lexicographic.{slice_cmp, nat_list_cmp_total}
use Rattle.std.specs.FinMap.{get, get-insert, slice_cmp-IsAntisymmetric, nat_cmp-IsAntisymmetric}
use Rattle.p3_base.specs.Outside.{FilesSeen, SinkSeen, Store, Rose, bytes_under, holding, IsPartlyWritten}
use Rattle.p3_base.specs.declared.refusal.Role.{Role}
use Rattle.p3_cli.specs.Ending as ending
use Rattle.p3_cli.specs.Ending.{Ending, Tells, ending_of, status_of, unput_status}
use Rattle.p3_cli.specs.Outcome.{ReadsAll, WriteFails}
use Rattle.p3_cli.specs.Following.{IsFollowed}
use Rattle.p3_cli.specs.Product.{Accepts, Produces, ProducesBy, Stops, StopsBy}
use Rattle.p3_cli.specs.Refusing.{IsRefusedTask, IsRejectedBy}
use Rattle.p3_tree.specs.Commands.{Command, Input, Output, inputs, outputs, row}
use Rattle.p3_tree.specs.declared.command.CommandKind.TheVariants.{Watch}
use Rattle.p3_cli.specs.Run.{AnyFaultRose, MustComplete, MustReject, IsAccepted, IsSurelyAccepted, IsProduct, IsRejectionIn, MayBeRejectionIn, MayBeShownBy, ShownBy, Comes, Leaves, Answers, Ends, IsRejectedIn, IsStatusIn, IsAcceptedIn, SameUnder, OthersStay}
use Rattle.p3_cli.specs.Store.{reading, files, writings, holding_all, AreFirstWritten, IsWrittenUpTo}
use Rattle.p3_cli.specs.Texts.{AllTexts, Made}
use Rattle.p3_cli.specs.declared.ending.Ending as code
use Rattle.p3_cli.specs.declared.ending.Ending.TheVariants as coded
use Rattle.p3_cli.proofs.RejectionLemmas.{made_accepted, stop_status}

-- what is accepted shows no refusal
accepted_or : {A : Type 0} (store : Store) (command : Command) (how : Ending) → IsAccepted store command → IsRejectionIn store command how → A
accepted_or store command how (texts, read, none) shown = absurd (none how (subst (λ found. ShownBy command found how) read shown))

surely_accepted_or : {A : Type 0} (store : Store) (command : Command) (how : Ending) → IsSurelyAccepted store command → MayBeRejectionIn store command how → A
surely_accepted_or store command how (texts, read, none) shown = absurd (none how (subst (λ found. MayBeShownBy command found how) read shown))

-- what was read of the inputs, where it is told
module _ (command : Command) (asked : List Input) (same : asked ≡ inputs command) (texts : AllTexts) where
  -- what is accepted of it is accepted of what is held
  pub all_accepted : (told : Option Store) → ReadsAll told asked texts → Accepts command texts → IfSome told (λ store. IsAccepted store command)
  all_accepted None read accepted = tt
  all_accepted (Some store) read accepted = (texts, (λ i. reading store (sym same i)) ∙ read, accepted)

  rejected_of : (told : Option Store) (how : Ending) → ReadsAll told asked texts → Stops command texts how → IfSome told (λ store. MayBeRejectionIn store command how)
  rejected_of None how read refused = tt
  rejected_of (Some store) how read refused = subst (λ shown. MayBeShownBy command shown how) (sym ((λ i. reading store (sym same i)) ∙ read)) refused

  -- what is refused of it is refused of what is held
  pub rejected_comes : (old new : FilesSeen) (how : code.Ending) → ReadsAll old.held asked texts → IsRejectedBy (Stops command texts) how → Comes command old new (ending_of how)
  rejected_comes old new coded.OutOfMemory read refused = tt
  rejected_comes old new (coded.Refused rejection) read refused = rejected_of old.held (ending.Refused rejection) read refused
  rejected_comes old new (coded.Invalid fault) read refused = rejected_of old.held (ending.Invalid fault) read refused
  rejected_comes old new (coded.Done report) read refused = absurd refused
  rejected_comes old new (coded.TooLong role) read refused = absurd refused
  rejected_comes old new (coded.ReadFailed role) read refused = absurd refused
  rejected_comes old new (coded.WriteFailed role) read refused = absurd refused
  rejected_comes old new coded.Usage read refused = absurd refused

  rose_since : (first before after : ℕ) → first ≤ before → Rose before after → Rose first after
  rose_since first before after grows rose = elim rose [ inl less ↦ inl (omega arith) | inr most ↦ inr most ]

  -- of what was made of it
  module _ (made : Made) (report : List ℕ) (produces : Produces command texts made report) where
    abbrev pub to_write : List (Output × List ℕ)
    to_write = writings (outputs command) made

    pub accepts : Accepts command texts
    accepts = made_accepted command.kind command.number texts made report produces.means

    -- where it was not written
    pub unwritten_comes : (old new : FilesSeen) (how : code.Ending) (told : Option Store) (before : ℕ) → ReadsAll old.held asked texts
        → old.write_faults ≤ before → WriteFails to_write told new.held before new.write_faults how → Comes command old new (ending_of how)
    unwritten_comes old new coded.OutOfMemory told before read grows fails = tt
    unwritten_comes old new (coded.WriteFailed role) told before read grows fails = (rose_since old.write_faults before new.write_faults grows fails.1, all_accepted old.held read accepts)
    unwritten_comes old new (coded.Refused rejection) told before read grows fails = absurd fails
    unwritten_comes old new (coded.Invalid fault) told before read grows fails = absurd fails
    unwritten_comes old new (coded.Done report) told before read grows fails = absurd fails
    unwritten_comes old new (coded.TooLong role) told before read grows fails = absurd fails
    unwritten_comes old new (coded.ReadFailed role) told before read grows fails = absurd fails
    unwritten_comes old new coded.Usage told before read grows fails = absurd fails

    -- it is the product of what is held
    product_is : (told : Option Store) → ReadsAll told asked texts → IsProduct told command made report
    product_is None read = tt
    product_is (Some store) read = (texts, (λ i. reading store (sym same i)) ∙ read, produces)

    -- what is left where all is written
    pub done_leaves : (old mid new : Option Store) → ReadsAll old asked texts → mid ≡ old → new ≡ holding_all to_write mid → Leaves command old new (ending.Done report)
    done_leaves old mid new read stays is = (made, product_is old read, subst (λ told. new ≡ holding_all to_write told) stays is)

    -- what is left where it was not written whole
    pub unwritten_leaves : (old mid new : Option Store) (before after : ℕ) (how : code.Ending) → ReadsAll old asked texts → mid ≡ old → WriteFails to_write mid new before after how → Leaves command old new (ending_of how)
    unwritten_leaves old mid new before after (coded.WriteFailed role) read stays fails = (made, report, product_is old read, subst (λ told. IsWrittenUpTo role to_write told new) stays fails.0)
    unwritten_leaves old mid new before after coded.OutOfMemory read stays fails = inr (made, report, product_is old read, subst (λ told. AreFirstWritten to_write told new) stays fails)
    unwritten_leaves old mid new before after (coded.Refused rejection) read stays fails = absurd fails
    unwritten_leaves old mid new before after (coded.Invalid fault) read stays fails = absurd fails
    unwritten_leaves old mid new before after (coded.Done done) read stays fails = absurd fails
    unwritten_leaves old mid new before after (coded.TooLong role) read stays fails = absurd fails
    unwritten_leaves old mid new before after (coded.ReadFailed role) read stays fails = absurd fails
    unwritten_leaves old mid new before after coded.Usage read stays fails = absurd fails

  -- of `watch`, which writes nothing
  module _ (watches : command.kind ≡ Watch) where
    pub watch_rejected : (how : code.Ending) → IsRefusedTask texts how → IsRejectedBy (Stops command texts) how
    watch_rejected how told = subst (λ kind. IsRejectedBy (StopsBy kind command.number texts) how) (sym watches) told

    pub watch_ends : (old new : FilesSeen) (before after : SinkSeen) (status : ℕ) → ReadsAll old.held asked texts → new.held ≡ old.held → IsFollowed texts.domain texts.problem texts.plan before after status
        → (how : Ending) × Ends (Some command) old new before after status how
    watch_ends old new before after status read stays followed =
        let none : Made = record { domain = []; problem = []; plan = [] } in
        let produces : Produces command texts none followed.report =
        subst (λ kind. ProducesBy kind command.number texts none followed.report) (sym watches) (record { means = followed.is; layout = tt }) in
        let unwritten : [] ≡ writings (outputs command) none = ap (λ kind. writings (files (row kind).writes command.writes) none) (sym watches) in (
          ending.Done followed.report,
          record {
            answers = (
              all_accepted old.held read (accepts none followed.report produces),
              done_leaves none followed.report produces old.held new.held new.held read stays (ap (λ all. holding_all all new.held) unwritten),
            );
            tells = followed.tells;
          },
        )

-- an ending of what is asked, of which no line was put before
pub ends_so : {asked : Option Command} {command : Command} {old new : FilesSeen} {before after : SinkSeen} {status : ℕ} (mid : SinkSeen) (how : Ending) → Some command ≡ asked → mid ≡ before
    → Comes command old new how → Leaves command old.held new.held how → Tells mid after status how → (end : Ending) × Ends asked old new before after status end
ends_so {asked} {command} {old} {new} {before} {after} {status} mid how is unput comes leaves tells = (
  how,
  record {
    answers = subst (λ some. Answers some old new how) is (comes, leaves);
    tells = subst (λ (first : SinkSeen). Tells first after status how) unput tells;
  },
)

-- the status, but where the report was not put
pub kept_status : (before after : SinkSeen) (status : ℕ) (how : Ending) → Tells before after status how → status_of how ≢ 0 → status ≡ status_of how
kept_status before after status (ending.Done lines) tells other = absurd (other refl)
kept_status before after status (ending.Refused rejection) tells other = elim tells [ inl t ↦ t.0 | inr t ↦ t.0 ]
kept_status before after status (ending.Invalid fault) tells other = elim tells [ inl t ↦ t.0 | inr t ↦ t.0 ]
kept_status before after status (ending.TooLong role) tells other = elim tells [ inl t ↦ t.0 | inr t ↦ t.0 ]
kept_status before after status (ending.ReadFailed role) tells other = elim tells [ inl t ↦ t.0 | inr t ↦ t.0 ]
kept_status before after status (ending.WriteFailed role) tells other = elim tells [ inl t ↦ t.0 | inr t ↦ t.0 ]
kept_status before after status ending.OutOfMemory tells other = elim tells [ inl t ↦ t.0 | inr t ↦ t.0 ]
kept_status before after status ending.Usage tells other = elim tells [ inl t ↦ t.0 | inr t ↦ t.0 ]

-- an ending that came has the status of each reason to make nothing
same_status : (store : Store) (command : Command) (old : FilesSeen) (status : ℕ) (how shown : Ending) → old.held ≡ Some store → IfSome old.held (λ store. MayBeRejectionIn store command how)
    → IsRejectionIn store command shown → status ≡ status_of how → status ≡ status_of shown
same_status store command old status how shown is comes other kept =
    kept ∙ stop_status command (reading store (inputs command)) how shown (subst (λ told. IfSome told (λ store. MayBeRejectionIn store command how)) is comes) other

rejects_held : (told : Option Store) (command : Command) (old new : FilesSeen) (before after : SinkSeen) (status : ℕ) (how : Ending) → old.held ≡ told
    → Comes command old new how → Tells before after status how
    → IfSome told (λ store. (shown : Ending) → IsRejectionIn store command shown → Rose old.read_faults new.read_faults ⊎ ((status ≡ status_of shown) ⊎ (status ≡ 5)))
rejects_held None command old new before after status how is comes tells = tt
rejects_held (Some store) command old new before after status (ending.Done lines) is comes tells =
    λ shown also. accepted_or store command shown (subst (λ told. IfSome told (λ store. IsAccepted store command)) is comes) also
rejects_held (Some store) command old new before after status (ending.Refused rejection) is comes tells =
    λ shown also. inr (inl (same_status store command old status (ending.Refused rejection) shown is comes also (kept_status before after status (ending.Refused rejection) tells (λ e. cc))))
rejects_held (Some store) command old new before after status (ending.Invalid fault) is comes tells =
    λ shown also. inr (inl (same_status store command old status (ending.Invalid fault) shown is comes also (kept_status before after status (ending.Invalid fault) tells (λ e. cc))))
rejects_held (Some store) command old new before after status (ending.TooLong role) is comes tells =
    λ shown also. inr (inl (same_status store command old status (ending.TooLong role) shown is comes also (kept_status before after status (ending.TooLong role) tells (λ e. cc))))
rejects_held (Some store) command old new before after status (ending.ReadFailed role) is comes tells = λ shown also. inl comes.1
rejects_held (Some store) command old new before after status (ending.WriteFailed role) is comes tells =
    λ shown also. accepted_or store command shown (subst (λ told. IfSome told (λ store. IsAccepted store command)) is comes.1) also
rejects_held (Some store) command old new before after status ending.OutOfMemory is comes tells =
    λ shown also. inr (inr (kept_status before after status ending.OutOfMemory tells (λ e. cc)))
rejects_held (Some store) command old new before after status ending.Usage is comes tells = absurd comes

-- a reason to make nothing comes where it is shown
pub rejects : (asked : Option Command) (old new : FilesSeen) (before after : SinkSeen) (status : ℕ) (how : Ending)
    → Answers asked old new how → Tells before after status how
    → MustReject asked old new status
rejects None old new before after status how answers tells = if_none old.held
  where
    if_none : (told : Option Store) → IfSome told (λ store. (shown : Ending) → IsRejectedIn None store shown → Rose old.read_faults new.read_faults ⊎ ((status ≡ status_of shown) ⊎ (status ≡ 5)))
    if_none None = tt
    if_none (Some store) = λ shown also. absurd also
rejects (Some command) old new before after status how answers tells = rejects_held old.held command old new before after status how refl answers.0 tells

pub some_status : (told : Option Store) (command : Command) (status : ℕ) (how : Ending) → status_of how ≡ status → IfSome told (λ store. MayBeRejectionIn store command how) → IfSome told (IsStatusIn (Some command) status)
some_status None command status how is shown = tt
some_status (Some store) command status how is shown = (how, is, shown)

-- an ending of another status
other_status : {A : Type 0} (before after : SinkSeen) (status : ℕ) (how : Ending) → Tells before after status how → unput_status how ≡ status_of how → status_of how ≢ 2 → status ≡ 2 → A
other_status before after status how tells kept other is = elim tells [ inl t ↦ absurd (other (sym t.0 ∙ is)) | inr t ↦ absurd (other (sym kept ∙ sym t.0 ∙ is)) ]

refused_of : (command : Command) (old new : FilesSeen) (before after : SinkSeen) (status : ℕ) (how : Ending) → Comes command old new how → Tells before after status how → status ≡ 2 → IfSome old.held (IsStatusIn (Some command) 2)
refused_of command old new before after status (ending.Refused rejection) comes tells is = some_status old.held command 2 (ending.Refused rejection) refl comes
refused_of command old new before after status (ending.TooLong role) comes tells is = some_status old.held command 2 (ending.TooLong role) refl comes
refused_of command old new before after status (ending.Done lines) comes tells is = elim tells [ inl t ↦ absurd (let no : 0 ≡ 2 = sym t.0 ∙ is in cc) | inr t ↦ absurd (let no : 6 ≡ 2 = sym t.0 ∙ is in cc) ]
refused_of command old new before after status (ending.Invalid fault) comes tells is = other_status before after status (ending.Invalid fault) tells refl (λ e. cc) is
refused_of command old new before after status (ending.ReadFailed role) comes tells is = other_status before after status (ending.ReadFailed role) tells refl (λ e. cc) is
refused_of command old new before after status (ending.WriteFailed role) comes tells is = other_status before after status (ending.WriteFailed role) tells refl (λ e. cc) is
refused_of command old new before after status ending.OutOfMemory comes tells is = other_status before after status ending.OutOfMemory tells refl (λ e. cc) is
refused_of command old new before after status ending.Usage comes tells is = other_status before after status ending.Usage tells refl (λ e. cc) is

-- a refusal comes where one is shown
pub refused : (asked : Option Command) (old new : FilesSeen) (before after : SinkSeen) (status : ℕ) (how : Ending) → Answers asked old new how → Tells before after status how
    → status ≡ 2 → IfSome old.held (IsStatusIn asked 2)
refused None old new before after status how answers tells is =
    other_status before after status ending.Usage (subst (λ way. Tells before after status way) answers.0 tells) refl (λ e. cc) is
refused (Some command) old new before after status how answers tells is = refused_of command old new before after status how answers.0 tells is

abbrev IsComplete : FilesSeen → FilesSeen → SinkSeen → SinkSeen → ℕ → Type 0
IsComplete old new before after status = AnyFaultRose old new before after ⊎ ((status ≡ 0) ⊎ (status ≡ 5))

completes_held : (told : Option Store) (command : Command) (old new : FilesSeen) (before after : SinkSeen) (status : ℕ) (how : Ending) → old.held ≡ told
    → Comes command old new how → Tells before after status how
    → IfSome told (λ store. IsSurelyAccepted store command → IsComplete old new before after status)
completes_held None command old new before after status how is comes tells = tt
completes_held (Some store) command old new before after status (ending.Done lines) is comes tells =
    λ accepted. elim tells [ inl t ↦ inr (inl t.0) | inr t ↦ inl (inr (inr t.1)) ]
completes_held (Some store) command old new before after status (ending.Refused rejection) is comes tells =
    λ accepted. surely_accepted_or store command (ending.Refused rejection) accepted (subst (λ told. IfSome told (λ store. MayBeRejectionIn store command (ending.Refused rejection))) is comes)
completes_held (Some store) command old new before after status (ending.Invalid fault) is comes tells =
    λ accepted. surely_accepted_or store command (ending.Invalid fault) accepted (subst (λ told. IfSome told (λ store. MayBeRejectionIn store command (ending.Invalid fault))) is comes)
completes_held (Some store) command old new before after status (ending.TooLong role) is comes tells =
    λ accepted. surely_accepted_or store command (ending.TooLong role) accepted (subst (λ told. IfSome told (λ store. MayBeRejectionIn store command (ending.TooLong role))) is comes)
completes_held (Some store) command old new before after status (ending.ReadFailed role) is comes tells = λ accepted. inl (inl comes.1)
completes_held (Some store) command old new before after status (ending.WriteFailed role) is comes tells = λ accepted. inl (inr (inl comes.0))
completes_held (Some store) command old new before after status ending.OutOfMemory is comes tells =
    λ accepted. inr (inr (kept_status before after status ending.OutOfMemory tells (λ e. cc)))
completes_held (Some store) command old new before after status ending.Usage is comes tells = absurd comes

-- what is accepted is done, where nothing fails
pub completes : (asked : Option Command) (old new : FilesSeen) (before after : SinkSeen) (status : ℕ) (how : Ending)
    → Answers asked old new how → Tells before after status how
    → MustComplete asked old new before after status
completes None old new before after status how answers tells = if_none old.held
  where
    if_none : (told : Option Store) → IfSome told (λ store. IsAcceptedIn None store → IsComplete old new before after status)
    if_none None = tt
    if_none (Some store) = λ accepted. absurd accepted
completes (Some command) old new before after status how answers tells = completes_held old.held command old new before after status how refl answers.0 tells

untied : (o : Ordering) → (o ≡ Equal → ⊥) → is_eq o ≡ false
untied Less apart = refl
untied Equal apart = absurd (apart refl)
untied Greater apart = refl

-- writing under one name leaves the others
same_holding : (name other bytes : List ℕ) (told : Option Store) → other ≢ name → SameUnder name told (holding other bytes told)
same_holding name other bytes None apart = refl
same_holding name other bytes (Some store) apart =
    ap Some (get-insert nat_list_cmp_total store other bytes name
    ∙ ap (λ here. cond here (Some bytes) (get store name))
    (untied (slice_cmp nat_cmp name other) (λ tie. apart (sym (slice_cmp-IsAntisymmetric nat_cmp-IsAntisymmetric name other tie)))))

abbrev pub AreOthers : List ℕ → List (Output × List ℕ) → Type 0
AreOthers name writings = AllByRecursion (λ written. written.0.name ≢ name) writings

pub same_holding_all : (name : List ℕ) (writings : List (Output × List ℕ)) (told : Option Store) → AreOthers name writings → SameUnder name told (holding_all writings told)
same_holding_all name [] told others = refl
same_holding_all name (written ∷ writings) told others =
    same_holding_all name writings (holding written.0.name written.1 told) others.1 ∙ same_holding name written.0.name written.1 told others.0

others_first : (name : List ℕ) (writings : List (Output × List ℕ)) (n : ℕ) → AreOthers name writings → AreOthers name (take n writings)
others_first name writings zero others = tt
others_first name [] (suc n) others = tt
others_first name (written ∷ writings) (suc n) others = (others.0, others_first name writings n others.1)

other_at : (name : List ℕ) (writings : List (Output × List ℕ)) (n : ℕ) → AreOthers name writings → IfSome (slice_get writings n) (λ next. next.0.name ≢ name)
other_at name [] n others = tt
other_at name (written ∷ writings) zero others = others.0
other_at name (written ∷ writings) (suc n) others = other_at name writings n others.1

same_partly : (name : List ℕ) (written : Output × List ℕ) (old new : Option Store) → written.0.name ≢ name → IsPartlyWritten written.0.name written.1 old new → SameUnder name old new
same_partly name written old new apart partly = elim partly [
  | inl same ↦ ap (option_map (λ store. bytes_under store name)) same
  | inr (n, is) ↦ ap (option_map (λ store. bytes_under store name)) is ∙ same_holding name written.0.name (take n written.1) old apart
]

same_up_to : (name : List ℕ) (role : Role) (writings : List (Output × List ℕ)) (old new : Option Store) → AreOthers name writings → IsWrittenUpTo role writings old new → SameUnder name old new
same_up_to name role writings old new others (n, partly) =
    elim (slice_get writings n) as (λ found. IfSome found (λ next. next.0.name ≢ name)
    → IsSomeAnd found (λ next. (role ≡ next.0.role) × IsPartlyWritten next.0.name next.1 (holding_all (take n writings) old) new) → SameUnder name old new) [
      | None ↦ λ apart is. absurd is
      | Some next ↦ λ apart is. same_partly name next (holding_all (take n writings) old) new apart is.1 ∙ same_holding_all name (take n writings) old (others_first name writings n others)
    ] (other_at name writings n others) partly

made_others : (name : List ℕ) (files : List Output) (made : Made) → AllByRecursion (λ output. output.name ≢ name) files → AreOthers name (writings files made)
made_others name [] made others = tt
made_others name (file ∷ files) made others = (others.0, made_others name files made others.1)

leaves_others : (name : List ℕ) (command : Command) (old new : Option Store) (how : Ending) → AllByRecursion (λ output. output.name ≢ name) (outputs command) → Leaves command old new how → SameUnder name old new
leaves_others name command old new (ending.Done lines) others (made, product, is) =
    ap (option_map (λ store. bytes_under store name)) is ∙ same_holding_all name (writings (outputs command) made) old (made_others name (outputs command) made others)
leaves_others name command old new (ending.WriteFailed role) others (made, report, product, is) = same_up_to name role (writings (outputs command) made) old new (made_others name (outputs command) made others) is
leaves_others name command old new ending.OutOfMemory others leaves = elim leaves [
  | inl same ↦ ap (option_map (λ store. bytes_under store name)) same
  | inr (made, report, product, (n, fewer, is)) ↦
      let all = writings (outputs command) made in
      ap (option_map (λ store. bytes_under store name)) is ∙ same_holding_all name (take n all) old (others_first name all n (made_others name (outputs command) made others))
]
leaves_others name command old new (ending.Refused rejection) others same = ap (option_map (λ store. bytes_under store name)) same
leaves_others name command old new (ending.Invalid fault) others same = ap (option_map (λ store. bytes_under store name)) same
leaves_others name command old new (ending.TooLong role) others same = ap (option_map (λ store. bytes_under store name)) same
leaves_others name command old new (ending.ReadFailed role) others same = ap (option_map (λ store. bytes_under store name)) same
leaves_others name command old new ending.Usage others same = ap (option_map (λ store. bytes_under store name)) same

-- a name that is no output holds what it held
pub others_stay : (asked : Option Command) (old new : FilesSeen) (how : Ending) → Answers asked old new how → OthersStay asked old.held new.held
others_stay None old new how answers name others = ap (option_map (λ store. bytes_under store name)) answers.1
others_stay (Some command) old new how answers name others = leaves_others name command old.held new.held how others answers.1
