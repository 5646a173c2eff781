-- Walking by a table.
use Rattle.std.proofs.Common.{◌&&◌, ◌≡◌, ◌∙◌, refl, sym, ap, subst, Bool, true, false, IsTrue, IsSome, if◌then◌else◌, List, [], ◌∷◌, ◌++◌, map, Option, Some, None}
use Rattle.std.specs.List.{list_all}
use Rattle.p3_task.specs.Tokens.{Token}
use Rattle.p3_task.specs.PlanTexts.{Mark, Opens, Closes, Names, mark_of}
use Rattle.p3_task.specs.Grammar.Words.{◌>>=◌}
use Rattle.p3_lexer.proofs.MarkLemmas.{is_lexed}
use Rattle.p3_places.specs.Machine.{Table, step, first_fault, or_at}
use Rattle.p3_places.proofs.Runs.{steps, IsComplete, ends_in_final}

-- ---- what is bound

pub bind_same : {A B : Type 0} (o : Option A) (f g : A → Option B) → ((a : A) → f a ≡ g a) → o >>= f ≡ o >>= g
bind_same None f g same = refl
bind_same (Some a) f g same = same a

pub bind_assoc : {A B C : Type 0} (o : Option A) (f : A → Option B) (g : B → Option C) → (o >>= f) >>= g ≡ o >>= λ a. f a >>= g
bind_assoc None f g = refl
bind_assoc (Some a) f g = refl

pub record Bound {A B : Type 0} (o : Option A) (f : A → Option B) (b : B) : Type 0 where
  pub value : A
  pub first : o ≡ Some value
  pub leads : f value ≡ Some b

pub bound : {A B : Type 0} (o : Option A) (f : A → Option B) (b : B) → o >>= f ≡ Some b → Bound o f b
bound None f b is = absurd cc
bound (Some a) f b is = record { value = a; first = refl; leads = is }

pub same_some : {A : Type 0} (a b : A) → Some a ≡ Some b → a ≡ b
same_some a b is = cc

-- ---- marks one after another

pub steps_append : {S : Type 0} (table : Table S) (stack : List S) (front more : List Mark)
    → steps table stack (front ++ more) ≡ steps table stack front >>= λ next. steps table next more
unfolding steps
steps_append table stack [] more = refl
steps_append table stack (mark ∷ front) more =
    bind_same (step table stack mark) (λ s. steps table s (front ++ more)) (λ s. steps table s front >>= λ next. steps table next more) (λ s. steps_append table s front more)
    ∙ sym (bind_assoc (step table stack mark) (λ s. steps table s front) (λ next. steps table next more))

-- ---- live states

abbrev pub AllLive : {S : Type 0} (table : Table S) → IsComplete table → List S → Type 0
AllLive table complete [] = Unit {0}
AllLive table complete (state ∷ outer) = IsTrue (complete.is_live state) × AllLive table complete outer

-- of a whole stack, which is not empty
abbrev pub LiveStack : {S : Type 0} (table : Table S) → IsComplete table → List S → Type 0
LiveStack table complete [] = ⊥
LiveStack table complete (state ∷ outer) = AllLive table complete (state ∷ outer)

closed_live : {S : Type 0} (table : Table S) (complete : IsComplete table) (final : Bool) (after : S) (outer next : List S)
    → LiveStack table complete (after ∷ outer) → (if final then Some (after ∷ outer) else None) ≡ Some next → LiveStack table complete next
closed_live table complete true after outer next live is = subst (LiveStack table complete) (same_some (after ∷ outer) next is) live
closed_live table complete false after outer next live is = absurd cc

step_live : {S : Type 0} (table : Table S) (complete : IsComplete table) (stack next : List S) (mark : Mark)
    → LiveStack table complete stack → step table stack mark ≡ Some next → LiveStack table complete next
step_live table complete [] next Opens live is = elim live [ ]
step_live table complete [] next Closes live is = elim live [ ]
step_live table complete [] next (Names text) live is = elim live [ ]
step_live table complete (state ∷ []) next Closes live is = absurd cc
step_live table complete (state ∷ outer) next (Names text) live is =
    let b = bound (table.on_word state text) (λ s. Some (s ∷ outer)) next is in
    subst (LiveStack table complete) (same_some (b.value ∷ outer) next b.leads) (complete.word_live state b.value text live.0 b.first, live.1)
step_live table complete (state ∷ outer) next Opens live is =
    let b = bound (table.on_open state) (λ s. Some (s ∷ state ∷ outer)) next is in
    subst (LiveStack table complete) (same_some (b.value ∷ state ∷ outer) next b.leads) (complete.open_live state b.value live.0 b.first, live)
step_live table complete (state ∷ above ∷ outer) next Closes live is =
    closed_live table complete (table.is_final state) (table.after above state) outer next (complete.after_live above state live.1.0 live.0, live.1.1) is

pub steps_live : {S : Type 0} (table : Table S) (complete : IsComplete table) (stack next : List S) (marks : List Mark)
    → LiveStack table complete stack → steps table stack marks ≡ Some next → LiveStack table complete next
unfolding steps
steps_live table complete stack next [] live is = subst (LiveStack table complete) (same_some stack next is) live
steps_live table complete stack next (mark ∷ marks) live is =
    let b = bound (step table stack mark) (λ s. steps table s marks) next is in
    steps_live table complete b.value next marks (step_live table complete stack b.value mark live b.first) b.leads

-- ---- tests at all places

pub all_append : {A : Type 0} (p : A → Bool) (xs ys : List A) → list_all p xs ≡ true → list_all p ys ≡ true → list_all p (xs ++ ys) ≡ true
all_append p [] ys first second = second
all_append p (x ∷ xs) ys first second = by (p x) (list_all p xs) first (λ rest. all_append p xs ys rest second)
  where
    by : (b c : Bool) {d : Bool} → (b && c) ≡ true → (c ≡ true → d ≡ true) → (b && d) ≡ true
    by true c both later = later both
    by false c both later = absurd cc

pub all_front : {A : Type 0} (p : A → Bool) (xs ys : List A) → list_all p (xs ++ ys) ≡ true → list_all p xs ≡ true
all_front p [] ys all = refl
all_front p (x ∷ xs) ys all = by (p x) (list_all p (xs ++ ys)) all (λ rest. all_front p xs ys rest)
  where
    by : (b c : Bool) {d : Bool} → (b && c) ≡ true → (c ≡ true → d ≡ true) → (b && d) ≡ true
    by true c both later = later both
    by false c both later = absurd cc

-- ---- from live states some marks lead to the end

pub record Completed {S : Type 0} (table : Table S) (stack : List S) : Type 0 where
  pub more : List Mark
  pub ends : ends_in_final table [] (steps table stack more)
  pub words : list_all is_lexed more ≡ true

-- the innermost list can be led to its end
pub record Finished {S : Type 0} (table : Table S) (outer : List S) (found : Option (List S)) : Type 0 where
  pub last : S
  pub leads : found ≡ Some (last ∷ outer)
  pub final : IsTrue (table.is_final last)

pub finished : {S : Type 0} (table : Table S) (outer : List S) (found : Option (List S)) → ends_in_final table outer found → Finished table outer found
finished table outer None ends = elim ends [ ]
finished table outer (Some []) ends = elim ends [ ]
finished table outer (Some (last ∷ others)) ends = record { last = last; leads = ap (λ o. Some (last ∷ o)) ends.1; final = ends.0 }

closes : {S : Type 0} (table : Table S) (last above : S) (outer : List S) (more : List Mark) (final : Bool) → IsTrue final
    → ((if final then Some (table.after above last ∷ outer) else None) >>= λ s. steps table s more) ≡ steps table (table.after above last ∷ outer) more
closes table last above outer more true is = refl
closes table last above outer more false is = absurd cc

pub completed : {S : Type 0} (table : Table S) (complete : IsComplete table) (state : S) (outer : List S)
    → AllLive table complete (state ∷ outer) → Completed table (state ∷ outer)
unfolding steps
completed table complete state [] live = record { more = complete.finish state; ends = complete.finishes state [] live.0; words = complete.finish_words state }
completed table complete state (above ∷ outer) live =
    let f = finished table (above ∷ outer) (steps table (state ∷ above ∷ outer) (complete.finish state)) (complete.finishes state (above ∷ outer) live.0) in
    let lives = steps_live table complete (state ∷ above ∷ outer) (f.last ∷ above ∷ outer) (complete.finish state) live f.leads in
    let rest = completed table complete (table.after above f.last) outer (complete.after_live above f.last lives.1.0 lives.0, lives.1.1) in
    let front : steps table (state ∷ above ∷ outer) (complete.finish state ++ Closes ∷ rest.more) ≡ steps table (table.after above f.last ∷ outer) rest.more =
    steps_append table (state ∷ above ∷ outer) (complete.finish state) (Closes ∷ rest.more)
    ∙ ap (λ o. o >>= λ s. steps table s (Closes ∷ rest.more)) f.leads
    ∙ closes table f.last above outer rest.more (table.is_final f.last) f.final in
    record { more = complete.finish state ++ Closes ∷ rest.more; ends = subst (ends_in_final table []) (sym front) rest.ends; words = all_append is_lexed (complete.finish state) (Closes ∷ rest.more) (complete.finish_words state) rest.words }

-- ---- the first token at fault

pub record Stopped {S : Type 0} (table : Table S) (stack : List S) (tokens : List Token) (token : Token) : Type 0 where
  pub front : List Token
  pub later : List Token
  pub parts : tokens ≡ front ++ token ∷ later
  pub reached : List S
  pub leads : steps table stack (map mark_of front) ≡ Some reached
  pub stops : step table reached (mark_of token) ≡ None

stopped_later : {S : Type 0} (table : Table S) (stack next : List S) (first token : Token) (tokens : List Token)
    → step table stack (mark_of first) ≡ Some next → Stopped table next tokens token → Stopped table stack (first ∷ tokens) token
unfolding steps
stopped_later table stack next first token tokens is later = record {
  front = first ∷ later.front;
  later = later.later;
  parts = ap (λ t. first ∷ t) later.parts;
  reached = later.reached;
  leads = ap (λ o. o >>= λ s. steps table s (map mark_of later.front)) is ∙ later.leads;
  stops = later.stops;
}

stopped_by : {S : Type 0} (table : Table S) (stack : List S) (first token : Token) (tokens : List Token) (found : Option (List S))
    → step table stack (mark_of first) ≡ found → ((next : List S) → first_fault table next tokens ≡ Some token → Stopped table next tokens token)
    → or_at first (λ next. first_fault table next tokens) found ≡ Some token → Stopped table stack (first ∷ tokens) token
unfolding steps
stopped_by table stack first token tokens None found later is =
    let same : first ≡ token = same_some first token is in
    record { front = []; later = tokens; parts = ap (λ t. t ∷ tokens) same; reached = stack; leads = refl; stops = ap (λ t. step table stack (mark_of t)) (sym same) ∙ found }
stopped_by table stack first token tokens (Some next) found later is = stopped_later table stack next first token tokens found (later next is)

pub stopped : {S : Type 0} (table : Table S) (stack : List S) (tokens : List Token) (token : Token)
    → first_fault table stack tokens ≡ Some token → Stopped table stack tokens token
unfolding first_fault
stopped table stack [] token is = absurd cc
stopped table stack (first ∷ tokens) token is =
    stopped_by table stack first token tokens (step table stack (mark_of first)) refl (λ next. stopped table next tokens token) is

one_step : {S : Type 0} (table : Table S) (stack : List S) (mark : Mark) → step table stack mark ≡ None → steps table stack (mark ∷ []) ≡ None
unfolding steps
one_step table stack mark is = ap (λ o. o >>= λ s. steps table s []) is

-- what comes to a mark that may not stand there leads nowhere, whatever comes behind it
pub leads_nowhere : {S : Type 0} (table : Table S) (stack reached : List S) (front : List Mark) (mark : Mark) (behind : List Mark)
    → steps table stack front ≡ Some reached → step table reached mark ≡ None → steps table stack ((front ++ mark ∷ []) ++ behind) ≡ None
leads_nowhere table stack reached front mark behind leads is =
    steps_append table stack (front ++ mark ∷ []) behind
    ∙ ap (λ o. o >>= λ s. steps table s behind) (steps_append table stack front (mark ∷ []) ∙ ap (λ o. o >>= λ s. steps table s (mark ∷ [])) leads ∙ one_step table reached mark is)

-- Where there is no fault, all tokens lead on.
leads_by : {S : Type 0} (table : Table S) (token : Token) (tokens : List Token) (found : Option (List S))
    → ((next : List S) → first_fault table next tokens ≡ None → IsSome (steps table next (map mark_of tokens)))
    → or_at token (λ next. first_fault table next tokens) found ≡ None → IsSome (found >>= λ next. steps table next (map mark_of tokens))
leads_by table token tokens None later is = absurd cc
leads_by table token tokens (Some next) later is = later next is

pub leads_where_no_fault : {S : Type 0} (table : Table S) (stack : List S) (tokens : List Token) → first_fault table stack tokens ≡ None → IsSome (steps table stack (map mark_of tokens))
unfolding first_fault steps
leads_where_no_fault table stack [] is = refl
leads_where_no_fault table stack (token ∷ tokens) is = leads_by table token tokens (step table stack (mark_of token)) (λ next. leads_where_no_fault table next tokens) is
