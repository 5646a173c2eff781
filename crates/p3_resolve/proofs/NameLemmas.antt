-- Lists with each name once.
use Rattle.std.proofs.Common.{◌≡◌, ◌∙◌, ℕ, ◌+◌, ◌<◌, Bool, true, false, not, ◌||◌, cond, if◌then◌else◌, nat_lt, List, [], ◌∷◌, ◌++◌, length, take, get_or, map, refl, sym, ap}
use Rattle.std.specs.Prelude.{filter, fold}
use Rattle.std.specs.Cmp.Lexicographic.{nat_list_eq_equiv}
use Rattle.std.proofs.lemmas.List.{append-nil, map-append, take_more}
use Rattle.std.proofs.lemmas.List.Elements.{filter-append}
use Rattle.std.proofs.lemmas.Slice.Eq.{bytes_eq-Decides}
use Rattle.p3_task.specs.Names.{Name, same_name, has_name}
use Rattle.std.proofs.lemmas.List.Folds.{list_any-append}
use Rattle.p3_task.specs.PreferenceNames.{Named, placed, in_text_order, named_in_domain, named_in_problem, preference_names}
use Rattle.p3_task.specs.Types.{once_each}
use Rattle.p3_task.specs.declared.task.Task.{Task}

same-turn : (first second : Name) → same_name first second ≡ same_name second first
same-turn first second = nat_list_eq_equiv.symm first second

pub has-apart : (name other : Name) → same_name name other ≡ false → (names : List Name) → has_name (filter (λ one. not (same_name one name)) names) other ≡ has_name names other
has-apart name other apart [] = refl
has-apart name other apart (first ∷ names) = by (same_name first name) refl (has-apart name other apart names)
  where
    by : (same : Bool) → same_name first name ≡ same → has_name (filter (λ one. not (same_name one name)) names) other ≡ has_name names other
        → has_name (if not same then first ∷ filter (λ one. not (same_name one name)) names else filter (λ one. not (same_name one name)) names) other ≡ (same_name first other || has_name names other)
    by true is rest = rest ∙ (λ i. sym (ap (λ one. same_name one other) ((bytes_eq-Decides first name).0 is) ∙ apart) i || has_name names other)
    by false is rest = ap (λ found. same_name first other || found) rest

-- a name more stands last, if it is new
pub once_each-push : (names : List Name) (last : Name) → once_each (names ++ last ∷ []) ≡ (if has_name (once_each names) last then once_each names else once_each names ++ last ∷ [])
once_each-push [] last = refl
once_each-push (name ∷ names) last =
    ap (λ rest. name ∷ filter apart rest) (once_each-push names last) ∙ by (same_name name last) refl (has_name (once_each names) last) refl
  where
    apart : Name → Bool
    apart = λ one. not (same_name one name)

    ends : (same : Bool) → same_name last name ≡ same → filter apart (once_each names ++ last ∷ []) ≡ filter apart (once_each names) ++ cond (not same) (last ∷ []) []
    ends same is = filter-append apart (once_each names) (last ∷ []) ∙ (λ i. filter apart (once_each names) ++ cond (not (is i)) (last ∷ []) [])

    by : (same : Bool) → same_name name last ≡ same → (found : Bool) → has_name (once_each names) last ≡ found
        → (name ∷ filter apart (if found then once_each names else once_each names ++ last ∷ []))
        ≡ (if same || has_name (filter apart (once_each names)) last then name ∷ filter apart (once_each names) else name ∷ filter apart (once_each names) ++ last ∷ [])
    by true is true here = refl
    by true is false here = ap (λ rest. name ∷ rest) (ends true (same-turn last name ∙ is) ∙ append-nil (filter apart (once_each names)))
    by false is true here = sym (λ i. if (has-apart name last is (once_each names) ∙ here) i then name ∷ filter apart (once_each names) else name ∷ filter apart (once_each names) ++ last ∷ [])
    by false is false here =
        ap (λ rest. name ∷ rest) (ends false (same-turn last name ∙ is))
        ∙ sym (λ i. if (has-apart name last is (once_each names) ∙ here) i then name ∷ filter apart (once_each names) else name ∷ filter apart (once_each names) ++ last ∷ [])

pub once_each-more : {W : Type 0} (name_of : W → Name) (now next : List Name) (words : List W) (i : ℕ) (word : W) → i < length words → word ≡ get_or words i word
    → now ≡ once_each (map name_of (take i words)) → next ≡ (if has_name now (name_of word) then now else now ++ name_of word ∷ [])
    → next ≡ once_each (map name_of (take (i + 1) words))
once_each-more name_of now next words i word within read so_far is =
    is ∙ ap (λ names. if has_name names (name_of word) then names else names ++ name_of word ∷ []) so_far ∙ sym (once_each-push (map name_of (take i words)) (name_of word))
    ∙ ap once_each (sym (map-append name_of (take i words) (word ∷ [])) ∙ ap (map name_of) (sym (take_more words i word within ∙ ap (λ item. take i words ++ item ∷ []) (sym read))))

-- each name once has the same names
pub has-once : (names : List Name) (other : Name) → has_name (once_each names) other ≡ has_name names other
has-once [] other = refl
has-once (name ∷ names) other = by (same_name name other) refl (has-once names other)
  where
    by : (same : Bool) → same_name name other ≡ same → has_name (once_each names) other ≡ has_name names other
        → (same || has_name (filter (λ one. not (same_name one name)) (once_each names)) other) ≡ (same || has_name names other)
    by true is rest = refl
    by false is rest = has-apart name other is (once_each names) ∙ rest

-- ---- the order of the text

or-turn : (a b c : Bool) → (a || (b || c)) ≡ (b || (a || c))
or-turn true true c = refl
or-turn true false c = refl
or-turn false b c = refl

or-joined : (a b c : Bool) → (a || (b || c)) ≡ ((a || b) || c)
or-joined true b c = refl
or-joined false b c = refl

or-nothing : (a : Bool) → (a || false) ≡ a
or-nothing true = refl
or-nothing false = refl

abbrev words : List Named → List Name
words list = map (λ (named : Named). named.name) list

has-placed : (named : Named) (list : List Named) (other : Name) → has_name (words (placed named list)) other ≡ (same_name named.name other || has_name (words list) other)
has-placed named [] other = refl
has-placed named (first ∷ list) other = by (nat_lt named.at first.at) (has-placed named list other)
  where
    by : (before : Bool) → has_name (words (placed named list)) other ≡ (same_name named.name other || has_name (words list) other)
        → has_name (words (if before then named ∷ first ∷ list else first ∷ placed named list)) other ≡ (same_name named.name other || (same_name first.name other || has_name (words list) other))
    by true rest = refl
    by false rest = ap (λ found. same_name first.name other || found) rest ∙ or-turn (same_name first.name other) (same_name named.name other) (has_name (words list) other)

has-sorted : (start list : List Named) (other : Name) → has_name (words (fold (λ sorted named. placed named sorted) start list)) other ≡ (has_name (words list) other || has_name (words start) other)
has-sorted start [] other = refl
has-sorted start (named ∷ list) other =
    has-sorted (placed named start) list other ∙ ap (λ found. has_name (words list) other || found) (has-placed named start other)
    ∙ or-turn (has_name (words list) other) (same_name named.name other) (has_name (words start) other)
    ∙ or-joined (same_name named.name other) (has_name (words list) other) (has_name (words start) other)

-- the order of the text has the same names
has-ordered : (list : List Named) (other : Name) → has_name (in_text_order list) other ≡ has_name (words list) other
has-ordered list other = has-sorted [] list other ∙ or-nothing (has_name (words list) other)

pub ordered-preferences : (T : Task) (name : Name) → has_name (in_text_order (named_in_domain T.domain) ++ in_text_order (named_in_problem T.problem)) name ≡ has_name (preference_names T) name
unfolding preference_names
ordered-preferences T name =
    let domain = named_in_domain T.domain in
    let problem = named_in_problem T.problem in
    list_any-append (λ other. same_name other name) (in_text_order domain) (in_text_order problem) ∙ (λ i. has-ordered domain name i || has-ordered problem name i)
    ∙ sym (list_any-append (λ other. same_name other name) (words domain) (words problem))
    ∙ ap (λ all. has_name all name) (sym (map-append (λ (named : Named). named.name) domain problem))
