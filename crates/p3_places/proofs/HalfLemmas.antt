-- What both halves have.
use Rattle.std.proofs.Common.{◌≡◌, ◌∙◌, refl, sym, ap, Bool, true, false, ◌&&◌, if◌then◌else◌, List, [], ◌∷◌, length, Option, Some, None}
use Rattle.std.specs.Prelude.{is_some, codes}
use Rattle.std.specs.List.{list_all}
use Rattle.p3_task.specs.Decimals.{is_decimal}
use Rattle.p3_task.specs.Names.{Name, same_name, has_name}
use Rattle.p3_task.specs.Grammar.Words.{◌>>=◌, only, pair, name_place, numeral_place, digits_value, digits_of, places_of, word_if, is_word, expressions, each_at}
use Rattle.p3_task.specs.Grammar.Words.{Place as Reads}
use Rattle.p3_task.specs.Grammar.Lists.{object_place, one_type_place}
use Rattle.p3_task.specs.Grammar.Halves.{Section, NamedSections, section_place, sections_among, begins_with_colon, at_most_one, or_absent, requirements, titled, half_in, half_at}
use Rattle.p3_task.specs.declared.expression.Expression.{Expression, Group'}
use Rattle.p3_task.specs.declared.expression.Expression.TheVariants as expression
use Rattle.p3_task.specs.declared.effect.Numeral.{Numeral}
use Rattle.p3_task.specs.declared.term.Term.TheVariants.{Const}
use Rattle.p3_task.specs.declared.term.Ref.{Ref}
use Rattle.p3_places.proofs.Runs.{run}
use Rattle.p3_places.specs.Places.{grammar_table, head_word, may_be_empty, is_final, rest_if, start}
use Rattle.p3_places.proofs.Fits.{ends, run_parts, fits, fits_one, fits_two}
use Rattle.p3_places.proofs.SectionFits.{allowed, fit_among}
use Rattle.p3_places.specs.declared.state.Class.TheVariants as class
use Rattle.p3_places.specs.declared.state.Place.{Place}
use Rattle.p3_places.specs.declared.state.Slot.{Slot}
use Rattle.p3_places.specs.declared.state.Slot.TheVariants as slot
use Rattle.p3_places.specs.declared.state.Rest.{Rest}
use Rattle.p3_places.specs.declared.state.Rest.TheVariants as rest
use Rattle.p3_places.specs.declared.state.State.{State}
use Rattle.p3_places.specs.declared.state.State.TheVariants as state
use Rattle.p3_places.proofs.FitLemmas.{if_is_some, Awaits, run_fits, one_awaits, ends_more, ends_one, ends_two, ends_many, some_bind, some_two, name_fits, each_fits, list_fits, and_false}
use Rattle.p3_places.proofs.PlaceLemmas.{the_word}

-- ---- small places

abbrev pub the_numeral : Ref → Numeral
the_numeral word = record { at = word.at; len = length word.name; digits = digits_value (digits_of word.name); places = places_of word.name }

pub number_fits : (e : Expression) → is_some (numeral_place e) ≡ fits (slot.Word class.Number) e
number_fits (expression.Word at text) = some_bind (if is_decimal text then Some (the_word text at) else None) (λ word. the_numeral word) ∙ if_is_some (is_decimal text) (the_word text at)
number_fits (Group' at shape row) = refl

pub colon_fits : (e : Expression) → is_some (word_if begins_with_colon e) ≡ fits (slot.Word class.Keyword) e
colon_fits (expression.Word at text) = if_is_some (begins_with_colon text) (the_word text at)
colon_fits (Group' at shape row) = refl

pub object_fits : (e : Expression) → is_some (object_place e) ≡ fits (slot.Word class.Name) e
object_fits e = some_bind (name_place e) Const ∙ name_fits e

pub one_type_fits : (e : Expression) → is_some (one_type_place e) ≡ fits (slot.Word class.Name) e
one_type_fits e = some_bind (name_place e) (λ name. name ∷ []) ∙ name_fits e

-- one part, and two
pub only_fits : {A : Type 0} (s : Slot) (place : Reads A) → ((e : Expression) → is_some (place e) ≡ fits s e) → (parts : List Expression) → is_some (only parts >>= place) ≡ ends (run_parts (state.Rest (rest.One s)) parts)
only_fits s place same parts = by parts ∙ sym (ends_one s parts)
  where
    by : (parts : List Expression) → is_some (only parts >>= place) ≡ fits_one (fits s) parts
    by [] = refl
    by (part ∷ []) = same part
    by (part ∷ other ∷ parts) = refl

pub two_fit : {A B C : Type 0} (s u : Slot) (first : Reads A) (second : Reads B) (f : A → B → C) → ((e : Expression) → is_some (first e) ≡ fits s e) → ((e : Expression) → is_some (second e) ≡ fits u e)
    → (parts : List Expression) → is_some (pair parts >>= λ both. first both.0 >>= λ a. second both.1 >>= λ b. Some (f a b)) ≡ ends (run_parts (state.Rest (rest.Two s u)) parts)
two_fit s u first second f same also parts = by parts ∙ sym (ends_two s u parts)
  where
    by : (parts : List Expression) → is_some (pair parts >>= λ both. first both.0 >>= λ a. second both.1 >>= λ b. Some (f a b)) ≡ fits_two (fits s) (fits u) parts
    by [] = refl
    by (part ∷ []) = refl
    by (part ∷ other ∷ []) = some_two (first part) (second other) f ∙ ap (λ b. b && is_some (second other)) (same part) ∙ ap (λ b. fits s part && b) (also other)
    by (part ∷ other ∷ third ∷ parts) = refl

-- what stands behind a word that passes a test
pub entry_fits : {A : Type 0} (b : Bool) (r : Rest) (word : Ref) (entry : Ref → Option A) (parts : List Expression) → is_some (entry word) ≡ ends (run_parts (state.Rest r) parts)
    → is_some ((if b then Some word else None) >>= entry) ≡ ends (rest_if b r >>= λ r. run_parts (state.Rest r) parts)
entry_fits true r word entry parts same = same
entry_fits false r word entry parts same = refl

-- ---- sections

pub requirements_fit : (section : Section) → is_some (requirements section) ≡ ends (run_parts (state.Rest (rest.Many (slot.Word class.Keyword))) section.behind)
requirements_fit section = each_fits (word_if begins_with_colon) (slot.Word class.Keyword) colon_fits section.behind ∙ sym (ends_many (slot.Word class.Keyword) section.behind)

pub once_fits : {A : Type 0} (fit : List Expression → Bool) (reading : Section → Option A) → ((section : Section) → is_some (reading section) ≡ fit section.behind)
    → (list : List Section) → is_some (only list >>= reading) ≡ allowed true false fit list
once_fits fit reading same [] = refl
once_fits fit reading same (section ∷ []) = same section
once_fits fit reading same (section ∷ other ∷ list) = refl

pub optional_fits : {A : Type 0} (fit : List Expression → Bool) (absent : A) (reading : Section → Option A) → ((section : Section) → is_some (reading section) ≡ fit section.behind)
    → (list : List Section) → is_some (at_most_one list >>= or_absent absent reading) ≡ allowed false false fit list
optional_fits fit absent reading same [] = refl
optional_fits fit absent reading same (section ∷ []) = same section
optional_fits fit absent reading same (section ∷ other ∷ list) = refl

pub then_fits : {A B : Type 0} (o : Option A) (f : A → Option B) (first later : Bool) → is_some o ≡ first → ((a : A) → is_some (f a) ≡ later) → is_some (o >>= f) ≡ (first && later)
then_fits None f first later same also = ap (λ b. b && later) same
then_fits (Some a) f first later same also = also a ∙ ap (λ b. b && later) same

-- ---- a half

-- at this place stand a title and sections of these keywords
pub record IsHalf (kind : Name) (keywords : List Name) (fit : List Section → Bool) (p title : Place) (begun sections : State) : Type 0 where
  pub head : (text : Name) → head_word p text ≡ (if same_name (codes "define") text then Some begun else None)
  pub not_empty : may_be_empty p ≡ false
  pub no_end : is_final begun ≡ false
  pub titles : Awaits begun (slot.List title) sections
  pub title_head : (text : Name) → head_word title text ≡ (if same_name kind text then Some (state.Rest (rest.One (slot.Word class.Name))) else None)
  pub title_not_empty : may_be_empty title ≡ false
  pub sections_go : (es : List Expression) → ends (run_parts sections es) ≡ fit_among keywords fit (each_at section_place es)

if_one : (b : Bool) (parts : List Expression) → ends ((if b then Some (state.Rest (rest.One (slot.Word class.Name))) else None) >>= λ s. run_parts s parts) ≡ b && fits_one (fits (slot.Word class.Name)) parts
if_one true parts = ends_one (slot.Word class.Name) parts
if_one false parts = refl

if_word : {A B : Type 0} (b : Bool) (a : A) (o : Option B) → is_some ((if b then Some a else None) >>= λ _. o) ≡ b && is_some o
if_word true a o = refl
if_word false a o = refl

abbrev IsTitle : Name → Place → Type 0
IsTitle kind p = (text : Name) → head_word p text ≡ (if same_name kind text then Some (state.Rest (rest.One (slot.Word class.Name))) else None)

title_behind : (kind : Name) (p : Place) → IsTitle kind p → (text : Name) (parts : List Expression)
    → ends (head_word p text >>= λ s. run_parts s parts) ≡ same_name kind text && fits_one (fits (slot.Word class.Name)) parts
title_behind kind p head text parts = ap (λ o. ends (o >>= λ s. run_parts s parts)) (head text) ∙ if_one (same_name kind text) parts

titled_parts : (kind : Name) (p : Place) → IsTitle kind p → may_be_empty p ≡ false → (parts : List Expression)
    → is_some (pair parts >>= λ both. is_word kind both.0 >>= λ word. name_place both.1) ≡ ends (run_parts (state.Head p) parts)
unfolding run
titled_parts kind p head not_empty [] = sym not_empty
titled_parts kind p head not_empty (Group' at shape row ∷ []) = refl
titled_parts kind p head not_empty (Group' at shape row ∷ second ∷ []) = refl
titled_parts kind p head not_empty (Group' at shape row ∷ second ∷ third ∷ parts) = refl
titled_parts kind p head not_empty (expression.Word at text ∷ []) = sym (and_false (same_name kind text)) ∙ sym (title_behind kind p head text [])
titled_parts kind p head not_empty (expression.Word at text ∷ second ∷ []) =
    if_word (same_name kind text) (the_word text at) (name_place second) ∙ ap (λ b. same_name kind text && b) (name_fits second) ∙ sym (title_behind kind p head text (second ∷ []))
titled_parts kind p head not_empty (expression.Word at text ∷ second ∷ third ∷ parts) = sym (and_false (same_name kind text)) ∙ sym (title_behind kind p head text (second ∷ third ∷ parts))

title_fits : (kind : Name) (p : Place) → IsTitle kind p → may_be_empty p ≡ false → (e : Expression) → is_some (titled kind e) ≡ fits (slot.List p) e
title_fits kind p head not_empty (expression.Word at text) = refl
title_fits kind p head not_empty (Group' at shape row) = titled_parts kind p head not_empty (expressions row) ∙ sym (list_fits p row)

abbrev the_half : Ref → List Section → NamedSections
the_half name sections = record { name = name; sections = sections }

-- behind the word `define`
half_behind : {A : Type 0} (keywords : List Name) (fit : List Section → Bool) (contents : NamedSections → Option A) → ((half : NamedSections) → is_some (contents half) ≡ fit half.sections)
    → (b : Bool) (word : Ref) (title : Option Ref) (list : Option (List Section))
    → is_some (((if b then Some word else None) >>= λ define. title >>= λ name. list >>= λ found. sections_among keywords found >>= λ sections. Some (the_half name sections)) >>= contents)
    ≡ (b && (is_some title && fit_among keywords fit list))
half_behind keywords fit contents same false word title list = refl
half_behind keywords fit contents same true word None list = refl
half_behind keywords fit contents same true word (Some name) None = refl
half_behind keywords fit contents same true word (Some name) (Some found) = known_by (list_all (λ section. has_name keywords section.word.name) found)
  where
    known_by : (known : Bool) → is_some (((if known then Some found else None) >>= λ sections. Some (the_half name sections)) >>= contents) ≡ (known && fit found)
    known_by true = same (the_half name found)
    known_by false = refl

defined_by : (b : Bool) (begun sections : State) (t : Place) → Awaits begun (slot.List t) sections → (title : Expression) (behind : List Expression)
    → ends ((if b then Some begun else None) >>= λ s. run_parts s (title ∷ behind)) ≡ (b && (fits (slot.List t) title && ends (run_parts sections behind)))
defined_by true begun sections t titles title behind = ends_more begun sections (slot.List t) titles title behind
defined_by false begun sections t titles title behind = refl

only_defined : (b : Bool) (begun : State) → is_final begun ≡ false → ends ((if b then Some begun else None) >>= λ s. run_parts s []) ≡ false
only_defined true begun no_end = no_end
only_defined false begun no_end = refl

half_parts : {A : Type 0} (kind : Name) (keywords : List Name) (fit : List Section → Bool) (p t : Place) (begun sections : State) → IsHalf kind keywords fit p t begun sections
    → (contents : NamedSections → Option A) → ((half : NamedSections) → is_some (contents half) ≡ fit half.sections)
    → (parts : List Expression) → is_some (half_in kind keywords parts >>= contents) ≡ ends (run_parts (state.Head p) parts)
unfolding run
half_parts kind keywords fit p t begun sections is contents same [] = sym is.not_empty
half_parts kind keywords fit p t begun sections is contents same (Group' at shape row ∷ []) = refl
half_parts kind keywords fit p t begun sections is contents same (Group' at shape row ∷ title ∷ behind) = refl
half_parts kind keywords fit p t begun sections is contents same (expression.Word at text ∷ []) =
    sym (ap (λ o. ends (o >>= λ s. run_parts s [])) (is.head text) ∙ only_defined (same_name (codes "define") text) begun is.no_end)
half_parts kind keywords fit p t begun sections is contents same (expression.Word at text ∷ title ∷ behind) =
    half_behind keywords fit contents same (same_name (codes "define") text) (the_word text at) (titled kind title) (each_at section_place behind)
    ∙ ap (λ b. same_name (codes "define") text && (b && fit_among keywords fit (each_at section_place behind))) (title_fits kind t is.title_head is.title_not_empty title)
    ∙ ap (λ b. same_name (codes "define") text && (fits (slot.List t) title && b)) (sym (is.sections_go behind))
    ∙ sym (ap (λ o. ends (o >>= λ s. run_parts s (title ∷ behind))) (is.head text) ∙ defined_by (same_name (codes "define") text) begun sections t is.titles title behind)

-- A HALF has a tree exactly where the table takes it.
pub half_fits : {A : Type 0} (kind : Name) (keywords : List Name) (fit : List Section → Bool) (p t : Place) (begun sections : State) → IsHalf kind keywords fit p t begun sections
    → (contents : NamedSections → Option A) → ((half : NamedSections) → is_some (contents half) ≡ fit half.sections)
    → (e : Expression) → is_some (half_at kind keywords e >>= contents) ≡ fits (slot.List p) e
half_fits kind keywords fit p t begun sections is contents same (expression.Word at text) = refl
half_fits kind keywords fit p t begun sections is contents same (Group' at shape row) =
    half_parts kind keywords fit p t begun sections is contents same (expressions row) ∙ sym (list_fits p row)

if_final : (b : Bool) → ends (if b then Some (state.Rest rest.Nothing) else None) ≡ b
if_final true = refl
if_final false = refl

-- a text is one list
pub text_fits : (p : Place) (e : Expression) → fits (slot.List p) e ≡ ends (run grammar_table (start p) e)
text_fits p e =
    sym (if_final (fits (slot.List p) e)) ∙ ap ends (sym (run_fits (start p) (state.Rest rest.Nothing) (slot.List p) (one_awaits (slot.List p)) e))
