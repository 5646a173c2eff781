-- What is so of a result where it is an answer, or where it is a failure.
use Rattle.std.specs.Prelude.{IfErr, IfOk, OnOk, Result, Ok, Err}

pub on_both : {A E : Type 0} {P Q R : Type 0} (result : Result A E) → (P → Q → R) → OnOk result P → OnOk result Q → OnOk result R
on_both (Ok answer) more first second = more first second
on_both (Err error) more first second = tt

pub if_ok : {A E : Type 0} {P Q : A → Type 0} (result : Result A E) → ((answer : A) → P answer → Q answer) → IfOk result P → IfOk result Q
if_ok (Ok answer) more is = more answer is
if_ok (Err error) more is = tt

pub if_err : {A E : Type 0} {P Q : E → Type 0} (result : Result A E) → ((error : E) → P error → Q error) → IfErr result P → IfErr result Q
if_err (Ok answer) more is = tt
if_err (Err error) more is = more error is

pub if_both : {A E : Type 0} {P Q R : A → Type 0} (result : Result A E) → ((answer : A) → P answer → Q answer → R answer) → IfOk result P → IfOk result Q → IfOk result R
if_both (Ok answer) more first second = more answer first second
if_both (Err error) more first second = tt
