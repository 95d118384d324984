-- Facts of a result.
use Rattle.std.proofs.Common.{◌≡◌, Option, Some, None, Result, Ok, Err, refl, subst}
use Rattle.std.specs.Prelude.{IfOk, IfErr, IsSome, OnOk, OnErr}

pub if_ok : {T E : Type 0} (r : Result T E) (P Q : T → Type 0) → ((x : T) → P x → Q x) → IfOk r P → IfOk r Q
if_ok (Ok x) P Q f h = f x h
if_ok (Err e) P Q f h = tt

pub if_err : {T E : Type 0} (r : Result T E) (P Q : E → Type 0) → ((x : E) → P x → Q x) → IfErr r P → IfErr r Q
if_err (Ok x) P Q f h = tt
if_err (Err e) P Q f h = f e h

pub on_err : {T E : Type 0} (r : Result T E) (P Q : Type 0) → (P → Q) → OnErr r P → OnErr r Q
on_err (Ok x) P Q f h = tt
on_err (Err e) P Q f h = f h

pub on_ok : {T E : Type 0} (r : Result T E) (P Q : Type 0) → (P → Q) → OnOk r P → OnOk r Q
on_ok (Ok x) P Q f h = f h
on_ok (Err e) P Q f h = tt

pub on_ok_both : {T E : Type 0} (r : Result T E) (P Q R : Type 0) → (P → Q → R) → OnOk r P → OnOk r Q → OnOk r R
on_ok_both (Ok x) P Q R f h k = f h k
on_ok_both (Err e) P Q R f h k = tt

pub if_ok_so : {T E : Type 0} (r : Result T E) (P : T → Type 0) (Q : Type 0) → ((x : T) → P x → Q) → IfOk r P → OnOk r Q
if_ok_so (Ok x) P Q f h = f x h
if_ok_so (Err e) P Q f h = tt

pub on_err_for : {T E : Type 0} (r : Result T E) (P : Type 0) → P → OnErr r P
on_err_for (Ok x) P h = tt
on_err_for (Err e) P h = h

pub on_ok_so : {T E : Type 0} (r : Result T E) (P : Type 0) → ((x : T) → r ≡ Ok x → P) → OnOk r P
on_ok_so (Ok x) P f = f x refl
on_ok_so (Err e) P f = tt

pub on_err_so : {T E : Type 0} (r : Result T E) (P : Type 0) → ((e : E) → r ≡ Err e → P) → OnErr r P
on_err_so (Ok x) P f = tt
on_err_so (Err e) P f = f e refl

pub same_err : {T E : Type 0} (r : Result T E) (a b : E) → r ≡ Err a → r ≡ Err b → a ≡ b
same_err r a b e f = cc

pub err_is : {T E : Type 0} (r : Result T E) (a b : E) → r ≡ Err a → a ≡ b → r ≡ Err b
err_is r a b e f = cc

pub none_or_some : {A : Type 0} (o : Option A) → IsSome o → o ≡ None → ⊥
none_or_some None h e = cc
none_or_some (Some x) h e = cc
