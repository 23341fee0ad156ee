-- What is said of a result, or of its error.
use Rattle.std.proofs.Common.{Result, Ok, Err, Option, Some, None, IfErr, IfOk, IfSome, OnOk}

-- what follows from what is said
pub ok-map : {A E : Type 0} {P Q : A → Type 0} (r : Result A E) → ((x : A) → P x → Q x) → IfOk r P → IfOk r Q
ok-map (Ok x) f h = f x h
ok-map (Err e) f h = h

-- what follows from what is said if it is one
pub on_ok-map : {A E : Type 0} {P Q : Type 0} (r : Result A E) → (P → Q) → OnOk r P → OnOk r Q
on_ok-map (Ok x) f h = f h
on_ok-map (Err e) f h = h

-- what follows from what is said of the error
pub err-map : {A E : Type 0} {P Q : E → Type 0} (r : Result A E) → ((x : E) → P x → Q x) → IfErr r P → IfErr r Q
err-map (Ok x) f h = h
err-map (Err e) f h = f e h

-- what follows from what is said of what may be there
pub some-map : {A : Type 0} {P Q : A → Type 0} (o : Option A) → ((x : A) → P x → Q x) → IfSome o P → IfSome o Q
some-map (Some x) f h = f x h
some-map None f h = h
