-- What is so of a fault is so of it if it is propagated.
use Rattle.wc_model.proofs.Common.{◌≡◌, Result, Ok, Err, sym, subst, IfOk, MatchResult, OnOk, IsErr, IsErrAnd}
use Rattle.wc_model.specs.declared.fault.Fault.{Fault}

pub propagated : {X : Type 0} (holds : Result X Fault → Type 0) (fault : Fault) (result : Result X Fault) → IsErr result × IsErrAnd result (λ e. e ≡ fault) → holds (Err fault) → holds result
propagated holds fault (Ok x) gives h = absurd gives.1
propagated holds fault (Err f) gives h = subst (λ x. holds (Err x)) (sym gives.1) h

-- what a call promises if it succeeds leads to what is wanted there
pub on_ok : {X E P Q : Type 0} (r : Result X E) → (P → Q) → OnOk r P → OnOk r Q
on_ok (Ok x) go h = go h
on_ok (Err e) go h = tt

-- two promises of a call that succeeds lead together to what is wanted
pub both_ok : {X E P Q R : Type 0} (r : Result X E) → (P → Q → R) → OnOk r P → OnOk r Q → OnOk r R
both_ok (Ok x) go h k = go h k
both_ok (Err e) go h k = tt

-- what a call promises of its value, also where its lack of memory is given as another fault
pub handed_on : {X E F : Type 0} (P : X → Type 0) (fault : F) (made : Result X E) (given : Result X F) → MatchResult made (λ value. given ≡ Ok value) (λ error. given ≡ Err fault) → IfOk made P → IfOk given P
handed_on P fault (Ok value) given is h = rw is h
handed_on P fault (Err error) given is h = rw is tt
