-- What a `?` returns: the fault that it found, as the fault of the caller.
use Rattle.std.proofs.Common.{◌≡◌, Result, Ok, Err, IfOk, OnOk, sym, subst}
use Rattle.std.specs.Result.{IsErr, IsErrAnd}

-- what holds of a fault holds of what `?` returns of it
pub propagated : {X F : Type 0} (holds : Result X F → Type 0) (fault : F) (result : Result X F) → IsErr result × IsErrAnd result (λ e. e ≡ fault) → holds (Err fault) → holds result
propagated holds fault (Err e) gives h = subst (λ x. holds (Err x)) (sym gives.1) h
propagated holds fault (Ok x) gives h = absurd gives.1

-- what is said of a success holds of it
pub no_success_of : {X F : Type 0} (fault : F) (result : Result X F) → IsErr result × IsErrAnd result (λ e. e ≡ fault) → (P : X → Type 0) → IfOk result P
no_success_of fault (Err e) gives P = tt
no_success_of fault (Ok x) gives P = absurd gives.1

pub no_success_on : {X F : Type 0} (fault : F) (result : Result X F) → IsErr result × IsErrAnd result (λ e. e ≡ fault) → (P : Type 0) → OnOk result P
no_success_on fault (Err e) gives P = tt
no_success_on fault (Ok x) gives P = absurd gives.1
