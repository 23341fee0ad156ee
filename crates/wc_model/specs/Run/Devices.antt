-- What readers and writers count: failed calls, and what was spent. (The profile's own.)
use Rattle.std.specs.Prelude.{ℕ, zero, suc, ◌+◌, ◌-◌, ◌^◌, min, List, [], ◌∷◌, Result, Ok, Err}
use Rattle.wc_model.specs.declared.device.Device.{Device}

-- a count that stops at the greatest number of 64 bits
abbrev pub counted : ℕ → ℕ → ℕ
counted old more = min (old + more) (2 ^ 64 - 1)

-- one more if the read failed
abbrev pub failures_after_read : {E : Type 0} → ℕ → Result ℕ E → ℕ
failures_after_read old (Ok n) = old
failures_after_read old (Err e) = counted old 1

-- one more for the call, and the bytes that it gave
abbrev pub spent_after_read : {E : Type 0} → ℕ → Result ℕ E → ℕ
spent_after_read old (Ok n) = counted old (1 + n)
spent_after_read old (Err e) = counted old 1

-- one more if the write failed: an error, or nothing taken of a nonempty chunk
abbrev pub failures_after_write : {E : Type 0} → ℕ → Result ℕ E → List ℕ → ℕ
failures_after_write old (Ok zero) (byte ∷ chunk) = counted old 1
failures_after_write old (Ok zero) [] = old
failures_after_write old (Ok (suc n)) chunk = old
failures_after_write old (Err e) chunk = counted old 1

-- the reader or writer inside
abbrev pub device_inner : {D : Type 0} → Device D → D
device_inner d = d.inner

-- its failed calls
abbrev pub device_failures : {D : Type 0} → Device D → ℕ
device_failures d = d.failures

-- its bytes given and calls of `read`
abbrev pub device_spent : {D : Type 0} → Device D → ℕ
device_spent d = d.spent
