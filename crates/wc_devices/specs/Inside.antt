-- What is inside these readers and writers, and what else they keep. (The profile's own.)
use Rattle.std.specs.Prelude.{◌≡◌, ℕ, ◌-◌, Bool, List, ◌++◌, Option, Result, Ok, Err, IsErrAnd, IsTrue, drop, length, take, vec_capacity}
use Rattle.std.specs.Io.KnownBytes.{append_known}
use Rattle.wc_devices.specs.declared.output_buffer.OutputBuffer.{OutputBuffer}
use Rattle.wc_devices.specs.declared.keeping_reader.KeepingReader.{KeepingReader}
use Rattle.wc_devices.specs.declared.retry.Retry.{Retry}
use Rattle.std.specs.declared.io.Error.{Error}
use Rattle.std.specs.declared.io.ErrorKind.TheVariants.{BrokenPipe}
use Rattle.std.specs.IoError.{error_kind}

-- the reader or writer inside
abbrev pub retry_inner : {D : Type 0} → Retry D → D
retry_inner retry = retry.inner

-- why it failed last, if it did
abbrev pub last_cause : {D : Type 0} → Retry D → Option Error
last_cause retry = retry.cause

-- the reader inside
abbrev pub keeping_inner : {D : Type 0} → KeepingReader D → D
keeping_inner reader = reader.inner

-- the bytes that were read
abbrev pub kept : {D : Type 0} → KeepingReader D → List ℕ
kept reader = reader.kept.items

-- whether a read was out of memory for the bytes to keep
abbrev pub has_lacked : {D : Type 0} → KeepingReader D → Bool
has_lacked reader = reader.lacked

-- the number of bytes for which it has memory
abbrev pub kept_capacity : {D : Type 0} → KeepingReader D → ℕ
kept_capacity reader = vec_capacity reader.kept

-- bytes that are kept grow by those that a read gives; a failed read adds none
abbrev pub Extends : List ℕ → List ℕ → Result ℕ Error → List ℕ → Type 0
Extends old new (Ok count) buffer = new ≡ old ++ take count buffer
Extends old new (Err error) buffer = new ≡ old

-- the writer inside
abbrev pub buffer_inner : {D : Type 0} → OutputBuffer D → D
buffer_inner buffer = buffer.inner

-- what is buffered and not passed on yet
abbrev pub pending : {D : Type 0} → OutputBuffer D → List ℕ
pending buffer = drop buffer.given buffer.buffered.items

-- whether a call of it has failed
abbrev pub buffer_failed : {D : Type 0} → OutputBuffer D → Bool
buffer_failed buffer = buffer.failed

-- the number of bytes it can gather
abbrev pub buffer_size : {D : Type 0} → OutputBuffer D → ℕ
buffer_size buffer = buffer.capacity

-- the number of further bytes it can gather before it has to pass some on
abbrev pub space_left : {D : Type 0} → OutputBuffer D → ℕ
space_left buffer = buffer.capacity - length buffer.buffered.items

-- a slice is taken whole, and nothing goes to the writer inside
abbrev pub Buffers : {D : Type 0} → OutputBuffer D → OutputBuffer D → Result ℕ Error → List ℕ → Type 0
Buffers old new result slice = (result ≡ Ok (length slice)) × (buffer_inner new ≡ buffer_inner old)

-- a call after one that failed is a broken pipe, and changes nothing
abbrev pub Refuses : {D A : Type 0} → OutputBuffer D → OutputBuffer D → Result A Error → Type 0
Refuses old new result = IsTrue (buffer_failed old) → IsErrAnd result (λ error. error_kind error ≡ BrokenPipe) × (new ≡ old)

-- all that was taken: what the writer inside has, and then what is pending
abbrev pub taken : {D : Type 0} → (D → Option (List ℕ)) → OutputBuffer D → Option (List ℕ)
taken contents buffer = append_known (contents buffer.inner) (pending buffer)
