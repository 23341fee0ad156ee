-- Where a decoder is in a report, and what is read, decoded and written chunk by chunk.
use Rattle.wc_model.specs.declared.fault.Fault.TheVariants as fault
use Rattle.std.specs.Prelude.{◌≡◌, ℕ, ◌+◌, ◌<◌, ◌≤◌, Bool, true, false, List, [], ◌∷◌, ◌++◌, length, Result, OnOk, IsOkUnless, take, Option, Ok, Err, IfErr, IsErrOf}
use Rattle.std.specs.List.{AllByRecursion}
use Rattle.std.specs.Io.KnownBytes.{Appends, Consumes, IsAtEnd, Keeps}
use Rattle.wc_model.specs.Definitions.{whole_lines, HasFailedSince}
use Rattle.wc_model.specs.declared.fault.Fault.{Fault}
use Rattle.wc_view_decode.specs.Decoding.{AreDecoded, Decodes, IsDecodedLine, longest_line, DecodesPrefix, HasReadCause}
use Rattle.wc_view_decode.specs.Formats.{heading, opening, passed_on}
use Rattle.wc_view_decode.specs.declared.decoder.Decoder.{Decoder}
use Rattle.wc_view_decode.specs.declared.format.DecodeFormat.{DecodeFormat}
use Rattle.wc_view_decode.specs.declared.format.DecodeFault.{DecodeFault}
use Rattle.wc_view_decode.specs.declared.format.DecodeFault.TheVariants.{Read, Write}

-- no line feed is among these bytes
abbrev pub HasNoEnd : List ℕ → Type 0
HasNoEnd bytes = AllByRecursion (λ byte. ¬ (byte ≡ 10)) bytes

-- what is kept of the current line and what is written of it: all is kept, or of a line that is too long all is written
abbrev pub KeepsLine : DecodeFormat → (line kept : List ℕ) → Bool → (shown : List ℕ) → Type 0
KeepsLine format line kept false shown = (line ≡ kept) × (length kept ≤ longest_line) × (shown ≡ [])
KeepsLine format line kept true shown = (longest_line < length line) × (kept ≡ []) × (shown ≡ opening format ++ passed_on format line)

-- the whole lines that were read are written, and then comes the current line
pub record IsInState (format : DecodeFormat) (read kept : List ℕ) (is_long : Bool) (text : List ℕ) : Type 0 where
  pub lines : List (List ℕ)
  pub line : List ℕ
  pub shown : List ℕ
  pub started : List ℕ
  pub whole : (rest : List ℕ) → whole_lines (read ++ rest) ≡ lines ++ whole_lines (line ++ rest)
  pub single : HasNoEnd line
  pub each : AreDecoded format lines shown
  pub keeps : KeepsLine format line kept is_long started
  pub text_is : text ≡ heading format ++ shown ++ started

-- so of a decoder
abbrev pub Represents : Decoder → List ℕ → List ℕ → Type 0
Represents decoder read text = IsInState decoder.format read decoder.line.items decoder.is_long text

-- bytes more are taken in the same format, and what is written of them is appended to a text, or memory for it is refused
abbrev pub TakesBytes : Decoder → Decoder → List ℕ → Result Unit Fault → (old new : List ℕ) → Type 0
TakesBytes before after bytes result old new =
    (after.format ≡ before.format) × IsOkUnless result fault.Memory
    × OnOk result ((read text : List ℕ) → Represents before read (text ++ old) → Represents after (read ++ bytes) (text ++ new))

-- what is written for a line is appended to a text, if its only line feed is at its end
abbrev pub PutsLine : {E : Type 0} → DecodeFormat → List ℕ → Result Unit E → (old new : List ℕ) → Type 0
PutsLine format line result old new =
    OnOk result ((shown : List ℕ) × (new ≡ old ++ shown)
    × ((kept : List ℕ) → line ≡ kept ++ 10 ∷ [] → HasNoEnd kept → length line ≤ longest_line + 1 → IsDecodedLine format line shown))

-- what is missing at a report's end is appended to a text
abbrev pub Finishes : {E : Type 0} → Decoder → Result Unit E → (old new : List ℕ) → Type 0
Finishes decoder result old new =
    OnOk result ((read text : List ℕ) → Represents decoder read (text ++ old) → Decodes decoder.format read (text ++ new))

-- a text is written, or a prefix of it
abbrev pub WritesText : {E : Type 0} → (old new : Option (List ℕ)) → Result Unit E → List ℕ → Type 0
WritesText old new (Ok done) text = Appends old new text
WritesText old new (Err fault) text = (prefix : List ℕ) × (rest : List ℕ) × (text ≡ prefix ++ rest) × Appends old new prefix

-- bytes are read into the start of a buffer, none only at the end
abbrev pub ReadsChunk : {E : Type 0} → (old new : Option (List ℕ)) → Result ℕ E → List ℕ → Type 0
ReadsChunk old new (Ok count) buffer = (count ≤ length buffer) × Consumes old new (take count buffer) × (count ≡ 0 → IsAtEnd new)
ReadsChunk old new (Err fault) buffer = Keeps old new

-- a chunk is decoded and written, or a prefix of what is written so far and of it
abbrev pub DecodesChunk : Decoder → Decoder → List ℕ → Result Unit DecodeFault → (old new : Option (List ℕ)) → Type 0
DecodesChunk before after chunk (Ok done) old new =
    (read text : List ℕ) → Represents before read text
    → (added : List ℕ) × Appends old new added × Represents after (read ++ chunk) (text ++ added)
DecodesChunk before after chunk (Err fault) old new =
    (read text : List ℕ) → Represents before read text
    → (added : List ℕ) × (first : List ℕ) × (more : List ℕ) × Appends old new added × (read ++ chunk ≡ first ++ more)
    × DecodesPrefix before.format first (text ++ added)

-- a report is finished, or a prefix of it is written
abbrev pub Ends : Decoder → Result Unit DecodeFault → (old new : Option (List ℕ)) → Type 0
Ends decoder (Ok done) old new =
    (read text : List ℕ) → Represents decoder read text → (added : List ℕ) × Appends old new added × Decodes decoder.format read (text ++ added)
Ends decoder (Err fault) old new =
    (read text : List ℕ) → Represents decoder read text → (added : List ℕ) × Appends old new added × DecodesPrefix decoder.format read (text ++ added)

-- what was read since a decoder stood at a report's beginning is decoded and written
abbrev pub GoesOn : Decoder → Decoder → (input_old input_now output_old output_now : Option (List ℕ)) → Type 0
GoesOn before now input_old input_now output_old output_now =
    (text : List ℕ) → Represents before [] text
    → (read : List ℕ) × (added : List ℕ) × Consumes input_old input_now read × Appends output_old output_now added
    × Represents now read (text ++ added)

-- the rest of a report is decoded and written, or at a fault a prefix of it
abbrev pub DecodesRest : Decoder → Result Unit DecodeFault → (input_old input_new output_old output_new : Option (List ℕ)) → Type 0
DecodesRest before (Ok done) input_old input_new output_old output_new =
    (text : List ℕ) → Represents before [] text
    → (report : List ℕ) × (added : List ℕ) × Consumes input_old input_new report × IsAtEnd input_new
    × Appends output_old output_new added × Decodes before.format report (text ++ added)
DecodesRest before (Err fault) input_old input_new output_old output_new =
    (text : List ℕ) → Represents before [] text
    → (report : List ℕ) × (more : List ℕ) × (added : List ℕ) × Consumes input_old input_new (report ++ more)
    × Appends output_old output_new added × DecodesPrefix before.format report (text ++ added)

-- a fault of reading has its cause in the reader, and without one no call of it has failed
abbrev pub ReadsOr : {A : Type 0} → Result A DecodeFault → ℕ → ℕ → ℕ → ℕ → Type 0
ReadsOr result before after start spent = (IsErrOf result Read → HasReadCause before after start spent) × ((IsErrOf result Read → ⊥) → after ≡ before)

-- a fault of writing has its cause in the writer, and without one no call of it has failed
abbrev pub WritesOr : {A : Type 0} → Result A DecodeFault → ℕ → ℕ → Type 0
WritesOr result before after = (IsErrOf result Write → HasFailedSince before after) × ((IsErrOf result Write → ⊥) → after ≡ before)

-- so it is, and no fault is one of reading
abbrev pub WritesOnly : {A : Type 0} → Result A DecodeFault → ℕ → ℕ → Type 0
WritesOnly result before after = WritesOr result before after × IfErr result (λ fault. fault ≡ Read → ⊥)
