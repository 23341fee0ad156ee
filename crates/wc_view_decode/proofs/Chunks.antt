-- A report that is read, decoded and written chunk by chunk.
use Rattle.wc_model.proofs.Common.{◌≡◌, ℕ, List, [], ◌++◌, Option, Result, Ok, Err, refl, sym, ap, ◌∙◌, subst, Appends-nil, Appends-trans, Consumes-kept, Consumes-nil, Consumes-trans, Appends, Consumes, IsAtEnd, Keeps, IsErr, IsErrAnd}
use Rattle.std.proofs.lemmas.List.{append_assoc, append-nil}
use Rattle.wc_view_decode.proofs.Standings.{end_prefix, prefix_written}
use Rattle.wc_view_decode.specs.{Decodes, DecodesAll, DecodesPrefix, heading, DecodesChunk, DecodesRest, Ends, GoesOn, WritesText, Represents}
use Rattle.wc_view_decode.specs.declared.decoder.Decoder.{Decoder}
use Rattle.wc_view_decode.specs.declared.format.DecodeFault.{DecodeFault}
use Rattle.wc_view_decode.specs.declared.format.DecodeFormat.{DecodeFormat}

-- what was written is a prefix of itself
prefix_of_all : (decoder : Decoder) (read text : List ℕ) → Represents decoder read text → DecodesPrefix decoder.format read (text ++ [])
prefix_of_all decoder read text represents =
    prefix_written decoder.format read decoder.line.items decoder.is_long (text ++ []) [] (subst (Represents decoder read) (sym (append-nil text) ∙ sym (append-nil (text ++ []))) represents)

-- a chunk is written, or a prefix of it
pub chunk_written : (r : Result Unit DecodeFault) (before after : Decoder) (chunk none made : List ℕ) (old new : Option (List ℕ)) → none ≡ [] → after.format ≡ before.format
    → ((read text : List ℕ) → Represents before read (text ++ none) → Represents after (read ++ chunk) (text ++ made)) → WritesText old new r made → DecodesChunk before after chunk r old new
chunk_written (Ok done) before after chunk none made old new empty format goes writes = λ read text represents. (
  made,
  writes,
  goes read text (subst (Represents before read) (sym (append-nil text) ∙ ap (λ n. text ++ n) (sym empty)) represents),
)
chunk_written (Err fault) before after chunk none made old new empty format goes (prefix, rest, cut, taken) = λ read text represents.
    let stood = goes read text (subst (Represents before read) (sym (append-nil text) ∙ ap (λ n. text ++ n) (sym empty)) represents) in (
      prefix,
      read ++ chunk,
      [],
      taken,
      sym (append-nil (read ++ chunk)),
      subst (λ f. DecodesPrefix f (read ++ chunk) (text ++ prefix)) format
          (prefix_written after.format (read ++ chunk) after.line.items after.is_long (text ++ prefix) rest
          (subst (Represents after (read ++ chunk)) (ap (λ m. text ++ m) cut ∙ sym (append_assoc text prefix rest)) stood)),
    )

-- if memory is refused, nothing is written
pub chunk_refused : (before : Decoder) (chunk : List ℕ) (old : Option (List ℕ)) (read text : List ℕ) → Represents before read text
    → (added : List ℕ) × (first : List ℕ) × (more : List ℕ) × Appends old old added × (read ++ chunk ≡ first ++ more) × DecodesPrefix before.format first (text ++ added)
chunk_refused before chunk old read text represents = ([], read, chunk, Appends-nil old, refl, prefix_of_all before read text represents)

-- a report's end is written, or a prefix of it
pub end_written : (r : Result Unit DecodeFault) (decoder : Decoder) (none made : List ℕ) (old new : Option (List ℕ)) → none ≡ []
    → ((read text : List ℕ) → Represents decoder read (text ++ none) → Decodes decoder.format read (text ++ made)) → WritesText old new r made → Ends decoder r old new
end_written (Ok done) decoder none made old new empty goes writes = λ read text represents. (
  made,
  writes,
  goes read text (subst (Represents decoder read) (sym (append-nil text) ∙ ap (λ n. text ++ n) (sym empty)) represents),
)
end_written (Err fault) decoder none made old new empty goes (prefix, rest, cut, taken) = λ read text represents. (
  prefix,
  taken,
  end_prefix decoder.format read (text ++ prefix) rest
      (subst (Decodes decoder.format read) (ap (λ m. text ++ m) cut ∙ sym (append_assoc text prefix rest))
      (goes read text (subst (Represents decoder read) (sym (append-nil text) ∙ ap (λ n. text ++ n) (sym empty)) represents))),
)

pub end_refused : (decoder : Decoder) (old : Option (List ℕ)) (read text : List ℕ) → Represents decoder read text
    → (added : List ℕ) × Appends old old added × DecodesPrefix decoder.format read (text ++ added)
end_refused decoder old read text represents = ([], Appends-nil old, prefix_of_all decoder read text represents)

-- a chunk more
pub goes_more : (before now after : Decoder) (chunk : List ℕ) (in0 in1 in2 out0 out1 out2 : Option (List ℕ)) → GoesOn before now in0 in1 out0 out1 → Consumes in1 in2 chunk
    → ((read text : List ℕ) → Represents now read text → (added : List ℕ) × Appends out1 out2 added × Represents after (read ++ chunk) (text ++ added))
    → GoesOn before after in0 in2 out0 out2
goes_more before now after chunk in0 in1 in2 out0 out1 out2 goes reads writes text represents =
    let so_far = goes text represents in
    let more = writes so_far.0 (text ++ so_far.1) so_far.4 in (
      so_far.0 ++ chunk,
      so_far.1 ++ more.0,
      Consumes-trans in0 in1 in2 so_far.0 chunk so_far.2 reads,
      Appends-trans out0 out1 out2 so_far.1 more.0 so_far.3 more.1,
      subst (Represents after (so_far.0 ++ chunk)) (append_assoc text so_far.1 more.0) more.2,
    )

-- a read fails
pub rest_unread : (before now : Decoder) (in0 in1 in2 out0 out1 : Option (List ℕ)) → now.format ≡ before.format → GoesOn before now in0 in1 out0 out1 → Keeps in1 in2
    → (text : List ℕ) → Represents before [] text → (report : List ℕ) × (more : List ℕ) × (added : List ℕ) × Consumes in0 in2 (report ++ more) × Appends out0 out1 added × DecodesPrefix before.format report (text ++ added)
rest_unread before now in0 in1 in2 out0 out1 format goes keeps text represents =
    let so_far = goes text represents in (
      so_far.0,
      [],
      so_far.1,
      subst (Consumes in0 in2) (sym (append-nil so_far.0)) (Consumes-kept in0 in1 in2 so_far.0 so_far.2 keeps),
      so_far.3,
      subst (λ f. DecodesPrefix f so_far.0 (text ++ so_far.1)) format (subst (DecodesPrefix now.format so_far.0) (append-nil (text ++ so_far.1)) (prefix_of_all now so_far.0 (text ++ so_far.1) so_far.4)),
    )

-- a chunk fails
pub rest_unwritten : (before now : Decoder) (chunk : List ℕ) (in0 in1 in2 out0 out1 out2 : Option (List ℕ)) → now.format ≡ before.format → GoesOn before now in0 in1 out0 out1 → Consumes in1 in2 chunk
    → ((read text : List ℕ) → Represents now read text → (added : List ℕ) × (first : List ℕ) × (more : List ℕ) × Appends out1 out2 added × (read ++ chunk ≡ first ++ more) × DecodesPrefix now.format first (text ++ added))
    → (text : List ℕ) → Represents before [] text → (report : List ℕ) × (more : List ℕ) × (added : List ℕ) × Consumes in0 in2 (report ++ more) × Appends out0 out2 added × DecodesPrefix before.format report (text ++ added)
rest_unwritten before now chunk in0 in1 in2 out0 out1 out2 format goes reads writes text represents =
    let so_far = goes text represents in
    let more = writes so_far.0 (text ++ so_far.1) so_far.4 in (
      more.1,
      more.2,
      so_far.1 ++ more.0,
      subst (Consumes in0 in2) more.4 (Consumes-trans in0 in1 in2 so_far.0 chunk so_far.2 reads),
      Appends-trans out0 out1 out2 so_far.1 more.0 so_far.3 more.3,
      subst (λ f. DecodesPrefix f more.1 (text ++ (so_far.1 ++ more.0))) format (subst (DecodesPrefix now.format more.1) (append_assoc text so_far.1 more.0) more.5),
    )

-- the end is reached
pub rest_ended : (r : Result Unit DecodeFault) (before now : Decoder) (in0 in1 in2 out0 out1 out2 : Option (List ℕ)) → now.format ≡ before.format → GoesOn before now in0 in1 out0 out1
    → Consumes in1 in2 [] → IsAtEnd in2 → Ends now r out1 out2 → DecodesRest before r in0 in2 out0 out2
rest_ended (Ok done) before now in0 in1 in2 out0 out1 out2 format goes reads at_end ends = λ text represents.
    let so_far = goes text represents in
    let more = ends so_far.0 (text ++ so_far.1) so_far.4 in (
      so_far.0,
      so_far.1 ++ more.0,
      subst (Consumes in0 in2) (append-nil so_far.0) (Consumes-trans in0 in1 in2 so_far.0 [] so_far.2 reads),
      at_end,
      Appends-trans out0 out1 out2 so_far.1 more.0 so_far.3 more.1,
      subst (λ f. Decodes f so_far.0 (text ++ (so_far.1 ++ more.0))) format (subst (Decodes now.format so_far.0) (append_assoc text so_far.1 more.0) more.2),
    )
rest_ended (Err fault) before now in0 in1 in2 out0 out1 out2 format goes reads at_end ends = λ text represents.
    let so_far = goes text represents in
    let more = ends so_far.0 (text ++ so_far.1) so_far.4 in (
      so_far.0,
      [],
      so_far.1 ++ more.0,
      Consumes-trans in0 in1 in2 so_far.0 [] so_far.2 reads,
      Appends-trans out0 out1 out2 so_far.1 more.0 so_far.3 more.1,
      subst (λ f. DecodesPrefix f so_far.0 (text ++ (so_far.1 ++ more.0))) format (subst (DecodesPrefix now.format so_far.0) (append_assoc text so_far.1 more.0) more.2),
    )

-- all is decoded after the heading
pub all_decoded : (r : Result Unit DecodeFault) (decoder : Decoder) (format : DecodeFormat) (in0 in1 out0 out1 out2 : Option (List ℕ)) → decoder.format ≡ format → Represents decoder [] (heading format)
    → Appends out0 out1 (heading format) → DecodesRest decoder r in0 in1 out1 out2 → DecodesAll format r in0 in1 out0 out2
all_decoded (Ok done) decoder format in0 in1 out0 out1 out2 is represents headed rest =
    let so = rest (heading format) represents in
    (so.0, heading format ++ so.1, so.2, so.3, Appends-trans out0 out1 out2 (heading format) so.1 headed so.4, subst (λ f. Decodes f so.0 (heading format ++ so.1)) is so.5)
all_decoded (Err fault) decoder format in0 in1 out0 out1 out2 is represents headed rest =
    let so = rest (heading format) represents in
    (so.0, so.1, heading format ++ so.2, so.3, Appends-trans out0 out1 out2 (heading format) so.2 headed so.4, subst (λ f. DecodesPrefix f so.0 (heading format ++ so.2)) is so.5)

-- the heading itself can't be written
pub heading_unwritten : (format : DecodeFormat) (input out0 out1 : Option (List ℕ)) (prefix rest : List ℕ) → heading format ≡ prefix ++ rest → Appends out0 out1 prefix
    → (report : List ℕ) × (more : List ℕ) × (text : List ℕ) × Consumes input input (report ++ more) × Appends out0 out1 text × DecodesPrefix format report text
heading_unwritten format input out0 out1 prefix rest cut taken = (
  [],
  [],
  prefix,
  Consumes-nil input,
  taken,
  record { lines = []; left = []; lines_are = refl; shown = []; each = refl; rest = rest; text_is = append-nil (heading format) ∙ cut },
)

-- what holds of a fault holds of what `?` returns of it
pub propagated : {X F : Type 0} (holds : Result X F → Type 0) (fault : F) (result : Result X F) → IsErr result × IsErrAnd result (λ e. e ≡ fault) → holds (Err fault) → holds result
propagated holds fault (Err e) gives h = subst (λ x. holds (Err x)) (sym gives.1) h
propagated holds fault (Ok x) gives h = absurd gives.1
