-- What is seen of flat codes is what is seen of their text.
use Rattle.wc_model.proofs.Common.{◌≡◌, ℕ, suc, false, List, [], ◌∷◌, ◌++◌, length, ℤ, refl, sym, ap, subst, ◌∙◌, arith, pred, reverse, slice_get}
use Rattle.std.proofs.lemmas.List.{length-reverse, append-nil}
use Rattle.wc_text_flat.proofs.Programs.{NestWell, AreCodesOf, calls_follow, codes_of, codes_length}
use Rattle.wc_text_flat.proofs.Texts.{program_based, all_nest_well, Newest, newest, ImageWritten, image_of_program}
use Rattle.wc_text_flat.specs.{frame_of_reversed, AreContents, with_image_numbers, calls_below, FlatCodeIsSeenAsTheText, sources_of_text}
use Rattle.wc_model.specs.Definitions.{text_body_checks, is_block, slot_kinds, Outcome, Done, Stuck, program_means, initial_of_reversed, with_image, Location, Content, Store, initial_store, program_frame, ProgramUnit}
use Rattle.wc_model.specs.declared.code.Code.{Code}
use Rattle.wc_laws_language.proofs.Places.{FitsScope-same}
use Rattle.wc_laws_language.proofs.Programs.{Any, program_ends, first_store_fits}
use Rattle.wc_laws_language.proofs.Spelled.{spelled_text_nests}
use Rattle.wc_laws_language.proofs.Texts.{none_broken, units_clean}
use Rattle.wc_laws_language.specs.{AreClean, EndsWell, SameSlots}
use Rattle.wc_text_flat.proofs.ProgramsSeen.{AreSourcesOf, body_seen, calls_seen, sources_are}
use Rattle.wc_text_flat.proofs.SeenSides.{OutcomeSeen}
use Rattle.wc_text_flat.specs.FlatSeen.{FlatSeen, AreSeenAs, flat_seen_body, flat_seen_below, flat_seen_of_program}
use Rattle.wc_text_flat.specs.Seen.{Seen, seen_of_program, seen_of_reversed}

-- what ends well is seen alike
pub seen_alike : (frame : List (Location × Content)) (old : Store) (o : Outcome) (seen : List Seen) (flats : List FlatSeen) → EndsWell Any old o → OutcomeSeen frame o seen flats → AreSeenAs frame seen flats
seen_alike frame old (Done result store trace) seen flats ends same = same
seen_alike frame old (Stuck reason) seen flats ends same = absurd ends

-- a program after its units
pub program_seen : (before : List ProgramUnit) (program : ProgramUnit) → is_block program ≡ false → NestWell (program ∷ before) → AreClean (program ∷ before) → (codes : List (List Code)) → AreCodesOf codes (program ∷ before) → length codes ≡ length (program ∷ before) → (sources : List (List ℕ)) → AreSourcesOf sources (program ∷ before) → (store : Store) → SameSlots (initial_store before program) store → (numbers : List ℤ) → AreContents (program_frame before program) store numbers → (now : ℕ) → AreSeenAs (program_frame before program) (seen_of_program before program now store) (flat_seen_of_program (slot_kinds (program_frame before program)) codes sources now numbers)
program_seen before program no_block well clean codes are so_many sources lines store same numbers contents now =
    subst (λ n. AreSeenAs (program_frame before program) (seen_of_program before program now store) (flat_seen_body (record { base = 0; now = now; kinds = slot_kinds (program_frame before program); calls = calls_below (slot_kinds (program_frame before program)) codes now n }) (flat_seen_below (slot_kinds (program_frame before program)) codes sources now n) (slice_get sources n) (slice_get codes n) numbers)) (sym last)
    (seen_alike (program_frame before program) store (program_means before program now store) (seen_of_program before program now store) (flat_seen_body (record { base = 0; now = now; kinds = slot_kinds (program_frame before program); calls = calls_below (slot_kinds (program_frame before program)) codes now (length before) }) (flat_seen_below (slot_kinds (program_frame before program)) codes sources now (length before)) (slice_get sources (length before)) (slice_get codes (length before)) numbers)
    (program_ends before program now store clean (FitsScope-same (initial_store before program) store [] (record { before = before; unit = program }) same (first_store_fits before program)))
    (body_seen (program_frame before program) before program [] now 0 (calls_below (slot_kinds (program_frame before program)) codes now (length before)) (flat_seen_below (slot_kinds (program_frame before program)) codes sources now (length before))
    (calls_follow (program_frame before program) codes now before well.2 are.3) (calls_seen (program_frame before program) codes sources now before well.2 are.3 lines.1) (program_based before program no_block) well.0 well.1 are.0 are.2 (slice_get codes (length before)) are.1 (slice_get sources (length before)) lines.0 store numbers contents))
  where
    last : pred (length codes) ≡ length before
    last = ap pred (so_many ∙ (let a : length (program ∷ before) ≡ suc (length before) = omega arith in a))

-- the statement for units that come newest first
abbrev pub ReversedSeen : List (List Code) → List (List ℕ) → List ProgramUnit → Type 0
ReversedSeen codes sources units = (store : Store) → SameSlots (initial_of_reversed units) store → (numbers : List ℤ) → AreContents (frame_of_reversed units) store numbers → (now : ℕ) →
    AreSeenAs (frame_of_reversed units) (seen_of_reversed units now store) (flat_seen_of_program (slot_kinds (frame_of_reversed units)) codes sources now numbers)

pub reversed_seen : (units : List ProgramUnit) → Newest units → NestWell units → AreClean units → (codes : List (List Code)) → AreCodesOf codes units → length codes ≡ length units → (sources : List (List ℕ)) → AreSourcesOf sources units → ReversedSeen codes sources units
reversed_seen units new well clean codes are so_many sources lines =
    subst (ReversedSeen codes sources) (sym new.are)
    (program_seen new.before new.program new.no_block (subst NestWell new.are well) (subst AreClean new.are clean) codes (subst (AreCodesOf codes) new.are are) (so_many ∙ ap (λ (us : List ProgramUnit). length us) new.are) sources (subst (AreSourcesOf sources) new.are lines))

-- the image is written first
pub flat_code_is_seen_as_the_text : FlatCodeIsSeenAsTheText
flat_code_is_seen_as_the_text bytes text read sound codes lowered store same numbers contents image now =
    let simple = spelled_text_nests _ text read.spelled in
    let whole : reverse text ++ [] ≡ reverse text = append-nil (reverse text) in
    let new : Newest (reverse text) = subst Newest whole (newest text [] read.spelled.order) in
    let written : ImageWritten (reverse text) = subst ImageWritten (sym new.are) (image_of_program new.before new.program) in
    let both = written store same numbers contents image in
    reversed_seen (reverse text) new
    (subst NestWell whole (all_nest_well text [] simple read.within_limits.bodies tt))
    (subst AreClean whole (units_clean [] text (none_broken (text_body_checks text) sound) simple tt))
    codes
    (subst (AreCodesOf codes) whole (codes_of text [] [] codes refl lowered tt))
    (codes_length [] text codes lowered ∙ sym (length-reverse text))
    (sources_of_text text)
    (subst (AreSourcesOf (sources_of_text text)) whole (sources_are text [] [] refl tt))
    (with_image image store) both.0 (with_image_numbers image numbers) both.1 now
