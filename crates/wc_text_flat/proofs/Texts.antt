-- Flat codes mean what their text means.
use Rattle.wc_model.proofs.Common.{◌≡◌, ℕ, suc, ◌+◌, Bool, true, false, List, [], ◌∷◌, ◌++◌, length, Option, Some, ℤ, refl, sym, ap, subst, ◌∙◌, arith, if◌then◌else◌, pred, reverse, slice_get, AllByRecursion}
use Rattle.std.proofs.lemmas.List.{length-reverse, append-nil}
use Rattle.wc_text_flat.proofs.Images.{image_written}
use Rattle.wc_text_flat.proofs.Programs.{NestWell, AreCodesOf, body_follows, calls_follow, codes_of, codes_length}
use Rattle.wc_text_flat.proofs.Sides.{IsBased, BodyFollows}
use Rattle.wc_text_flat.specs.{frame_of_reversed, AreContents, with_image_numbers, Ran, body_runs, calls_below, program_runs, RunsAlike, FlatCodeMeansTheText, FlatCodeScansTheText}
use Rattle.wc_model.specs.Definitions.{text_body_checks, is_block, place_number, slot_kinds, IsProgramLast, IsBodyWithinLimits, Outcome, Done, Stuck, program_means, called, initial_of_reversed, first_of_reversed, with_image, Scope, within, Location, Direct, Path, Content, Store, initial_store, program_frame, unit_places, ProgramUnit}
use Rattle.wc_model.specs.declared.code.Code.{Code}
use Rattle.wc_model.specs.declared.image.Image.{Image}
use Rattle.wc_model.specs.declared.source.UnitKind.{UnitKind}
use Rattle.wc_model.specs.declared.source.UnitKind.TheVariants.{FunctionBlock, Program}
use Rattle.wc_laws_language.proofs.Places.{SameSlots-trans, FitsScope-same}
use Rattle.wc_laws_language.proofs.Programs.{Any, program_ends, first_store_fits, image-keeps}
use Rattle.wc_laws_language.proofs.Spelled.{spelled_text_nests}
use Rattle.wc_laws_language.proofs.Texts.{none_broken, turned, units_clean}
use Rattle.wc_laws_language.specs.{UnitsNestSimply, AreClean, EndsWell, SameSlots}

-- what ends well and is followed runs alike
pub alike : (frame : List (Location × Content)) (old : Store) (o : Outcome) (run : Option Ran) → EndsWell Any old o → BodyFollows frame o run → RunsAlike frame o run
alike frame old (Done result store trace) run ends follows = follows
alike frame old (Stuck reason) run ends follows = absurd ends

-- the program's own frame has the base 0
pub program_based : (before : List ProgramUnit) (program : ProgramUnit) → is_block program ≡ false → IsBased (program_frame before program) (record { before = before; unit = program }) [] 0
program_based before program no_block place k e = at_place place (own (is_block program) no_block place e) ∙ ap Some (let a : k ≡ 0 + k = omega arith in a)
  where
    own : (b : Bool) → b ≡ false → (p : Location) → place_number (if b then Rattle.std.proofs.Common.map (λ q. (Path q.0, q.1)) (unit_places before program) else program_frame before program) p ≡ Some k → place_number (program_frame before program) p ≡ Some k
    own true is p f = cc
    own false is p f = f

    at_place : (p : Location) → place_number (program_frame before program) p ≡ Some k → place_number (program_frame before program) (within [] p) ≡ Some k
    at_place (Direct v) f = f
    at_place (Path names) f = f

-- a program after its units
pub program_alike : (before : List ProgramUnit) (program : ProgramUnit) → is_block program ≡ false → NestWell (program ∷ before) → AreClean (program ∷ before) → (codes : List (List Code)) → AreCodesOf codes (program ∷ before) → length codes ≡ length (program ∷ before) → (store : Store) → SameSlots (initial_store before program) store → (numbers : List ℤ) → AreContents (program_frame before program) store numbers → (now : ℕ) → RunsAlike (program_frame before program) (program_means before program now store) (program_runs (slot_kinds (program_frame before program)) codes now numbers)
program_alike before program no_block well clean codes are so_many store same numbers contents now =
    subst (λ n. RunsAlike (program_frame before program) (program_means before program now store) (body_runs (record { base = 0; now = now; kinds = slot_kinds (program_frame before program); calls = calls_below (slot_kinds (program_frame before program)) codes now n }) (slice_get codes n) numbers)) (sym last)
    (alike (program_frame before program) store (program_means before program now store) (body_runs (record { base = 0; now = now; kinds = slot_kinds (program_frame before program); calls = calls_below (slot_kinds (program_frame before program)) codes now (length before) }) (slice_get codes (length before)) numbers)
    (program_ends before program now store clean (FitsScope-same (initial_store before program) store [] (record { before = before; unit = program }) same (first_store_fits before program)))
    (body_follows (program_frame before program) (record { before = before; unit = program }) [] now 0 (called before now) (calls_below (slot_kinds (program_frame before program)) codes now (length before))
    (calls_follow (program_frame before program) codes now before well.2 are.3) (program_based before program no_block) well.0 well.1 are.0 are.2 (slice_get codes (length before)) are.1 store numbers contents))
  where
    last : pred (length codes) ≡ length before
    last = ap pred (so_many ∙ (let a : length (program ∷ before) ≡ suc (length before) = omega arith in a))

-- the bodies of a text nest well, newest first
pub all_nest_well : (units before : List ProgramUnit) → UnitsNestSimply units → AllByRecursion IsBodyWithinLimits units → NestWell before → NestWell (reverse units ++ before)
all_nest_well [] before simple limits well = well
all_nest_well (unit ∷ units) before simple limits well =
    subst NestWell (turned unit units before) (all_nest_well units (unit ∷ before) simple.1 limits.1 (simple.0, limits.0.depth_of_body, well))

-- the program is the newest unit
pub record Newest (units : List ProgramUnit) : Type 0 where
  pub program : ProgramUnit
  pub before : List ProgramUnit
  pub are : units ≡ program ∷ before
  pub no_block : is_block program ≡ false

pub kind_no_block : (unit : ProgramUnit) → unit.kind ≡ Program → is_block unit ≡ false
kind_no_block unit e = ap (λ (k : UnitKind). elim k as (λ x. Bool) [ FunctionBlock ↦ true | Program ↦ false ]) e

pub newest : (units before : List ProgramUnit) → IsProgramLast units → Newest (reverse units ++ before)
newest [] before last = absurd last
newest (unit ∷ []) before last = record { program = unit; before = before; are = sym (turned unit [] before); no_block = kind_no_block unit last }
newest (unit ∷ next ∷ more) before last = subst Newest (turned unit (next ∷ more) before) (newest (next ∷ more) (unit ∷ before) last.1)

-- the statement for units that come newest first
abbrev pub ReversedAlike : List (List Code) → List ProgramUnit → Type 0
ReversedAlike codes units = (store : Store) → SameSlots (initial_of_reversed units) store → (numbers : List ℤ) → AreContents (frame_of_reversed units) store numbers → (now : ℕ) →
    RunsAlike (frame_of_reversed units) (first_of_reversed units (λ before program. program_means before program now store)) (program_runs (slot_kinds (frame_of_reversed units)) codes now numbers)

pub reversed_alike : (units : List ProgramUnit) → Newest units → NestWell units → AreClean units → (codes : List (List Code)) → AreCodesOf codes units → length codes ≡ length units → ReversedAlike codes units
reversed_alike units new well clean codes are so_many =
    subst (ReversedAlike codes) (sym new.are)
    (program_alike new.before new.program new.no_block (subst NestWell new.are well) (subst AreClean new.are clean) codes (subst (AreCodesOf codes) new.are are) (so_many ∙ ap (λ (us : List ProgramUnit). length us) new.are))

pub flat_code_means_the_text : FlatCodeMeansTheText
flat_code_means_the_text bytes text read sound codes lowered =
    let simple = spelled_text_nests _ text read.spelled in
    let whole : reverse text ++ [] ≡ reverse text = append-nil (reverse text) in
    reversed_alike (reverse text)
    (subst Newest whole (newest text [] read.spelled.order))
    (subst NestWell whole (all_nest_well text [] simple read.within_limits.bodies tt))
    (subst AreClean whole (units_clean [] text (none_broken (text_body_checks text) sound) simple tt))
    codes
    (subst (AreCodesOf codes) whole (codes_of text [] [] codes refl lowered tt))
    (codes_length [] text codes lowered ∙ sym (length-reverse text))

-- with an image the store holds what it held
abbrev pub ImageWritten : List ProgramUnit → Type 0
ImageWritten units = (store : Store) → SameSlots (initial_of_reversed units) store → (numbers : List ℤ) → AreContents (frame_of_reversed units) store numbers → (image : Image) →
    SameSlots (initial_of_reversed units) (with_image image store) × AreContents (frame_of_reversed units) (with_image image store) (with_image_numbers image numbers)

pub image_of_program : (before : List ProgramUnit) (program : ProgramUnit) → ImageWritten (program ∷ before)
image_of_program before program store same numbers contents image =
    let scope : Scope = record { before = before; unit = program } in
    let fits = FitsScope-same (initial_store before program) store [] scope same (first_store_fits before program) in
    (SameSlots-trans (initial_store before program) store (with_image image store) same (image-keeps store fits.direct image), image_written before program store numbers contents image)

pub flat_code_scans_the_text : FlatCodeScansTheText
flat_code_scans_the_text bytes text read sound codes lowered store same numbers contents image now =
    let new : Newest (reverse text) = subst Newest (append-nil (reverse text)) (newest text [] read.spelled.order) in
    let written : ImageWritten (reverse text) = subst ImageWritten (sym new.are) (image_of_program new.before new.program) in
    let both = written store same numbers contents image in
    flat_code_means_the_text bytes text read sound codes lowered (with_image image store) both.0 (with_image_numbers image numbers) both.1 now
