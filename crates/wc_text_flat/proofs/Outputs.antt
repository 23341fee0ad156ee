-- The outputs of a store are numbers of its program's frame.
use Rattle.wc_model.proofs.Common.{◌≡◌, ℕ, zero, suc, ◌+◌, ◌<◌, true, false, List, [], ◌∷◌, Option, Some, None, ℤ, pos, refl, sym, subst, ◌∙◌, arith, reverse, slice_get, Result, Ok, Err, list_any}
use Rattle.std.proofs.lemmas.List.{append-nil}
use Rattle.std.specs.Option.{option_map}
use Rattle.wc_text_flat.proofs.Texts.{Newest, newest}
use Rattle.wc_text_flat.specs.{frame_of_reversed, AreContents, OutputsAreNumbers}
use Rattle.wc_model.specs.Definitions.{OutputBit, OutputWord, direct_variables, content_number, place_number, initial_of_reversed, bit_of, word_of, Scope, ProgramUnit, NoSuchPlace, Reason}
use Rattle.wc_model.specs.Language.Store.{Direct, Content, Plain, Moment, Phase, Store, same_direct, value_at, initial_store, program_frame}
use Rattle.wc_model.specs.declared.kind.SlotKind.TheVariants.{Bool as SlotBool, Dint as SlotDint}
use Rattle.wc_model.specs.declared.value.Value.TheVariants.{Bool as Truth, Dint}
use Rattle.wc_model.specs.declared.value.Value.{Value}
use Rattle.wc_laws_language.proofs.Places.{FitsScope-same}
use Rattle.wc_laws_language.proofs.Programs.{first_store_fits}
use Rattle.wc_laws_language.specs.Typing.{slot_of, SameSlots, FitsScope}

-- where the outputs are
pub bit_place : (before : List ProgramUnit) (program : ProgramUnit) (i : ℕ) → i < 16 → place_number (program_frame before program) (Direct (OutputBit i)) ≡ Some (25 + i)
bit_place before program zero l = refl
bit_place before program (suc zero) l = refl
bit_place before program (suc (suc zero)) l = refl
bit_place before program (suc (suc (suc zero))) l = refl
bit_place before program (suc (suc (suc (suc zero)))) l = refl
bit_place before program (suc (suc (suc (suc (suc zero))))) l = refl
bit_place before program (suc (suc (suc (suc (suc (suc zero)))))) l = refl
bit_place before program (suc (suc (suc (suc (suc (suc (suc zero))))))) l = refl
bit_place before program (suc (suc (suc (suc (suc (suc (suc (suc zero)))))))) l = refl
bit_place before program (suc (suc (suc (suc (suc (suc (suc (suc (suc zero))))))))) l = refl
bit_place before program (suc (suc (suc (suc (suc (suc (suc (suc (suc (suc zero)))))))))) l = refl
bit_place before program (suc (suc (suc (suc (suc (suc (suc (suc (suc (suc (suc zero))))))))))) l = refl
bit_place before program (suc (suc (suc (suc (suc (suc (suc (suc (suc (suc (suc (suc zero)))))))))))) l = refl
bit_place before program (suc (suc (suc (suc (suc (suc (suc (suc (suc (suc (suc (suc (suc zero))))))))))))) l = refl
bit_place before program (suc (suc (suc (suc (suc (suc (suc (suc (suc (suc (suc (suc (suc (suc zero)))))))))))))) l = refl
bit_place before program (suc (suc (suc (suc (suc (suc (suc (suc (suc (suc (suc (suc (suc (suc (suc zero))))))))))))))) l = refl
bit_place before program (suc (suc (suc (suc (suc (suc (suc (suc (suc (suc (suc (suc (suc (suc (suc (suc n)))))))))))))))) l = absurd (omega (arith, l))

pub word_place : (before : List ProgramUnit) (program : ProgramUnit) (i : ℕ) → i < 4 → place_number (program_frame before program) (Direct (OutputWord i)) ≡ Some (41 + i)
word_place before program zero l = refl
word_place before program (suc zero) l = refl
word_place before program (suc (suc zero)) l = refl
word_place before program (suc (suc (suc zero))) l = refl
word_place before program (suc (suc (suc (suc n)))) l = absurd (omega (arith, l))

pub bit_there : (i : ℕ) → i < 16 → list_any (same_direct (OutputBit i)) direct_variables ≡ true
bit_there zero l = refl
bit_there (suc zero) l = refl
bit_there (suc (suc zero)) l = refl
bit_there (suc (suc (suc zero))) l = refl
bit_there (suc (suc (suc (suc zero)))) l = refl
bit_there (suc (suc (suc (suc (suc zero))))) l = refl
bit_there (suc (suc (suc (suc (suc (suc zero)))))) l = refl
bit_there (suc (suc (suc (suc (suc (suc (suc zero))))))) l = refl
bit_there (suc (suc (suc (suc (suc (suc (suc (suc zero)))))))) l = refl
bit_there (suc (suc (suc (suc (suc (suc (suc (suc (suc zero))))))))) l = refl
bit_there (suc (suc (suc (suc (suc (suc (suc (suc (suc (suc zero)))))))))) l = refl
bit_there (suc (suc (suc (suc (suc (suc (suc (suc (suc (suc (suc zero))))))))))) l = refl
bit_there (suc (suc (suc (suc (suc (suc (suc (suc (suc (suc (suc (suc zero)))))))))))) l = refl
bit_there (suc (suc (suc (suc (suc (suc (suc (suc (suc (suc (suc (suc (suc zero))))))))))))) l = refl
bit_there (suc (suc (suc (suc (suc (suc (suc (suc (suc (suc (suc (suc (suc (suc zero)))))))))))))) l = refl
bit_there (suc (suc (suc (suc (suc (suc (suc (suc (suc (suc (suc (suc (suc (suc (suc zero))))))))))))))) l = refl
bit_there (suc (suc (suc (suc (suc (suc (suc (suc (suc (suc (suc (suc (suc (suc (suc (suc n)))))))))))))))) l = absurd (omega (arith, l))

pub word_there : (i : ℕ) → i < 4 → list_any (same_direct (OutputWord i)) direct_variables ≡ true
word_there zero l = refl
word_there (suc zero) l = refl
word_there (suc (suc zero)) l = refl
word_there (suc (suc (suc zero))) l = refl
word_there (suc (suc (suc (suc n)))) l = absurd (omega (arith, l))

-- the number of a content of a kind
pub bit_content : (c : Option Content) → option_map slot_of c ≡ Some SlotBool → option_map content_number c ≡ Some (pos (bit_of (elim c as (λ x. Result Value Reason) [ Some d ↦ elim d [ Plain v ↦ Ok v | Moment m ↦ Err NoSuchPlace | Phase p ↦ Err NoSuchPlace ] | None ↦ Err NoSuchPlace ])))
bit_content (Some (Plain (Truth true))) e = refl
bit_content (Some (Plain (Truth false))) e = refl
bit_content (Some (Plain (Dint n))) e = cc
bit_content other e = cc

pub word_content : (c : Option Content) → option_map slot_of c ≡ Some SlotDint → option_map content_number c ≡ Some (word_of (elim c as (λ x. Result Value Reason) [ Some d ↦ elim d [ Plain v ↦ Ok v | Moment m ↦ Err NoSuchPlace | Phase p ↦ Err NoSuchPlace ] | None ↦ Err NoSuchPlace ]))
word_content (Some (Plain (Dint n))) e = refl
word_content (Some (Plain (Truth b))) e = cc
word_content other e = cc

-- for units that come newest first
abbrev pub OutputsRead : List ProgramUnit → Type 0
OutputsRead units = (store : Store) → SameSlots (initial_of_reversed units) store → (numbers : List ℤ) → AreContents (frame_of_reversed units) store numbers →
    ((i : ℕ) → i < 16 → slice_get numbers (25 + i) ≡ Some (pos (bit_of (value_at store (Direct (OutputBit i))))))
    × ((i : ℕ) → i < 4 → slice_get numbers (41 + i) ≡ Some (word_of (value_at store (Direct (OutputWord i)))))

pub outputs_read : (before : List ProgramUnit) (program : ProgramUnit) → OutputsRead (program ∷ before)
outputs_read before program store same numbers contents =
    let scope : Scope = record { before = before; unit = program } in
    let fits : FitsScope store [] scope = FitsScope-same (initial_store before program) store [] scope same (first_store_fits before program) in (
      λ i l. contents.each (Direct (OutputBit i)) (25 + i) (bit_place before program i l) ∙ bit_content (store (Direct (OutputBit i))) (fits.direct (OutputBit i) (bit_there i l)),
      λ i l. contents.each (Direct (OutputWord i)) (41 + i) (word_place before program i l) ∙ word_content (store (Direct (OutputWord i))) (fits.direct (OutputWord i) (word_there i l)),
    )

pub outputs_are_numbers : OutputsAreNumbers
outputs_are_numbers bytes text read store same numbers contents =
    let new : Newest (reverse text) = subst Newest (append-nil (reverse text)) (newest text [] read.spelled.order) in
    let all : OutputsRead (reverse text) = subst OutputsRead (sym new.are) (outputs_read new.before new.program) in
    all store same numbers contents
