-- The table that a text gives, if it was read, and if it was refused; what is written and breaks no rule is a plate.
use Rattle.std.proofs.Common.{◌≡◌, ℕ, List, inl, inr, Bool, true, false, cond, not, ◌&&◌, [], ◌∷◌, codes, refl}
use Rattle.wc_model.proofs.Common.{cases_Bool, IsUtf8-from_is_utf8, is_utf8-from_IsUtf8, is_utf8}
use Rattle.std.specs.Prelude.{Some, None, IsUtf8, Ok, Err, find, int_div, pos, unsigned_abs, ◌*ℤ◌}
use Rattle.toml.specs.Data.{Members}
use Rattle.toml.specs.Parse.{parse_document}
use Rattle.wc_plate.specs.TomlTable.{entries_of, table_read}
use Rattle.wc_model.specs.Instrument.Plates.{PlateData, IsPlate, least_sample, greatest_sample}
use Rattle.wc_model.specs.Instrument.PlateTable.{Table, KeyValues, Text, Whole, is_between, is_count, is_interval, validated, line_unit, plate_from, unless_broken}
use Rattle.wc_laws_instrument.proofs.PlateTable.{accepted_is_plate}

-- a text that is read
pub read_some : (text : List ℕ) (ms : Members) → IsUtf8 text × (parse_document text ≡ Some ms) → table_read text ≡ Some (entries_of ms)
read_some text ms h = rw (is_utf8-from_IsUtf8 text h.0, h.1)

-- a text that is refused
pub read_none : (text : List ℕ) → (IsUtf8 text → parse_document text ≡ None) → table_read text ≡ None
read_none text h = elim (cases_Bool (is_utf8 text)) [
  | inl whole ↦ rw (whole, h (IsUtf8-from_is_utf8 text whole))
  | inr broken ↦ rw broken
]

-- the table in which this is written
seven_keys : KeyValues → Table
seven_keys w =
    (codes "unit", Text w.unit) ∷ (codes "decimals", Whole w.decimals) ∷ (codes "max", Whole w.max) ∷ (codes "e", Whole w.e)
    ∷ (codes "zero_counts", Whole w.zero_counts) ∷ (codes "span_counts", Whole w.span_counts) ∷ (codes "window", Whole w.window) ∷ []

-- what is checked to be a plate keeps a plate's ranges
pub validated_is_plate : (w : KeyValues) (p : PlateData) → validated w (line_unit w.unit) ≡ Ok p → IsPlate p
unfolding seven_keys
validated_is_plate w p e = accepted_is_plate (Some (seven_keys w)) p e

-- what keeps the rules before that on the counts to the greatest load, and breaks that one
pub refused_507 : (w : KeyValues) (unit : List ℕ) (decimals e : ℕ) → line_unit w.unit ≡ Some unit → is_between (pos 0) (pos 3) w.decimals ≡ true → w.decimals ≡ pos decimals
    → is_interval unit decimals w.e ≡ true → w.e ≡ pos e → is_count w.max (pos e) ≡ true
    → is_between (pos 4 *ℤ int_div w.max w.e) (pos 8000000) w.span_counts ≡ false → validated w (line_unit w.unit) ≡ Err 507
refused_507 w unit decimals e kept between same interval whole count span =
    let allowed : is_interval unit (unsigned_abs w.decimals) w.e ≡ true = rw same interval in
    let counted : is_count w.max w.e ≡ true = rw whole count in
    rw (kept, between, allowed, counted, span) (by_zero (is_between least_sample greatest_sample w.zero_counts))
  where
    by_zero : (b : Bool) → unless_broken (cond (not (b && false)) (Some (507, b && false)) (find (λ rule. not rule.1) ((508, is_between (pos 2) (pos 16) w.window) ∷ []))) (plate_from w unit) ≡ Err 507
    by_zero true = refl
    by_zero false = refl
