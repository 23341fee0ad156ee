-- What held after the rows of some time, with the least, the greatest and the last of the numbers that came in it. (The profile's own.)
use Rattle.wc_model.specs.Instrument.Indication as indication
use Rattle.std.specs.Prelude.{ℤ, List, [], ◌∷◌, Option, Some, None, ◌≡◌, ℕ, ◌-◌, ◌<◌, Bool, not, pos, map, max, get_or, if◌then◌else◌}
use Rattle.std.specs.Int.{int_max, int_min, bit_at}
use Rattle.std.specs.List.{fold, filter_map, last_or, list_any}
use Rattle.wc_model.specs.Definitions.{PlateData, History}
use Rattle.wc_model.specs.declared.image.Outputs.{Outputs}
use Rattle.wc_view_columns.specs.declared.span.NumberSpan.{NumberSpan}
use Rattle.wc_view_columns.specs.declared.bits.Bits.{Bits}
use Rattle.wc_view_columns.specs.declared.state.State.{State}

-- those of some numbers, if there is one
abbrev pub span_of : List ℤ → Option NumberSpan
span_of [] = None
span_of (number ∷ numbers) =
    Some (record { least = fold int_min number numbers; greatest = fold int_max number numbers; last = fold (λ _ next. next) number numbers })

-- what holds after a row: the weights that are valid, the net weight only while a tare is active, the image, and the numbers of
-- the variables that are drawn, if they have one
pub record Held : Type 0 where
  pub gross : Option ℤ
  pub net : Option ℤ
  pub motion : Bool
  pub over : Bool
  pub under : Bool
  pub invalid : Bool
  pub inputs : ℕ
  pub outputs : Outputs
  pub variables : List (Option ℤ)

-- so of a scale of this plate and history
abbrev pub held_at : PlateData → History → ℕ → Outputs → List (Option ℤ) → Held
held_at p history inputs outputs variables = record {
  gross = indication.gross p history;
  net = if indication.is_tare_active p history then indication.net p history else None;
  motion = not (indication.is_stable p history);
  over = indication.is_over p history;
  under = indication.is_under p history;
  invalid = not (indication.is_valid p history);
  inputs = inputs;
  outputs = outputs;
  variables = variables;
}

-- Which bits were 1 in one of some values, which were 0 in one, and the last value.
pub record AreBitsOf (values : List ℕ) (bits : Bits) : Type 0 where
  pub high : (i : ℕ) → i < 16 → bit_at bits.high i ≡ fold max 0 (map (λ value. bit_at value i) values)
  pub low : (i : ℕ) → i < 16 → bit_at bits.low i ≡ fold max 0 (map (λ value. 1 - bit_at value i) values)
  pub last : Some bits.last ≡ last_or None values

-- What held after some rows: of the numbers their spans, and of each flag whether it was set after one of them.
pub record IsStateOf (held : List Held) (state : State) : Type 0 where
  pub gross : state.gross ≡ span_of (filter_map (λ h. h.gross) held)
  pub net : state.net ≡ span_of (filter_map (λ h. h.net) held)
  pub motion : state.motion ≡ list_any (λ h. h.motion) held
  pub over : state.over ≡ list_any (λ h. h.over) held
  pub under : state.under ≡ list_any (λ h. h.under) held
  pub invalid : state.invalid ≡ list_any (λ h. h.invalid) held
  pub inputs : AreBitsOf (map (λ h. h.inputs) held) state.inputs
  pub outputs : AreBitsOf (map (λ h. h.outputs.bits) held) state.outputs
  pub words : (other : NumberSpan) (i : ℕ) → i < 4 → Some (get_or state.words i other) ≡ span_of (map (λ h. get_or h.outputs.words i (pos 0)) held)
  pub variables : (i : ℕ) → i < 4 → get_or state.variables i None ≡ span_of (filter_map (λ h. get_or h.variables i None) held)
