-- What a scan sees: the inputs and the indicator, as the rows so far have left them. The places are the profile's own.
use Rattle.std.specs.Prelude.{ℕ, ◌+◌, ◌*◌, Bool, List, [], ◌∷◌, ℤ, pos, if◌then◌else◌}
use Rattle.wc_model.specs.declared.image.Image.{Image}
use Rattle.wc_model.specs.Instrument.Plates.{PlateData}
use Rattle.wc_model.specs.Instrument.WeighingHistories.{History}
use Rattle.wc_model.specs.Instrument.Indication.{is_stable, is_over, is_under, is_centre_of_zero, is_tare_active, is_valid, gross_intervals, net_intervals, in_units, tare_value}
use Rattle.wc_model.specs.Run.Rows.{RowData, Counts, Bytes, Inputs, Scan, Change, Past, history_of}

-- the inputs that a row leaves
abbrev pub inputs_with : RowData → ℕ → ℕ
inputs_with (Counts counts) inputs = inputs
inputs_with (Bytes bytes) inputs = inputs
inputs_with (Inputs new) inputs = new
inputs_with Scan inputs = inputs
inputs_with Change inputs = inputs

-- the inputs of the last row that has any, 0 before it
abbrev pub inputs_of : Past → ℕ
inputs_of [] = 0
inputs_of (row ∷ before) = inputs_with row.brings (inputs_of before)

-- the number whose bits these are, the lowest first
abbrev pub number_of_bits : List Bool → ℕ
number_of_bits [] = 0
number_of_bits (bit ∷ bits) = (if bit then 1 else 0) + 2 * number_of_bits bits

-- stable, over, under, centre of zero, tare active, valid
abbrev pub status_of : PlateData → History → ℕ
status_of p history =
    number_of_bits (is_stable p history ∷ is_over p history ∷ is_under p history ∷ is_centre_of_zero p history
    ∷ is_tare_active p history ∷ is_valid p history ∷ [])

-- gross, net and tare value, all 0 without an indication
abbrev pub weights_of : PlateData → History → List ℤ
weights_of p history =
    if is_valid p history
    then in_units p (gross_intervals p history) ∷ in_units p (net_intervals p history) ∷ tare_value p history ∷ []
    else pos 0 ∷ pos 0 ∷ pos 0 ∷ []

-- the image of inputs and an indicator's history
abbrev pub image_with : PlateData → ℕ → History → Image
image_with p inputs history = record { inputs = inputs; status = status_of p history; weights = weights_of p history }

-- the image after the rows so far
abbrev pub image_after : PlateData → Past → Image
image_after p before = image_with p (inputs_of before) (history_of before)
