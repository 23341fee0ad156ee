-- The plate that the fields of a `Plate` represent.
use Rattle.wc_model.specs.Instrument.Plates.{PlateData, IsPlate}
use Rattle.wc_plate.specs.declared.kept.Plate.TheInside.{Inside}

-- the plate of the fields
abbrev pub plate_kept : Inside → PlateData
plate_kept a = record {
  unit = a.unit;
  decimals = a.decimals;
  max = a.max;
  e = a.e;
  n = a.n;
  zero_counts = a.zero_counts;
  span_counts = a.span_counts;
  window = a.window;
}

-- it keeps the ranges of a plate
abbrev pub IsKept : Inside → Type 0
IsKept a = IsPlate (plate_kept a)

-- the fields that a plate is kept in
abbrev pub fields_of : PlateData → Inside
fields_of p = record {
  unit = p.unit;
  decimals = p.decimals;
  max = p.max;
  e = p.e;
  n = p.n;
  zero_counts = p.zero_counts;
  span_counts = p.span_counts;
  window = p.window;
}
