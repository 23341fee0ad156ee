-- What a reader of records has still to give, if it is known.
use Rattle.std.specs.Prelude.{◌≡◌, ◌∷◌, [], Bool, true, false, ℕ, List, Option, Some, option_map}
use Rattle.csv.specs.Reading.{AreRecords, Ready, default_config, is_flexible, reader_config, reader_state, reader_trim, records, source_of, strip_bom}
use Rattle.csv.specs.declared.reader.Trim.TheVariants as trim
use Rattle.wc_model.specs.Run.Log.{Record}
use Rattle.wc_record.specs.Cutting.{cut_from}
use Rattle.wc_record.specs.declared.bounded.LimitedReader.{LimitedReader}
use Rattle.wc_record.specs.declared.records.Records.{Records}

-- the records that `csv` reads of bytes: a byte order mark at their start is dropped
abbrev pub records_of : List ℕ → List Record
records_of bytes = records default_config (strip_bom bytes)

-- the reader that is borrowed
abbrev pub borrowed : {R : Type 0} → LimitedReader R → R
borrowed bounded = bounded.reader.now

-- the bytes that are read of a reader that is borrowed
abbrev pub borrowed_bytes : {R : Type 0} → (R → Option (List ℕ)) → LimitedReader R → Option (List ℕ)
borrowed_bytes bytes_left bounded = option_map (cut_from bounded.place) (bytes_left (borrowed bounded))

-- `csv` reads by its defaults, from known bytes, and these records are left
pub record HasRecords {R : Type 0} (bytes_left : R → Option (List ℕ)) (records : Records R) (left : List Record) : Type 0 where
  pub config : reader_config records.csv ≡ default_config
  pub untrimmed : reader_trim records.csv ≡ trim.None
  pub flexible : is_flexible records.csv ≡ true
  pub ready : Ready records.csv
  pub bytes : List ℕ
  pub known : source_of (borrowed_bytes bytes_left) records.csv ≡ Some bytes
  pub are_left : AreRecords default_config (reader_state records.csv) bytes left

-- a read that found a record took the first that was left, and one that found none had none left
abbrev pub TakesFirst : (List Record → Type 0) → (List Record → Type 0) → Bool → Record → Type 0
TakesFirst had has true fields = (left : List Record) → had left → (rest : List Record) × (left ≡ fields ∷ rest) × has rest
TakesFirst had has false fields = (left : List Record) → had left → left ≡ []
