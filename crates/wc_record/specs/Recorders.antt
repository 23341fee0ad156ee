-- What a recorder of scans holds, and what its fields keep. (The profile's own.)
use Rattle.std.specs.Prelude.{◌≡◌, ℕ, List, ◌≤◌}
use Rattle.wc_model.specs.Instrument.WeighingHistories.{last_items}
use Rattle.wc_record.specs.declared.last_scans.Record.{Record}
use Rattle.wc_record.specs.declared.last_scans.Recorder.TheInside.{Inside}

-- the number of records it holds at most, and those that it holds, in the order in which they were kept
pub record RecorderState : Type 0 where
  pub most : ℕ
  pub records : List Record

-- it holds the last n of all records that were kept
abbrev pub HoldsLast : RecorderState → ℕ → List Record → Type 0
HoldsLast recorder number all = (recorder.most ≡ number) × (recorder.records ≡ last_items number all)

-- what is held
abbrev pub recorder_view : Inside → RecorderState
recorder_view a = record { most = a.ring.capacity; records = a.ring.items }

-- there is space for at least one record, and for 1000 at most
pub record IsRecorderSound (a : Inside) : Type 0 where
  pub some : 1 ≤ a.ring.capacity
  pub few : a.ring.capacity ≤ 1000
