-- The values of the seven keys as the rules see them, and which key of a plate is named if its keys are not the seven in their kinds.
-- (The profile's own.)
use Rattle.wc_model.specs.Instrument.PlateTable as plate
use Rattle.std.specs.Prelude.{◌≡◌, ℕ, Bool, true, false, List, Some, None, Result, Ok, Err, codes, IfSome, is_some, if◌then◌else◌, bytes_eq}
use Rattle.std.specs.List.{list_any}
use Rattle.wc_model.specs.Instrument.PlateTable.{Table, entry_at, has_no_other_key, number_at, plate_keys, text_at}
use Rattle.wc_plate.specs.declared.keys.KeyValues.{KeyValues}
use Rattle.wc_plate.specs.declared.broken.BrokenRule.{BrokenRule}
use Rattle.wc_plate.specs.declared.broken.BrokenRule.TheVariants.{UnknownKey, MissingKey, WrongKind, Unit, Decimals, Interval, Load, ZeroCounts, SpanCounts, Window}

-- the text and the numbers
abbrev pub written_seen : KeyValues → plate.KeyValues
written_seen w = record {
  unit = w.unit.now;
  decimals = w.decimals;
  max = w.max;
  e = w.e;
  zero_counts = w.zero_counts;
  span_counts = w.span_counts;
  window = w.window;
}

-- one of the seven keys
abbrev pub is_plate_key : List ℕ → Bool
is_plate_key key = list_any (bytes_eq key) plate_keys

-- the value of a key has its kind: a text for `unit`, a whole number for the others
abbrev pub has_its_kind : Table → List ℕ → Bool
has_its_kind table key = if bytes_eq key (codes "unit") then is_some (text_at table key) else is_some (number_at table key)

-- a key of the table that is not one of the seven
pub record HasOther (table : Table) (key : List ℕ) : Type 0 where
  pub refused : has_no_other_key table ≡ false
  pub there : is_some (entry_at table key) ≡ true
  pub other : is_plate_key key ≡ false

-- one of the seven is not in the table
pub record Lacks (table : Table) (key : List ℕ) : Type 0 where
  pub asked : is_plate_key key ≡ true
  pub missing : entry_at table key ≡ None

-- one of the seven is in the table, and is not of its kind
pub record HasMisfit (table : Table) (key : List ℕ) : Type 0 where
  pub asked : is_plate_key key ≡ true
  pub there : is_some (entry_at table key) ≡ true
  pub misfit : has_its_kind table key ≡ false

-- this is wrong with the keys of a table
abbrev pub IsKeyFault : Table → BrokenRule → Type 0
IsKeyFault table (UnknownKey key missing) = HasOther table key.now × IfSome missing (λ lacking. Lacks table lacking.now)
IsKeyFault table (MissingKey key) = Lacks table key.now
IsKeyFault table (WrongKind key) = HasMisfit table key.now
IsKeyFault table Unit = ⊥
IsKeyFault table Decimals = ⊥
IsKeyFault table (Interval unit decimals) = ⊥
IsKeyFault table (Load e) = ⊥
IsKeyFault table ZeroCounts = ⊥
IsKeyFault table (SpanCounts n) = ⊥
IsKeyFault table Window = ⊥

-- a key has no text; if the key is `unit`, this is wrong with it
pub record BlamesText (table : Table) (key : List ℕ) (rule : BrokenRule) : Type 0 where
  pub none : text_at table key ≡ None
  pub fault : key ≡ codes "unit" → IsKeyFault table rule

-- a key has no whole number; if the key is one of the other six, this is wrong with it
pub record BlamesNumber (table : Table) (key : List ℕ) (rule : BrokenRule) : Type 0 where
  pub none : number_at table key ≡ None
  pub fault : is_plate_key key ≡ true → bytes_eq key (codes "unit") ≡ false → IsKeyFault table rule

-- the values of the seven keys, or what is wrong with the first of them with which something is
abbrev pub ReadsEach : Table → Result KeyValues BrokenRule → Type 0
ReadsEach table (Ok written) = plate.each_key table ≡ Some (written_seen written)
ReadsEach table (Err rule) = (plate.each_key table ≡ None) × IsKeyFault table rule

-- the same, if there is no other key
abbrev pub ReadsKeys : Table → Result KeyValues BrokenRule → Type 0
ReadsKeys table (Ok written) = plate.written_of table ≡ Some (written_seen written)
ReadsKeys table (Err rule) = (plate.written_of table ≡ None) × IsKeyFault table rule
