use Rattle.wc_model.proofs.Common.{◌≡◌, true, ℕ, List, string_bytes, is_some, list_all, list_any, bytes_eq}
use Rattle.toml.specs.View.{table_view}
use Rattle.wc_model.specs.Instrument.PlateTable.{entry_at, plate_keys, has_no_other_key}
use Rattle.wc_plate.specs.TomlTable.{entries_of}
use Rattle.wc_plate.proofs.keys.other_key.Given as goal

-- the keys so far are among the seven: the answer is that on the keys that are left, and each of these is in the table
abbrev pub invariant-loop-key : goal.invariant-loop-key
invariant-loop-key l =
    (list_all (λ key. list_any (bytes_eq (string_bytes key)) plate_keys) l.key-iterator ≡ has_no_other_key (entries_of (table_view l.table)))
    × ((wanted : List ℕ) → list_any (λ key. bytes_eq (string_bytes key) wanted) l.key-iterator ≡ true
    → is_some (entry_at (entries_of (table_view l.table)) wanted) ≡ true)
