-- The table of keys that a TOML text gives, as the rules for a plate see it. That a plate is a TOML text is the
-- profile's own.
use Rattle.std.specs.Prelude.{ℕ, List, [], ◌∷◌, Option, None, option_map, if◌then◌else◌}
use Rattle.std.specs.Str.{is_utf8}
use Rattle.toml.specs.Data.{Data, string, integer, float, boolean, datetime, array, table, Members, no_members, member}
use Rattle.toml.specs.Parse.{parse_document}
use Rattle.wc_model.specs.Instrument.PlateTable.{Entry, Text, Whole, Other, Table}

-- the value of a key: a text, a whole number or another kind
abbrev pub entry_of : Data → Entry
entry_of (string text) = Text text
entry_of (integer number) = Whole number
entry_of (float number) = Other
entry_of (boolean truth) = Other
entry_of (datetime moment) = Other
entry_of (array items) = Other
entry_of (table inner) = Other

-- the members of a TOML table, each with its value
abbrev pub entries_of : Members → Table
entries_of no_members = []
entries_of (member key value rest) = (key, entry_of value) ∷ entries_of rest

-- the table that a text gives, if it is UTF-8 and TOML
abbrev pub table_read : List ℕ → Option Table
table_read text = if is_utf8 text then option_map entries_of (parse_document text) else None
