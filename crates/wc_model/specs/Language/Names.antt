-- Names and their equality: letter case is not significant (IEC 61131-3:2003, 2.1.2).
use Rattle.std.specs.Prelude.{ℕ, List, map}
use Rattle.std.specs.Char.{to_ascii_lowercase}

-- a name, in small letters: letter case is not significant (IEC 61131-3:2003, 2.1.1)
abbrev pub Name : Type 0
Name = List ℕ

-- the name that the bytes of a text spell
abbrev pub name_of : List ℕ → Name
name_of bytes = map to_ascii_lowercase bytes
