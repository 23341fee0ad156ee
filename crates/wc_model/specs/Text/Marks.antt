-- What the grammar sees of a token: what it is, and its line (IEC 61131-3:2003, 2.1).
use Rattle.std.specs.Prelude.{◌≡◌, ℕ, ℤ, Bool, true, false, List, Option, Some, None}
use Rattle.wc_model.specs.Language.Names.{Name, name_of}
use Rattle.wc_model.specs.Language.Tree.{Word}

-- what a token is; comments and spaces are not tokens
pub data Symbol : Type 0 where
  Identifier : (bytes : List ℕ) → Symbol
  Whole : (number : ℤ) → Symbol
  Duration : (milliseconds : ℤ) → Symbol
  Truth : (value : Bool) → Symbol
  Direct : (bytes : List ℕ) → Symbol
  Ampersand AmpersandN OpeningBracket ClosingBracket Comma Colon Semicolon Point Assign Arrow LineEnd : Symbol

-- a token's symbol, and the line of its first byte
pub record Mark : Type 0 where
  pub symbol : Symbol
  pub line : ℕ

-- the name that an identifier spells
abbrev pub name_in : Symbol → Option Name
name_in (Identifier bytes) = Some (name_of bytes)
name_in _ = None

-- the name that an address spells
abbrev pub address_in : Symbol → Option Name
address_in (Direct bytes) = Some (name_of bytes)
address_in _ = None

-- whether a symbol is the end of a line
abbrev pub is_line_end_symbol : Symbol → Bool
is_line_end_symbol LineEnd = true
is_line_end_symbol _ = false

-- whether a token ends a line of the text
abbrev pub is_line_end : Mark → Bool
is_line_end mark = is_line_end_symbol mark.symbol

-- the token is this symbol
abbrev pub IsSymbol : Symbol → Mark → Type 0
IsSymbol symbol mark = mark.symbol ≡ symbol

-- the token is an identifier of this name
abbrev pub IsNamed : Name → Mark → Type 0
IsNamed name mark = name_in mark.symbol ≡ Some name

-- the token is an identifier of this name, on this line
abbrev pub IsWord : Word → Mark → Type 0
IsWord word mark = IsNamed word.name mark × (mark.line ≡ word.line)

-- the token is this address, on this line
abbrev pub IsAddress : Word → Mark → Type 0
IsAddress word mark = (address_in mark.symbol ≡ Some word.name) × (mark.line ≡ word.line)
