-- Loading a text in five passes: tokens, reading, declarations, bodies, cost. The first pass with a fault names it. (The
-- profile's own.)
use Rattle.std.specs.Prelude.{◌≡◌, ⊤, ℕ, List, Option, Some, None}
use Rattle.wc_model.specs.Language.Faults.{declaration_fault, body_fault, IsCostFault}
use Rattle.wc_model.specs.Text.Reading.{IsRead, IsMisread}
use Rattle.wc_model.specs.Text.ReadingFaults.{ReadingFault, number_of}
use Rattle.wc_model.specs.Text.Tokens.{IsFirstTokenFault}
use Rattle.wc_model.specs.Language.Tree.{Text}

-- the bytes are read as this text, which no pass refuses
pub record IsLoaded (bytes : List ℕ) (text : Text) : Type 0 where
  pub read : IsRead bytes text
  pub declarations : declaration_fault text ≡ None
  pub bodies : body_fault text ≡ None
  pub costs : IsCostFault text None

-- a next text, if there is one, is loaded from some bytes
abbrev pub IsNextLoaded : Option Text → Type 0
IsNextLoaded None = ⊤
IsNextLoaded (Some text) = (bytes : List ℕ) × IsLoaded bytes text

-- why bytes are refused: the fault of the first pass that has one
pub data IsRefused (bytes : List ℕ) (number line : ℕ) : Type 0 where
  at_tokens : IsFirstTokenFault bytes number line → IsRefused bytes number line
  at_reading : (fault : ReadingFault) → number ≡ number_of fault → IsMisread bytes fault line → IsRefused bytes number line
  at_declarations : (text : Text) → IsRead bytes text → declaration_fault text ≡ Some (record { number = number; line = line }) → IsRefused bytes number line
  at_bodies : (text : Text) → IsRead bytes text → declaration_fault text ≡ None → body_fault text ≡ Some (record { number = number; line = line }) → IsRefused bytes number line
  at_costs : (text : Text) → IsRead bytes text → declaration_fault text ≡ None → body_fault text ≡ None → IsCostFault text (Some (record { number = number; line = line })) → IsRefused bytes number line
