-- What is between tokens: spaces, tabs, a CR directly before LF, and comments (IEC 61131-3:2003, 2.1.4 and 2.1.5).
-- That a comment may hold any other bytes, and no comment, is the profile's own.
use Rattle.std.specs.Prelude.{◌≡◌, ℕ, Bool, ◌||◌, List, [], ◌∷◌, ◌++◌, IsTrue, if◌then◌else◌, codes, nat_eq}
use Rattle.std.specs.List.{starts_with}
use Rattle.wc_model.specs.Text.Characters.{begins, is_line_feed}

-- what opens a comment
abbrev pub comment_opening : List ℕ
comment_opening = codes "(*"

-- what closes a comment
abbrev pub comment_closing : List ℕ
comment_closing = codes "*)"

-- the text starts with what opens or closes a comment
abbrev pub starts_with_bracket : List ℕ → Bool
starts_with_bracket text = starts_with nat_eq text comment_opening || starts_with nat_eq text comment_closing

-- what is left of a text from the first `(*` or `*)` on, nothing if it has none
abbrev pub from_bracket : List ℕ → List ℕ
from_bracket [] = []
from_bracket (b ∷ rest) = if starts_with_bracket (b ∷ rest) then b ∷ rest else from_bracket rest

-- the slice is a comment: after its opening the first `(*` or `*)` is the one that closes it
pub record IsComment (chunk after : List ℕ) : Type 0 where
  pub inside : List ℕ
  pub opens : chunk ++ after ≡ comment_opening ++ inside
  pub closes : from_bracket inside ≡ comment_closing ++ after

-- the slice is between tokens if `after` follows it
pub data Blank (chunk after : List ℕ) : Type 0 where
  Space : chunk ≡ codes " " → Blank chunk after
  Tab : chunk ≡ 9 ∷ [] → Blank chunk after
  Return : chunk ≡ 13 ∷ [] → IsTrue (begins is_line_feed after) → Blank chunk after
  Comment : IsComment chunk after → Blank chunk after
