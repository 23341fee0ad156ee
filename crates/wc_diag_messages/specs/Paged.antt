-- The page of a refusal: its lines, its number, and the answer with that number, are pinned; of the
-- words that they are those of one entry of the catalogue, each in its line (the profile's own).
use Rattle.std.specs.Prelude.{◌≡◌, ℕ, List, [], ◌∷◌, ◌++◌, codes, if◌then◌else◌, flat_map}
use Rattle.wc_diag_messages.specs.Locations.{number_text}
use Rattle.wc_diag_texts.specs.{shown_text, is_from}
use Rattle.wc_diag_texts.specs.declared.catalogue.Entry.{Entry}

-- a line: what it says, and its words
abbrev pub page_line : List ℕ → List ℕ → List ℕ
page_line name words = shown_text name ++ shown_text (codes ": ") ++ shown_text words ++ (10 ∷ [])

-- a line of words alone
abbrev pub shown_line : List ℕ → List ℕ
shown_line words = shown_text words ++ (10 ∷ [])

-- lines of words alone, each by its bytes
abbrev pub page_lines : {X : Type 0} → (X → List ℕ) → List X → List ℕ
page_lines bytes_of lines = flat_map (λ line. shown_line (bytes_of line)) lines

-- what to write instead, and a usual text with the text mended
abbrev pub help_lines : {X : Type 0} → List ℕ → (X → List ℕ) → List X → List ℕ
help_lines hint bytes_of usual = page_line (codes "help") hint ++ page_lines bytes_of usual

-- the first line: the number, and what it means
abbrev pub number_line : ℕ → List ℕ → List ℕ
number_line number reported = number_text number ++ page_line [] reported

-- the line of the plate of which the pages of its refusals speak; nothing on others
abbrev pub plate_line : ℕ → List ℕ → List ℕ
plate_line number plate = if is_from 503 508 number then page_line (codes "plate A") plate else []

-- the line that says how the smallest input is answered
abbrev pub answer_line : ℕ → ℕ → List ℕ
answer_line number place =
    shown_text (codes "its answer: refused ") ++ number_text number
    ++ shown_text (codes " ") ++ number_text place ++ (10 ∷ [])

-- where it is raised, its place, and a smallest input
abbrev pub raised_lines : Entry → List ℕ
raised_lines entry =
    page_line (codes "pass") entry.pass.now ++ page_line (codes "place") entry.place.now
    ++ page_line (codes "example (` / ` is a line end)") entry.input.now

-- the page of that refusal: each line has its words of one entry, which has that number
pub record ReportsPage (number : ℕ) (bytes : List ℕ) : Type 0 where
  pub entry : Entry
  pub is : entry.number ≡ number
  pub plate : List ℕ
  pub all :
      bytes ≡ number_line entry.number entry.sentence.now ++ raised_lines entry
      ++ plate_line entry.number plate ++ answer_line entry.number entry.answer
      ++ help_lines entry.hint.now (λ line. line.now) entry.usual.now
