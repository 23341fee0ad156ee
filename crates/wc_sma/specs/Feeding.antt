-- The bytes after which a line is, and what comes of a chunk of the stream, for whatever plate and history there are. (The profile's own.)
use Rattle.std.specs.Prelude.{◌≡◌, ℕ, true, false, List, option_map, ◌<◌, [], ◌∷◌, ◌++◌, length, Option}
use Rattle.std.specs.Io.KnownBytes.{Appends}
use Rattle.wc_model.specs.Definitions.{open_request, requests_in, PlateData, History, after_requests, answers_to, answer_to, command_of}
use Rattle.wc_indicator.specs.Kept.{IndicatorState, RepresentsHistory}
use Rattle.wc_sma.specs.declared.line.Line.{Line}
use Rattle.wc_sma.specs.declared.requests.RequestReader.{RequestReader}
use Rattle.wc_sma.specs.Seen.{seen_in}

-- it has not failed, and knows of the request that these bytes leave open what it needs
abbrev pub RepresentsBytes : Line → List ℕ → Type 0
RepresentsBytes line bytes = (line.started ≡ option_map seen_in (open_request bytes)) × (line.failed ≡ false)

-- an answer could not be written in full
abbrev pub HasFailed : Line → Type 0
HasFailed line = line.failed ≡ true

-- a reader of requests knows of the request that these bytes leave open what it needs
abbrev pub HasRead : RequestReader → List ℕ → Type 0
HasRead reader bytes = reader.started ≡ option_map seen_in (open_request bytes)

-- more has come to the plate and the history that the indicator represents
abbrev pub Adds : (History → History) → IndicatorState → IndicatorState → Type 0
Adds more old new = (p : PlateData) (history : History) → RepresentsHistory old p history → RepresentsHistory new p (more history)

-- The chunk is taken: the requests that it completes are acted on, and the writer has taken their answers, in order.
pub record Feeds (line : Line) (indicator : IndicatorState) (taken : Option (List ℕ)) (line' : Line) (indicator' : IndicatorState) (taken' : Option (List ℕ))
    (chunk : List ℕ) : Type 0 where
  pub represents : (before : List ℕ) → RepresentsBytes line before → RepresentsBytes line' (before ++ chunk)
  pub acts : (before : List ℕ) (p : PlateData) (history : History) → RepresentsBytes line before → RepresentsHistory indicator p history →
      RepresentsHistory indicator' p (after_requests (requests_in before chunk) history)
  pub answers : (before : List ℕ) (p : PlateData) (history : History) → RepresentsBytes line before → RepresentsHistory indicator p history →
      Appends taken taken' (answers_to p (requests_in before chunk) history)

-- These requests are acted on up to `next` and no further. The writer has taken the answers of those before it, and of
-- its answer a prefix that is not all of it.
pub record IsCutShort (p : PlateData) (texts : List (List ℕ)) (history : History) (indicator' : IndicatorState) (taken taken' : Option (List ℕ)) : Type 0 where
  pub done : List (List ℕ)
  pub next : List ℕ
  pub left : List (List ℕ)
  pub in_order : texts ≡ done ++ (next ∷ left)
  pub acts : RepresentsHistory indicator' p (after_requests (done ++ (next ∷ [])) history)
  pub written : List ℕ
  pub unwritten : List ℕ
  pub in_parts : answer_to p (command_of next) (after_requests done history) ≡ written ++ unwritten
  pub short : 0 < length unwritten
  pub answers : Appends taken taken' (answers_to p done history ++ written)

-- The chunk is not taken to its end, and the line has failed.
pub record Fails (line : Line) (indicator : IndicatorState) (taken : Option (List ℕ)) (line' : Line) (indicator' : IndicatorState) (taken' : Option (List ℕ))
    (chunk : List ℕ) : Type 0 where
  pub failed : HasFailed line'
  pub cut : (before : List ℕ) (p : PlateData) (history : History) → RepresentsBytes line before → RepresentsHistory indicator p history →
      IsCutShort p (requests_in before chunk) history indicator' taken taken'
