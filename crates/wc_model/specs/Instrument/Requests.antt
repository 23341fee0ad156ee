-- The requests in a stream of line bytes. Their form is the profile's own.
use Rattle.std.specs.Prelude.{◌≡◌, ℕ, Bool, false, ◌&&◌, ◌||◌, not, ◌==◌, List, [], ◌∷◌, ◌++◌, length, drop, take_while, Option, Some, None, option_map, if◌then◌else◌}
use Rattle.std.specs.List.{concat, cons_option, list_all}
use Rattle.std.specs.Option.{option_or, option_to_list}

-- line feed, which opens a request
abbrev pub line_feed : ℕ
line_feed = 10

-- carriage return, which closes it
abbrev pub carriage_return : ℕ
carriage_return = 13

-- escape, which aborts it
abbrev pub escape : ℕ
escape = 27

-- whether a byte may be in a request's text
abbrev pub is_text : ℕ → Bool
is_text byte = not (byte == line_feed || byte == carriage_return || byte == escape)

-- whether the bytes begin with this one
abbrev pub begins_with : ℕ → List ℕ → Bool
begins_with byte [] = false
begins_with byte (first ∷ rest) = first == byte

-- the text of the request that begins with this byte, if one does: LF, bytes of text, CR
abbrev pub request_at : ℕ → List ℕ → Option (List ℕ)
request_at byte rest =
    let text = take_while is_text rest in
    if byte == line_feed && begins_with carriage_return (drop (length text) rest) then Some text else None

-- the texts of all requests in a stream, in order: at each byte the one that begins there
abbrev pub requests : List ℕ → List (List ℕ)
requests [] = []
requests (byte ∷ rest) = cons_option (request_at byte rest) (requests rest)

-- the texts of the requests that a chunk completes, after the bytes before it, which may have left a request cut short
abbrev pub requests_in : List ℕ → List ℕ → List (List ℕ)
requests_in before chunk = drop (length (requests before)) (requests (before ++ chunk))

-- the text so far of a request that begins with this byte and that nothing has closed or aborted
abbrev pub open_at : ℕ → List ℕ → Option (List ℕ)
open_at byte rest = if byte == line_feed && list_all is_text rest then Some rest else None

-- the text so far of the request that is open at the end of a stream, if one is
abbrev pub open_request : List ℕ → Option (List ℕ)
open_request [] = None
open_request (byte ∷ rest) = option_or (open_request rest) (open_at byte rest)

-- the requests that one more byte completes: CR completes the open one
abbrev pub completed_by : ℕ → Option (List ℕ) → List (List ℕ)
completed_by byte started = if byte == carriage_return then option_to_list started else []

-- what one more byte makes of the open request: LF opens a new one, a byte of text goes on, CR and ESC leave none
abbrev pub opened_by : ℕ → Option (List ℕ) → Option (List ℕ)
opened_by byte started =
    if byte == line_feed then Some []
    else if is_text byte then option_map (λ text. text ++ (byte ∷ [])) started else None

-- the requests that each of some chunks completes, in order
abbrev pub requests_in_chunks : List ℕ → List (List ℕ) → List (List ℕ)
requests_in_chunks before [] = []
requests_in_chunks before (chunk ∷ chunks) = requests_in before chunk ++ requests_in_chunks (before ++ chunk) chunks

-- Where a stream is cut makes no difference.
--     whole      the chunks of a stream complete the requests of the whole stream
--     again      a chunk completes what its two parts complete
--     byte       one byte completes the open request, or nothing
--     opens      and it opens a new one, goes on with it, or leaves none
pub record IsCutAnywhere : Type 0 where
  pub whole : (chunks : List (List ℕ)) → requests_in_chunks [] chunks ≡ requests (concat chunks)
  pub again : (before first second : List ℕ) →
      requests_in before (first ++ second) ≡ requests_in before first ++ requests_in (before ++ first) second
  pub byte : (before : List ℕ) (byte : ℕ) → requests_in before (byte ∷ []) ≡ completed_by byte (open_request before)
  pub opens : (before : List ℕ) (byte : ℕ) → open_request (before ++ (byte ∷ [])) ≡ opened_by byte (open_request before)
