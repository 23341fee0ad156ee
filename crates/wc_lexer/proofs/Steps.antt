-- Slice by slice to the tokens of a text, or to its first fault.
use Rattle.std.proofs.Common.{◌≡◌, ℕ, zero, suc, cond, ◌+◌, ◌≤◌, ◌<◌, List, [], ◌∷◌, ◌++◌, length, drop, take, count_by, Ok, refl, sym, ap, ◌∙◌, subst, subst₂, arith, append_assoc, take-append-drop, length-drop, length-take-le}
use Rattle.wc_model.proofs.Common.{take-add, sum_by-append}
use Rattle.std.proofs.lemmas.List.{append-nil, drop-drop}
use Rattle.wc_lexer.proofs.PartSums.{empty}
use Rattle.wc_lexer.proofs.Spans.{is_stuck_length}
use Rattle.wc_lexer.specs.Spans.{AtToken, NeedsMemory, IsSpanAt, IsTokenSpan, FaultSlice, stuck_length}
use Rattle.wc_laws_grammar.specs.Sights.{Pass, Refuse, Sight, Take, sight}
use Rattle.wc_laws_grammar.proofs.FoundTokens.{Holds, sight_holds}
use Rattle.wc_laws_grammar.proofs.TokenSteps.{blank_is_filled, lexeme_is_filled}
use Rattle.wc_model.specs.Definitions.{Blank, is_line_feed, IsLongestLexeme, Shape, shape_of, AtEnd, Cuts, FaultAt, IsCut, Nothing, Skipped, Taken, Token, line_after, most_bytes, token_after}

-- what goes on from here completes these tokens
abbrev pub Goes : (List ℕ → List ℕ → Type 0) → List ℕ → ℕ → List Token → Type 0
Goes Ends text n tokens = (more : List Token) → Cuts Ends (take n text) (drop n text) more → Cuts Ends [] text (tokens ++ more)

-- what goes on from here, to the end, to a token or to a fault
pub record Going (text : List ℕ) (n : ℕ) (tokens : List Token) : Type 0 where
  pub at_end : Goes AtEnd text n tokens
  pub at_token : Goes AtToken text n tokens
  pub at_fault : (number line start count : ℕ) → Goes (IsSpanAt number line start count) text n tokens

-- a cut from a later place is one from after a slice
pub moved : (Ends : List ℕ → List ℕ → Type 0) (text : List ℕ) (n count : ℕ) (more : List Token) → Cuts Ends (take (n + count) text) (drop (n + count) text) more → Cuts Ends (take n text ++ take count (drop n text)) (drop count (drop n text)) more
moved Ends text n count more cuts = subst₂ (λ b r. Cuts Ends b r more) (take-add n count text) (sym (drop-drop count n text)) cuts

-- over a blank
pub blank_goes : (Ends : List ℕ → List ℕ → Type 0) (text : List ℕ) (n count : ℕ) (tokens : List Token) → Blank (take count (drop n text)) (drop count (drop n text)) → Goes Ends text n tokens → Goes Ends text (n + count) tokens
blank_goes Ends text n count tokens blank goes more cuts = goes more (Skipped (take count (drop n text)) (drop count (drop n text)) (take-append-drop count (drop n text)) blank (moved Ends text n count more cuts))

-- over a token
pub token_goes : (Ends : List ℕ → List ℕ → Type 0) (text : List ℕ) (n count : ℕ) (tokens : List Token) (shape : Shape) → IsLongestLexeme (take count (drop n text)) (drop count (drop n text)) → shape_of (take count (drop n text)) ≡ Ok shape → Goes Ends text n tokens → Goes Ends text (n + count) (tokens ++ (token_after (take n text) shape (take count (drop n text)) ∷ []))
token_goes Ends text n count tokens shape longest h goes more cuts =
    subst (Cuts Ends [] text) (sym (append_assoc tokens (token_after (take n text) shape (take count (drop n text)) ∷ []) more))
    (goes (token_after (take n text) shape (take count (drop n text)) ∷ more) (Taken shape (take count (drop n text)) (drop count (drop n text)) (take-append-drop count (drop n text)) longest h (moved Ends text n count more cuts)))

-- what is at a place, if something does
pub holds_at : (rest : List ℕ) (seen : Sight) → 1 ≤ length rest → seen ≡ sight rest → Holds rest seen
holds_at [] seen long e = absurd (omega arith)
holds_at (b ∷ rest) seen long e = subst (Holds (b ∷ rest)) (sym e) (sight_holds b rest)

-- something is left before the end
pub some_left : (text : List ℕ) (n : ℕ) → n < length text → 1 ≤ length (drop n text)
some_left text n h = omega (arith, length-drop n text)

-- a blank is passed over
pub going_on : (text rest : List ℕ) (n count : ℕ) (tokens : List Token) → rest ≡ drop n text → n < length text → Pass count ≡ sight rest → Going text n tokens → Going text (n + count) tokens
going_on text rest n count tokens r h e going =
    let blank : Holds (drop n text) (Pass count) = holds_at (drop n text) (Pass count) (some_left text n h) (e ∙ ap sight r) in
    record { at_end = blank_goes AtEnd text n count tokens blank going.at_end; at_token = blank_goes AtToken text n count tokens blank going.at_token; at_fault = λ number line start size. blank_goes (IsSpanAt number line start size) text n count tokens blank (going.at_fault number line start size) }

-- a token is taken
pub going_with : (text rest : List ℕ) (n count : ℕ) (tokens : List Token) (token : Token) → rest ≡ drop n text → n < length text → Take count token.shape ≡ sight rest → token.text ≡ take count rest → token.start ≡ n → token.line ≡ line_after (take n text) → Going text n tokens → Going text (n + count) (tokens ++ (token ∷ []))
going_with text rest n count tokens token r h e chunk started counted going =
    let shape = token.shape in
    let held : Holds (drop n text) (Take count shape) = holds_at (drop n text) (Take count shape) (some_left text n h) (e ∙ ap sight r) in
    let here : Token = token_after (take n text) shape (take count (drop n text)) in
    let same : here ≡ token = ap (λ t. record { shape = shape; text = t; start = length (take n text); line = line_after (take n text) }) (sym (chunk ∙ ap (take count) r)) ∙ ap (λ s. record { shape = shape; text = token.text; start = s; line = line_after (take n text) }) (length-take-le n text (omega arith) ∙ sym started) ∙ ap (λ l. record { shape = shape; text = token.text; start = token.start; line = l }) (sym counted) in
    subst (λ t. Going text (n + count) (tokens ++ (t ∷ []))) same (record { at_end = token_goes AtEnd text n count tokens shape held.0 held.1 going.at_end; at_token = token_goes AtToken text n count tokens shape held.0 held.1 going.at_token; at_fault = λ number line start size. token_goes (IsSpanAt number line start size) text n count tokens shape held.0 held.1 (going.at_fault number line start size) })

-- lines are counted on
pub counted_on : (text rest chunk : List ℕ) (n count line feeds : ℕ) → rest ≡ drop n text → chunk ≡ take count rest → line ≡ line_after (take n text) → feeds ≡ count_by is_line_feed chunk → line + feeds ≡ line_after (take (n + count) text)
counted_on text rest chunk n count line feeds r p l f =
    let both = sum_by-append (λ b. cond (is_line_feed b) 1 0) (take n text) (take count (drop n text)) in
    let here : feeds ≡ count_by is_line_feed (take count (drop n text)) = f ∙ ap (count_by is_line_feed) (p ∙ ap (take count) r) in
    let split = ap line_after (take-add n count text) in
    omega (arith, both, here, split, l)

-- at the end these are the tokens
pub cut_at_end : (text : List ℕ) (n : ℕ) (tokens : List Token) → length text ≤ n → Going text n tokens → IsCut text tokens
cut_at_end text n tokens h going =
    subst (IsCut text) (append-nil tokens) (going.at_end [] (Nothing (empty (drop n text) (omega (arith, length-drop n text)))))

-- at a fault it is the first, and its slice is here
pub fault_here : (text rest : List ℕ) (n number line count : ℕ) → count ≡ stuck_length rest → (tokens : List Token) → length text ≤ most_bytes → rest ≡ drop n text → n < length text → Refuse number ≡ sight rest → line ≡ line_after (take n text) → Going text n tokens → IsTokenSpan text number line n count
fault_here text rest n number line count size tokens short r h e l going =
    let held : FaultAt (drop n text) number = holds_at (drop n text) (Refuse number) (some_left text n h) (e ∙ ap sight r) in
    let started : n ≡ length (take n text) = sym (length-take-le n text (omega arith)) in
    let counted = size ∙ ap stuck_length r ∙ is_stuck_length (drop n text) number held in
    FaultSlice (tokens ++ []) short (going.at_fault number line n count [] (Nothing (record { fault = held; here = l; starts = started; counted = counted })))

-- at a token space is needed
pub memory_here : (text rest : List ℕ) (n count : ℕ) (shape : Shape) (tokens : List Token) → length text ≤ most_bytes → rest ≡ drop n text → n < length text → Take count shape ≡ sight rest → Going text n tokens → NeedsMemory text
memory_here text rest n count shape tokens short r h e going =
    let held : Holds (drop n text) (Take count shape) = holds_at (drop n text) (Take count shape) (some_left text n h) (e ∙ ap sight r) in
    record {
      short = short;
      tokens = tokens ++ [];
      cut = going.at_token [] (Nothing (shape, take count (drop n text), drop count (drop n text), take-append-drop count (drop n text), held.0, held.1));
    }

-- a slice that is passed over has a byte
pub pass_is_filled : (text rest : List ℕ) (n count : ℕ) → rest ≡ drop n text → n < length text → Pass count ≡ sight rest → 1 ≤ count
pass_is_filled text rest n count r h e =
    let blank : Holds (drop n text) (Pass count) = holds_at (drop n text) (Pass count) (some_left text n h) (e ∙ ap sight r) in
    filled count (drop n text) (blank_is_filled (take count (drop n text)) (drop count (drop n text)) blank)
  where
    filled : (k : ℕ) (xs : List ℕ) → ¬ (take k xs ≡ []) → 1 ≤ k
    filled zero xs some = absurd (some refl)
    filled (suc k) xs some = omega arith

-- a token has a byte
pub take_is_filled : (text rest : List ℕ) (n count : ℕ) (shape : Shape) → rest ≡ drop n text → n < length text → Take count shape ≡ sight rest → 1 ≤ count
take_is_filled text rest n count shape r h e =
    let held : Holds (drop n text) (Take count shape) = holds_at (drop n text) (Take count shape) (some_left text n h) (e ∙ ap sight r) in
    filled count (drop n text) (lexeme_is_filled (take count (drop n text)) (drop count (drop n text)) held.0.lexeme)
  where
    filled : (k : ℕ) (xs : List ℕ) → 1 ≤ length (take k xs) → 1 ≤ k
    filled zero xs some = some
    filled (suc k) xs some = omega arith
