-- The slice at which a text can't be cut further is the one that its fault is about.
use Rattle.std.proofs.Common.{◌≡◌, ◌≢◌, ℕ, zero, suc, ◌≤◌, ◌==◌, true, false, List, [], ◌∷◌, ◌++◌, length, take, refl, sym, ap, ◌∙◌, subst, arith, true≢false, if◌then◌else◌}
use Rattle.std.proofs.lemmas.Bool.{and_parts, cond-false, eqb-true, ne_eqb}
use Rattle.wc_lexer.specs.Spans.{Names, IsSpanAt, IsTokenSpan, NoSlice, FaultSlice, StopsAt, fault_slice, stuck_length}
use Rattle.wc_laws_grammar.proofs.Attained.{attained, attained_longest}
use Rattle.wc_laws_grammar.proofs.Reach.{within_reach}
use Rattle.wc_laws_grammar.proofs.TokenSteps.{lexeme_is_filled, no_lexeme_at_comment}
use Rattle.wc_laws_grammar.specs.Sights.{reach, opens_comment}
use Rattle.wc_model.specs.Definitions.{comment_opening, is_star, IsLongestLexeme, Lexeme}
use Rattle.wc_model.specs.Text.Tokens.{Cuts, FaultAt, Faulty, Foreign, IsFirstTokenFault, Malformed, Nested, Nothing, Skipped, Represents, Taken, Token, TooLong, Unclosed}
use Rattle.wc_model.specs.declared.fault.Fault.{Fault}
use Rattle.wc_model.specs.declared.fault.Fault.TheVariants.{Memory, Refused}

-- if a comment opens, the text starts with its two bytes
opened : (rest : List ℕ) → opens_comment rest ≡ true → (inside : List ℕ) × (rest ≡ comment_opening ++ inside)
opened [] h = absurd (cc)
opened (b ∷ []) h = absurd (true≢false (sym (and_parts (b == 40) false h).1))
opened (b ∷ c ∷ inside) h =
    let both = and_parts (b == 40) (is_star c) h in
    let first : b ≡ 40 = eqb-true b 40 both.0 in
    let second : c ≡ 42 = eqb-true c 42 both.1 in
    (inside, ap (λ x. x ∷ c ∷ inside) first ∙ ap (λ x. 40 ∷ x ∷ inside) second)

-- if none does, and the look ahead finds n bytes
outside : (rest : List ℕ) (n : ℕ) → ((inside : List ℕ) → rest ≢ comment_opening ++ inside) → (if reach rest == 0 then 1 else reach rest) ≡ n → stuck_length rest ≡ n
outside rest n none e =
    elim (opens_comment rest) as (λ v. opens_comment rest ≡ v → (if v then 2 else if reach rest == 0 then 1 else reach rest) ≡ n) [
      | true ↦ λ h. let is = opened rest h in absurd (none is.0 is.1)
      | false ↦ λ h. e
    ] refl

-- if there is no lexeme, the look ahead finds none
none_found : (rest : List ℕ) → ((chunk after : List ℕ) → chunk ++ after ≡ rest → ¬ (Lexeme chunk after)) → reach rest ≡ 0
none_found [] none = refl
none_found (b ∷ rest) none = go (reach (b ∷ rest)) refl
  where
    go : (n : ℕ) → reach (b ∷ rest) ≡ n → reach (b ∷ rest) ≡ 0
    go zero e = e
    go (suc n) e =
        let here = attained b rest (omega (arith, e)) in
        absurd (none here.chunk here.after here.whole (attained_longest (b ∷ rest) here).lexeme)

-- a text that is not empty has a first byte
one_byte : (rest : List ℕ) → rest ≢ [] → 1 ≡ length (take 1 rest)
one_byte [] some = absurd (some refl)
one_byte (b ∷ rest) some = refl

-- the look ahead finds the longest lexeme
longest_found : (rest chunk after : List ℕ) → chunk ++ after ≡ rest → IsLongestLexeme chunk after → reach rest ≡ length chunk
longest_found [] chunk after e longest =
    let filled = lexeme_is_filled chunk after longest.lexeme in
    let within : length chunk ≤ reach [] = subst (λ t. length chunk ≤ reach t) e (within_reach chunk after longest.lexeme) in
    absurd (omega (arith, filled, within))
longest_found (b ∷ rest) chunk after e longest =
    let filled = lexeme_is_filled chunk after longest.lexeme in
    let within : length chunk ≤ reach (b ∷ rest) = subst (λ t. length chunk ≤ reach t) e (within_reach chunk after longest.lexeme) in
    let here = attained b rest (omega (arith, filled, within)) in
    let most = longest.longest here.chunk here.after (here.whole ∙ sym e) (attained_longest (b ∷ rest) here).lexeme in
    omega (arith, here.full, most, within)

-- one byte at least
abbrev some_bytes : ℕ → ℕ
some_bytes n = if n == 0 then 1 else n

-- the slice has n bytes
pub is_stuck_length : (rest : List ℕ) (number : ℕ) (fault : FaultAt rest number) → stuck_length rest ≡ length (fault_slice rest number fault)
is_stuck_length rest number (Foreign f) =
    outside rest (length (take 1 rest)) f.no_comment (ap some_bytes (none_found rest f.no_lexeme) ∙ one_byte rest f.more)
is_stuck_length rest number (Unclosed inside e unclosed) = ap stuck_length e
is_stuck_length rest number (Nested inside more e nested) = ap stuck_length e
is_stuck_length rest number (Malformed chunk after e longest validated) =
    outside rest (length chunk) (λ inside comment. no_lexeme_at_comment chunk after inside (e ∙ comment) longest.lexeme)
    (ap some_bytes (longest_found rest chunk after e longest) ∙ filled (length chunk) (lexeme_is_filled chunk after longest.lexeme))
  where
    filled : (n : ℕ) → 1 ≤ n → some_bytes n ≡ n
    filled n h = cond-false (n == 0) 1 n (ne_eqb n 0 (λ e. omega (arith, h, e)))

-- a cut up to a slice is one up to its fault
to_fault : (number line start count : ℕ) (before rest : List ℕ) (tokens : List Token) → Cuts (IsSpanAt number line start count) before rest tokens → Cuts (Faulty number line) before rest tokens
to_fault number line start count before rest tokens (Nothing span) = Nothing (record { fault = span.fault; here = span.here })
to_fault number line start count before rest tokens (Skipped chunk after e blank more) =
    Skipped chunk after e blank (to_fault number line start count _ after tokens more)
to_fault number line start count before rest tokens (Taken shape chunk after e longest validated more) =
    Taken shape chunk after e longest validated (to_fault number line start count _ after _ more)

-- where the lexer stops is the text's first fault
pub span_is_first : (text : List ℕ) (number line start count : ℕ) → IsTokenSpan text number line start count → IsFirstTokenFault text number line
span_is_first text number line start count (NoSlice long) = TooLong long
span_is_first text number line start count (FaultSlice tokens short cut) = Represents tokens short (to_fault number line start count [] text tokens cut)

-- so its fault says what the surface says
pub stop_names : (text : List ℕ) (fault : Fault) (start count : ℕ) → StopsAt text fault start count → Names text fault
stop_names text Memory start count memory = memory
stop_names text (Refused number place) start count span = span_is_first text number place start count span
