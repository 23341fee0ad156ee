-- The tokens of a text or its first fault, by looking ahead at each place; and that they are what the definitions say.
use Rattle.std.proofs.Common.{◌≡◌, ◌≢◌, ℕ, zero, suc, ◌+◌, ◌-◌, ◌≤◌, ◌==◌, true, false, List, [], ◌∷◌, ◌++◌, length, drop, take, Result, Ok, Err, refl, sym, ap, ◌∙◌, subst, subst₂, true≢false, nat_eq, append_assoc, ⊎_elim, inl, inr, arith, take-append-drop, length-append, length-take, length-drop, take_at, drop_at, ◌⊎◌}
use Rattle.wc_model.proofs.Common.{and_parts, or_cases, cond-true, cond-false, eqb-true, cases_lt, bytes_decides, starts_with}
use Rattle.wc_laws_grammar.proofs.Attained.{attained, attained_longest}
use Rattle.wc_laws_grammar.specs.Sights.{reach, Sight, Pass, Take, Refuse, sight_in_comment, sight_of_lexeme, sight_by_reach, opens_comment, starts_space, sight_outside, sight}
use Rattle.wc_laws_grammar.proofs.TokenSteps.{none_in_reach, blank_is_filled, lexeme_is_filled}
use Rattle.wc_model.specs.Text.Blanks.{Blank, Space, Tab, Return, Comment, comment_opening, comment_closing, from_bracket, starts_with_bracket}
use Rattle.wc_model.specs.Definitions.{begins, is_line_feed, is_star, IsLongestLexeme, Shape, shape_of, CutOrFault}
use Rattle.wc_model.specs.Text.Tokens.{AtEnd, Cuts, Nothing, Skipped, Taken, Faulty, FaultAt, Foreign, Unclosed, Nested, Malformed, IsCut, IsFirstTokenFault, TooLong, Represents, Token, line_after, most_bytes, token_after}

-- a token before the tokens that are found after it
abbrev pub with_token : Token → Result (List Token) (ℕ × ℕ) → Result (List Token) (ℕ × ℕ)
with_token token (Ok tokens) = Ok (token ∷ tokens)
with_token token (Err fault) = Err fault

-- what is found from here on, by what is here and what is found after it
abbrev pub go_on : (List ℕ → List ℕ → Result (List Token) (ℕ × ℕ)) → (before rest : List ℕ) → Sight → Result (List Token) (ℕ × ℕ)
go_on more before rest (Pass count) = more (before ++ take count rest) (drop count rest)
go_on more before rest (Take count shape) = with_token (token_after before shape (take count rest)) (more (before ++ take count rest) (drop count rest))
go_on more before rest (Refuse number) = Err (number, line_after before)

-- the tokens from here on, or the first fault's number and line
abbrev pub found_from : ℕ → (before rest : List ℕ) → Result (List Token) (ℕ × ℕ)
found_from zero before rest = Ok []
found_from (suc n) before [] = Ok []
found_from (suc n) before (b ∷ rest) = go_on (found_from n) before (b ∷ rest) (sight (b ∷ rest))

-- the tokens of a text within the limit, or its first fault
abbrev pub found : List ℕ → Result (List Token) (ℕ × ℕ)
found text = found_from (length text) [] text

-- ---- what is here is what the definitions say

-- what a sight says of the text
abbrev pub Holds : List ℕ → Sight → Type 0
Holds text (Pass count) = Blank (take count text) (drop count text)
Holds text (Take count shape) = IsLongestLexeme (take count text) (drop count text) × (shape_of (take count text) ≡ Ok shape)
Holds text (Refuse number) = FaultAt text number

-- a text that starts with another
starts_so : (needle text : List ℕ) → starts_with nat_eq text needle ≡ true → text ≡ needle ++ drop (length needle) text
starts_so needle text h =
    let prefix : needle ≡ take (length needle) text = (bytes_decides needle (take (length needle) text)).0 h in
    sym (take-append-drop (length needle) text) ∙ ap (λ l. l ++ drop (length needle) text) (sym prefix)

-- what is left from the first bracket on is an end of the text, and starts with a bracket
record FromBracket (text : List ℕ) : Type 0 where
  prefix : List ℕ
  whole : prefix ++ from_bracket text ≡ text
  bracket : (from_bracket text ≡ []) ⊎ (starts_with_bracket (from_bracket text) ≡ true)

-- it is so for every text
from_bracket_is : (text : List ℕ) → FromBracket text
from_bracket_is [] = record { prefix = []; whole = refl; bracket = inl refl }
from_bracket_is (b ∷ rest) =
    let later = from_bracket_is rest in
    elim (starts_with_bracket (b ∷ rest)) as (λ v. starts_with_bracket (b ∷ rest) ≡ v → FromBracket (b ∷ rest)) [
      | true ↦ λ e.
          let here : from_bracket (b ∷ rest) ≡ b ∷ rest = cond-true (starts_with_bracket (b ∷ rest)) _ _ e in
          record { prefix = []; whole = here; bracket = inr (subst (λ t. starts_with_bracket t ≡ true) (sym here) e) }
      | false ↦ λ e.
          let on : from_bracket (b ∷ rest) ≡ from_bracket rest = cond-false (starts_with_bracket (b ∷ rest)) _ _ e in
          record { prefix = b ∷ later.prefix; whole = ap (λ l. b ∷ later.prefix ++ l) on ∙ ap (λ l. b ∷ l) later.whole; bracket = subst (λ l. (l ≡ []) ⊎ (starts_with_bracket l ≡ true)) (sym on) later.bracket }
    ] refl

-- a comment that closes
closed_holds : (inside after : List ℕ) → from_bracket inside ≡ comment_closing ++ after → Holds (40 ∷ 42 ∷ inside) (sight_in_comment inside (42 ∷ 41 ∷ after))
closed_holds inside after e =
    let is = from_bracket_is inside in
    let chunk : List ℕ = 40 ∷ 42 ∷ is.prefix ++ comment_closing in
    let split : chunk ++ after ≡ 40 ∷ 42 ∷ inside = ap (λ l. 40 ∷ 42 ∷ l) (append_assoc is.prefix comment_closing after ∙ ap (λ l. is.prefix ++ l) (sym e) ∙ is.whole) in
    let count : ℕ = 2 + (length inside - length (41 ∷ after)) + 1 in
    let long : length chunk ≡ count = omega (arith, length-append is.prefix comment_closing, length-append chunk after, ap length split) in
    let left : drop count (40 ∷ 42 ∷ inside) ≡ after = ap (drop count) (sym split) ∙ drop_at chunk after count long in
    Comment (record { inside = inside; opens = take-append-drop count (40 ∷ 42 ∷ inside); closes = e ∙ ap (λ l. comment_closing ++ l) (sym left) })

-- what is where a comment opens
comment_holds : (inside : List ℕ) → Holds (40 ∷ 42 ∷ inside) (sight_in_comment inside (from_bracket inside))
comment_holds inside = ⊎_elim (λ none. subst (λ l. Holds (40 ∷ 42 ∷ inside) (sight_in_comment inside l)) (sym none) (Unclosed inside refl none)) (λ starts. ⊎_elim opened closed (or_cases _ _ starts)) (from_bracket_is inside).bracket
  where
    opened : starts_with nat_eq (from_bracket inside) comment_opening ≡ true → Holds (40 ∷ 42 ∷ inside) (sight_in_comment inside (from_bracket inside))
    opened h =
        let e = starts_so comment_opening (from_bracket inside) h in
        subst (λ l. Holds (40 ∷ 42 ∷ inside) (sight_in_comment inside l)) (sym e) (Nested inside (drop 2 (from_bracket inside)) refl e)

    closed : starts_with nat_eq (from_bracket inside) comment_closing ≡ true → Holds (40 ∷ 42 ∷ inside) (sight_in_comment inside (from_bracket inside))
    closed h =
        let e = starts_so comment_closing (from_bracket inside) h in
        subst (λ l. Holds (40 ∷ 42 ∷ inside) (sight_in_comment inside l)) (sym e) (closed_holds inside (drop 2 (from_bracket inside)) e)

-- a single byte between tokens
space_holds : (text : List ℕ) → starts_space text ≡ true → Holds text (Pass 1)
space_holds [] h = absurd (cc)
space_holds (b ∷ rest) h = ⊎_elim (λ one. ⊎_elim (λ space. Space (ap (λ x. x ∷ []) (eqb-true b 32 space))) (λ tab. Tab (ap (λ x. x ∷ []) (eqb-true b 9 tab))) (or_cases _ _ one)) (λ back. let both = and_parts (b == 13) (begins is_line_feed rest) back in Return (ap (λ x. x ∷ []) (eqb-true b 13 both.0)) both.1) (or_cases _ _ h)

-- if no comment opens and there is no space, there is no blank
no_blank_here : (text : List ℕ) → opens_comment text ≡ false → starts_space text ≡ false → (chunk after : List ℕ) → chunk ++ after ≡ text → ¬ (Blank chunk after)
no_blank_here text no_comment no_space chunk after e (Space s) = true≢false (subst (λ t. starts_space t ≡ false) (sym e ∙ ap (λ p. p ++ after) s) no_space)
no_blank_here text no_comment no_space chunk after e (Tab s) = true≢false (subst (λ t. starts_space t ≡ false) (sym e ∙ ap (λ p. p ++ after) s) no_space)
no_blank_here text no_comment no_space chunk after e (Return s lf) = true≢false (sym lf ∙ subst (λ t. starts_space t ≡ false) (sym e ∙ ap (λ p. p ++ after) s) no_space)
no_blank_here text no_comment no_space chunk after e (Comment c) = true≢false (subst (λ t. opens_comment t ≡ false) (sym e ∙ c.opens) no_comment)

-- a lexeme as long as the look ahead, by its shape
shape_holds : (text : List ℕ) (count : ℕ) → IsLongestLexeme (take count text) (drop count text) → Holds text (sight_of_lexeme count (shape_of (take count text)))
shape_holds text count longest = go (shape_of (take count text)) refl
  where
    go : (validated : Result Shape ℕ) → shape_of (take count text) ≡ validated → Holds text (sight_of_lexeme count validated)
    go (Ok shape) e = (longest, e)
    go (Err number) e = Malformed (take count text) (drop count text) (take-append-drop count text) longest e

-- where no comment opens
outside_holds : (b : ℕ) (rest : List ℕ) → opens_comment (b ∷ rest) ≡ false → Holds (b ∷ rest) (sight_outside (b ∷ rest))
outside_holds b rest no_comment =
    elim (starts_space (b ∷ rest)) as (λ v. starts_space (b ∷ rest) ≡ v → Holds (b ∷ rest) (elim v [ true ↦ Pass 1 | false ↦ sight_by_reach (reach (b ∷ rest)) (b ∷ rest) ]))
    [ true ↦ λ space. space_holds (b ∷ rest) space | false ↦ λ no_space. go no_space (reach (b ∷ rest)) refl ] refl
  where
    go : starts_space (b ∷ rest) ≡ false → (n : ℕ) → reach (b ∷ rest) ≡ n → Holds (b ∷ rest) (sight_by_reach n (b ∷ rest))
    go no_space zero none = Foreign (record {
      more = λ e. absurd (cc);
      no_blank = no_blank_here (b ∷ rest) no_comment no_space;
      no_comment = λ inside e. true≢false (subst (λ t. opens_comment t ≡ false) e no_comment);
      no_lexeme = λ chunk after e. none_in_reach chunk after (b ∷ rest) e none;
    })
    go no_space (suc n) some =
        let here = attained b rest (omega (arith, some)) in
        let long : length here.chunk ≡ suc n = sym here.full ∙ some in
        let longest = attained_longest (b ∷ rest) here in
        let same : here.chunk ≡ take (suc n) (b ∷ rest) = sym (take_at here.chunk here.after (suc n) long) ∙ ap (take (suc n)) here.whole in
        let left : here.after ≡ drop (suc n) (b ∷ rest) = sym (drop_at here.chunk here.after (suc n) long) ∙ ap (drop (suc n)) here.whole in
        shape_holds (b ∷ rest) (suc n) (subst₂ IsLongestLexeme same left longest)

-- what is here is what the definitions say
pub sight_holds : (b : ℕ) (rest : List ℕ) → Holds (b ∷ rest) (sight (b ∷ rest))
sight_holds b rest =
    elim (opens_comment (b ∷ rest)) as (λ v. opens_comment (b ∷ rest) ≡ v → Holds (b ∷ rest) (elim v [ true ↦ sight_in_comment (drop 2 (b ∷ rest)) (from_bracket (drop 2 (b ∷ rest))) | false ↦ sight_outside (b ∷ rest) ]))
    [ true ↦ λ opens. comment b rest opens | false ↦ λ no_comment. outside_holds b rest no_comment ] refl
  where
    comment : (c : ℕ) (left : List ℕ) → opens_comment (c ∷ left) ≡ true → Holds (c ∷ left) (sight_in_comment (drop 2 (c ∷ left)) (from_bracket (drop 2 (c ∷ left))))
    comment c [] opens = absurd (true≢false (sym (and_parts (c == 40) false opens).1))
    comment c (d ∷ inside) opens =
        let both = and_parts (c == 40) (is_star d) opens in
        subst₂ (λ x y. Holds (x ∷ y ∷ inside) (sight_in_comment inside (from_bracket inside))) (sym (eqb-true c 40 both.0)) (sym (eqb-true d 42 both.1)) (comment_holds inside)

-- ---- what is found is what the definitions say

-- what is not empty has a byte
filled_length : (xs : List ℕ) → xs ≢ [] → 1 ≤ length xs
filled_length [] filled = absurd (filled refl)
filled_length (x ∷ xs) filled = omega arith

-- what an answer says of a place
abbrev pub Claim : (before rest : List ℕ) → Result (List Token) (ℕ × ℕ) → Type 0
Claim before rest (Ok tokens) = Cuts AtEnd before rest tokens
Claim before rest (Err fault) = (tokens : List Token) × Cuts (Faulty fault.0 fault.1) before rest tokens

-- a token before what is found after it
token_claims : (before rest : List ℕ) (shape : Shape) (chunk after : List ℕ) → chunk ++ after ≡ rest → IsLongestLexeme chunk after → shape_of chunk ≡ Ok shape → (following : Result (List Token) (ℕ × ℕ)) → Claim (before ++ chunk) after following → Claim before rest (with_token (token_after before shape chunk) following)
token_claims before rest shape chunk after e longest h (Ok tokens) more = Taken shape chunk after e longest h more
token_claims before rest shape chunk after e longest h (Err fault) more = (token_after before shape chunk ∷ more.0, Taken shape chunk after e longest h more.1)

-- a blank before what is found after it
blank_claims : (before rest chunk after : List ℕ) → chunk ++ after ≡ rest → Blank chunk after → (following : Result (List Token) (ℕ × ℕ)) → Claim (before ++ chunk) after following → Claim before rest following
blank_claims before rest chunk after e blank (Ok tokens) more = Skipped chunk after e blank more
blank_claims before rest chunk after e blank (Err fault) more = (more.0, Skipped chunk after e blank more.1)

-- one step more is what the definitions say, if what is found after it is
step_claims : (n b : ℕ) (before rest : List ℕ) → length rest ≤ n → ((next left : List ℕ) → length left ≤ n → Claim next left (found_from n next left)) → (seen : Sight) → Holds (b ∷ rest) seen → Claim before (b ∷ rest) (go_on (found_from n) before (b ∷ rest) seen)
step_claims n b before rest short more (Pass count) blank =
    let filled : 1 ≤ length (take count (b ∷ rest)) = filled_length (take count (b ∷ rest)) (blank_is_filled (take count (b ∷ rest)) (drop count (b ∷ rest)) blank) in
    blank_claims before (b ∷ rest) (take count (b ∷ rest)) (drop count (b ∷ rest)) (take-append-drop count (b ∷ rest)) blank (found_from n (before ++ take count (b ∷ rest)) (drop count (b ∷ rest))) (more (before ++ take count (b ∷ rest)) (drop count (b ∷ rest)) (omega (arith, filled, length-take count (b ∷ rest), length-drop count (b ∷ rest))))
step_claims n b before rest short more (Take count shape) token =
    let filled = lexeme_is_filled (take count (b ∷ rest)) (drop count (b ∷ rest)) token.0.lexeme in
    token_claims before (b ∷ rest) shape (take count (b ∷ rest)) (drop count (b ∷ rest)) (take-append-drop count (b ∷ rest)) token.0 token.1 (found_from n (before ++ take count (b ∷ rest)) (drop count (b ∷ rest))) (more (before ++ take count (b ∷ rest)) (drop count (b ∷ rest)) (omega (arith, filled, length-take count (b ∷ rest), length-drop count (b ∷ rest))))
step_claims n b before rest short more (Refuse number) fault = ([], Nothing (record { fault = fault; here = refl }))

-- what is found from here on is what the definitions say
pub found_claims : (n : ℕ) (before rest : List ℕ) → length rest ≤ n → Claim before rest (found_from n before rest)
found_claims zero before [] short = Nothing refl
found_claims zero before (b ∷ rest) short = absurd (omega arith)
found_claims (suc n) before [] short = Nothing refl
found_claims (suc n) before (b ∷ rest) short = step_claims n b before rest (omega arith) (λ next left l. found_claims n next left l) (sight (b ∷ rest)) (sight_holds b rest)

-- the tokens that are found are the text's
pub found_cut : (text : List ℕ) (tokens : List Token) → found text ≡ Ok tokens → IsCut text tokens
found_cut text tokens e = subst (Claim [] text) e (found_claims (length text) [] text (omega arith))

-- the fault that is found is the text's first
pub found_fault : (text : List ℕ) (number line : ℕ) → length text ≤ most_bytes → found text ≡ Err (number, line) → IsFirstTokenFault text number line
found_fault text number line short e =
    let claim = subst (Claim [] text) e (found_claims (length text) [] text (omega arith)) in
    Represents claim.0 short claim.1

-- a text has tokens or a first fault
pub cut_or_fault : CutOrFault
cut_or_fault text = ⊎_elim (λ long. inr (107, 0, TooLong long)) (λ short. go short (found text) (found_claims (length text) [] text (omega arith))) (cases_lt most_bytes (length text))
  where
    go : length text ≤ most_bytes → (answer : Result (List Token) (ℕ × ℕ)) → Claim [] text answer → ((tokens : List Token) × IsCut text tokens) ⊎ ((number : ℕ) × (line : ℕ) × IsFirstTokenFault text number line)
    go short (Ok tokens) claim = inl (tokens, claim)
    go short (Err fault) claim = inr (fault.0, fault.1, Represents claim.0 short claim.1)
