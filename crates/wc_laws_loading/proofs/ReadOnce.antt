-- Bytes are read as one text, or have one fault of the first two passes.
use Rattle.std.proofs.Common.{◌≡◌, ℕ, List, map, subst}
use Rattle.wc_laws_grammar.proofs.FaultLaws.{fault_spells_nothing, one_text}
use Rattle.wc_laws_grammar.proofs.FirstFaults.{one_first_fault}
use Rattle.wc_model.specs.Definitions.{Text, Spells, IsMisread, IsRead, last_line, mark_of_token, IsFirstReadingFault, ReadingFault, IsFirstTokenFault, Token}
use Rattle.wc_laws_grammar.proofs.TokenLaws.{cut_has_no_fault, cut_is_unique}

-- bytes are read as one text
pub one_read : (bytes : List ℕ) (text other : Text) → IsRead bytes text → IsRead bytes other → text ≡ other
one_read bytes text other a b =
    let same = cut_is_unique bytes b.tokens a.tokens b.cut a.cut in
    one_text (map mark_of_token a.tokens) text other a.spelled
    (subst (λ (tokens : List Token). Spells (map mark_of_token tokens) other) same b.spelled)

-- bytes that are read have no fault of the tokens
pub read_has_no_token_fault : (bytes : List ℕ) (text : Text) (number line : ℕ) → IsRead bytes text → IsFirstTokenFault bytes number line → ⊥
read_has_no_token_fault bytes text number line read fault = cut_has_no_fault bytes read.tokens number line read.short read.cut fault

-- nor have those that are misread
pub misread_has_no_token_fault : (bytes : List ℕ) (raised : ReadingFault) (at number line : ℕ) → IsMisread bytes raised at → IsFirstTokenFault bytes number line → ⊥
misread_has_no_token_fault bytes raised at number line misread fault =
    cut_has_no_fault bytes misread.tokens number line misread.short misread.cut fault

-- bytes that are read are not misread
pub read_is_not_misread : (bytes : List ℕ) (text : Text) (raised : ReadingFault) (line : ℕ) → IsRead bytes text → IsMisread bytes raised line → ⊥
read_is_not_misread bytes text raised line read misread =
    let same = cut_is_unique bytes read.tokens misread.tokens read.cut misread.cut in
    fault_spells_nothing (map mark_of_token misread.tokens) (last_line bytes) line raised text misread.first
    (subst (λ (tokens : List Token). Spells (map mark_of_token tokens) text) same read.spelled) read.within_limits

-- bytes are misread by one fault, on one line
pub one_misread : (bytes : List ℕ) (raised other : ReadingFault) (line place : ℕ) → IsMisread bytes raised line → IsMisread bytes other place → (raised ≡ other) × (line ≡ place)
one_misread bytes raised other line place a b =
    let same = cut_is_unique bytes b.tokens a.tokens b.cut a.cut in
    one_first_fault (map mark_of_token a.tokens) (last_line bytes) line place raised other a.first
    (subst (λ (tokens : List Token). IsFirstReadingFault (map mark_of_token tokens) (last_line bytes) other place) same b.first)
