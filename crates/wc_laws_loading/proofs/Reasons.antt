-- Why bytes are refused: by a fault of the tokens, of reading, or of the passes over the text that is read.
use Rattle.std.proofs.Common.{◌≡◌, ℕ, List, Option, Some, None, ◌⊎◌, inl, inr, ap, subst, sym, ◌∙◌}
use Rattle.wc_laws_loading.proofs.Costs.{one_cost}
use Rattle.wc_laws_loading.proofs.ReadOnce.{misread_has_no_token_fault, one_misread, one_read, read_has_no_token_fault, read_is_not_misread}
use Rattle.wc_model.specs.Definitions.{Refusal, positions_of, IsCostFault, body_fault, declaration_fault, IsRefused, at_bodies, at_costs, at_declarations, at_reading, at_tokens, Text, IsMisread, IsRead, ReadingFault, number_of, IsFirstTokenFault}
use Rattle.wc_laws_grammar.proofs.TokenLaws.{first_fault_is_unique}

-- the fault of the last two passes
abbrev pub IsBodyOrCost : Text → Refusal → Type 0
IsBodyOrCost text refusal = (body_fault text ≡ Some refusal) ⊎ ((body_fault text ≡ None) × IsCostFault text (Some refusal))

-- the fault of the passes after reading
abbrev pub IsLater : Text → Refusal → Type 0
IsLater text refusal = (declaration_fault text ≡ Some refusal) ⊎ ((declaration_fault text ≡ None) × IsBodyOrCost text refusal)

-- what is one thing is not nothing
some_or_none : (found : Option Refusal) (refusal : Refusal) → found ≡ Some refusal → found ≡ None → ⊥
some_or_none found refusal some none = let e = sym some ∙ none in cc

-- the last two passes have one fault
one_body_or_cost : (text : Text) (refusal other : Refusal) → IsBodyOrCost text refusal → IsBodyOrCost text other → Some refusal ≡ Some other
one_body_or_cost text refusal other (inl a) (inl b) = sym a ∙ b
one_body_or_cost text refusal other (inl a) (inr b) = absurd (some_or_none (body_fault text) refusal a b.0)
one_body_or_cost text refusal other (inr a) (inl b) = absurd (some_or_none (body_fault text) other b a.0)
one_body_or_cost text refusal other (inr a) (inr b) = one_cost (positions_of text) (Some refusal) (Some other) a.1 b.1

-- so have the passes after reading
pub one_later : (text : Text) (refusal other : Refusal) → IsLater text refusal → IsLater text other → Some refusal ≡ Some other
one_later text refusal other (inl a) (inl b) = sym a ∙ b
one_later text refusal other (inl a) (inr b) = absurd (some_or_none (declaration_fault text) refusal a b.0)
one_later text refusal other (inr a) (inl b) = absurd (some_or_none (declaration_fault text) other b a.0)
one_later text refusal other (inr a) (inr b) = one_body_or_cost text refusal other a.1 b.1

-- a text that no later pass refuses has no fault of the last two
none_after : (text : Text) (refusal : Refusal) → body_fault text ≡ None → IsCostFault text None → IsBodyOrCost text refusal → ⊥
none_after text refusal bodies costs (inl found) = some_or_none (body_fault text) refusal found bodies
none_after text refusal bodies costs (inr found) = let e = one_cost (positions_of text) (Some refusal) None found.1 costs in cc

-- nor of any after reading
pub none_later : (text : Text) (refusal : Refusal) → declaration_fault text ≡ None → body_fault text ≡ None → IsCostFault text None → IsLater text refusal → ⊥
none_later text refusal declarations bodies costs (inl found) = some_or_none (declaration_fault text) refusal found declarations
none_later text refusal declarations bodies costs (inr found) = none_after text refusal bodies costs found.1

-- why bytes are refused, in three cases
pub data Reason (bytes : List ℕ) (number line : ℕ) : Type 0 where
  ByTokens : IsFirstTokenFault bytes number line → Reason bytes number line
  ByReading : (raised : ReadingFault) → number ≡ number_of raised → IsMisread bytes raised line → Reason bytes number line
  ByText : (text : Text) → IsRead bytes text → IsLater text (record { number = number; line = line }) → Reason bytes number line

-- each refusal is one of them
pub reason_of : (bytes : List ℕ) (number line : ℕ) → IsRefused bytes number line → Reason bytes number line
reason_of bytes number line (at_tokens fault) = ByTokens fault
reason_of bytes number line (at_reading raised is misread) = ByReading raised is misread
reason_of bytes number line (at_declarations text read found) = ByText text read (inl found)
reason_of bytes number line (at_bodies text read none found) = ByText text read (inr (none, inl found))
reason_of bytes number line (at_costs text read none no_body found) = ByText text read (inr (none, inr (no_body, found)))

-- the number and the line of what was found
abbrev number_in : Option Refusal → ℕ
number_in None = 0
number_in (Some refusal) = refusal.number

abbrev line_in : Option Refusal → ℕ
line_in None = 0
line_in (Some refusal) = refusal.line

-- a refusal with that number, at that line
abbrev found_at : ℕ → ℕ → Option Refusal
found_at number line = Some (record { number = number; line = line })

-- two equal refusals have one number and one line
parts_of : (number line other place : ℕ) → found_at number line ≡ found_at other place → (number ≡ other) × (line ≡ place)
parts_of number line other place e = (ap number_in e, ap line_in e)

-- two reasons have one number and one line
pub one_reason : (bytes : List ℕ) (number line other place : ℕ) → Reason bytes number line → Reason bytes other place → (number ≡ other) × (line ≡ place)
one_reason bytes number line other place (ByTokens a) (ByTokens b) = first_fault_is_unique bytes number line other place a b
one_reason bytes number line other place (ByTokens a) (ByReading raised is b) = absurd (misread_has_no_token_fault bytes raised place number line b a)
one_reason bytes number line other place (ByTokens a) (ByText text read b) = absurd (read_has_no_token_fault bytes text number line read a)
one_reason bytes number line other place (ByReading raised is a) (ByTokens b) = absurd (misread_has_no_token_fault bytes raised line other place a b)
one_reason bytes number line other place (ByReading raised is a) (ByReading raised_there is_there b) =
    let same = one_misread bytes raised raised_there line place a b in
    (is ∙ ap number_of same.0 ∙ sym is_there, same.1)
one_reason bytes number line other place (ByReading raised is a) (ByText text read b) = absurd (read_is_not_misread bytes text raised line read a)
one_reason bytes number line other place (ByText text read a) (ByTokens b) = absurd (read_has_no_token_fault bytes text other place read b)
one_reason bytes number line other place (ByText text read a) (ByReading raised is b) = absurd (read_is_not_misread bytes text raised place read b)
one_reason bytes number line other place (ByText text read a) (ByText text_there read_there b) =
    parts_of number line other place (one_later text (record { number = number; line = line }) (record { number = other; line = place }) a
    (subst (λ (t : Text). IsLater t (record { number = other; line = place })) (one_read bytes text_there text read_there read) b))
