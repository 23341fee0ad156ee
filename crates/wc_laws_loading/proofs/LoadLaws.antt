-- Any bytes are loaded or refused, never both, with one text or one refusal.
use Rattle.wc_model.proofs.Common.{◌≡◌, ℕ, ◌≤◌, List, map, length, Option, Some, None, ◌⊎◌, inl, inr, refl, subst, leb_tells}
use Rattle.wc_laws_grammar.proofs.FaultLaws.{text_or_fault}
use Rattle.wc_laws_loading.proofs.Costs.{cost_is}
use Rattle.wc_laws_loading.proofs.ReadOnce.{one_read, read_has_no_token_fault, read_is_not_misread}
use Rattle.wc_laws_loading.proofs.Reasons.{ByReading, ByText, ByTokens, IsLater, Reason, none_later, one_reason, reason_of}
use Rattle.wc_laws_loading.specs.Laws.{LoadedOrRefused, NeverBoth, OneRefusal, OneText}
use Rattle.wc_model.specs.Definitions.{Refusal, positions_of, IsCostFault, body_fault, declaration_fault, IsLoaded, IsRefused, at_bodies, at_costs, at_declarations, at_reading, at_tokens, Text, Spells, IsWithinLimits, IsRead, last_line, mark_of_token, IsFirstReadingFault, ReadingFault, number_of, IsCut, IsFirstTokenFault, Token, TooLong, most_bytes}
use Rattle.wc_laws_grammar.proofs.FoundTokens.{cut_or_fault}

-- what is said of the bytes
abbrev pub IsValidated : List ℕ → Type 0
IsValidated bytes = ((text : Text) × IsLoaded bytes text) ⊎ ((number : ℕ) × (line : ℕ) × IsRefused bytes number line)

-- bytes that are loaded have no reason to be refused
no_reason : (bytes : List ℕ) (text : Text) (number line : ℕ) → IsLoaded bytes text → Reason bytes number line → ⊥
no_reason bytes text number line loaded (ByTokens fault) = read_has_no_token_fault bytes text number line loaded.read fault
no_reason bytes text number line loaded (ByReading raised is misread) = read_is_not_misread bytes text raised line loaded.read misread
no_reason bytes text number line loaded (ByText other read later) =
    none_later text (record { number = number; line = line }) loaded.declarations loaded.bodies loaded.costs
    (subst (λ (t : Text). IsLater t (record { number = number; line = line })) (one_read bytes other text read loaded.read) later)

pub never_both : NeverBoth
never_both bytes text number line loaded refused = no_reason bytes text number line loaded (reason_of bytes number line refused)

pub one_refusal : OneRefusal
one_refusal bytes number line other place a b = one_reason bytes number line other place (reason_of bytes number line a) (reason_of bytes other place b)

pub one_loaded : OneText
one_loaded bytes text other a b = one_read bytes text other a.read b.read

-- a text of which the passes before the last accept all, by what the last one says
by_costs : (bytes : List ℕ) (text : Text) → IsRead bytes text → declaration_fault text ≡ None → body_fault text ≡ None
    → (refusal : Option Refusal) → IsCostFault text refusal → IsValidated bytes
by_costs bytes text read declarations bodies None costs = inl (text, record { read = read; declarations = declarations; bodies = bodies; costs = costs })
by_costs bytes text read declarations bodies (Some refusal) costs = inr (refusal.number, refusal.line, at_costs text read declarations bodies costs)

-- by what the pass over the bodies says
by_bodies : (bytes : List ℕ) (text : Text) → IsRead bytes text → declaration_fault text ≡ None
    → (refusal : Option Refusal) → body_fault text ≡ refusal → IsValidated bytes
by_bodies bytes text read declarations None bodies =
    let costs = cost_is (positions_of text) in by_costs bytes text read declarations bodies costs.0 costs.1
by_bodies bytes text read declarations (Some refusal) bodies = inr (refusal.number, refusal.line, at_bodies text read declarations bodies)

-- by what the pass over the declarations says
by_declarations : (bytes : List ℕ) (text : Text) → IsRead bytes text → (refusal : Option Refusal) → declaration_fault text ≡ refusal → IsValidated bytes
by_declarations bytes text read None declarations = by_bodies bytes text read declarations (body_fault text) refl
by_declarations bytes text read (Some refusal) declarations = inr (refusal.number, refusal.line, at_declarations text read declarations)

-- by what the tokens spell
by_reading : (bytes : List ℕ) (tokens : List Token) → length bytes ≤ most_bytes → IsCut bytes tokens
    → ((text : Text) × Spells (map mark_of_token tokens) text × IsWithinLimits text)
    ⊎ ((fault : ReadingFault) × (line : ℕ) × IsFirstReadingFault (map mark_of_token tokens) (last_line bytes) fault line) → IsValidated bytes
by_reading bytes tokens short cut (inl spelled) =
    by_declarations bytes spelled.0 (record { short = short; tokens = tokens; cut = cut; spelled = spelled.1; within_limits = spelled.2 })
    (declaration_fault spelled.0) refl
by_reading bytes tokens short cut (inr raised) =
    inr (number_of raised.0, raised.1, at_reading raised.0 refl (record { short = short; tokens = tokens; cut = cut; first = raised.2 }))

-- by its tokens
by_tokens : (bytes : List ℕ) → length bytes ≤ most_bytes
    → ((tokens : List Token) × IsCut bytes tokens) ⊎ ((number : ℕ) × (line : ℕ) × IsFirstTokenFault bytes number line) → IsValidated bytes
by_tokens bytes short (inl cut) = by_reading bytes cut.0 short cut.1 (text_or_fault (map mark_of_token cut.0) (last_line bytes))
by_tokens bytes short (inr fault) = inr (fault.0, fault.1, at_tokens fault.2)

-- any bytes are loaded or refused
pub loaded_or_refused : LoadedOrRefused
loaded_or_refused bytes = elim (leb_tells (length bytes) most_bytes) [
  | inl reports ↦ by_tokens bytes reports.1 (cut_or_fault bytes)
  | inr reports ↦ inr (107, 0, at_tokens (TooLong reports.1))
]
