-- What the walk over a text's tokens says of the text.
use Rattle.std.proofs.Common.{◌≡◌, ◌≤◌, ◌<◌, ℕ, List, [], map, length, refl, subst, sym, inl, inr, arith}
use Rattle.std.specs.Prelude.{Ok, Err, Result, IfOk, IfErr}
use Rattle.wc_laws_grammar.specs.Moves.{Raised, at_first, reading}
use Rattle.wc_laws_grammar.proofs.Readings.{read_is_spelled, refused_is_first, refused_spells_nothing}
use Rattle.wc_lexer.specs.Spans.{AtToken, Names, NeedsMemory}
use Rattle.wc_laws_grammar.proofs.TokenLaws.{cut_has_no_fault, cut_is_unique}
use Rattle.wc_model.specs.Definitions.{Spells, Mark, IsMisread, IsRead, last_line, mark_of_token, AtEnd, Cuts, IsCut, IsFirstTokenFault, Nothing, Skipped, Taken, Token, most_bytes, Text, text_view}
use Rattle.wc_model.specs.declared.fault.Fault.{Fault}
use Rattle.wc_model.specs.declared.fault.Fault.TheVariants.{Memory, Refused}
use Rattle.wc_reader.specs.Reported.{IsRefusedAs, IsUnread, IsRaisedAs, ReportsReading, ReportsFault}
use Rattle.wc_model.specs.declared.source.Source.{Source}
use Rattle.wc_text_bodies.proofs.WalkSteps.{walk_reports}
use Rattle.wc_text_bodies.specs.Views.{walk}

-- what the walk reads is what the bytes are read as
pub read_as : (bytes : List ℕ) (tokens : List Token) (text : Text) → length bytes ≤ most_bytes → IsCut bytes tokens → reading at_first (map mark_of_token tokens) (last_line bytes) ≡ Ok text → IsRead bytes text
read_as bytes tokens text short cut e =
    let k = read_is_spelled (map mark_of_token tokens) (last_line bytes) text e in
    record { short = short; tokens = tokens; cut = cut; spelled = k.0; within_limits = k.1 }

-- a text whose tokens have a fault is not read
pub not_cut : (bytes : List ℕ) (number place : ℕ) → IsFirstTokenFault bytes number place → IsUnread bytes number place
not_cut bytes number place h = record { first = inl h; unread = λ text r. cut_has_no_fault bytes r.tokens number place r.short r.cut h }

-- nor is one in whose tokens the walk meets one
not_spelled : (bytes : List ℕ) (tokens : List Token) (raised : Raised) → length bytes ≤ most_bytes → IsCut bytes tokens → reading at_first (map mark_of_token tokens) (last_line bytes) ≡ Err raised → (text : Text) → ¬ (IsRead bytes text)
not_spelled bytes tokens raised short cut e text r =
    let same = cut_is_unique bytes r.tokens tokens r.cut cut in
    refused_spells_nothing (map mark_of_token tokens) (last_line bytes) raised text e (subst (λ ts. Spells (map mark_of_token ts) text) same r.spelled) r.within_limits

misread : (bytes : List ℕ) (tokens : List Token) (number place : ℕ) → length bytes ≤ most_bytes → IsCut bytes tokens → IsRaisedAs (reading at_first (map mark_of_token tokens) (last_line bytes)) number place → IsUnread bytes number place
misread bytes tokens number place short cut m = record {
  first = inr (
    m.raised.fault,
    m.number_is,
    subst (IsMisread bytes m.raised.fault) (sym m.place_is)
        (record { short = short; tokens = tokens; cut = cut; first = refused_is_first (map mark_of_token tokens) (last_line bytes) m.raised m.outcome_is }),
  );
  unread = not_spelled bytes tokens m.raised short cut m.outcome_is;
}

-- before the first of some tokens there are blanks alone
first_holds : {before rest : List ℕ} {tokens : List Token} → Cuts AtEnd before rest tokens → 0 < length tokens → Cuts AtToken before rest []
first_holds (Nothing e) some = absurd (omega (arith, some))
first_holds (Skipped chunk after e blank more) some = Skipped chunk after e blank (first_holds more some)
first_holds (Taken shape chunk after e longest s more) some = Nothing (shape, chunk, after, e, longest, s)

-- space is needed for the tokens of a text that has some
pub needs_memory : (bytes : List ℕ) (tokens : List Token) → length bytes ≤ most_bytes → IsCut bytes tokens → 0 < length tokens → NeedsMemory bytes
needs_memory bytes tokens short cut some = record { short = short; tokens = []; cut = first_holds cut some }

-- what a fault that the walk meets says
pub refused_as : (bytes : List ℕ) (tokens : List Token) (fault : Fault) → length bytes ≤ most_bytes → IsCut bytes tokens → ReportsFault (reading at_first (map mark_of_token tokens) (last_line bytes)) fault
    → (fault ≡ Memory → 0 < length tokens) → IsRefusedAs bytes fault
refused_as bytes tokens Memory short cut t some = needs_memory bytes tokens short cut (some refl)
refused_as bytes tokens (Refused number place) short cut t some = misread bytes tokens number place short cut t

-- and one of the tokens
pub token_fault : (bytes : List ℕ) (fault : Fault) → Names bytes fault → IsRefusedAs bytes fault
token_fault bytes Memory n = n
token_fault bytes (Refused number place) n = not_cut bytes number place n

-- what a result of the walk says of the text that it read
read_then : (bytes : List ℕ) (tokens : List Token) (marks : List Mark) (last : ℕ) (result : Result Source Fault) → length bytes ≤ most_bytes → IsCut bytes tokens → marks ≡ map mark_of_token tokens → last ≡ last_line bytes → ReportsReading (reading at_first marks last) result
    → IfOk result (λ source. IsRead bytes (text_view source))
read_then bytes tokens marks last (Ok source) short cut m l t = read_as bytes tokens (text_view source) short cut (subst (λ n. reading at_first (map mark_of_token tokens) n ≡ Ok (text_view source)) l (subst (λ ms. reading at_first ms last ≡ Ok (text_view source)) m t))
read_then bytes tokens marks last (Err fault) short cut m l t = tt

pub result_read : (bytes : List ℕ) (tokens : List Token) (marks : List Mark) (last : ℕ) (result : Result Source Fault) → length bytes ≤ most_bytes → IsCut bytes tokens → marks ≡ map mark_of_token tokens → last ≡ last_line bytes → ReportsReading (walk at_first marks last).reported result
    → IfOk result (λ source. IsRead bytes (text_view source))
result_read bytes tokens marks last result short cut m l t =
    read_then bytes tokens marks last result short cut m l (subst (λ outcome. ReportsReading outcome result) (walk_reports at_first marks last) t)

-- and of one that it refused
refused_then : (bytes : List ℕ) (tokens : List Token) (marks : List Mark) (last : ℕ) (result : Result Source Fault) → length bytes ≤ most_bytes → IsCut bytes tokens → marks ≡ map mark_of_token tokens → last ≡ last_line bytes → ReportsReading (reading at_first marks last) result
    → IfErr result (λ fault. fault ≡ Memory → 0 < length tokens) → IfErr result (λ fault. IsRefusedAs bytes fault)
refused_then bytes tokens marks last (Ok source) short cut m l t some = tt
refused_then bytes tokens marks last (Err fault) short cut m l t some = refused_as bytes tokens fault short cut (subst (λ n. ReportsFault (reading at_first (map mark_of_token tokens) n) fault) l (subst (λ ms. ReportsFault (reading at_first ms last) fault) m t)) some

pub result_refused : (bytes : List ℕ) (tokens : List Token) (marks : List Mark) (last : ℕ) (result : Result Source Fault) → length bytes ≤ most_bytes → IsCut bytes tokens → marks ≡ map mark_of_token tokens → last ≡ last_line bytes → ReportsReading (walk at_first marks last).reported result
    → IfErr result (λ fault. fault ≡ Memory → 0 < length tokens) → IfErr result (λ fault. IsRefusedAs bytes fault)
result_refused bytes tokens marks last result short cut m l t some =
    refused_then bytes tokens marks last result short cut m l (subst (λ outcome. ReportsReading outcome result) (walk_reports at_first marks last) t) some
