-- Where the reading of a text stops: tokens with their places for their lines, and what is found where the walk over some tokens stops.
use Rattle.std.proofs.Common.{◌≡◌, List, [], ◌∷◌, map, refl, ap, ℕ, Ok, ◌==◌, ◌≤◌, ◌<◌, true, false, length, subst, sym, ◌∙◌, arith, inl, inr, Result, Err, IfOk}
use Rattle.wc_model.proofs.Common.{if◌then◌else◌, length-map}
use Rattle.wc_lexer.specs.declared.shape.Token.{Token}
use Rattle.wc_text_lines.specs.Words.{marks_of}
use Rattle.wc_diag_stops.specs.ReadingSpans.{place_mark, place_marks, AreReadByPlaces, AreThoseRead, IsReadByPlaces, StopsReading}
use Rattle.wc_diag_stops.specs.Stopping.{exchanged, ReadsText, ReportsRaised, IsAllowedAs, IsRaisedWith, IsOffendingAt, IsStopAt}
use Rattle.wc_laws_grammar.specs.Moves.{State, at_end, at_first, reading}
use Rattle.wc_model.specs.Definitions.{Text, Mark, mark_of_token, IsFirstReadingFault, IsCut, most_bytes, text_view}
use Rattle.wc_model.specs.declared.fault.Fault.{Fault}
use Rattle.wc_model.specs.declared.fault.Fault.TheVariants.{Memory, Refused}
use Rattle.wc_reader.specs.Reported.{StopsWith, ReportsFault, ReportsReading}
use Rattle.wc_text_bodies.specs.Views.{Stopping, walk}
use Rattle.wc_diag_stops.specs.Allowed.{allowed, allowed_with}
use Rattle.wc_diag_texts.specs.declared.expected.Expected.{Expected}
use Rattle.wc_laws_grammar.proofs.Readings.{read_is_spelled, refused_is_first}
use Rattle.wc_laws_grammar.proofs.TokenLaws.{cut_has_no_fault}
use Rattle.wc_lexer.proofs.Spans.{span_is_first}
use Rattle.wc_lexer.specs.Spans.{StopsAt}
use Rattle.wc_lexer.specs.Views.{token_view}
use Rattle.wc_model.specs.declared.source.Source.{Source}
use Rattle.wc_reader.proofs.ReadTexts.{needs_memory}
use Rattle.wc_text_bodies.proofs.WalkSteps.{walk_reports}
use Rattle.wc_diag_texts.specs.declared.expected.Expected.TheVariants.{Nothing as nothing}
use Rattle.wc_diag_stops.specs.declared.span.RefusalSpan.{RefusalSpan}

-- the grammar sees places in them
pub exchanged_marks : (tokens : List Token) → marks_of (map exchanged tokens) ≡ place_marks tokens
exchanged_marks [] = refl
exchanged_marks (token ∷ tokens) = ap (λ marks. place_mark token ∷ marks) (exchanged_marks tokens)

-- a second time takes it back
pub exchanged_twice : (tokens : List Token) → map exchanged (map exchanged tokens) ≡ tokens
exchanged_twice [] = refl
exchanged_twice (token ∷ tokens) = ap (λ others. token ∷ others) (exchanged_twice tokens)

-- what stops the walk at a token, and what could be there
pub raised_there : (whole : Stopping) (state : State) (marks : List Mark) (last : ℕ) (fault : Fault) (expected : Expected) → whole ≡ walk state marks last → StopsWith state marks fault
    → expected ≡ allowed state → ReportsRaised whole fault expected
raised_there whole state marks last Memory expected e h a = tt
raised_there whole state marks last (Refused number place) expected e h a =
    rw (e, h.stops last) (record { raised = h.raised; reported_is = refl; number_is = h.number_is; place_is = h.place_is; expected_is = a })

-- what is found at the tokens' end
pub raised_at_end : (state : State) (last : ℕ) (fault : Fault) (expected : Expected) → ReportsFault (at_end state last) fault → expected ≡ allowed state → ReportsRaised (walk state [] last) fault expected
raised_at_end state last Memory expected t a = tt
raised_at_end state last (Refused number place) expected t a = record { raised = t.raised; reported_is = t.outcome_is; number_is = t.number_is; place_is = t.place_is; expected_is = a }

-- a text that is read to its end
pub read_at_end : (whole : Stopping) (state : State) (last : ℕ) (text : Text) → whole ≡ walk state [] last → at_end state last ≡ Ok text → ReadsText whole
read_at_end whole state last text e is = rw e (record { text = text; reported_is = is })

-- some tokens are as many with their places for their lines
placed_some : (spanned_source tokens : List Token) → marks_of spanned_source ≡ place_marks tokens → 0 < length spanned_source → 0 < length tokens
placed_some spanned_source tokens m some =
    omega (arith, ap length m, length-map (map token_view spanned_source) mark_of_token, length-map spanned_source token_view, length-map tokens place_mark, some)

-- what the walk meets by places
span : (bytes : List ℕ) (tokens : List Token) (number place : ℕ) (there : Expected) (stop : RefusalSpan) → length bytes ≤ most_bytes → IsCut bytes (map token_view tokens)
    → IsRaisedWith (walk at_first (place_marks tokens) (length bytes)) number place there → IsOffendingAt bytes tokens number place there stop
    → StopsReading bytes stop.fault stop.start stop.length stop.expected
span bytes tokens number place there stop short cut m p =
    subst (λ fault. StopsReading bytes fault stop.start stop.length stop.expected) (sym p.fault_is)
    (inr (record {
      short = short;
      tokens = tokens;
      cut = cut;
      fault = m.raised.fault;
      place = place;
      number_is = m.number_is;
      first = subst (IsFirstReadingFault (place_marks tokens) (length bytes) m.raised.fault) (sym m.place_is)
          (refused_is_first (place_marks tokens) (length bytes) m.raised (sym (walk_reports at_first (place_marks tokens) (length bytes)) ∙ m.reported_is));
      line_is = refl;
      expected_is = p.expected_is ∙ ap (allowed_with number) m.expected_is;
      start_is = p.start_is;
      count_is = p.length_is;
    }))

-- what the walk finds, or out of memory
raised_by_places : (bytes : List ℕ) (tokens : List Token) (fault : Fault) (there : Expected) (stop : RefusalSpan) → length bytes ≤ most_bytes → IsCut bytes (map token_view tokens)
    → ReportsRaised (walk at_first (place_marks tokens) (length bytes)) fault there → (fault ≡ Memory → 0 < length tokens) → IsStopAt bytes tokens fault there stop
    → StopsReading bytes stop.fault stop.start stop.length stop.expected
raised_by_places bytes tokens Memory there stop short cut m some is =
    let memory = needs_memory bytes (map token_view tokens) short cut (omega (arith, length-map tokens token_view, some refl)) in
    subst (λ fault. StopsReading bytes fault stop.start stop.length stop.expected) (sym is.0) memory
raised_by_places bytes tokens (Refused number place) there stop short cut m some is = span bytes tokens number place there stop short cut m is

-- what is found in tokens with their places for their lines, reported of the tokens
pub stops_raised : (bytes : List ℕ) (tokens spanned_source after : List Token) (fault : Fault) (there : Expected) (stop : RefusalSpan) → length bytes ≤ most_bytes → IsCut bytes (map token_view tokens)
    → marks_of spanned_source ≡ place_marks tokens → after ≡ tokens → ReportsRaised (walk at_first (marks_of spanned_source) (length bytes)) fault there → (fault ≡ Memory → 0 < length spanned_source)
    → IsStopAt bytes after fault there stop → StopsReading bytes stop.fault stop.start stop.length stop.expected
stops_raised bytes tokens spanned_source after fault there stop short cut m e t some is =
    raised_by_places bytes tokens fault there stop short cut (subst (λ marks. ReportsRaised (walk at_first marks (length bytes)) fault there) m t)
    (λ memory. placed_some spanned_source tokens m (some memory)) (subst (λ xs. IsStopAt bytes xs fault there stop) e is)

-- what is read in them
pub read_as : (bytes : List ℕ) (tokens spanned_source after : List Token) (text : Text) → length bytes ≤ most_bytes → IsCut bytes (map token_view tokens) → marks_of spanned_source ≡ place_marks tokens
    → after ≡ tokens → (walk at_first (marks_of spanned_source) (length bytes)).reported ≡ Ok text → AreReadByPlaces bytes after text
read_as bytes tokens spanned_source after text short cut m same reported =
    let e : reading at_first (marks_of spanned_source) (length bytes) ≡ Ok text = sym (walk_reports at_first (marks_of spanned_source) (length bytes)) ∙ reported in
    let k = read_is_spelled (place_marks tokens) (length bytes) text (subst (λ marks. reading at_first marks (length bytes) ≡ Ok text) m e) in
    subst (λ xs. AreReadByPlaces bytes xs text) (sym same) (record { short = short; cut = cut; spelled = k.0; within_limits = k.1 })

-- a text in which nothing is found
pub read_by_places : (bytes : List ℕ) (tokens spanned_source : List Token) → length bytes ≤ most_bytes → IsCut bytes (map token_view tokens) → marks_of spanned_source ≡ place_marks tokens
    → ReadsText (walk at_first (marks_of spanned_source) (length bytes)) → IsReadByPlaces bytes
read_by_places bytes tokens spanned_source short cut m r = (tokens, r.text, read_as bytes tokens spanned_source tokens r.text short cut m refl r.reported_is)

-- what is read or not
pub read_result : (bytes : List ℕ) (tokens spanned_source after : List Token) (result : Result Source Fault) → length bytes ≤ most_bytes → IsCut bytes (map token_view tokens)
    → marks_of spanned_source ≡ place_marks tokens → after ≡ tokens → ReportsReading (walk at_first (marks_of spanned_source) (length bytes)).reported result
    → IfOk result (λ source. AreReadByPlaces bytes after (text_view source))
read_result bytes tokens spanned_source after (Ok source) short cut m same reported = read_as bytes tokens spanned_source after (text_view source) short cut m same reported
read_result bytes tokens spanned_source after (Err fault) short cut m same reported = tt

-- what is reported with a number is reported with it again
reported_again : (number : ℕ) (there : Expected) → allowed_with number there ≡ allowed_with number (allowed_with number there)
reported_again number there = elim (number == 201) as (λ is. (if is then there else nothing) ≡ (if is then (if is then there else nothing) else nothing)) [ true ↦ refl | false ↦ refl ]

-- nothing is reported as nothing
pub nothing_reported : (fault : Fault) (expected : Expected) → expected ≡ nothing → IsAllowedAs fault expected
nothing_reported Memory expected e = e
nothing_reported (Refused number place) expected e = rw e (elim (number == 201) as (λ is. nothing ≡ (if is then nothing else nothing)) [ true ↦ refl | false ↦ refl ])

-- what is reported at a stop
pub stop_expected : (bytes : List ℕ) (tokens : List Token) (fault : Fault) (there : Expected) (stop : RefusalSpan) → IsStopAt bytes tokens fault there stop → IsAllowedAs stop.fault stop.expected
stop_expected bytes tokens Memory there stop is = nothing_reported stop.fault stop.expected is.1
stop_expected bytes tokens (Refused number place) there stop is =
    subst (λ fault. IsAllowedAs fault stop.expected) (sym is.fault_is) (rw is.expected_is (reported_again number there))

-- where the lexer stops the reader does not
pub not_read : (bytes : List ℕ) (fault : Fault) (start count : ℕ) (expected : Expected) (tokens : List Token) → StopsAt bytes fault start count
    → AreThoseRead bytes fault start count expected tokens
not_read bytes Memory start count expected tokens stops = tt
not_read bytes (Refused number place) start count expected tokens stops =
    λ read. absurd (cut_has_no_fault bytes (map token_view read.tokens) number place read.short read.cut (span_is_first bytes number place start count stops))

-- there it stops
pub lexer_stops : (bytes : List ℕ) (fault : Fault) (start count : ℕ) (expected : Expected) → StopsAt bytes fault start count
    → StopsReading bytes fault start count expected
lexer_stops bytes Memory start count expected stops = stops
lexer_stops bytes (Refused number place) start count expected stops = inl stops
