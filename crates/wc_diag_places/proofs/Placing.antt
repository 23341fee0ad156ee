-- A text that is read by places, before the costs.
use Rattle.wc_model.proofs.Common.{◌≡◌, ℕ, List, [], None, Err, map, arith, inl, inr, refl, subst, sym, length-map}
use Rattle.wc_cost.specs.Faultless.{IsFaultless, Measures}
use Rattle.wc_text_flat.proofs.Shortness.{tokens_fit}
use Rattle.wc_lexer.specs.Views.{token_view}
use Rattle.wc_lexer.specs.declared.shape.Token.{Token}
use Rattle.wc_model.specs.Definitions.{body_fault, declaration_fault, Text}
use Rattle.wc_model.specs.declared.fault.Fault.{Fault}
use Rattle.wc_model.specs.declared.fault.Fault.TheVariants.{Memory, Refused}
use Rattle.wc_diag_places.specs.OperandTokens.{on_line, tokens_from}
use Rattle.wc_diag_places.specs.LaterSpans.{IsBodyFault, IsTokenFault, OfRefusal, PointsToOffending, RefusesLater, at_costs, unit_number}
use Rattle.wc_diag_stops.specs.ReadingSpans.{AreReadByPlaces, place_mark, place_marks}
use Rattle.wc_diag_stops.specs.declared.span.RefusalSpan.{RefusalSpan}
use Rattle.wc_names.specs.RepresentsText.{AreTables}
use Rattle.wc_names.specs.declared.kept.Tables.{Tables}
use Rattle.wc_verify.specs.Seeing.{IsScope}

-- if it breaks no rule on declarations and bodies, its costs may be asked
pub faultless : (bytes : List ℕ) (tokens : List Token) (text : Text) → AreReadByPlaces bytes tokens text → declaration_fault text ≡ None → body_fault text ≡ None → IsFaultless text
faultless bytes tokens text read declared sound =
    let a = length-map tokens place_mark in
    let b = length-map tokens token_view in
    let c = tokens_fit [] bytes (map token_view tokens) read.cut in
    let d = read.short in
    record {
      read = record { tokens = place_marks tokens; few = omega (arith, a, b, c, d); spelled = read.spelled; within_limits = read.within_limits };
      declared = declared;
      sound = sound;
    }

-- a fault of the costs
pub costs_named : (text : Text) (fault : Fault) → declaration_fault text ≡ None → body_fault text ≡ None → Measures text (Err fault) → OfRefusal fault (IsTokenFault text)
costs_named text Memory declared sound measures = tt
costs_named text (Refused number place) declared sound measures = at_costs declared sound measures

-- a refusal of pass 4 that points to a slice of its instruction
pub offending_later : (bytes : List ℕ) (tokens : List Token) (text : Text) (tables : Tables) (number place : ℕ) (span : RefusalSpan) → AreReadByPlaces bytes tokens text → AreTables tables text
    → IsBodyFault text number place → PointsToOffending (IsScope tables (unit_number text place)) number (tokens_from tokens place) span → RefusesLater bytes span.fault span.start span.length
offending_later bytes tokens text tables number place span read are body (inl memory) = subst (λ (fault : Fault). RefusesLater bytes fault span.start span.length) (sym memory) tt
offending_later bytes tokens text tables number place span read are body (inr there) =
    subst (λ (fault : Fault). RefusesLater bytes fault span.start span.length) (sym there.points.fault_is)
    (record {
      tokens = tokens;
      text = text;
      read = read;
      place = place;
      operand_tokens = on_line (tokens_from tokens place) there.offending;
      means =
          inr (record {
            fault = body;
            offending = there.offending;
            means = there.means;
            argument = λ scope unit listed. there.argument scope (record { text = text; tables_are = are; unit_is = unit }) listed;
            operand_is = refl;
          });
      line_is = refl;
      start_is = there.points.start_is;
      count_is = there.points.length_is;
    })
