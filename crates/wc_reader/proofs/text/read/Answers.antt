use Rattle.wc_model.proofs.Common.{◌≡◌, Result, Ok, Err, ap, arith, length, map, subst, sym, IfErr, length-map, IsErr, IsErrAnd}
use Rattle.wc_lexer.specs.Views.{token_view}
use Rattle.wc_model.specs.declared.fault.Fault.{Fault}
use Rattle.wc_reader.specs.Reported.{IsRefusedAs}
use Rattle.wc_text_lines.proofs.Outcomes.{err-map}
use Rattle.wc_reader.proofs.ReadTexts.{result_read, result_refused, token_fault}
use Rattle.wc_reader.proofs.text.read.Goals as goal
use Rattle.wc_text_lines.specs.Words.{marks_of}

-- a fault that is propagated
propagated : {X : Type 0} (result : Result X Fault) (fault : Fault) (Says : Fault → Type 0) → IsErr result × IsErrAnd result (λ e. e ≡ fault) → Says fault → IfErr result Says
propagated (Ok x) fault Says gives h = tt
propagated (Err e) fault Says gives h = subst Says (sym gives.1) h

pub returns-clause-read : goal.returns-clause-read
returns-clause-read c =
    result_read c.args.text.now (map token_view c.in_ok-tokens.tokens.items) _ _ c.read_tokens.result c.in_ok-tokens.ensures.cut.0 c.in_ok-tokens.ensures.cut.1 (ap marks_of c.deref-2.ensures.value) c.line_at_end-last_line.ensures c.read_tokens.ensures.reported

pub returns-clause-refused : goal.returns-clause-refused
returns-clause-refused c =
    result_refused c.args.text.now (map token_view c.in_ok-tokens.tokens.items) _ _ c.read_tokens.result c.in_ok-tokens.ensures.cut.0 c.in_ok-tokens.ensures.cut.1 (ap marks_of c.deref-2.ensures.value) c.line_at_end-last_line.ensures c.read_tokens.ensures.reported
    (err-map c.read_tokens.result (λ fault h m. omega (arith, h m, ap length c.deref-2.ensures.value, length-map c.in_ok-tokens.tokens.items token_view)) c.read_tokens.ensures.memory)

pub returns-in_err-tokens-clause-refused : goal.returns-in_err-tokens-clause-refused
returns-in_err-tokens-clause-refused c = propagated c.from_residual.result c.in_err-tokens.field-0.0 (IsRefusedAs c.args.text.now) c.from_residual.ensures (token_fault c.args.text.now c.in_err-tokens.field-0.0 c.in_err-tokens.ensures.refused)
