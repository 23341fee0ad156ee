-- What follows a return, and that a run that looks for a label goes on with `ahead` of the lines.
use Rattle.wc_model.proofs.Common.{[], refl, ap, ◌≡◌, Option, Some, ◌∙◌, true, false, if◌then◌else◌}
use Rattle.wc_laws_language.specs.Laws.{ReturnEndsTheBody, from_label}
use Rattle.wc_model.specs.Definitions.{after, Context, Outcome, Done, Stuck, Running, Seeking, ahead, means, carries, line_effect, nested_effect, continued, End, Alone, Plain, Nested, Lines, Name, Store}
use Rattle.wc_model.specs.declared.value.Value.{Value}

-- each line is passed over
pub return_ends : ReturnEndsTheBody
return_ends here End result store = refl
return_ends here (Alone word rest) result store = return_ends here rest result store
return_ends here (Plain word line step rest) result store = ap (after []) (return_ends here rest result store)
return_ends here (Nested word line operator operand inside close rest) result store = ap (after []) (return_ends here rest result store)

-- an outcome with nothing before its trace
pub after-nil : (o : Outcome) → after [] o ≡ o
after-nil (Done result store trace) = refl
after-nil (Stuck reason) = refl

-- by whether the first line carries the label
pub seeking : (here : Context) (lines : Lines) (label : Name) (result : Option Value) (store : Store) → means here lines (Seeking label result) store ≡ from_label here (ahead lines label) result store
seeking here End label result store = refl
seeking here (Alone word rest) label result store =
    elim (carries (Some word) label) as (λ b. means here rest (if b then Running result else Seeking label result) store ≡ from_label here (if b then Some (Alone word rest) else ahead rest label) result store) [
      | true ↦ refl
      | false ↦ seeking here rest label result store
    ]
seeking here (Plain word line step rest) label result store =
    elim (carries word label) as (λ b. continued (line_effect here line step (if b then Running result else Seeking label result) store) (means here rest) ≡ from_label here (if b then Some (Plain word line step rest) else ahead rest label) result store) [
      | true ↦ refl
      | false ↦ after-nil (means here rest (Seeking label result) store) ∙ seeking here rest label result store
    ]
seeking here (Nested word line operator operand inside close rest) label result store =
    elim (carries word label) as (λ b. continued (nested_effect here line operator operand close (means here inside) (if b then Running result else Seeking label result) store) (means here rest) ≡ from_label here (if b then Some (Nested word line operator operand inside close rest) else ahead rest label) result store) [
      | true ↦ refl
      | false ↦ after-nil (means here rest (Seeking label result) store) ∙ seeking here rest label result store
    ]
