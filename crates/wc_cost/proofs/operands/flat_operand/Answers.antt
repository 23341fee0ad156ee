use Rattle.std.proofs.Common.{sym, subst}
use Rattle.wc_text_flat.specs.Lowered.{IsOperand, IsPlaceOf, At}
use Rattle.wc_model.specs.Definitions.{readable_place, term_view}
use Rattle.wc_model.specs.declared.operand.Operand.{Operand as Spelled}
use Rattle.wc_cost.specs.Lowerable.{HasPlace, IsReadable}
use Rattle.wc_cost.proofs.operands.flat_operand.Goals as goal

pub returns-in-Address : goal.returns-in-Address
returns-in-Address c = λ scope is.
    subst (λ (o : Spelled). (HasPlace scope (readable_place scope (term_view o)) → IsPlaceOf scope (readable_place scope (term_view o)) c.place_of.result) → IsReadable scope (term_view o) → IsOperand scope (term_view o) (At c.place_of.result)) (sym c.in-Address.is)
    (λ placed read. placed read) (c.place_of.ensures.read scope is)

pub returns-in-Name : goal.returns-in-Name
returns-in-Name c = λ scope is.
    subst (λ (o : Spelled). (HasPlace scope (readable_place scope (term_view o)) → IsPlaceOf scope (readable_place scope (term_view o)) c.place_of-in-Name.result) → IsReadable scope (term_view o) → IsOperand scope (term_view o) (At c.place_of-in-Name.result)) (sym c.in-Name.is)
    (λ placed read. placed read) (c.place_of-in-Name.ensures.read scope is)

pub returns-in-Field : goal.returns-in-Field
returns-in-Field c = λ scope is.
    subst (λ (o : Spelled). (HasPlace scope (readable_place scope (term_view o)) → IsPlaceOf scope (readable_place scope (term_view o)) c.place_of-in-Field.result) → IsReadable scope (term_view o) → IsOperand scope (term_view o) (At c.place_of-in-Field.result)) (sym c.in-Field.is)
    (λ placed read. placed read) (c.place_of-in-Field.ensures.read scope is)
