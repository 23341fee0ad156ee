use Rattle.wc_model.specs.Definitions.{PlainLine, Call, assignment_view, name_of}
use Rattle.std.proofs.Common.{map, refl}
use Rattle.wc_verify.proofs.instructions.call.Goals as goal

pub returns : goal.returns
returns c = λ scope is label following more.
    c.kind_following.ensures scope (PlainLine label c.args.line (Call c.args.condition (name_of c.args.instance.now) (map assignment_view c.args.arguments.now))) following c.args.kind more (c.validate_call-validated.ensures.validated scope more is) refl
