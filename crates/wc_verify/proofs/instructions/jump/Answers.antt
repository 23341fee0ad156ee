use Rattle.wc_model.specs.Definitions.{first_broken, PlainLine, Jump, name_of, condition_checks, is_ahead, asks}
use Rattle.wc_model.proofs.Common.{refl, sym, [], ◌∷◌}
use Rattle.wc_verify.proofs.Found.{asked_as, joined}
use Rattle.wc_verify.proofs.instructions.jump.Goals as goal

pub returns : goal.returns
returns c = λ scope word following more ahead.
    let name = name_of c.args.label.now in
    c.kind_following.ensures scope (PlainLine word c.args.line (Jump c.args.condition name)) following c.args.kind more
    (c.refuse.ensures.validates _ (first_broken more) (joined (λ line. asks 406 line (is_ahead following name) ∷ []) (λ line. condition_checks c.args.condition line c.args.kind) c.unless.result c.validate_condition.result c.first_of-broken.result
    (asked_as 406 c.args.is_ahead (is_ahead following name) c.unless.result c.unless.ensures (sym ahead)) c.validate_condition.ensures c.first_of-broken.ensures c.args.line more)) refl
