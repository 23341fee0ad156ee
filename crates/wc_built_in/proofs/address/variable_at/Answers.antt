use Rattle.std.proofs.Common.{is_some, sym, ap, ◌∙◌, arith}
use Rattle.wc_model.specs.Language.Names.{name_of}
use Rattle.wc_built_in.proofs.Addresses.{none_spelled, some_spelled}
use Rattle.wc_built_in.proofs.address.variable_at.Goals as goal
use Rattle.wc_built_in.proofs.address.variable_at.Goals.{else-number-lt45-via-then-number-lt45+else-is_address, else-number-lt45-via-else-number-lt45}

pub returns-then-is_address-clause-variable : goal.returns-then-is_address-clause-variable
returns-then-is_address-clause-variable c =
    some_spelled (name_of c.args.text.now) c.only_number-number.result c.only_number-number.ensures c.if-number-lt45.true (sym c.is_address.ensures ∙ c.if-is_address.true)

pub returns-then-is_address-clause-found : goal.returns-then-is_address-clause-found
returns-then-is_address-clause-found c =
    ap is_some (some_spelled (name_of c.args.text.now) c.only_number-number.result c.only_number-number.ensures c.if-number-lt45.true (sym c.is_address.ensures ∙ c.if-is_address.true))

pub returns-else-number-lt45-clause-variable : goal.returns-else-number-lt45-clause-variable
returns-else-number-lt45-clause-variable c =
    none_spelled (name_of c.args.text.now) c.only_number-number.result c.only_number-number.ensures (elim c.else-number-lt45.branch [
      | else-number-lt45-via-then-number-lt45+else-is_address w ↦ λ below. sym w.is_address.ensures ∙ w.if-is_address.false
      | else-number-lt45-via-else-number-lt45 w ↦ λ below. absurd (omega arith)
    ])

pub returns-else-number-lt45-clause-found : goal.returns-else-number-lt45-clause-found
returns-else-number-lt45-clause-found c =
    ap is_some (none_spelled (name_of c.args.text.now) c.only_number-number.result c.only_number-number.ensures (elim c.else-number-lt45.branch [
      | else-number-lt45-via-then-number-lt45+else-is_address w ↦ λ below. sym w.is_address.ensures ∙ w.if-is_address.false
      | else-number-lt45-via-else-number-lt45 w ↦ λ below. absurd (omega arith)
    ]))
