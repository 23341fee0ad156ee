use Rattle.wc_model.proofs.Common.{arith, decimal_nonempty, length-decimal-le}
use Rattle.wc_view_trace_rows.proofs.Digits.{more_than}
use Rattle.wc_view_trace_rows.proofs.columns.spaces_before.Goals as goal

pub returns-in-0-to-9 : goal.returns-in-0-to-9
returns-in-0-to-9 c =
    omega (arith, decimal_nonempty c.args.number (omega arith), length-decimal-le 1 c.args.number (omega arith) (omega arith) (omega arith))

pub returns-in-10-to-99 : goal.returns-in-10-to-99
returns-in-10-to-99 c =
    omega (arith, more_than 1 c.args.number (omega arith) (omega arith), length-decimal-le 2 c.args.number (omega arith) (omega arith) (omega arith))

pub returns-in-100-to-999 : goal.returns-in-100-to-999
returns-in-100-to-999 c =
    omega (arith, more_than 2 c.args.number (omega arith) (omega arith), length-decimal-le 3 c.args.number (omega arith) (omega arith) (omega arith))

pub returns-in-1000-to-9999 : goal.returns-in-1000-to-9999
returns-in-1000-to-9999 c =
    omega (arith, more_than 3 c.args.number (omega arith) (omega arith), length-decimal-le 4 c.args.number (omega arith) (omega arith) (omega arith))

pub returns-in-10000-to-99999 : goal.returns-in-10000-to-99999
returns-in-10000-to-99999 c =
    omega (arith, more_than 4 c.args.number (omega arith) (omega arith), length-decimal-le 5 c.args.number (omega arith) (omega arith) (omega arith))

pub returns-in_default : goal.returns-in_default
returns-in_default c = omega (arith, more_than 5 c.args.number (omega arith) (omega arith))
