use Rattle.std.proofs.Common.{◌≡◌, ◌++◌, List, drop}
use Rattle.wc_model.specs.Definitions.{Check, first_broken, body_name_checks, is_block, ProgramUnit, lines_view}
use Rattle.wc_declare.proofs.body.validate_body.Given as goal

-- what is found first is found in the lines that are left
abbrev pub invariant-loop-line : goal.invariant-loop-line
invariant-loop-line l =
    (unit : ProgramUnit) (rest : List Check) → l.in_block ≡ is_block unit →
    first_broken (body_name_checks unit (lines_view l.lines) ++ rest) ≡ first_broken (body_name_checks unit (lines_view (drop l.line-index l.lines)) ++ rest)
