use Rattle.wc_model.proofs.Common.{◌≡◌, ◌++◌, List, map, drop, flat_map}
use Rattle.wc_model.specs.Definitions.{Check, first_broken, term_checks, is_block, ProgramUnit, assignment_view}
use Rattle.wc_declare.proofs.body.validate_arguments.Given as goal

-- what is found first is found in the arguments that are left
abbrev pub invariant-loop-argument : goal.invariant-loop-argument
invariant-loop-argument l =
    (unit : ProgramUnit) (rest : List Check) → l.in_block ≡ is_block unit →
    first_broken (flat_map (λ a. term_checks unit a.actual) (map assignment_view l.arguments) ++ rest) ≡ first_broken (flat_map (λ a. term_checks unit a.actual) (map assignment_view (drop l.argument-index l.arguments)) ++ rest)
