use Rattle.std.proofs.Common.{map, drop}
use Rattle.wc_model.specs.Language.Views.{assignment_view}
use Rattle.wc_verify.proofs.Calling.{ArgumentsAfter}
use Rattle.wc_verify.proofs.calls.validate_arguments.Given as goal

-- the arguments that are left follow those so far
abbrev pub invariant-loop-argument : goal.invariant-loop-argument
invariant-loop-argument l = ArgumentsAfter l.tables l.unit l.declared l.line l.names (map assignment_view l.arguments) (map assignment_view (drop l.argument-index l.arguments))
