use Rattle.std.proofs.Common.{◌∙◌, Bor, List, Option, ℕ, ap, sym}
use Rattle.clap.specs.declared.error.kind.ErrorKind.{ErrorKind}
use Rattle.std.specs.Option.{option_to_list}
use Rattle.std.specs.Prelude.{option_map}
use Rattle.wc_arguments.specs.Asked.{texts_of, view}
use Rattle.wc_arguments.proofs.FormatWords.{among, not_refused, refused_format, refused_option}
use Rattle.wc_arguments.proofs.invocation.asked_by.Goals as goal

-- the kinds of what is wrong with the options
abbrev faults : Option (ErrorKind × Bor (List ℕ)) → List ErrorKind
faults found = option_to_list (option_map (λ fault. fault.0) found)

pub returns-in-Err-clause-refused : goal.returns-in-Err-clause-refused
returns-in-Err-clause-refused c = among _ _ c.in-Err.error c.in-Err.ensures.refused

pub returns-in_ok-error-in-Some-usage_fault-clause-refused : goal.returns-in_ok-error-in-Some-usage_fault-clause-refused
returns-in_ok-error-in-Some-usage_fault-clause-refused c =
    refused_option (texts_of c.args.arguments.now) c.in-Some.format (view c.in-Ok.read.0) c.in_ok-error-in-Some-usage_fault.field-0 _ c.in-Ok.ensures.refused (sym c.in-Some.is ∙ c.in-Ok.ensures.format) c.in-Ok.ensures.asked
    (ap faults (sym c.in-Some-usage_fault.is) ∙ c.usage_fault.ensures) c.in_ok-error-in-Some-usage_fault.ensures.kind

pub returns-in-None-usage_fault-clause-refused : goal.returns-in-None-usage_fault-clause-refused
returns-in-None-usage_fault-clause-refused c =
    not_refused (texts_of c.args.arguments.now) c.in-Some.format (view c.in-Ok.read.0) c.in-Ok.ensures.refused (sym c.in-Some.is ∙ c.in-Ok.ensures.format) c.in-Ok.ensures.asked
    (ap faults (sym c.in-None-usage_fault.is) ∙ c.usage_fault.ensures)

pub returns-in_ok-error-in-None-clause-refused : goal.returns-in_ok-error-in-None-clause-refused
returns-in_ok-error-in-None-clause-refused c =
    refused_format (texts_of c.args.arguments.now) c.in_ok-error-in-None.field-0 c.in-Ok.ensures.refused (sym c.in-None.is ∙ c.in-Ok.ensures.format) c.in_ok-error-in-None.ensures.kind
