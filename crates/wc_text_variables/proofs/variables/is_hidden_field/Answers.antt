use Rattle.std.proofs.Common.{◌∙◌, ap}
use Rattle.std.specs.Prelude.{not}
use Rattle.wc_model.specs.Definitions.{member_named, standard_members, name_of}
use Rattle.wc_text_variables.proofs.Meanings.{unnamed}
use Rattle.wc_text_variables.proofs.variables.is_hidden_field.Goals as goal

pub returns-in-Some : goal.returns-in-Some
returns-in-Some c =
    ap not c.is_named.ensures ∙ unnamed c.in-Some.found.field.now (member_named (standard_members c.args.block) (name_of c.args.field.now)) c.in-Some.ensures.member
