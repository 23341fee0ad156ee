use Rattle.std.proofs.Common.{ap, ◌∙◌}
use Rattle.wc_model.specs.Definitions.{is_among, name_of}
use Rattle.wc_names.proofs.KeyNames.{keys_any}
use Rattle.wc_names.proofs.names.Names.contains.Goals as goal

pub returns : goal.returns
returns c = c.contains.ensures ∙ keys_any (record { text = c.args.name }) c.self.inside.keys.keys ∙ ap (λ names. is_among names (name_of c.args.name.now)) c.self.view_is
