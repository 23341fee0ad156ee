use Rattle.wc_model.proofs.Common.{sym, ap, ◌∙◌, position_from-zero, position_from}
use Rattle.wc_model.specs.Definitions.{same_name, name_of}
use Rattle.wc_names.specs.Keys.{name_of_key}
use Rattle.wc_built_in.proofs.FieldTables.{position_from-map}
use Rattle.wc_names.proofs.names.Names.number.Goals as goal

pub returns : goal.returns
returns c =
    c.get_index_of.ensures.index ∙ position_from-zero (λ k. same_name (name_of_key k) (name_of c.args.name.now)) c.self.inside.keys.keys
    ∙ sym (position_from-map name_of_key (λ n. same_name n (name_of c.args.name.now)) 0 c.self.inside.keys.keys)
    ∙ ap (λ names. position_from (λ n. same_name n (name_of c.args.name.now)) 0 names) c.self.view_is
