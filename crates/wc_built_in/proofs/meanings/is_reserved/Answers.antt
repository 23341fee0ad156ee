use Rattle.std.proofs.Common.{◌∙◌, ap}
use Rattle.std.specs.Option.{is_some}
use Rattle.wc_model.specs.Language.Names.{name_of}
use Rattle.wc_built_in.proofs.ReservedWords.{reserved_is}
use Rattle.wc_built_in.proofs.meanings.is_reserved.Goals as goal

pub returns : goal.returns
returns c = c.is_some.ensures ∙ ap is_some c.keyword_named.ensures ∙ reserved_is (name_of c.args.text.now)
