use Rattle.std.specs.Prelude.{is_some}
use Rattle.wc_model.specs.Definitions.{is_writable, entity_of}
use Rattle.wc_verify.proofs.Found.{pair_found}
use Rattle.wc_verify.proofs.refusals.validate_writing.Goals as goal

pub returns : goal.returns
returns c = λ scope term seen line rest.
    pair_found 401 404 c.args.seen.known c.args.seen.writable (is_some (entity_of scope term)) (is_writable (entity_of scope term)) c.unless.result c.unless-2.result c.first_of.result c.unless.ensures c.unless-2.ensures c.first_of.ensures seen.known seen.writable line rest
