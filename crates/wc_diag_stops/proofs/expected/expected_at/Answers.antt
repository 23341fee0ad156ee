use Rattle.std.proofs.Common.{map}
use Rattle.wc_model.specs.Language.Views.{unit_view}
use Rattle.wc_diag_stops.proofs.expected.expected_at.Goals as goal

pub returns-in-InBody : goal.returns-in-InBody
returns-in-InBody c = rw c.in-InBody.is (c.in_body.ensures (map unit_view c.args.reading.now.units.items))
