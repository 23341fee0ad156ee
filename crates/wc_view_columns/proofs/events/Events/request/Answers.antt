use Rattle.wc_view_columns.proofs.Followed.{request_counted}
use Rattle.wc_view_columns.proofs.events.Events.request.Goals as goal

pub returns : goal.returns
returns c = record { counts = λ made are. request_counted made c.args.request c.args.self.now c.mark.new.self c.saturating_add-self.result are c.mark.ensures c.saturating_add-self.ensures }
