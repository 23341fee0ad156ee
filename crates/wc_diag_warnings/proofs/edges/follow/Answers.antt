use Rattle.wc_diag_warnings.proofs.Following.{followed_more, not_led}
use Rattle.wc_names.specs.Keys.{name_of_key}
use Rattle.wc_diag_warnings.specs.{is_from, leads, event_view}
use Rattle.wc_diag_warnings.proofs.edges.follow.Goals as goal

pub returns-in_default : goal.returns-in_default
returns-in_default c = record {
  followed = λ before so_far from. followed_more before (event_view c.args.event.now) c.args.ahead.now (record { next = c.onward-ahead.result; labels = c.args.ahead.now.labels }) c.args.paths so_far from
      c.onward-ahead.ensures (λ source key. not_led c.args.event.now.action c.in_default.not-Jump (name_of_key key) (is_from c.args.paths source) (leads c.args.ahead.now.labels (name_of_key key) source));
}
