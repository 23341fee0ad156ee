use Rattle.wc_text_flat.proofs.Items.{scan_items}
use Rattle.wc_text_flat.proofs.laws.seen_is_the_trace.Goals as goal

pub returns : goal.returns
returns c = scan_items
