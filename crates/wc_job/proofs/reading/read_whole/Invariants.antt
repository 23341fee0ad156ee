use Rattle.wc_model.proofs.Common.{◌≡◌, ◌≤◌, ◌+◌, ◌-◌, length, Consumes}
use Rattle.wc_job.proofs.reading.read_whole.Given as goal
use Rattle.wc_model.specs.Run.JobSections.{longest_job}

abbrev pub invariant-loop-reader : goal.invariant-loop-reader
invariant-loop-reader g l = record {
  within : length l.bytes.items ≤ longest_job + 1;
  taken : Consumes (g.R.ByteIn.bytes_left l.fn.reader) (g.R.ByteIn.bytes_left l.reader) l.bytes.items;
  failures : g.R.ByteIn.failure_count l.reader ≡ g.R.ByteIn.failure_count l.fn.reader;
}

abbrev pub decreases-loop-reader : goal.decreases-loop-reader
decreases-loop-reader g l = longest_job + 1 - length l.bytes.items
