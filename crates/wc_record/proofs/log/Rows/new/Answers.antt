use Rattle.std.proofs.Common.{refl}
use Rattle.wc_record.proofs.LogSteps.{all_left, all_read}
use Rattle.wc_record.proofs.log.Rows.new.Goals as goal

pub returns-clause-rows : goal.returns-clause-rows
returns-clause-rows g c = all_left g.R.ByteIn.bytes_left _ (g.R.ByteIn.bytes_left c.args.reader.now) _ refl refl refl c.new.ensures.bytes c.new-2.ensures.records

pub returns-clause-records : goal.returns-clause-records
returns-clause-records g c = all_read g.R.ByteIn.bytes_left _ (g.R.ByteIn.bytes_left c.args.reader.now) _ refl refl refl c.new.ensures.bytes c.new-2.ensures.records
