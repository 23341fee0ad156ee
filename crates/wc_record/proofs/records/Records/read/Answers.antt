use Rattle.csv.specs.Records.{fields_of}
use Rattle.wc_record.proofs.ReadRecords.{takes_first}
use Rattle.wc_record.proofs.records.Records.read.Goals as goal

pub returns-in-Ok : goal.returns-in-Ok
returns-in-Ok g c =
    let e = c.in-Ok.ensures in
    takes_first g.R.ByteIn.bytes_left c.args.self.now (record { csv = c.read_byte_record.new.self }) c.in-Ok.found (fields_of c.read_byte_record.new.row) e.reads e.ready e.flexible
