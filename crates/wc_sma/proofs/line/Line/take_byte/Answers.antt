use Rattle.wc_sma.proofs.Stepping.{feeds_without, feeds_with, fails_with}
use Rattle.std.proofs.Common.{refl, true}
use Rattle.wc_sma.proofs.line.Line.take_byte.Goals as goal

pub returns-in-Ok-clause-feeds : goal.returns-in-Ok-clause-feeds
returns-in-Ok-clause-feeds g c =
    feeds_with c.args.self.now (record { started = c.after_byte-self.result; failed = c.args.self.now.failed }) c.args.indicator.now c.serve.new.indicator
    (g.W.ByteOut.bytes_taken c.args.writer.now) (g.W.ByteOut.bytes_taken c.serve.new.writer) c.args.byte
    c.in-Some.seen c.command_of.result c.in-Some.ensures c.command_of.ensures c.serve.ensures.adds c.after_byte-self.ensures c.requires c.in-Ok.ensures.whole

pub returns-in-Err-clause-fails : goal.returns-in-Err-clause-fails
returns-in-Err-clause-fails g c =
    fails_with c.args.self.now (record { started = c.after_byte-self.result; failed = true }) c.args.indicator.now c.serve.new.indicator
    (g.W.ByteOut.bytes_taken c.args.writer.now) (g.W.ByteOut.bytes_taken c.serve.new.writer) c.args.byte
    c.in-Some.seen c.command_of.result c.in-Some.ensures c.command_of.ensures c.serve.ensures.adds refl c.in-Err.ensures.prefix

pub returns-in-None-clause-feeds : goal.returns-in-None-clause-feeds
returns-in-None-clause-feeds g c =
    feeds_without c.args.self.now (record { started = c.after_byte-self.result; failed = c.args.self.now.failed }) c.args.indicator.now c.args.indicator.now
    (g.W.ByteOut.bytes_taken c.args.writer.now) (g.W.ByteOut.bytes_taken c.args.writer.now) c.args.byte
    c.after_byte-self.ensures c.requires c.in-None.ensures
