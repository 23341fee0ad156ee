use Rattle.wc_record.proofs.HexDigits.{word_read, word_refused}
use Rattle.wc_record.proofs.numbers.inputs_word.Goals as goal

pub returns-in-Ok : goal.returns-in-Ok
returns-in-Ok c =
    word_read c.args.text.now c.decode_to_slice.new.out c.decode_to_slice.result c.from_be_bytes.result c.decode_to_slice.ensures.value tt c.in-Ok.is c.from_be_bytes.ensures

pub returns-in-Err : goal.returns-in-Err
returns-in-Err c =
    word_refused c.args.text.now c.decode_to_slice.new.out c.decode_to_slice.result c.decode_to_slice.ensures.value c.in-Err.field-0 c.in-Err.is
