use Rattle.std.proofs.Common.{◌∙◌, ap, subst}
use Rattle.wc_controller.proofs.Allowing.{of_known}
use Rattle.wc_controller.proofs.answering.answer_input.Goals as goal
use Rattle.wc_controller.specs.{StopsForPart, Allows, WritesUpTo, raised}
use Rattle.wc_model.specs.Definitions.{sections_of, AnswersSections}
use Rattle.wc_plate.specs.TomlTable.{table_read}
use Rattle.wc_record.specs.{records_of, fields_reported}

pub returns-in-Ok-sections-clause-writes : goal.returns-in-Ok-sections-clause-writes
returns-in-Ok-sections-clause-writes g c =
    let old = g.W.ByteOut.bytes_taken c.args.writer.now in
    let new = g.W.ByteOut.bytes_taken c.answer_sections.new.writer in
    let why = raised c.answer_sections.result in
    of_known (g.R.ByteIn.bytes_left c.args.reader.now) c.in-Ok.bytes.items (λ bytes. WritesUpTo (Allows bytes) why old new) c.in-Ok.ensures.whole.1
    (subst (λ parts. WritesUpTo (AnswersSections table_read records_of parts) why old new) (c.in-Ok-sections.ensures ∙ ap sections_of c.deref.ensures.value) c.answer_sections.ensures.writes)

pub returns-in-Ok-sections-clause-blames : goal.returns-in-Ok-sections-clause-blames
returns-in-Ok-sections-clause-blames g c =
    let reported = fields_reported c.answer_sections.new.reported in
    let result = c.answer_sections.result in
    of_known (g.R.ByteIn.bytes_left c.args.reader.now) c.in-Ok.bytes.items (λ bytes. StopsForPart reported (sections_of bytes) result) c.in-Ok.ensures.whole.1
    (subst (λ parts. StopsForPart reported parts result) (c.in-Ok-sections.ensures ∙ ap sections_of c.deref.ensures.value) c.answer_sections.ensures.blames)
