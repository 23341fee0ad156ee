use Rattle.std.proofs.Common.{length, not, is_some, sym, ap, ◌∙◌, List}
use Rattle.wc_model.specs.Definitions.{is_among, names_block_of, type_words, block_named, name_of, ProgramUnit}
use Rattle.wc_declare.proofs.Typing.{or_second, or_third, some_mapped}
use Rattle.wc_declare.proofs.declaration.is_closed_before.Goals as goal

pub returns-then-is_some : goal.returns-then-is_some
returns-then-is_some c = λ text before h.
    let name = name_of c.args.name.now in
    or_second (is_among type_words name) (is_some (block_named before name)) (not (names_block_of text name)) (sym c.is_type_word.ensures ∙ c.if-is_type_word.false)
    (sym (some_mapped (λ (f : ProgramUnit × List ProgramUnit). length f.1) (block_named before name)) ∙ ap is_some (sym (c.block.ensures text before h)) ∙ sym c.is_some.ensures ∙ c.if-is_some.true)

pub returns : goal.returns
returns c = λ text before h.
    let name = name_of c.args.name.now in
    ap not (c.contains.ensures ∙ h.blocks name)
    ∙ or_third (is_among type_words name) (is_some (block_named before name)) (not (names_block_of text name)) (sym c.is_type_word.ensures ∙ c.if-is_type_word.false)
    (sym (some_mapped (λ (f : ProgramUnit × List ProgramUnit). length f.1) (block_named before name)) ∙ ap is_some (sym (c.block.ensures text before h)) ∙ sym c.is_some.ensures ∙ c.if-is_some.false)
