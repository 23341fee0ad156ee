use Rattle.std.proofs.Common.{map, drop}
use Rattle.wc_model.specs.Language.Views.{declaration_view, word_view}
use Rattle.wc_names.specs.Spelled.{is_elementary, spelled_in_table, spelled_where}
use Rattle.wc_declare.proofs.SpelledSoFar.{AreSpelledOn}
use Rattle.wc_declare.proofs.RowsSoFar.{CapacityAfter}
use Rattle.wc_declare.proofs.declaration.declare_variables.Given as goal

-- the words that are left follow those so far, and are spelled after them
abbrev pub invariant-loop-word : goal.invariant-loop-word
invariant-loop-word l =
    CapacityAfter l.initial.table l.table (declaration_view l.declaration) l.declared l.width (map word_view l.word-items) (map word_view (drop l.word-index l.word-items))
    × AreSpelledOn (spelled_in_table l.initial.table) (spelled_in_table l.table) (spelled_where (is_elementary l.declared) (drop l.word-index l.word-items)) (spelled_where (is_elementary l.declared) l.word-items)
