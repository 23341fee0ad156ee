use Rattle.std.proofs.Common.{map, drop}
use Rattle.wc_model.specs.Language.Views.{word_view}
use Rattle.wc_declare.proofs.NamesSoFar.{IsAfterRecords}
use Rattle.wc_declare.proofs.declaration.declare_names.Given as goal

-- the words that are left follow those so far
abbrev pub invariant-loop-word : goal.invariant-loop-word
invariant-loop-word l = IsAfterRecords l.initial.names l.names (map word_view l.word-items) (map word_view (drop l.word-index l.word-items))
