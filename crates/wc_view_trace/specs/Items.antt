-- The object of an item. (RFC 8259; its members are the profile's own.)
use Rattle.std.specs.Prelude.{ℕ, Bool, true, false, List, [], ◌∷◌, ◌++◌, codes, Option, Some, None, ℤ}
use Rattle.json.specs.Token as json
use Rattle.json.specs.Token.{Token}
use Rattle.wc_model.specs.declared.block.StandardBlock.{StandardBlock}
use Rattle.wc_model.specs.declared.code.Code.{Code}
use Rattle.wc_model.specs.declared.code.Code.TheVariants.{ArgumentNumber, ArgumentPlace, Call, Standard}
use Rattle.wc_model.specs.declared.kind.Kind.{Kind}
use Rattle.wc_view_trace.specs.Members.{name_member, number_member, value_if_any, value_member}
use Rattle.wc_view_trace_rows.specs.{name_of, Output, outputs_of}
use Rattle.wc_view_trace_rows.specs.declared.item.Item.{Item}
use Rattle.wc_view_trace_rows.specs.declared.legend.Legend.{Legend}
use Rattle.wc_view_trace_rows.specs.declared.notes.Note.{Note}

-- the name that is noted; none without a note
abbrev pub noted_member : List ℕ → Legend → Option Note → List Token
noted_member member legend None = []
noted_member member legend (Some note) = name_member member (name_of legend note)

-- the variable that an item has written, and the value
abbrev pub written_by : Legend → Option Kind → Option Note → Option ℤ → List Token
written_by legend kind _ None = []
written_by legend kind None (Some number) = []
written_by legend kind (Some note) (Some number) = name_member (codes "variable") (name_of legend note) ++ value_member (codes "value") kind number

abbrev pub written_members : Legend → Item → List Token
written_members legend item = written_by legend item.said.written item.said.note item.seen.written

-- the result after a line of a body
abbrev pub result_member : Item → List Token
result_member item = value_if_any (codes "result") item.said.result item.seen.result

-- the outputs that have a number
abbrev pub output_members : List Output → List (Option ℤ) → List Token
output_members [] numbers = []
output_members (output ∷ outputs) [] = []
output_members (output ∷ outputs) (number ∷ numbers) = value_if_any output.name output.kind number ++ output_members outputs numbers

abbrev pub outputs_object : StandardBlock → Item → List Token
outputs_object block item =
    json.key (codes "outputs") ∷ json.begin_object ∷ (output_members (outputs_of block) (item.first ∷ item.second ∷ []) ++ json.end_object ∷ [])

-- after its last call in the scan, the outputs of a standard block
abbrev pub outputs_if_last : StandardBlock → Item → Bool → List Token
outputs_if_last block item false = []
outputs_if_last block item true = outputs_object block item

-- what an item did, by its flat line: the body of a standard block, an item of a call's list, a call, or any other line
abbrev pub done_by : Legend → Item → Code → List Token
done_by legend item (Standard block at) = noted_member (codes "block") legend item.said.note ++ outputs_if_last block item item.is_last_call
done_by legend item (ArgumentNumber target n) = written_members legend item
done_by legend item (ArgumentPlace place target) = written_members legend item
done_by legend item (Call condition skip) = result_member item ++ noted_member (codes "call") legend item.said.note
done_by legend item line = result_member item ++ written_members legend item

-- its line of the text, at what depth of calls it was executed, and what it did
abbrev pub item_tokens : Legend → Item → List Token
item_tokens legend item =
    json.begin_object ∷ (number_member (codes "line") item.seen.source ++ (number_member (codes "depth") item.seen.depth ++ (done_by legend item item.seen.line ++ json.end_object ∷ [])))
