-- The row of an item. (The profile's own; literals and the outputs of standard blocks are those of IEC 61131-3:2003, 2.2 and 2.5.2.3.)
use Rattle.std.specs.Prelude.{ℕ, zero, suc, Bool, true, false, List, [], ◌∷◌, ◌++◌, map, codes, Option, Some, None, is_some, option_map, ℤ, pos, if◌then◌else◌, flat_map, zip}
use Rattle.std.specs.Char.{to_ascii_uppercase}
use Rattle.std.specs.Option.{option_map_or}
use Rattle.wc_view_changes.specs.ChangeReport.{content_text}
use Rattle.wc_model.specs.Definitions.{Member, standard_members, elementary_kind}
use Rattle.wc_model.specs.Language.Store.{Plain}
use Rattle.wc_model.specs.declared.block.StandardBlock.{StandardBlock}
use Rattle.wc_model.specs.declared.code.Code.{Code}
use Rattle.wc_model.specs.declared.code.Code.TheVariants.{ArgumentNumber, ArgumentPlace, Standard, Body}
use Rattle.wc_model.specs.declared.kind.Kind.{Kind}
use Rattle.wc_model.specs.declared.kind.Kind.TheVariants.{Bool as KindBool, Time as KindTime}
use Rattle.wc_model.specs.declared.source.Section.{Section}
use Rattle.wc_model.specs.declared.source.Section.TheVariants as sections
use Rattle.wc_model.specs.declared.value.Value.{Value}
use Rattle.wc_model.specs.declared.value.Value.TheVariants.{Bool as Truth, Dint, Time}
use Rattle.wc_view_trace_rows.specs.Columns.{prefix, row}
use Rattle.wc_view_trace_rows.specs.Legends.{line_of, name_of}
use Rattle.wc_view_trace_rows.specs.declared.item.Item.{Item}
use Rattle.wc_view_trace_rows.specs.declared.legend.Legend.{Legend}
use Rattle.wc_view_trace_rows.specs.declared.notes.Note.{Note}
use Rattle.wc_view_trace_rows.specs.declared.outputs.BlockOutput.{BlockOutput}

-- the value of a kind whose number a store keeps: 0 is FALSE, and every other number of a BOOL is TRUE; a DINT if the kind is not
-- known
abbrev pub is_true : ℤ → Bool
is_true (pos zero) = false
is_true number = true

abbrev pub value_held : Option Kind → ℤ → Value
value_held (Some KindBool) number = Truth (is_true number)
value_held (Some KindTime) number = Time number
value_held kind number = Dint number

-- it as a literal of the language
abbrev pub literal : Option Kind → ℤ → List ℕ
literal kind number = content_text (Plain (value_held kind number))

-- an output of a standard block: which place of an instance is its own, counted from 0, its name in capital letters, and its kind
pub record Output : Type 0 where
  pub number : ℕ
  pub name : List ℕ
  pub kind : Option Kind

abbrev pub output_view : BlockOutput → Output
output_view output = record { number = output.number; name = output.name.now; kind = Some output.kind }

abbrev pub is_output : Section → Bool
is_output sections.Output = true
is_output section = false

-- the outputs among members, with n members before them
abbrev pub outputs_from : ℕ → List Member → List Output
outputs_from n [] = []
outputs_from n (m ∷ members) =
    if is_output m.section then record { number = n; name = map to_ascii_uppercase m.name; kind = elementary_kind m.type } ∷ outputs_from (suc n) members else outputs_from (suc n) members

abbrev pub outputs_of : StandardBlock → List Output
outputs_of block = outputs_from 0 (standard_members block)

-- a space, the name, `=` and the value; nothing of an output without a number
abbrev pub output_text : Output → Option ℤ → List ℕ
output_text output number = option_map_or (λ n. 32 ∷ (output.name ++ 61 ∷ literal output.kind n)) number []

abbrev pub outputs_text : List Output → List (Option ℤ) → List ℕ
outputs_text outputs numbers = flat_map (λ p. output_text p.0 p.1) (zip outputs numbers)

-- an item of a call's list, and a line that is a part of a call
abbrev pub is_argument : Code → Bool
is_argument (ArgumentNumber target n) = true
is_argument (ArgumentPlace place target) = true
is_argument line = false

abbrev pub is_part : Code → Bool
is_part (Standard block at) = true
is_part (Body unit at) = true
is_part line = is_argument line

-- the number of a line of a body
abbrev pub number_shown : Code → ℕ → Option ℕ
number_shown line source = if is_part line then None else Some source

-- the result after a line of a body
abbrev pub result_cell : Item → Option (List ℕ)
result_cell item = if is_part item.seen.line then None else option_map (literal item.said.result) item.seen.result

-- what is called or written to
abbrev pub noted_name : Legend → Option Note → List ℕ
noted_name legend note = option_map_or (name_of legend) note []

-- the outputs of a standard block after its last call of a scan
abbrev pub outputs_shown : Code → Bool → List (Option ℤ) → List ℕ
outputs_shown (Standard block at) true numbers = outputs_text (outputs_of block) numbers
outputs_shown line is_last numbers = []

-- a name, and the value that is written; or that the block is called
abbrev pub written_text : Legend → Item → Option ℤ → List ℕ
written_text legend item (Some number) = noted_name legend item.said.note ++ (codes " := " ++ literal item.said.written number)
written_text legend item None =
    noted_name legend item.said.note ++ (codes "()" ++ outputs_shown item.seen.line item.is_last_call (item.first ∷ item.second ∷ []))

abbrev pub has_written : Code → Option ℤ → Bool
has_written (Standard block at) written = true
has_written line written = is_some written

abbrev pub written_cell : Legend → Item → Option (List ℕ)
written_cell legend item = if has_written item.seen.line item.seen.written then Some (written_text legend item item.seen.written) else None

-- the row of an item: its line as the text has it, the result, and what is written
abbrev pub row_of : Legend → Item → List ℕ
row_of legend item =
    row (prefix (number_shown item.seen.line item.seen.source) item.seen.depth (line_of legend item.seen.source)) (result_cell item) (written_cell legend item)
