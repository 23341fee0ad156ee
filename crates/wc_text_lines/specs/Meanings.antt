-- What reserved words represent in a line, and round units and sections. (IEC 61131-3:2003, tables 51 and 52)
use Rattle.std.specs.Prelude.{Option, Some, None}
use Rattle.wc_built_in.specs.declared.keyword.Keyword.{Keyword}
use Rattle.wc_built_in.specs.declared.keyword.Keyword.TheVariants as keyword
use Rattle.wc_laws_grammar.specs.Words.{Operation, Operates, Negates, Jumps, Calls, Returns, Loads, Stores, Applies}
use Rattle.wc_model.specs.declared.source.Section.{Section}
use Rattle.wc_model.specs.declared.source.UnitKind.{UnitKind}

-- the operator that a reserved word is
abbrev pub operation_for : Keyword → Option Operation
operation_for (keyword.Load negated) = Some (Operates (Loads negated))
operation_for (keyword.Store storing) = Some (Operates (Stores storing))
operation_for (keyword.Apply operator) = Some (Operates (Applies operator))
operation_for keyword.Not = Some Negates
operation_for (keyword.Jump condition) = Some (Jumps condition)
operation_for (keyword.Call condition) = Some (Calls condition)
operation_for (keyword.Return condition) = Some (Returns condition)
operation_for _ = None

-- the section that it begins
abbrev pub section_for : Keyword → Option Section
section_for (keyword.SectionStart section) = Some section
section_for _ = None

-- the kind of unit that it begins
abbrev pub unit_for : Keyword → Option UnitKind
unit_for (keyword.UnitStart kind) = Some kind
unit_for _ = None
