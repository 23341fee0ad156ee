-- The reserved words, each with what it represents. (IEC 61131-3:2003, tables 10, 51, 52 and C.2; the order is the profile's own.)
use Rattle.std.specs.Prelude.{ℕ, ◌==◌, true, false, List, [], ◌∷◌, codes, filter, length, nat_lt, Option, Some, None}
use Rattle.wc_model.specs.Definitions.{Name, name_of, unit_word, end_word, section_word, end_var, truth_word, load_word, store_word, operator_word, not_word, jump_word, call_word, return_word, kind_word, block_word}
use Rattle.wc_model.specs.declared.block.StandardBlock.{StandardBlock}
use Rattle.wc_model.specs.declared.block.StandardBlock.TheVariants as blocks
use Rattle.wc_model.specs.declared.kind.Kind.{Kind}
use Rattle.wc_model.specs.declared.kind.Kind.TheVariants as kinds
use Rattle.wc_model.specs.declared.operator.Condition.TheVariants.{Always, IfTrue, IfFalse}
use Rattle.wc_model.specs.declared.operator.Operator.{Operator}
use Rattle.wc_model.specs.declared.operator.Operator.TheVariants as operators
use Rattle.wc_model.specs.declared.operator.StoreKind.TheVariants as storings
use Rattle.wc_model.specs.declared.source.Section.TheVariants as sections
use Rattle.wc_model.specs.declared.source.UnitKind.TheVariants as units
use Rattle.wc_built_in.specs.declared.keyword.Keyword.{Keyword}
use Rattle.wc_built_in.specs.declared.keyword.Keyword.TheVariants.{Load, Store, Apply, Not, Jump, Call, Return, UnitStart, UnitEnd, SectionStart, SectionEnd, Truth, Elementary, Standard, Kept}
use Rattle.wc_built_in.specs.declared.keywords.KeywordRow.{KeywordRow}

-- a word with what it represents
abbrev pub keyword_row : KeywordRow → Name × Keyword
keyword_row row = (name_of row.word.now, row.keyword)

-- an operator that a parenthesis may defer, a type, and a word that is kept, each under its word
abbrev pub applied : Operator → Name × Keyword
applied operator = (operator_word operator, Apply operator)

abbrev pub elementary : Kind → Name × Keyword
elementary kind = (kind_word kind, Elementary kind)

abbrev pub standard : StandardBlock → Name × Keyword
standard block = (block_word block, Standard block)

-- all reserved words
abbrev pub keywords : List (Name × Keyword)
keywords =
    (load_word false, Load false) ∷ (store_word storings.Result, Store storings.Result) ∷ applied operators.And
    ∷ applied operators.Or ∷ (store_word storings.Set, Store storings.Set)
    ∷ (store_word storings.Reset, Store storings.Reset) ∷ applied operators.Gt ∷ applied operators.Ge
    ∷ applied operators.Eq ∷ applied operators.Ne ∷ applied operators.Le ∷ applied operators.Lt ∷ standard blocks.Sr
    ∷ standard blocks.Rs ∷ standard blocks.Tp ∷ (codes "at", Kept) ∷ applied operators.Orn ∷ applied operators.Xor
    ∷ (load_word true, Load true) ∷ (store_word storings.Negation, Store storings.Negation) ∷ (not_word, Not)
    ∷ applied operators.Add ∷ applied operators.Sub ∷ applied operators.Mul ∷ applied operators.Div
    ∷ applied operators.Mod ∷ (jump_word Always, Jump Always) ∷ (call_word Always, Call Always)
    ∷ (return_word Always, Return Always) ∷ (section_word sections.Own, SectionStart sections.Own)
    ∷ standard blocks.Ton ∷ standard blocks.Tof ∷ standard blocks.Ctu ∷ elementary kinds.Dint ∷ elementary kinds.Bool
    ∷ elementary kinds.Time ∷ applied operators.Andn ∷ applied operators.Xorn ∷ (jump_word IfTrue, Jump IfTrue)
    ∷ (call_word IfTrue, Call IfTrue) ∷ (return_word IfTrue, Return IfTrue) ∷ (truth_word true, Truth true)
    ∷ (jump_word IfFalse, Jump IfFalse) ∷ (call_word IfFalse, Call IfFalse) ∷ (return_word IfFalse, Return IfFalse)
    ∷ (truth_word false, Truth false)
    ∷ (end_var, SectionEnd) ∷ (section_word sections.Input, SectionStart sections.Input)
    ∷ (section_word sections.Output, SectionStart sections.Output)
    ∷ (unit_word units.FunctionBlock, UnitStart units.FunctionBlock)
    ∷ (end_word units.FunctionBlock, UnitEnd units.FunctionBlock) ∷ (unit_word units.Program, UnitStart units.Program)
    ∷ (end_word units.Program, UnitEnd units.Program) ∷ standard blocks.RTrig ∷ (codes "function", Kept)
    ∷ (codes "end_function", Kept) ∷ (codes "var_in_out", Kept) ∷ (codes "var_global", Kept)
    ∷ (codes "var_external", Kept) ∷ (codes "var_temp", Kept) ∷ (codes "constant", Kept) ∷ (codes "retain", Kept) ∷ []

-- the rows of words of that many letters, and of words of more
abbrev pub of_length : {X : Type 0} → ℕ → List (Name × X) → List (Name × X)
of_length letters rows = filter (λ row. length row.0 == letters) rows

abbrev pub longer_than : {X : Type 0} → ℕ → List (Name × X) → List (Name × X)
longer_than letters rows = filter (λ row. nat_lt letters (length row.0)) rows

-- the elementary type that a word represents, and the standard block
abbrev pub elementary_for : Keyword → Option Kind
elementary_for (Elementary kind) = Some kind
elementary_for _ = None

abbrev pub standard_for : Keyword → Option StandardBlock
standard_for (Standard block) = Some block
standard_for _ = None

-- a word that represents a type
abbrev pub type_for : Keyword → Option Unit
type_for (Elementary kind) = Some tt
type_for (Standard block) = Some tt
type_for _ = None
