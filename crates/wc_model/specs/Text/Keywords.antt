-- The words of the language, in small letters (IEC 61131-3:2003, tables 10, 51, 52 and C.2), and the groups of those that are
-- reserved. Letter case is not significant.
use Rattle.std.specs.Prelude.{Bool, true, false, List, [], ◌∷◌, ◌++◌, map, codes}
use Rattle.wc_model.specs.Language.Names.{Name}
use Rattle.wc_model.specs.declared.block.StandardBlock.{StandardBlock}
use Rattle.wc_model.specs.declared.block.StandardBlock.TheVariants.{RTrig, Sr, Rs, Ctu, Ton, Tof, Tp}
use Rattle.wc_model.specs.declared.kind.Kind.{Kind}
use Rattle.wc_model.specs.declared.kind.Kind.TheVariants.{Bool as KindBool, Dint as KindDint, Time as KindTime}
use Rattle.wc_model.specs.declared.operator.Condition.{Condition}
use Rattle.wc_model.specs.declared.operator.Condition.TheVariants.{Always, IfTrue, IfFalse}
use Rattle.wc_model.specs.declared.operator.Operator.{Operator}
use Rattle.wc_model.specs.declared.operator.Operator.TheVariants.{And, Andn, Or, Orn, Xor, Xorn, Add, Sub, Mul, Div, Mod, Gt, Ge, Eq, Ne, Le, Lt}
use Rattle.wc_model.specs.declared.operator.StoreKind.{StoreKind}
use Rattle.wc_model.specs.declared.operator.StoreKind.TheVariants.{Result, Negation, Set, Reset}
use Rattle.wc_model.specs.declared.source.Section.{Section}
use Rattle.wc_model.specs.declared.source.Section.TheVariants.{Input, Output, Own}
use Rattle.wc_model.specs.declared.source.UnitKind.{UnitKind}
use Rattle.wc_model.specs.declared.source.UnitKind.TheVariants.{FunctionBlock, Program}

-- the word that begins a unit
abbrev pub unit_word : UnitKind → Name
unit_word FunctionBlock = codes "function_block"
unit_word Program = codes "program"

-- the word that ends it
abbrev pub end_word : UnitKind → Name
end_word FunctionBlock = codes "end_function_block"
end_word Program = codes "end_program"

-- the word that begins a section of declarations
abbrev pub section_word : Section → Name
section_word Input = codes "var_input"
section_word Output = codes "var_output"
section_word Own = codes "var"

-- the word that ends each section
abbrev pub end_var : Name
end_var = codes "end_var"

-- the word that is a literal of BOOL
abbrev pub truth_word : Bool → Name
truth_word true = codes "true"
truth_word false = codes "false"

-- LD, and LDN if negated
abbrev pub load_word : Bool → Name
load_word false = codes "ld"
load_word true = codes "ldn"

-- ST, STN, S, R
abbrev pub store_word : StoreKind → Name
store_word Result = codes "st"
store_word Negation = codes "stn"
store_word Set = codes "s"
store_word Reset = codes "r"

-- the operators that a parenthesis may defer
abbrev pub operator_word : Operator → Name
operator_word And = codes "and"
operator_word Andn = codes "andn"
operator_word Or = codes "or"
operator_word Orn = codes "orn"
operator_word Xor = codes "xor"
operator_word Xorn = codes "xorn"
operator_word Add = codes "add"
operator_word Sub = codes "sub"
operator_word Mul = codes "mul"
operator_word Div = codes "div"
operator_word Mod = codes "mod"
operator_word Gt = codes "gt"
operator_word Ge = codes "ge"
operator_word Eq = codes "eq"
operator_word Ne = codes "ne"
operator_word Le = codes "le"
operator_word Lt = codes "lt"

-- NOT
abbrev pub not_word : Name
not_word = codes "not"

-- JMP, JMPC, JMPCN
abbrev pub jump_word : Condition → Name
jump_word Always = codes "jmp"
jump_word IfTrue = codes "jmpc"
jump_word IfFalse = codes "jmpcn"

-- CAL, CALC, CALCN
abbrev pub call_word : Condition → Name
call_word Always = codes "cal"
call_word IfTrue = codes "calc"
call_word IfFalse = codes "calcn"

-- RET, RETC, RETCN
abbrev pub return_word : Condition → Name
return_word Always = codes "ret"
return_word IfTrue = codes "retc"
return_word IfFalse = codes "retcn"

-- the elementary types
abbrev pub kind_word : Kind → Name
kind_word KindBool = codes "bool"
kind_word KindDint = codes "dint"
kind_word KindTime = codes "time"

-- the standard function blocks
abbrev pub block_word : StandardBlock → Name
block_word RTrig = codes "r_trig"
block_word Sr = codes "sr"
block_word Rs = codes "rs"
block_word Ctu = codes "ctu"
block_word Ton = codes "ton"
block_word Tof = codes "tof"
block_word Tp = codes "tp"

-- the operators with an operand
abbrev pub operator_words : List Name
operator_words =
    load_word false ∷ load_word true ∷ store_word Result ∷ store_word Negation ∷ store_word Set ∷ store_word Reset
    ∷ map operator_word (And ∷ Andn ∷ Or ∷ Orn ∷ Xor ∷ Xorn ∷ Add ∷ Sub ∷ Mul ∷ Div ∷ Mod ∷ Gt ∷ Ge ∷ Eq ∷ Ne ∷ Le ∷ Lt ∷ [])

-- the other instructions: NOT, returns, jumps and calls
abbrev pub other_words : List Name
other_words =
    not_word ∷ map return_word (Always ∷ IfTrue ∷ IfFalse ∷ []) ++ map jump_word (Always ∷ IfTrue ∷ IfFalse ∷ [])
    ++ map call_word (Always ∷ IfTrue ∷ IfFalse ∷ [])

-- the words round units and sections
abbrev pub unit_words : List Name
unit_words =
    unit_word FunctionBlock ∷ end_word FunctionBlock ∷ unit_word Program ∷ end_word Program
    ∷ section_word Input ∷ section_word Output ∷ section_word Own ∷ end_var ∷ []

-- the elementary types
abbrev pub kind_words : List Name
kind_words = map kind_word (KindBool ∷ KindDint ∷ KindTime ∷ [])

-- the values of BOOL
abbrev pub truth_words : List Name
truth_words = truth_word true ∷ truth_word false ∷ []

-- the standard function blocks
abbrev pub block_words : List Name
block_words = map block_word (Ton ∷ Tof ∷ Tp ∷ Ctu ∷ RTrig ∷ Sr ∷ Rs ∷ [])

-- words that the standard keeps for what this language leaves out
abbrev pub kept_words : List Name
kept_words =
    map codes ("function" ∷ "end_function" ∷ "var_in_out" ∷ "var_global" ∷ "var_external" ∷ "var_temp" ∷ "constant" ∷ "retain" ∷ "at" ∷ [])
