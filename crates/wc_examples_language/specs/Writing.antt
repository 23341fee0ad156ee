-- Short forms for the trees of the examples. Names are written in small letters, as trees have them.
use Rattle.std.specs.Prelude.{ℕ, true, false, List, [], ◌∷◌, Some, None, ℤ, pos, codes}
use Prim.Native.String.{String}
use Rattle.wc_model.specs.Language.Tree.{Word, Term, Constant, Address, Variable, Field, Assignment, Step, Load, Store, Apply, Jump, Call, Lines, Plain, Declaration, ProgramUnit}
use Rattle.wc_model.specs.declared.operator.Condition.{Condition}
use Rattle.wc_model.specs.declared.operator.Condition.TheVariants.{Always}
use Rattle.wc_model.specs.declared.operator.Direction.TheVariants.{Into, OutOf}
use Rattle.wc_model.specs.declared.operator.Operator.{Operator}
use Rattle.wc_model.specs.declared.operator.StoreKind.TheVariants.{Result, Negation}
use Rattle.wc_model.specs.declared.source.Section.{Section}
use Rattle.wc_model.specs.declared.source.UnitKind.TheVariants.{Program}
use Rattle.wc_model.specs.declared.value.Value.TheVariants.{Bool as Truth, Dint, Time}

-- a name on a line
abbrev pub word : ℕ → String → Word
word line name = record { line = line; name = codes name }

-- operands
abbrev pub at : ℕ → String → Term
at line text = Address (word line text)

abbrev pub var : String → Term
var name = Variable (codes name)

abbrev pub dot : String → String → Term
dot instance field = Field (codes instance) (codes field)

abbrev pub num : ℤ → Term
num n = Constant (Dint n)

abbrev pub ms : ℕ → Term
ms n = Constant (Time (pos n))

abbrev pub yes' : Term
yes' = Constant (Truth true)

-- lines: each with its number, and then the rest
abbrev pub ld : ℕ → Term → Lines → Lines
ld line term rest = Plain None line (Load false term) rest

abbrev pub ldn : ℕ → Term → Lines → Lines
ldn line term rest = Plain None line (Load true term) rest

abbrev pub st : ℕ → Term → Lines → Lines
st line term rest = Plain None line (Store Result term) rest

abbrev pub stn : ℕ → Term → Lines → Lines
stn line term rest = Plain None line (Store Negation term) rest

abbrev pub op : ℕ → Operator → Term → Lines → Lines
op line operator term rest = Plain None line (Apply operator term) rest

abbrev pub jump : ℕ → Condition → String → Lines → Lines
jump line condition label rest = Plain None line (Jump condition (codes label)) rest

abbrev pub call : ℕ → String → List Assignment → Lines → Lines
call line instance arguments rest = Plain None line (Call Always (codes instance) arguments) rest

-- `input := value` and `output => target` in a call's list
abbrev pub arg : String → Term → Assignment
arg input value = record { direction = Into; formal = codes input; actual = value }

abbrev pub out : String → Term → Assignment
out output target = record { direction = OutOf; formal = codes output; actual = target }

-- a line of the label and a step
abbrev pub labelled : ℕ → String → Step → Lines → Lines
labelled line label step rest = Plain (Some (word line label)) line step rest

-- a declaration of one name, with no initial value
abbrev pub declares : Section → ℕ → String → String → Declaration
declares section line name type = record { section = section; names = word line name ∷ []; type_name = word line type; initial = None }

-- the program P, on line 1
abbrev pub program : List Declaration → Lines → ProgramUnit
program declarations body = record { kind = Program; line = 1; name = word 1 "p"; spelled = codes "P"; declarations = declarations; body = body }
