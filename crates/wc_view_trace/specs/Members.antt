-- Members of an object of a trace, and the process image in that of a scan. (RFC 8259; the members, and the places of the image, are the
-- profile's own.)
use Rattle.json.specs.Token as json
use Rattle.std.specs.Prelude.{◌≡◌, ◌++◌, List, Result, OnOk, ℕ, [], ◌∷◌, codes, decimal, map, Option, Some, None, ℤ, if◌then◌else◌, zero, suc, ◌+◌, ◌*◌, pos}
use Rattle.std.specs.Fmt.{signed_decimal}
use Rattle.std.specs.Str.{is_utf8}
use Rattle.json.specs.Token.{Token}
use Rattle.json.specs.Written.{Written}
use Rattle.wc_model.specs.declared.kind.Kind.{Kind}
use Rattle.wc_model.specs.declared.value.Value.{Value}
use Rattle.wc_model.specs.declared.value.Value.TheVariants.{Bool as Truth, Dint, Time}
use Rattle.wc_machine.specs.Machines.{MachineState}
use Rattle.wc_view_trace_rows.specs.Rows.{value_held}
use Rattle.wc_view_trace_rows.specs.{IsNumberAt, is_true}

-- these tokens are written after those before, unless it fails; what the writer was given stays
abbrev pub Adds : {A E : Type 0} → Written → Written → Result A E → List Token → Type 0
Adds old new result tokens = OnOk result (new.tokens ≡ old.tokens ++ tokens) × (new.before ≡ old.before)

abbrev pub number_member : List ℕ → ℕ → List Token
number_member member number = json.key member ∷ json.number (decimal number) ∷ []

-- a number with its sign
abbrev pub integer_token : ℤ → Token
integer_token number = json.number (signed_decimal number)

-- an array of such numbers
abbrev pub integers_member : List ℕ → List ℤ → List Token
integers_member member numbers = json.key member ∷ json.begin_array ∷ (map integer_token numbers ++ json.end_array ∷ [])

-- a name of a program; nothing of bytes that are not UTF-8
abbrev pub name_text : List ℕ → List ℕ
name_text name = if is_utf8 name then name else []

abbrev pub name_member : List ℕ → List ℕ → List Token
name_member member name = json.key member ∷ json.string (name_text name) ∷ []

-- a BOOL is true or false, a DINT a number, a TIME its literal
abbrev pub token_of_value : Value → Token
token_of_value (Truth truth) = json.boolean truth
token_of_value (Dint number) = integer_token number
token_of_value (Time time) = json.string (codes "T#" ++ (signed_decimal time ++ codes "ms"))

abbrev pub value_member : List ℕ → Option Kind → ℤ → List Token
value_member member kind number = json.key member ∷ token_of_value (value_held kind number) ∷ []

-- the member of a value that may be missing: none without a number
abbrev pub value_if_any : List ℕ → Option Kind → Option ℤ → List Token
value_if_any member kind None = []
value_if_any member kind (Some number) = value_member member kind number

-- the number of a BOOL as a bit
abbrev pub bit_of : Option ℤ → ℕ
bit_of None = 0
bit_of (Some number) = if is_true number then 1 else 0

abbrev pub IsBit : MachineState → ℕ → ℕ → Type 0
IsBit machine place bit = (held : Option ℤ) × IsNumberAt machine place held × (bit ≡ bit_of held)

-- n has the BOOLs at that many places from one on as its bits, the first as the lowest
abbrev pub HasBits : MachineState → ℕ → ℕ → ℕ → Type 0
HasBits machine place zero n = n ≡ 0
HasBits machine place (suc count) n = (bit : ℕ) × (rest : ℕ) × IsBit machine place bit × HasBits machine (place + 1) count rest × (n ≡ rest * 2 + bit)

-- a weight; 0 if its place has no number
abbrev pub weight_of : Option ℤ → ℤ
weight_of None = pos zero
weight_of (Some number) = number

abbrev pub IsWeight : MachineState → ℕ → ℤ → Type 0
IsWeight machine place weight = (held : Option ℤ) × IsNumberAt machine place held × (weight ≡ weight_of held)

-- The process image that a scan has seen: bit i of the inputs is %IX0.i and of the status %IX1.i; the weights are %ID0, %ID1
-- and %ID2, in units of the last decimal.
pub record Image : Type 0 where
  pub inputs : ℕ
  pub status : ℕ
  pub gross : ℤ
  pub net : ℤ
  pub tare : ℤ

-- it is at the first places of the program's frame: 16 inputs, the 6 bits of the status, and the 3 weights
pub record IsImage (machine : MachineState) (image : Image) : Type 0 where
  pub inputs : HasBits machine 0 16 image.inputs
  pub status : HasBits machine 16 6 image.status
  pub gross : IsWeight machine 22 image.gross
  pub net : IsWeight machine 23 image.net
  pub tare : IsWeight machine 24 image.tare

abbrev pub image_tokens : Image → List Token
image_tokens image =
    number_member (codes "inputs") image.inputs ++ (number_member (codes "status") image.status ++ integers_member (codes "weights") (image.gross ∷ image.net ∷ image.tare ∷ []))

-- the image is written, as it is in the machine
abbrev pub WritesImage : MachineState → List Token → List Token → Type 0
WritesImage machine old new = (image : Image) × IsImage machine image × (new ≡ old ++ image_tokens image)
