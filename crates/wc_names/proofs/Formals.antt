-- The inputs and outputs of instances, by their places.
use Rattle.std.proofs.Common.{◌≡◌, ℕ, ◌+◌, Bool, true, false, ◌&&◌, List, [], ◌∷◌, Option, Some, None, cond, is_some, length, option_map, refl, sym, ap, ◌∙◌}
use Rattle.wc_model.proofs.Common.{find, if◌then◌else◌, option_and_then, list_all, position_from}
use Rattle.wc_model.specs.Definitions.{formal_named, passes, Member, VariableType, Elementary, Standard, Block, member_named, members_of, same_name, standard_members, elementary_kind, Name, standard_fields, ProgramUnit}
use Rattle.wc_model.specs.declared.block.StandardBlock.{StandardBlock}
use Rattle.wc_model.specs.declared.block.StandardBlock.TheVariants.{RTrig}
use Rattle.wc_model.specs.declared.kind.Kind.{Kind}
use Rattle.wc_model.specs.declared.operator.Direction.{Direction}
use Rattle.wc_model.specs.declared.operator.Direction.TheVariants.{Into, OutOf}
use Rattle.wc_model.specs.declared.source.Section.{Section}
use Rattle.wc_model.specs.declared.source.Section.TheVariants.{Input, Output, Own}
use Rattle.wc_built_in.specs.Fields.{Seen, member_seen}
use Rattle.wc_names.specs.{kind_numbered, row_seen, number_within, numbered_formal, numbered_type, is_allowed_in, Represents, row_named}
use Rattle.wc_names.specs.declared.declared_type.DeclaredType.{DeclaredType}
use Rattle.wc_names.specs.declared.declared_type.DeclaredType.TheVariants as numbered
use Rattle.wc_names.specs.declared.formal.FormalSlot.{FormalSlot as FoundFormal}
use Rattle.wc_names.specs.declared.unit_table.UnitTable.{UnitTable}
use Rattle.wc_names.specs.declared.variable.Variable.{Variable as Row}
use Rattle.wc_names.proofs.Entities.{found_name}
use Rattle.wc_names.proofs.Lookups.{field_of_one, from_row, within_elementary}
use Rattle.wc_names.proofs.MemberTables.{members_by}
use Rattle.wc_names.proofs.Places.{TypeCase, of_block, of_elementary, of_standard, type_case}

-- the input or output among what is found by a name
abbrev pub as_formal : Direction → Option Member → Option Member
as_formal d o = elim o as (λ x. Option Member) [ Some m ↦ (if passes d m.section then Some m else None) | None ↦ None ]

-- what is not a member is not an input
pub no_member : (d : Direction) (before : List ProgramUnit) (type : VariableType) (o : Option Member) → None ≡ option_map member_seen o → None ≡ option_and_then (numbered_formal before type) (as_formal d o)
no_member d before type None e = refl
no_member d before type (Some m) e = cc

pub no_input : (d : Direction) (before : List ProgramUnit) (type : VariableType) (o : Option Member) (seen : Seen) → Some seen ≡ option_map member_seen o → passes d seen.section ≡ false → None ≡ option_and_then (numbered_formal before type) (as_formal d o)
no_input d before type None seen e i = cc
no_input d before type (Some m) seen e i =
    let same : seen ≡ member_seen m = cc in
    let not_in : passes d m.section ≡ false = sym (ap (λ (s : Seen). passes d s.section) same) ∙ i in
    sym (ap (λ b. option_and_then (numbered_formal before type) (if b then Some m else None)) not_in)

-- an instance is not a numbered input
pub no_kind : (d : Direction) (before : List ProgramUnit) (type : VariableType) (o : Option Member) (seen : Seen) → Some seen ≡ option_map member_seen o → passes d seen.section ≡ true → seen.kind ≡ None → None ≡ option_and_then (numbered_formal before type) (as_formal d o)
no_kind d before type None seen e i k = cc
no_kind d before type (Some m) seen e i k =
    let same : seen ≡ member_seen m = cc in
    let in_is : passes d m.section ≡ true = sym (ap (λ (s : Seen). passes d s.section) same) ∙ i in
    let kind : elementary_kind m.type ≡ None = sym (ap (λ (s : Seen). s.kind) same) ∙ k in
    sym (ap (λ b. option_and_then (numbered_formal before type) (if b then Some m else None)) in_is
    ∙ ap (λ o. option_and_then (λ (x : Kind). option_map (λ n. record { kind = x; place = n }) (number_within before type (m.name ∷ []))) o) kind)

-- an input with its kind and place
pub input_by : (d : Direction) (before : List ProgramUnit) (type : VariableType) (name : Name) (o : Option Member) (seen : Seen) (kind : Kind) (place : Option ℕ) → ((m : Member) → o ≡ Some m → m.name ≡ name) → Some seen ≡ option_map member_seen o →
    passes d seen.section ≡ true → seen.kind ≡ Some kind → place ≡ number_within before type (name ∷ []) →
    ◌≡◌ {A = Option FoundFormal} (option_map (λ n. record { kind = kind; place = n }) place) (option_and_then (numbered_formal before type) (as_formal d o))
input_by d before type name None seen kind place n e i k p = cc
input_by d before type name (Some m) seen kind place n e i k p =
    let same : seen ≡ member_seen m = cc in
    let in_is : passes d m.section ≡ true = sym (ap (λ (s : Seen). passes d s.section) same) ∙ i in
    let kind_is : elementary_kind m.type ≡ Some kind = sym (ap (λ (s : Seen). s.kind) same) ∙ k in
    let there : place ≡ number_within before type (m.name ∷ []) = p ∙ ap (λ x. number_within before type (x ∷ [])) (sym (n m refl)) in
    ap (λ (q : Option ℕ). option_map (λ n. record { kind = kind; place = n }) q) there
    ∙ sym (ap (λ b. option_and_then (numbered_formal before type) (if b then Some m else None)) in_is
    ∙ ap (λ o. option_and_then (λ (x : Kind). option_map (λ n. record { kind = x; place = n }) (number_within before type (m.name ∷ []))) o) kind_is)

-- a member has the name that it is found by
pub member_spelled : (ms : List Member) (name : Name) (m : Member) → member_named ms name ≡ Some m → m.name ≡ name
member_spelled ms name m e = found_name ms name m e

-- the number of a place among the fields of a standard block
pub within_fields : (before : List ProgramUnit) (type : VariableType) (block : StandardBlock) (name : Name) → numbered_type before type ≡ Some (numbered.Standard block) →
    position_from (λ f. same_name f.0 name) 0 (standard_fields block) ≡ number_within before type (name ∷ [])
within_fields before type block name e = by (type_case before (Some type) (numbered.Standard block) e)
  where
    by : TypeCase before (Some type) (numbered.Standard block) → position_from (λ f. same_name f.0 name) 0 (standard_fields block) ≡ number_within before type (name ∷ [])
    by (of_elementary k t d) = cc
    by (of_standard b t d) =
        let one : block ≡ b = cc in
        let same : Standard block ≡ type = ap Standard one ∙ (cc) in
        field_of_one (standard_fields block) name ∙ ap (λ x. number_within before x (name ∷ [])) same
    by (of_block n u us t f d) = cc

-- the inputs and outputs of a block of the text are of elementary types
abbrev made : Kind → ℕ → FoundFormal
made kind n = record { kind = kind; place = n }

numbered_by : (before : List ProgramUnit) (type : VariableType) (m : Member) (kind : Kind) (n : ℕ) → elementary_kind m.type ≡ Some kind → number_within before type (m.name ∷ []) ≡ Some n → is_some (numbered_formal before type m) ≡ true
numbered_by before type m kind n k p =
    ap (λ o. is_some (option_and_then (λ x. option_map (made x) (number_within before type (m.name ∷ []))) o)) k ∙ ap (λ q. is_some (option_map (made kind) q)) p

plain_formal : (d : Direction) (section : Section) (declared : DeclaredType) → passes d section ≡ true → is_allowed_in section declared ≡ true → (kind : Kind) × (declared ≡ numbered.Elementary kind)
plain_formal d section (numbered.Elementary kind) i s = (kind, refl)
plain_formal Into Input (numbered.Standard block) i s = cc
plain_formal OutOf Input (numbered.Standard block) i s = cc
plain_formal d Output (numbered.Standard block) i s = cc
plain_formal Into Own (numbered.Standard block) i s = cc
plain_formal OutOf Own (numbered.Standard block) i s = cc
plain_formal Into Input (numbered.Block number) i s = cc
plain_formal OutOf Input (numbered.Block number) i s = cc
plain_formal d Output (numbered.Block number) i s = cc
plain_formal Into Own (numbered.Block number) i s = cc
plain_formal OutOf Own (numbered.Block number) i s = cc

row_there : (o : Option Row) (seen : Seen) → option_map row_seen o ≡ Some seen → (row : Row) × (o ≡ Some row) × (row_seen row ≡ seen)
row_there None seen e = cc
row_there (Some row) seen e = (row, refl, cc)

block_formal : (d : Direction) (units : List UnitTable) (before : List ProgramUnit) (u : ProgramUnit) (h : Represents units before u) (type : VariableType) (number : ℕ) (name : Name) → numbered_type before type ≡ Some (numbered.Block number) →
    (m : Member) → member_named (members_of before type) name ≡ Some m → passes d m.section ≡ true → is_some (numbered_formal before type m) ≡ true
block_formal d units before u h type number name e m found i =
    let b = members_by units before u h type number name e in
    let r = row_there (row_named b.represents.table.names b.represents.table.rows.items name) (member_seen m) (b.members ∙ ap (option_map member_seen) found) in
    let row = r.0 in
    let section : row.section ≡ m.section = ap (λ (s : Seen). s.section) r.2 in
    let kind_is : kind_numbered row.declared ≡ elementary_kind m.type = ap (λ (s : Seen). s.kind) r.2 in
    let f = from_row units b.earlier b.unit b.represents name [] row r.1 in
    let plain = plain_formal d row.section row.declared (ap (passes d) section ∙ i) f.represents in
    let zero = within_elementary b.earlier f.v plain.0 [] (Some 0) (f.declared ∙ ap Some plain.1) (λ k initial. refl) in
    let at = sym (b.places (name ∷ [])) ∙ f.at_is ∙ ap (option_map (λ n. row.first + n)) (sym zero) in
    numbered_by before type m plain.0 (row.first + 0) (sym kind_is ∙ ap kind_numbered plain.1) (ap (λ x. number_within before type (x ∷ [])) (found_name (members_of before type) name m found) ∙ at)

-- and so are those of the standard blocks
standard_numbered : (before : List ProgramUnit) (block : StandardBlock) → list_all (λ m. is_some (numbered_formal before (Standard block) m)) (standard_members block) ≡ true
standard_numbered before RTrig = refl
standard_numbered before other = refl

of_all : (q : Member → Bool) (ms : List Member) (name : Name) (m : Member) → list_all q ms ≡ true → member_named ms name ≡ Some m → q m ≡ true
of_all q [] name m all e = cc
of_all q (x ∷ ms) name m all e = by (same_name x.name name) (q x) refl all e (of_all q ms name m)
  where
    by : (same b : Bool) → q x ≡ b → (b && list_all q ms) ≡ true → cond same (Some x) (find (λ y. same_name y.name name) ms) ≡ Some m → (list_all q ms ≡ true → find (λ y. same_name y.name name) ms ≡ Some m → q m ≡ true) → q m ≡ true
    by same false s a f rest = cc
    by true true s a f rest = let one : m ≡ x = cc in ap q one ∙ s
    by false true s a f rest = rest a f

kept : (d : Direction) (f : Member → Option FoundFormal) (o : Option Member) → ((m : Member) → o ≡ Some m → passes d m.section ≡ true → is_some (f m) ≡ true) → is_some (option_and_then f (as_formal d o)) ≡ is_some (as_formal d o)
kept d f None h = refl
kept d f (Some m) h = by (passes d m.section) (h m refl)
  where
    by : (b : Bool) → (b ≡ true → is_some (f m) ≡ true) → is_some (option_and_then f (if b then Some m else None)) ≡ is_some (if b then Some m else None)
    by true g = g refl
    by false g = refl

-- each input and each output has a number
pub formals_numbered : (d : Direction) (units : List UnitTable) (before : List ProgramUnit) (u : ProgramUnit) (h : Represents units before u) (type : VariableType) (declared : DeclaredType) (name : Name) → numbered_type before type ≡ Some declared →
    is_some (option_and_then (numbered_formal before type) (formal_named d (members_of before type) name)) ≡ is_some (formal_named d (members_of before type) name)
formals_numbered d units before u h (Elementary kind) declared name e = refl
formals_numbered d units before u h (Standard block) declared name e =
    kept d (numbered_formal before (Standard block)) (member_named (standard_members block) name) (λ m found i. of_all (λ x. is_some (numbered_formal before (Standard block) x)) (standard_members block) name m (standard_numbered before block) found)
formals_numbered d units before u h (Block b) declared name e = by (type_case before (Some (Block b)) declared e)
  where
    by : TypeCase before (Some (Block b)) declared → is_some (option_and_then (numbered_formal before (Block b)) (formal_named d (members_of before (Block b)) name)) ≡ is_some (formal_named d (members_of before (Block b)) name)
    by (of_elementary k t d) = cc
    by (of_standard s t d) = cc
    by (of_block n unit us t f k) = kept d (numbered_formal before (Block b)) (member_named (members_of before (Block b)) name) (block_formal d units before u h (Block b) (length us) name (e ∙ ap Some k))
