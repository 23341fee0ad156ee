-- What has a name in the other text, by the number of its type.
use Rattle.wc_model.proofs.Common.{◌≡◌, ℕ, zero, suc, true, false, ◌≤◌, List, [], ◌∷◌, map, length, Option, Some, None, option_map, refl, sym, ap, ◌∙◌, arith, option_and_then, slice_get, length-map, slice_get-map, slice_get_past}
use Rattle.wc_model.specs.Definitions.{positions_after, VariableType, Block, block_named, scope_of_position, Name, Scope, type_of, Content, first_content, ProgramUnit, Text, text_view, unit_view}
use Rattle.wc_model.specs.declared.kind.Kind.{Kind}
use Rattle.wc_model.specs.declared.source.Source.{Source}
use Rattle.wc_model.specs.declared.source.Unit.{Unit as CodeUnit}
use Rattle.wc_names.specs.Numbered.{numbered_type}
use Rattle.wc_names.specs.declared.declared_type.DeclaredType.{DeclaredType}
use Rattle.wc_names.specs.declared.declared_type.DeclaredType.TheVariants as numbered
use Rattle.wc_laws_language.proofs.Places.{Some-same}
use Rattle.wc_laws_language.proofs.Steps.{is_kind-sound}
use Rattle.wc_view_changes.specs.{Found, found_of, has_line, initial_of, has_shape, Plain, IsSide, found_numbered, line_numbered, numbered_side, side_found, side_initial}
use Rattle.wc_text_variables.proofs.BlockUnits.{block_unit}

-- the unit of a number is at that number in the text
unit_there : (before units : List ProgramUnit) (k : ℕ) (scope : Scope) → slice_get (map scope_of_position (positions_after before units)) k ≡ Some scope → slice_get units k ≡ Some scope.unit
unit_there before [] k scope e = cc
unit_there before (unit ∷ units) zero scope e = let mine : Scope = record { before = before; unit = unit } in ap (λ (s : Scope). Some s.unit) (sym (Some-same mine scope e))
unit_there before (unit ∷ units) (suc k) scope e = unit_there (unit ∷ before) units k scope e

-- what has a name is what has its type
side_numbered : (text : Text) (unit : Option ℕ) (side : Option Scope) (name : Name) → IsSide text unit side
    → option_and_then (found_numbered text (side_initial side name)) (numbered_side side name) ≡ side_found side (name ∷ [])
side_numbered text unit None name h = refl
side_numbered text None (Some scope) name h = cc
side_numbered text (Some k) (Some scope) name h = by (type_of scope name)
  where
    there : (block : Name) (o : Option (ProgramUnit × List ProgramUnit)) → block_named scope.before block ≡ o
        → option_and_then (found_numbered text (initial_of scope.unit name)) (option_map (λ found. numbered.Block (length found.1)) o)
        ≡ option_map (λ found. record { type = found.0.spelled; has_line = false; first = None }) o
    there block None e = refl
    there block (Some found) e =
        let as_found : ProgramUnit → Found = λ u. record { type = u.spelled; has_line = false; first = None } in
        ap (option_map as_found) (unit_there [] text (length found.1) (record { before = found.1; unit = found.0 }) (block_unit text k scope block found.0 found.1 h e))

    by : (type : Option VariableType) → option_and_then (found_numbered text (initial_of scope.unit name)) (option_and_then (numbered_type scope.before) type) ≡ found_of scope.before (initial_of scope.unit name) type
    by (Some (Block block)) = there block (block_named scope.before block) refl
    by type = refl

pub found_there : (text : Text) (unit : Option ℕ) (side : Option Scope) (name : Name) (declared : Option DeclaredType) → IsSide text unit side → declared ≡ numbered_side side name
    → option_and_then (found_numbered text (side_initial side name)) declared ≡ side_found side (name ∷ [])
found_there text unit side name declared h e = ap (option_and_then (found_numbered text (side_initial side name))) e ∙ side_numbered text unit side name h

-- how it is spelled
pub spelled_there : (text : Text) (unit : Option ℕ) (side : Option Scope) (name : Name) (declared : Option DeclaredType) (type : DeclaredType) → IsSide text unit side → declared ≡ numbered_side side name
    → declared ≡ Some type → option_map (λ f. f.type) (found_numbered text (side_initial side name) type) ≡ option_map (λ f. f.type) (side_found side (name ∷ []))
spelled_there text unit side name declared type h e is =
    ap (option_map (λ (f : Found). f.type)) (ap (option_and_then (found_numbered text (side_initial side name))) (sym is) ∙ found_there text unit side name declared h e)

-- it is one of what has a line
pub line_there : (text : Text) (unit : Option ℕ) (side : Option Scope) (name : Name) (declared : Option DeclaredType) → IsSide text unit side → declared ≡ numbered_side side name
    → has_line (side_found side (name ∷ [])) ≡ line_numbered declared
line_there text unit side name declared h e = ap has_line (sym (found_there text unit side name declared h e)) ∙ by declared
  where
    blocks : (o : Option ProgramUnit) → has_line (option_map (λ unit. record { type = unit.spelled; has_line = false; first = None }) o) ≡ false
    blocks None = refl
    blocks (Some unit) = refl

    by : (type : Option DeclaredType) → has_line (option_and_then (found_numbered text (side_initial side name)) type) ≡ line_numbered type
    by (Some (numbered.Block number)) = blocks (slice_get text number)
    by type = refl

-- the first value of what keeps its value
pub first_there : (text : Text) (unit : Option ℕ) (side : Option Scope) (name : Name) (declared : Option DeclaredType) (kind : Kind) (content : Content) → IsSide text unit side → declared ≡ numbered_side side name
    → has_shape declared (Plain kind content) ≡ true → Some (first_content kind (side_initial side name)) ≡ option_and_then (λ f. f.first) (side_found side (name ∷ []))
first_there text unit side name declared kind content h e kept = by declared kept ∙ ap (option_and_then (λ (f : Found). f.first)) (found_there text unit side name declared h e)
  where
    by : (type : Option DeclaredType) → has_shape type (Plain kind content) ≡ true → Some (first_content kind (side_initial side name)) ≡ option_and_then (λ f. f.first) (option_and_then (found_numbered text (side_initial side name)) type)
    by (Some (numbered.Elementary k)) kept = ap (λ x. Some (first_content x (side_initial side name))) (sym (is_kind-sound k kind kept))
    by type kept = cc

-- the first value that is written there is that of the unit of that number in the code's tree
pub side_unit : (source : Source) (number : ℕ) (side : Option Scope) (unit : CodeUnit) (name : Name) → IsSide (text_view source) (Some number) side → slice_get source.units.items number ≡ Some unit
    → initial_of (unit_view unit) name ≡ side_initial side name
side_unit source number None unit name h there = absurd h
side_unit source number (Some scope) unit name h there =
    let same : Some (unit_view unit) ≡ Some scope.unit = ap (option_map unit_view) (sym there) ∙ sym (slice_get-map unit_view source.units.items number) ∙ unit_there [] (text_view source) number scope h in
    let is : unit_view unit ≡ scope.unit = cc in
    ap (λ (u : ProgramUnit). initial_of u name) is

-- there is one
pub missing_side : (source : Source) (number : ℕ) (side : Option Scope) (units : List CodeUnit) → IsSide (text_view source) (Some number) side → units ≡ source.units.items → length units ≤ number → ⊥
missing_side source number None units h same past = h
missing_side source number (Some scope) units h same past =
    let counted : length (text_view source) ≡ length source.units.items = length-map source.units.items unit_view in
    let none : None ≡ Some scope.unit = sym (slice_get_past (text_view source) number (omega (arith, counted, ap length same, past))) ∙ unit_there [] (text_view source) number scope h in
    cc
