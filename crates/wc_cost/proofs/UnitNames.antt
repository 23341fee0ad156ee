-- The units of a text that is read by their numbers; their names are ASCII, as they are spelled.
use Rattle.wc_model.proofs.Common.{◌≡◌, ◌<◌, ℕ, zero, suc, List, [], ◌∷◌, map, length, Some, option_map, ap, subst, sym, ◌∙◌, arith, slice_get, length-map, slice_get-map, IsAscii}
use Rattle.wc_text_flat.proofs.Programs.{codes_length}
use Rattle.wc_text_flat.specs.Lowered.{AreLowered}
use Rattle.wc_model.specs.Definitions.{ProgramUnit, Text, text_view, unit_view, IsNameOf, line_ends, unit_of, Sequence, each, one, ◌then◌, Mark, IsRead, mark_of_token}
use Rattle.wc_model.specs.declared.code.Code.{Code}
use Rattle.wc_model.specs.declared.source.Source.{Source}
use Rattle.wc_model.specs.declared.source.Unit.{Unit as CodeUnit}
use Rattle.wc_laws_language.proofs.Places.{Some-same}
use Rattle.wc_laws_grammar.proofs.Ascii.{AreAscii, IsAsciiSymbol, ascii_parts, tokens_ascii}

-- the two parts of a sequence
parts : {A B : List Mark → Type 0} (tokens : List Mark) (s : Sequence A B tokens) → AreAscii tokens → AreAscii s.prefix × AreAscii s.rest
parts tokens s h = ascii_parts s.prefix s.rest (subst AreAscii s.whole h)

-- the token of a unit's name
name_ascii : (unit : ProgramUnit) (tokens : List Mark) → one (IsNameOf unit) tokens → AreAscii tokens → IsAscii unit.spelled
name_ascii unit [] o h = absurd o
name_ascii unit (token ∷ []) o h = subst IsAsciiSymbol o.0 h.0
name_ascii unit (token ∷ next ∷ more) o h = absurd o

units_ascii : (units : List ProgramUnit) (tokens : List Mark) → each (λ unit. line_ends then unit_of unit) units tokens → AreAscii tokens → (k : ℕ) (unit : ProgramUnit) → slice_get units k ≡ Some unit → IsAscii unit.spelled
units_ascii [] tokens s h k unit e = cc
units_ascii (first ∷ units) tokens s h zero unit e =
    let whole = (parts tokens s h).0 in
    let following = (parts s.prefix s.begins whole).1 in
    let head = (parts s.begins.rest s.begins.goes_on following).0 in
    let opens = s.begins.goes_on.begins in
    let named = (parts opens.rest opens.goes_on (parts s.begins.goes_on.prefix opens head).1).0 in
    subst (λ (u : ProgramUnit). IsAscii u.spelled) (sym (Some-same first unit e)) (name_ascii first opens.goes_on.prefix opens.goes_on.begins named)
units_ascii (first ∷ units) tokens s h (suc k) unit e = units_ascii units s.rest s.goes_on (parts tokens s h).1 k unit e

pub unit_ascii : (bytes : List ℕ) (text : Text) → IsRead bytes text → (k : ℕ) (unit : ProgramUnit) → slice_get text k ≡ Some unit → IsAscii unit.spelled
unit_ascii bytes text read k unit e =
    let marks : List Mark = map mark_of_token read.tokens in
    let s = read.spelled.spelled in
    units_ascii text s.prefix s.begins (parts marks s (tokens_ascii [] bytes read.tokens read.cut)).0 k unit e

-- a unit of the text by its number, in the tree that was read
pub unit_within : (source given : Source) (codes : List (List Code)) (k : ℕ) → AreLowered (text_view source) codes → given ≡ source → k < length codes → k < length given.units.items
unit_within source given codes k lowered same below =
    let counted = codes_length [] (text_view source) codes lowered in
    let viewed = length-map source.units.items unit_view in
    let s : length given.units.items ≡ length source.units.items = ap (λ (x : Source). length x.units.items) same in
    omega (arith, below, counted, viewed, s)

pub unit_found : (source given : Source) (k : ℕ) (unit : CodeUnit) → given ≡ source → slice_get given.units.items k ≡ Some unit → slice_get (text_view source) k ≡ Some (unit_view unit)
unit_found source given k unit same there =
    ap (λ (x : Source). slice_get (text_view x) k) (sym same) ∙ (slice_get-map unit_view given.units.items k ∙ ap (option_map unit_view) there)
