-- The units of a text that breaks no rule.
use Rattle.wc_model.proofs.Common.{◌≡◌, ℕ, zero, suc, ◌+◌, ◌<◌, ◌≤◌, List, [], ◌∷◌, map, length, Some, sym, ap, subst, ◌∙◌, arith, slice_get, length-map, flat_map}
use Rattle.wc_names.specs.{IsUnit, onto}
use Rattle.wc_text_flat.proofs.Shortness.{in_sequence, lines_short, tokens_fit}
use Rattle.wc_text_flat.specs.Lowered.{flat_length}
use Rattle.wc_model.specs.Definitions.{body_rules, text_body_checks, body_name_checks, text_declaration_checks, unit_checks, unit_declaration_checks, scope_of_position, Scope, ProgramUnit, Text, InBody, line_ends, unit_of, each, ◌then◌, Mark, mark_of_token}
use Rattle.wc_model.specs.Language.Checks.{Check, Position, positions_after}
use Rattle.wc_laws_language.proofs.Places.{Some-same}
use Rattle.wc_laws_language.proofs.Spelled.{spelled_text_nests}
use Rattle.wc_laws_language.proofs.Steps.{clean_first, clean_second}
use Rattle.wc_laws_language.proofs.Texts.{none_broken}
use Rattle.wc_laws_language.specs.SoundnessLaws.{UnitsNestSimply, Clean, NestsSimply}
use Rattle.wc_cost.proofs.LowerableLines.{lines_lowerable}
use Rattle.wc_cost.specs.{IsFaultless, IsSpelled, IsLowerable}
use Rattle.wc_verify.specs.CheckedTexts.{WasRead}

-- the rules of a unit by its number
unit_clean : (rules : Position ProgramUnit → List Check) (before units : List ProgramUnit) → Clean (flat_map rules (positions_after before units)) → (k : ℕ) (scope : Scope) → slice_get (map scope_of_position (positions_after before units)) k ≡ Some scope →
    (following : List ProgramUnit) × Clean (rules (record { before = scope.before; item = scope.unit; following = following }))
unit_clean rules before [] c k scope e = cc
unit_clean rules before (unit ∷ units) c zero scope e =
    let mine : Scope = record { before = before; unit = unit } in
    let position : Position ProgramUnit = record { before = before; item = unit; following = units } in
    (units, subst (λ (s : Scope). Clean (rules (record { before = s.before; item = s.unit; following = units }))) (sym (Some-same mine scope e)) (clean_first (rules position) (flat_map rules (positions_after (unit ∷ before) units)) c))
unit_clean rules before (unit ∷ units) c (suc k) scope e =
    let position : Position ProgramUnit = record { before = before; item = unit; following = units } in
    unit_clean rules (unit ∷ before) units (clean_second (rules position) (flat_map rules (positions_after (unit ∷ before) units)) c) k scope e

-- the number before it
count_before : (before units : List ProgramUnit) (k : ℕ) (scope : Scope) → slice_get (map scope_of_position (positions_after before units)) k ≡ Some scope → length scope.before < length before + length units
count_before before [] k scope e = cc
count_before before (unit ∷ units) zero scope e =
    let mine : Scope = record { before = before; unit = unit } in
    subst (λ (s : Scope). length s.before < length before + length (unit ∷ units)) (sym (Some-same mine scope e)) (omega arith)
count_before before (unit ∷ units) (suc k) scope e = let l = count_before (unit ∷ before) units k scope e in omega (arith, l)

-- the number of flat lines it has, and what it nests
flat_short : (before units : List ProgramUnit) (tokens : List Mark) → each (λ unit. line_ends then unit_of unit) units tokens → (k : ℕ) (scope : Scope) → slice_get (map scope_of_position (positions_after before units)) k ≡ Some scope → flat_length scope.unit.body ≤ length tokens
flat_short before [] tokens s k scope e = cc
flat_short before (unit ∷ units) tokens s zero scope e =
    let mine : Scope = record { before = before; unit = unit } in
    let head = s.begins in
    let body = head.goes_on.goes_on in
    let a = in_sequence tokens s in
    let b = in_sequence s.prefix head in
    let c = in_sequence head.rest head.goes_on in
    let d = in_sequence head.goes_on.rest body in
    let f = lines_short InBody unit.body body.prefix body.begins in
    subst (λ (x : Scope). flat_length x.unit.body ≤ length tokens) (sym (Some-same mine scope e)) (omega (arith, a, b, c, d, f))
flat_short before (unit ∷ units) tokens s (suc k) scope e =
    let a = in_sequence tokens s in
    let b = flat_short (unit ∷ before) units s.rest s.goes_on k scope e in
    omega (arith, a, b)

nests : (before units : List ProgramUnit) → UnitsNestSimply units → (k : ℕ) (scope : Scope) → slice_get (map scope_of_position (positions_after before units)) k ≡ Some scope → NestsSimply scope.unit.body
nests before [] s k scope e = cc
nests before (unit ∷ units) s zero scope e =
    let mine : Scope = record { before = before; unit = unit } in
    subst (λ (x : Scope). NestsSimply x.unit.body) (sym (Some-same mine scope e)) s.0
nests before (unit ∷ units) s (suc k) scope e = nests (unit ∷ before) units s.1 k scope e

-- bytes that are read as a text have tokens that spell it
pub read_is_spelled : (text : Text) → WasRead text → IsSpelled text
read_is_spelled text (bytes, read) =
    let c : length (map mark_of_token read.tokens) ≡ length read.tokens = length-map read.tokens mark_of_token in
    let d = tokens_fit [] bytes read.tokens read.cut in
    let f = read.short in
    record { tokens = map mark_of_token read.tokens; few = omega (arith, c, d, f); spelled = read.spelled; within_limits = read.within_limits }

pub unit_nests : (text : Text) → IsFaultless text → (k : ℕ) (scope : Scope) → IsUnit text k scope → NestsSimply scope.unit.body
unit_nests text h k scope is = nests [] text (spelled_text_nests h.read.tokens text h.read.spelled) k scope is

pub unit_short : (text : Text) → IsFaultless text → (k : ℕ) (scope : Scope) → IsUnit text k scope → flat_length scope.unit.body ≤ 65536
unit_short text h k scope is =
    let s = h.read.spelled.spelled in
    let a = in_sequence h.read.tokens s in
    let b = flat_short [] text s.prefix s.begins k scope is in
    let f = h.read.few in
    omega (arith, a, b, f)

pub unit_lowerable : (text : Text) → IsFaultless text → (k : ℕ) (scope : Scope) → IsUnit text k scope → IsLowerable scope scope.unit.body
unit_lowerable text h k scope is =
    let bodies = unit_clean (λ (position : Position ProgramUnit). body_rules (record { before = position.before; unit = position.item })) [] text (none_broken (text_body_checks text) h.sound) k scope is in
    let names = unit_clean (λ (position : Position ProgramUnit). unit_checks text position.before position.item) [] text (none_broken (text_declaration_checks text) h.declared) k scope is in
    let own = clean_second (unit_declaration_checks text scope.before scope.unit) (body_name_checks scope.unit scope.unit.body) names.1.1.1 in
    let few = count_before [] text k scope is in
    let most = h.read.within_limits.units in
    lines_lowerable scope scope.unit.body [] (omega (arith, few, most)) (unit_short text h k scope is) own bodies.1

-- a unit between those before it and those after
at_split : (before units : List ProgramUnit) (k : ℕ) → slice_get (map scope_of_position (positions_after [] (onto before units))) (length before + k) ≡ slice_get (map scope_of_position (positions_after before units)) k
at_split [] units k = ap (slice_get (map scope_of_position (positions_after [] units))) (let a : 0 + k ≡ k = omega arith in a)
at_split (unit ∷ before) units k =
    ap (slice_get (map scope_of_position (positions_after [] (onto before (unit ∷ units))))) (let a : length (unit ∷ before) + k ≡ length before + suc k = omega arith in a) ∙ at_split before (unit ∷ units) (suc k)

pub unit_at : (text : Text) (before : List ProgramUnit) (unit : ProgramUnit) (units : List ProgramUnit) (k : ℕ) → onto before (unit ∷ units) ≡ text → length before ≡ k → IsUnit text k (record { before = before; unit = unit })
unit_at text before unit units k e l =
    ap (λ (t : Text). slice_get (map scope_of_position (positions_after [] t)) k) (sym e)
    ∙ ap (slice_get (map scope_of_position (positions_after [] (onto before (unit ∷ units))))) (let a : k ≡ length before + 0 = omega (arith, l) in a) ∙ at_split before (unit ∷ units) 0
