-- What the cost of a whole text gives.
use Rattle.wc_model.proofs.Common.{◌≡◌, ℕ, ◌-◌, false, List, [], ◌∷◌, ◌++◌, map, length, Option, Some, None, Result, Err, Vec, Global, refl, sym, ap, subst, ◌∙◌, arith, if◌then◌else◌, option_and_then, reverse, slice_get}
use Rattle.std.proofs.lemmas.List.{append-nil, length-map, length-reverse, reverse-reverse}
use Rattle.wc_names.specs.{IsUnit, AreTables, onto}
use Rattle.wc_names.specs.declared.kept.Tables.{Tables}
use Rattle.wc_text_flat.proofs.Programs.{codes_length}
use Rattle.wc_text_flat.proofs.Texts.{newest}
use Rattle.wc_text_flat.specs.{frame_of_reversed, frame_of_text, AreLowered}
use Rattle.wc_model.specs.Definitions.{lead_from, path_lead, same_lead, direct_lead, carried_number, carried_within, number_if_kept, number_if_kept_within, is_block, frame_of, place_number, Scope, Location, Direct, Path, Content, program_frame, unit_places, ProgramUnit, Text, text_view, IsProgramLast}
use Rattle.wc_model.specs.declared.fault.Fault.{Fault}
use Rattle.wc_model.specs.declared.fault.Fault.TheVariants.{Refused, Memory}
use Rattle.wc_model.specs.declared.source.Source.{Source}
use Rattle.wc_laws_language.proofs.Texts.{turned}
use Rattle.wc_cost.proofs.TextUnits.{unit_at}
use Rattle.wc_cost.specs.{IsCosted, codes_of, IsFaultless, LoadsUnits}
use Rattle.wc_cost.specs.declared.units.LoweredUnit.{LoweredUnit}

-- what is said of a text is said of the same one
pub of_same : (r : Result (Vec LoweredUnit Global) Fault) (t tables : Tables) (s source : Source) → t ≡ tables → s ≡ source → (AreTables t (text_view s) → IsFaultless (text_view s) → LoadsUnits (text_view s) r) → AreTables tables (text_view source) → IsFaultless (text_view source) → LoadsUnits (text_view source) r
of_same r t tables s source e f h =
    subst (λ (x : Tables). AreTables x (text_view source) → IsFaultless (text_view source) → LoadsUnits (text_view source) r) e
    (subst (λ (x : Source). AreTables t (text_view x) → IsFaultless (text_view x) → LoadsUnits (text_view x) r) f h)

pub refused : (source : Source) (fault : Fault) → LoadsUnits (text_view source) (Err fault) → IsCosted (text_view source) source (Err fault)
refused source (Refused number place) h = h
refused source Memory h = h

-- units turned round before others
onto_reverse : (before units : List ProgramUnit) → onto before units ≡ reverse before ++ units
onto_reverse [] units = refl
onto_reverse (unit ∷ before) units = onto_reverse before (unit ∷ units) ∙ turned unit before units

-- the last unit, and its frame
pub record Last (text : Text) (n : ℕ) : Type 0 where
  pub scope : Scope
  pub is : IsUnit text n scope
  pub frame : frame_of scope ≡ frame_of_text text
  pub no_block : is_block scope.unit ≡ false
  pub reversed : reverse text ≡ scope.unit ∷ scope.before

pub last_unit : (text : Text) → IsProgramLast text → (n : ℕ) → n ≡ length text - 1 → Last text n
last_unit text order n e =
    let new = newest text [] order in
    let are : reverse text ≡ new.program ∷ new.before = sym (append-nil (reverse text)) ∙ new.are in
    let whole : onto new.before (new.program ∷ []) ≡ text = onto_reverse (new.program ∷ new.before) [] ∙ append-nil (reverse (new.program ∷ new.before)) ∙ ap reverse (sym are) ∙ reverse-reverse text in
    let a = length-reverse text in
    let b : length (reverse text) ≡ length (new.program ∷ new.before) = ap length are in
    record {
      scope = record { before = new.before; unit = new.program };
      is = unit_at text new.before new.program [] n whole (omega (arith, e, a, b));
      no_block = new.no_block;
      reversed = are;
      frame = ap (λ x. if x then map (λ p. (Path p.0, p.1)) (unit_places new.before new.program) else program_frame new.before new.program) new.no_block ∙ ap frame_of_reversed (sym are);
    }

-- as many units are lowered as there are
pub lowered_count : (text : Text) (units : List LoweredUnit) → AreLowered text (codes_of units) → length units ≡ length text
lowered_count text units h = sym (length-map units (λ (u : LoweredUnit). u.code.items)) ∙ codes_length [] text (codes_of units) h

-- what a place keeps is defined for the programs of two texts
kept_alike : (old new : Text) (o n : ℕ) (from : Last old o) (to : Last new n) (entry : Location × Content) → number_if_kept_within from.scope to.scope entry ≡ number_if_kept old new entry
kept_alike old new o n from to (Direct v, content) = ap (λ frame. if same_lead (direct_lead v) (direct_lead v) then place_number frame (Direct v) else None) from.frame
kept_alike old new o n from to (Path names, content) =
    ap (λ frame. if same_lead (lead_from names from.scope.before from.scope.unit) (lead_from names to.scope.before to.scope.unit) then place_number frame (Path names) else None) from.frame
    ∙ ap (λ units. if same_lead (path_lead units names) (lead_from names to.scope.before to.scope.unit) then place_number (frame_of_text old) (Path names) else None) (sym from.reversed)
    ∙ ap (λ units. if same_lead (path_lead (reverse old) names) (path_lead units names) then place_number (frame_of_text old) (Path names) else None) (sym to.reversed)

pub carried_alike : (old new : Text) (o n : ℕ) (from : Last old o) (to : Last new n) (k : ℕ) → carried_within from.scope to.scope k ≡ carried_number old new k
carried_alike old new o n from to k = ap (λ frame. option_and_then (number_if_kept_within from.scope to.scope) (slice_get frame k)) to.frame ∙ by (slice_get (frame_of_text new) k)
  where
    by : (found : Option (Location × Content)) → option_and_then (number_if_kept_within from.scope to.scope) found ≡ option_and_then (number_if_kept old new) found
    by None = refl
    by (Some entry) = kept_alike old new o n from to entry
