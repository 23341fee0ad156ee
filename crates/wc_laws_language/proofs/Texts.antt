-- A text whose bodies break no rule is never stuck.
use Rattle.wc_model.proofs.Common.{◌≡◌, ℕ, Bool, true, false, List, [], ◌∷◌, ◌++◌, Some, None, append_assoc, refl, sym, ap, subst, ◌∙◌, reverse_onto, flat_map}
use Rattle.std.proofs.lemmas.List.{length-reverse, append-nil}
use Rattle.std.specs.Prelude.{reverse, if◌then◌else◌, length}
use Rattle.wc_model.specs.Definitions.{body_rules, text_body_checks, program_means, first_of_reversed, initial_of_reversed, with_image, Store, ProgramUnit, Text}
use Rattle.wc_model.specs.Language.Checks.{Check, Position, positions_after, first_broken}
use Rattle.wc_model.specs.declared.image.Image.{Image}
use Rattle.wc_laws_language.proofs.Programs.{Any, scan_ends}
use Rattle.wc_laws_language.proofs.Steps.{clean_first, clean_second}
use Rattle.wc_laws_language.specs.{UnitsNestSimply, VerifiedTextIsNeverStuck, Clean, AreClean, EndsWell, SameSlots}

-- if none of these rules is broken, each holds
pub none_broken : (checks : List Check) → first_broken checks ≡ None → Clean checks
none_broken [] e = tt
none_broken (check ∷ checks) e =
    let step : (b : Bool) → check.holds ≡ b → (if b then first_broken checks else Some (record { number = check.number; line = check.line })) ≡ None → Clean (check ∷ checks) =
    elim [ true ↦ λ holds f. (holds, none_broken checks f) | false ↦ λ fails f. cc ]
    in
    step check.holds refl e

-- the rules of a unit after those before it
abbrev pub rules_at : Position ProgramUnit → List Check
rules_at position = body_rules (record { before = position.before; unit = position.item })

-- the units in turn, newest first, before those that precede them
pub turned : (unit : ProgramUnit) (units before : List ProgramUnit) → reverse units ++ (unit ∷ before) ≡ reverse (unit ∷ units) ++ before
turned unit units before = sym (append_assoc (reverse units) (unit ∷ []) before) ∙ ap (λ (us : List ProgramUnit). us ++ before) (sym (reverse_onto units unit []))

-- the units that are after some are clean with them
pub units_clean : (before : List ProgramUnit) (units : List ProgramUnit) → Clean (flat_map rules_at (positions_after before units)) → UnitsNestSimply units → AreClean before → AreClean (reverse units ++ before)
units_clean before [] clean simple earlier = earlier
units_clean before (unit ∷ units) clean simple earlier =
    let position : Position ProgramUnit = record { before = before; item = unit; following = units } in
    let rest = flat_map rules_at (positions_after (unit ∷ before) units) in
    subst AreClean (turned unit units before) (units_clean (unit ∷ before) units (clean_second (rules_at position) rest clean) simple.1 (clean_first (rules_at position) rest clean, simple.0, earlier))

-- a scan of units, newest first, ends well
pub reversed_ends : (units : List ProgramUnit) → AreClean units → (units ≡ [] → ⊥) → (store : Store) → SameSlots (initial_of_reversed units) store → (image : Image) (now : ℕ) →
    EndsWell Any (initial_of_reversed units) (first_of_reversed units (λ before program. program_means before program now (with_image image store)))
reversed_ends [] clean some store same image now = absurd (some refl)
reversed_ends (program ∷ before) clean some store same image now = scan_ends before program clean store same image now

-- the reverse of some units is some units
pub some_reversed : (unit : ProgramUnit) (units : Text) → reverse (unit ∷ units) ≡ [] → ⊥
some_reversed unit units e = let lengths = length-reverse (unit ∷ units) in let same = ap (λ (us : List ProgramUnit). length us) e in cc

pub text_is_never_stuck : VerifiedTextIsNeverStuck
text_is_never_stuck unit units simple sound store same image now =
    reversed_ends (reverse (unit ∷ units)) (subst AreClean (append-nil (reverse (unit ∷ units))) (units_clean [] (unit ∷ units) (none_broken (text_body_checks (unit ∷ units)) sound) simple tt)) (some_reversed unit units) store same image now
