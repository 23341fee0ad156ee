-- Numbers that are held stay held, and a call of an earlier unit is its run.
use Rattle.wc_model.proofs.Common.{◌≡◌, ℕ, zero, suc, ◌<◌, List, [], Option, Some, ap, subst, ◌∙◌, sym, arith, ◌⊎◌, inl, inr, ⊎_elim, reverse, eq-or-lt_of_le}
use Rattle.std.proofs.lemmas.List.{append-nil}
use Rattle.wc_text_flat.proofs.Programs.{this_unit, earlier_unit}
use Rattle.wc_text_flat.proofs.Texts.{Newest, newest, ImageWritten, image_of_program, flat_code_means_the_text}
use Rattle.wc_text_flat.specs.{frame_of_text, AreContents, with_image_numbers, Ran, calls_below, unit_runs, program_runs, RunsAlike, HeldNumbersStayHeld, CallsAreRuns}
use Rattle.wc_model.specs.Definitions.{slot_kinds, Outcome, Done, Stuck, initial_of, scan_of, with_image, Location, Content, Store}
use Rattle.wc_laws_language.proofs.Programs.{Any}
use Rattle.wc_laws_language.proofs.Spelled.{spelled_text_nests, some_text_ends}
use Rattle.wc_laws_language.specs.{EndsWell, SameSlots}

-- an outcome that ends well and is followed leaves numbers that are held
pub left_held : (frame : List (Location × Content)) (first : Store) (o : Outcome) (run : Option Ran) → EndsWell Any first o → RunsAlike frame o run → (ran : Ran) × (run ≡ Some ran) × ((store : Store) × SameSlots first store × AreContents frame store ran.numbers)
left_held frame first (Done result store trace) run ends alike = (alike.0, alike.1, (store, ends.1, alike.3))
left_held frame first (Stuck reason) run ends alike = absurd alike

pub held_numbers_stay_held : HeldNumbersStayHeld
held_numbers_stay_held bytes text read sound codes lowered numbers held image now =
    let new : Newest (reverse text) = subst Newest (append-nil (reverse text)) (newest text [] read.spelled.order) in
    let written : ImageWritten (reverse text) = subst ImageWritten (sym new.are) (image_of_program new.before new.program) in
    let both = written held.0 held.1 numbers held.2 image in
    left_held (frame_of_text text) (initial_of text) (scan_of text held.0 image now) (program_runs (slot_kinds (frame_of_text text)) codes now (with_image_numbers image numbers))
    (some_text_ends text read.spelled.order (spelled_text_nests _ text read.spelled) sound held.0 held.1 image now)
    (flat_code_means_the_text bytes text read sound codes lowered (with_image image held.0) both.0 (with_image_numbers image numbers) both.1 now)

-- below n + 1 is below n, or n
pub below_next : (n unit : ℕ) → unit < suc n → (unit < n) ⊎ (unit ≡ n)
below_next n unit l = ⊎_elim (λ e. inr e) (λ h. inl h) (eq-or-lt_of_le {n = unit} {m = n} (omega (arith, l)))

pub calls_are_runs : CallsAreRuns
calls_are_runs kinds codes now zero unit base numbers l = absurd (omega (arith, l))
calls_are_runs kinds codes now (suc n) unit base numbers l = step (below_next n unit l) (λ h. calls_are_runs kinds codes now n unit base numbers h)
  where
    step : (unit < n) ⊎ (unit ≡ n) → (unit < n → calls_below kinds codes now n unit base numbers ≡ unit_runs kinds codes now unit base numbers) → calls_below kinds codes now (suc n) unit base numbers ≡ unit_runs kinds codes now unit base numbers
    step (inl h) onward = earlier_unit kinds codes now n unit base numbers h ∙ onward h
    step (inr e) onward = ap (λ u. calls_below kinds codes now (suc n) u base numbers) e ∙ (this_unit kinds codes now n base numbers ∙ ap (λ u. unit_runs kinds codes now u base numbers) (sym e))
