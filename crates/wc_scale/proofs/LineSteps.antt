-- Each call does what the fold's step does.
use Rattle.std.proofs.Common.{◌≡◌, refl, sym, ap, ◌∙◌, subst, arith, ℕ, zero, suc, ℤ, Bool, true, false, Option, Some, None, if◌then◌else◌}
use Rattle.std.proofs.lemmas.Int.{ints}
use Rattle.wc_scale.specs.{Byte, Change, EachCallIsAStep, HasLegalState, Inputs, Load, Look, Open, Sample, Scan, answer_to_call, legal_part, RefusesSample, TakesSample, HasNoProgram, IsClosed, IsKept, IsOpenAt, Represents, machine_in}
use Rattle.wc_machine.specs.Machines.{MachineState}
use Rattle.wc_model.specs.Definitions.{is_between, PlateData, greatest_sample, least_sample}
use Rattle.wc_run.specs.{changed_program, IsSample, with_byte, with_inputs, with_program, with_sample, Came, IsRunning, Running, scanned_program}
use Rattle.wc_run.specs.declared.open_scale.OpenScale.{OpenScale}
use Rattle.wc_scale.specs.declared.scale.Scale.{Scale}
use Rattle.wc_store.specs.declared.slot_store.SlotStore.{SlotStore}

-- what represents a plate is open
is_open : (held : Option (OpenScale SlotStore)) (plate : PlateData) (came : Came) → IsOpenAt held plate came → ¬ (held ≡ None)
is_open None plate came at = absurd at
is_open (Some opened) plate came at = λ none. absurd (cc)

-- and has a program if one has come
none_runs : (machine : Option MachineState) → IsRunning machine None → machine ≡ None
none_runs None at = refl
none_runs (Some machine) at = absurd at

none_in : (held : Option (OpenScale SlotStore)) (plate : PlateData) (came : Came) → IsOpenAt held plate came → came.program ≡ None → machine_in held ≡ None
none_in None plate came at none = absurd at
none_in (Some opened) plate came at none = none_runs opened.machine (subst (λ program. IsRunning opened.machine program) none at.program)

-- a call that is not done keeps the legal state, and so does one that is done if it leaves that of whatever has come
keeps : (old new : Scale) (plate : PlateData) (state : Came) (status : ℕ) → HasLegalState old plate state → IsKept old new status →
    (status ≡ 0 → (came : Came) → Represents old plate came → HasLegalState new plate (legal_part came)) → HasLegalState new plate state
keeps old new plate state zero at kept done = subst (λ s. HasLegalState new plate s) (sym at.same) (done refl at.came at.represents)
keeps old new plate state (suc n) at kept done = subst (λ s. HasLegalState s plate state) (sym (kept (λ none. absurd (omega (arith, none))))) at

-- a call that needs a program leaves the legal state if it does of whatever program has come
with_one : (old new : Scale) (plate : PlateData) (came : Came) (status : ℕ) → Represents old plate came → (¬ (IsClosed old) → HasNoProgram old → status ≡ 5) → status ≡ 0 →
    (program : Option Running) → came.program ≡ program → ((running : Running) → came.program ≡ Some running → (next : Running) × Represents new plate (with_program next came)) →
    HasLegalState new plate (legal_part came)
with_one old new plate came status at refuses done None none leaves =
    absurd (omega (arith, done, refuses (is_open old.opened plate came at) (none_in old.opened plate came at none)))
with_one old new plate came status at refuses done (Some running) is leaves =
    let left = leaves running is in record { came = with_program left.0 came; represents = left.1; same = refl }

-- a sample is taken if the sensor can give it
sampled : (old new : Scale) (counts : ℤ) (status : ℕ) (plate : PlateData) (state : Came) (within : Bool) → is_between least_sample greatest_sample counts ≡ within →
    TakesSample old new counts status → RefusesSample old new counts status → HasLegalState old plate state →
    HasLegalState new plate (if within then with_sample counts state else state)
sampled old new counts status plate state true within takes refuses at =
    let range : IsSample counts = (grind (arith, ints, within), grind (arith, ints, within)) in
    record { came = with_sample counts at.came; represents = (takes range plate at.came at.represents).1; same = ap (with_sample counts) at.same }
sampled old new counts status plate state false beyond takes refuses at =
    let not : ¬ (IsSample counts) = λ range. absurd (grind (arith, ints, beyond, range.0, range.1)) in
    let refused : status ≡ 6 = refuses.range (is_open old.opened plate at.came at.represents) not in
    keeps old new plate state status at refuses.kept (λ done. absurd (omega (arith, done, refused)))

pub each_step : EachCallIsAStep
each_step (Open text) old new bytes made plate state at =
    (keeps old new plate state made.0.status at made.2.kept (λ done. absurd (omega (arith, done, made.2.twice (is_open old.opened plate at.came at.represents)))), made.3)
each_step (Sample counts) old new bytes made plate state at = (sampled old new counts made.0 plate state (is_between least_sample greatest_sample counts) refl made.1 made.2 at, made.3)
each_step (Byte byte) old new bytes made plate state at =
    let answered = made.1 plate at.came at.represents in (
      record { came = with_byte byte at.came; represents = answered.represents; same = ap (with_byte byte) at.same },
      made.3 ∙ answered.bytes ∙ sym (ap (answer_to_call plate (Byte byte)) at.same),
    )
each_step Look old new bytes made plate state at = (subst (λ s. HasLegalState s plate state) (sym made.0) at, made.1)
each_step (Inputs inputs) old new bytes made plate state at =
    (record { came = with_inputs inputs at.came; represents = (made.1 plate at.came at.represents).1; same = at.same }, made.3)
each_step (Load text) old new bytes made plate state at = (
  keeps old new plate state made.0.status at made.2.kept (λ done came represents. let started = made.1 done in
      record { came = _; represents = started.represents plate came represents; same = refl }),
  made.3,
)
each_step (Change text) old new bytes made plate state at = (
  keeps old new plate state made.0.status at made.2.kept (λ done came represents. let changed = made.1 done in
      with_one old new plate came made.0.status represents made.2.program done came.program refl
      (λ running is. (changed_program running changed.text, changed.changed.represents plate came running is represents))),
  made.3,
)
each_step (Scan ms) old new bytes made plate state at = (
  keeps old new plate state made.0.status at made.2.kept (λ done came represents.
      with_one old new plate came made.0.status represents made.2.program done came.program refl
      (λ running is. (scanned_program plate came running ms, (made.1 done plate came running is represents).represents))),
  made.3,
)
