-- What a scan answers that is refused, and what one answers that is done.
use Rattle.std.proofs.Common.{◌≡◌, ℕ, ◌<◌, ◌≤◌, Option, Some, None, IfSome, option_map, is_some, true, pos, replicate, refl, sym, ap, ◌∙◌, subst, arith}
use Rattle.wc_machine.specs.Machines.{MachineState}
use Rattle.wc_run.specs.declared.open_scale.OpenScale.{OpenScale}
use Rattle.wc_scale.specs.{RefusesScan, TakesScan, machine_in}
use Rattle.wc_scale.specs.declared.results.Scanned.{Scanned}
use Rattle.wc_scale.specs.declared.scale.Scale.{Scale}
use Rattle.wc_store.specs.declared.slot_store.SlotStore.{SlotStore}

-- the answer of no scan
abbrev pub bare : ℕ → Scanned
bare status = record { status = status; steps = 0; bits = 0; words = replicate 4 (pos 0) }

abbrev pub open_by : Scale → OpenScale SlotStore → Scale
open_by scale opened = record { alloc = scale.alloc; opened = Some opened }

-- the moment of the last scan
abbrev pub last_of : Option MachineState → Option ℕ
last_of machine = option_map (λ (m : MachineState). m.last) machine

pub not_taken : (old new : Scale) (ms status : ℕ) (scanned : Scanned) → 0 < status → scanned ≡ bare status → TakesScan old new ms scanned
not_taken old new ms status scanned some e done =
    let none : status ≡ 0 = sym (ap (λ (s : Scanned). s.status) e) ∙ done in
    absurd (omega (arith, none, some))

no_machine : (machine : Option MachineState) → last_of machine ≡ None → machine ≡ None
no_machine None e = refl
no_machine (Some state) e = absurd (let f : ⊥ = cc in f)

some_machine : (machine : Option MachineState) (last : ℕ) → last_of machine ≡ Some last → machine ≡ None → ⊥
some_machine None last e none = cc
some_machine (Some state) last e none = cc

pub in_order : (machine : Option MachineState) (last ms : ℕ) → last_of machine ≡ Some last → last ≤ ms → IfSome machine (λ m. m.last ≤ ms)
in_order None last ms e le = absurd (let f : ⊥ = cc in f)
in_order (Some state) last ms e le = let same : state.last ≡ last = cc in omega (arith, same, le)

goes_back : (machine : Option MachineState) (last ms : ℕ) → last_of machine ≡ Some last → ms < last → IfSome machine (λ m. m.last ≤ ms) → ⊥
goes_back None last ms e less le = cc
goes_back (Some state) last ms e less le = let same : state.last ≡ last = cc in omega (arith, same, less, le)

open_not_closed : (old : Scale) (opened : OpenScale SlotStore) → old.opened ≡ Some opened → old.opened ≡ None → ⊥
open_not_closed old opened is closed = cc

pub refused_closed : (old : Scale) (ms : ℕ) (scanned : Scanned) → scanned ≡ bare 3 → old.opened ≡ None → RefusesScan old old ms scanned
refused_closed old ms scanned e is = record {
  kept = λ not. refl;
  empty = λ not. (ap (λ (s : Scanned). s.steps) e, ap (λ (s : Scanned). s.bits) e, ap (λ (s : Scanned). s.words) e);
  closed = λ closed. ap (λ (s : Scanned). s.status) e;
  program = λ is_open none. absurd (is_open is);
  range = λ is_open some late. absurd (is_open is);
  back = λ is_open some within back. absurd (is_open is);
  else = λ is_open some within order. absurd (is_open is);
}

-- the scale is as it was
same_scale : (old : Scale) (opened : OpenScale SlotStore) → old.opened ≡ Some opened → open_by old opened ≡ old
same_scale old opened is = ap (λ (o : Option (OpenScale SlotStore)). let s : Scale = record { alloc = old.alloc; opened = o } in s) (sym is)

pub refused_without : (old : Scale) (opened : OpenScale SlotStore) (ms : ℕ) (scanned : Scanned) → old.opened ≡ Some opened → last_of opened.machine ≡ None → scanned ≡ bare 5 → RefusesScan old (open_by old opened) ms scanned
refused_without old opened ms scanned is last e =
    let none : machine_in old.opened ≡ None = ap machine_in is ∙ no_machine opened.machine last in
    record {
      kept = λ not. same_scale old opened is;
      empty = λ not. (ap (λ (s : Scanned). s.steps) e, ap (λ (s : Scanned). s.bits) e, ap (λ (s : Scanned). s.words) e);
      closed = λ closed. absurd (open_not_closed old opened is closed);
      program = λ is_open no. ap (λ (s : Scanned). s.status) e;
      range = λ is_open some late. absurd (some none);
      back = λ is_open some within back. absurd (some none);
      else = λ is_open some within order. absurd (some none);
    }

pub refused_late : (old : Scale) (opened : OpenScale SlotStore) (ms last : ℕ) (scanned : Scanned) → old.opened ≡ Some opened → last_of opened.machine ≡ Some last → 1099511627775 < ms → scanned ≡ bare 7 → RefusesScan old (open_by old opened) ms scanned
refused_late old opened ms last scanned is found late e = record {
  kept = λ not. same_scale old opened is;
  empty = λ not. (ap (λ (s : Scanned). s.steps) e, ap (λ (s : Scanned). s.bits) e, ap (λ (s : Scanned). s.words) e);
  closed = λ closed. absurd (open_not_closed old opened is closed);
  program = λ is_open none. absurd (some_machine opened.machine last found (sym (ap machine_in is) ∙ none));
  range = λ is_open some beyond. ap (λ (s : Scanned). s.status) e;
  back = λ is_open some within back. absurd (omega (arith, within, late));
  else = λ is_open some within order. absurd (omega (arith, within, late));
}

pub refused_back : (old : Scale) (opened : OpenScale SlotStore) (ms last : ℕ) (scanned : Scanned) → old.opened ≡ Some opened → last_of opened.machine ≡ Some last → ms ≤ 1099511627775 → ms < last → scanned ≡ bare 8 → RefusesScan old (open_by old opened) ms scanned
refused_back old opened ms last scanned is found early less e = record {
  kept = λ not. same_scale old opened is;
  empty = λ not. (ap (λ (s : Scanned). s.steps) e, ap (λ (s : Scanned). s.bits) e, ap (λ (s : Scanned). s.words) e);
  closed = λ closed. absurd (open_not_closed old opened is closed);
  program = λ is_open none. absurd (some_machine opened.machine last found (sym (ap machine_in is) ∙ none));
  range = λ is_open some beyond. absurd (omega (arith, early, beyond));
  back = λ is_open some within back. ap (λ (s : Scanned). s.status) e;
  else = λ is_open some within order. absurd (goes_back opened.machine last ms found less (subst (λ o. IfSome (machine_in o) (λ m. m.last ≤ ms)) is order));
}

-- of a scan that is done nothing is refused
pub refused_none : (old new : Scale) (opened : OpenScale SlotStore) (ms last : ℕ) (scanned : Scanned) → old.opened ≡ Some opened → last_of opened.machine ≡ Some last → ms ≤ 1099511627775 → last ≤ ms → scanned.status ≡ 0 → RefusesScan old new ms scanned
refused_none old new opened ms last scanned is found early le done = record {
  kept = λ not. absurd (not done);
  empty = λ not. absurd (not done);
  closed = λ closed. absurd (open_not_closed old opened is closed);
  program = λ is_open none. absurd (some_machine opened.machine last found (sym (ap machine_in is) ∙ none));
  range = λ is_open some beyond. absurd (omega (arith, early, beyond));
  back = λ is_open some within back. absurd (back (subst (λ o. IfSome (machine_in o) (λ m. m.last ≤ ms)) (sym is) (in_order opened.machine last ms found le)));
  else = λ is_open some within order. done;
}

-- a machine that is there scans
pub scans : (machine : Option MachineState) (last : ℕ) → last_of machine ≡ Some last → is_some machine ≡ true
scans None last e = absurd (let f : ⊥ = cc in f)
scans (Some state) last e = refl
