-- A call of what is open in a scale is a call of the scale.
use Rattle.std.proofs.Common.{◌≡◌, ◌≤◌, ℕ, List, Option, Some, IfSome, sym, subst}
use Rattle.wc_controller.specs.Loads.{IsNeverRefused}
use Rattle.wc_laws_language.proofs.Going.{goes_on}
use Rattle.wc_laws_loading.proofs.FittingTexts.{loaded_is_small}
use Rattle.wc_machine.specs.Machines.{MachineState, RepresentsText}
use Rattle.wc_model.specs.Definitions.{PlateData, Text}
use Rattle.wc_run.specs.Coming.{IsChangedTo as IsOpenChangedTo, changed_program, with_program}
use Rattle.wc_run.specs.OpenScales.{Came, Goes, Running, Represents as OpenRepresents, started}
use Rattle.wc_run.specs.declared.open_scale.OpenScale.{OpenScale}
use Rattle.wc_scale.specs.{Begins, IsStarted, IsChangedTo, IsOpenAt, machine_in}
use Rattle.wc_scale.specs.declared.scale.Scale.{Scale}
use Rattle.wc_store.specs.declared.slot_store.SlotStore.{SlotStore}

-- what is open represents what the scale represents
pub is_allowed_in : {S : Type 0} (kept : Option (OpenScale S)) (opened : OpenScale S) (plate : PlateData) (came : Came) → kept ≡ Some opened → IsOpenAt kept plate came →
    OpenRepresents opened plate came
is_allowed_in kept opened plate came is represents = subst (λ held. IsOpenAt held plate came) is represents

-- a scale has the program that what is open in it has
pub is_started : (old : Scale) (opened new : OpenScale SlotStore) (bytes : List ℕ) (machine : MachineState) → old.opened ≡ Some opened → Begins bytes machine → IsNeverRefused bytes →
    ((running : Running) → RepresentsText machine running.text running.store → Goes opened new (with_program running)) → new.machine ≡ Some machine →
    IsStarted old (record old { opened = Some new }) bytes
is_started old opened new bytes machine is begins accepted represents has =
    record {
      text = begins.text;
      loaded = begins.loaded;
      small = loaded_is_small bytes begins.text begins.loaded;
      accepted = accepted;
      represents = λ plate came at. represents (started begins.text) begins.represents plate came (is_allowed_in old.opened opened plate came is at);
      last = subst (λ held. IfSome held (λ m. m.last ≡ 0)) (sym has) begins.last;
    }

-- and is changed where it is
pub is_changed : (old : Scale) (opened new : OpenScale SlotStore) (text : Text) → old.opened ≡ Some opened → IsOpenChangedTo opened new text →
    IsChangedTo old (record old { opened = Some new }) text
is_changed old opened new text is changed =
    record {
      represents = λ plate came running runs at. changed.represents plate came running runs (is_allowed_in old.opened opened plate came is at);
      histories = λ plate came running runs at. record {
        store = (changed_program running text).store;
        represents = changed.represents plate came running runs (is_allowed_in old.opened opened plate came is at);
        histories = goes_on running.text text running.store;
      };
      last = λ ms early. changed.last ms (subst (λ held. IfSome (machine_in held) (λ machine. machine.last ≤ ms)) is early);
      stays = λ ms late. subst (λ held. IfSome (machine_in held) (λ machine. machine.last ≤ ms)) (sym is) (changed.stays ms late);
    }
