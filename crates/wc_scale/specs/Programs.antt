-- What a call with a program's text does to a scale and what it answers. (The profile's own.)
use Rattle.std.specs.Prelude.{◌≡◌, ℕ, ◌≤◌, List, IfSome, Some}
use Rattle.wc_controller.specs.Loads.{IsNeverRefused}
use Rattle.wc_laws_language.specs.HistoryLaws.{HistoriesGoOn}
use Rattle.wc_laws_loading.specs.Laws.{IsSmall}
use Rattle.wc_model.specs.Definitions.{PlateData, IsLoaded, Store, Text}
use Rattle.wc_run.specs.{changed_program, with_program, Came, Running, started}
use Rattle.wc_run.specs.declared.change_fault.ChangeFault.{ChangeFault}
use Rattle.wc_run.specs.declared.change_fault.ChangeFault.TheVariants.{Memory, NoProgram}
use Rattle.wc_scale.specs.Opening.{IsRefusedAt, IsBare}
use Rattle.wc_scale.specs.Representation.{HasNoProgram, IsClosed, IsKept, IsNotAfter, Represents, machine_in}
use Rattle.wc_scale.specs.declared.results.Refusal.{Refusal}
use Rattle.wc_scale.specs.declared.scale.Scale.{Scale}

-- the bytes are loaded as a text that is no larger than they are, which starts from its declarations, and no time is before its first scan
pub record IsStarted (old new : Scale) (bytes : List ℕ) : Type 0 where
  pub text : Text
  pub loaded : IsLoaded bytes text
  pub small : IsSmall bytes text
  pub accepted : IsNeverRefused bytes
  pub represents : (plate : PlateData) (came : Came) → Represents old plate came → Represents new plate (with_program (started text) came)
  pub last : IfSome (machine_in new.opened) (λ machine. machine.last ≡ 0)

abbrev pub TakesLoad : Scale → Scale → List ℕ → Refusal → Type 0
TakesLoad old new bytes reported = reported.status ≡ 0 → IsStarted old new bytes

-- the program stays if the text is refused or there is no memory
pub record RefusesLoad (old new : Scale) (bytes : List ℕ) (reported : Refusal) : Type 0 where
  pub kept : IsKept old new reported.status
  pub closed : IsClosed old → reported.status ≡ 3
  pub says : reported.status ≡ 1 → IsRefusedAt bytes reported.number reported.place
  pub bare : IsBare reported
  pub else : ¬ (IsClosed old) → reported.status ≤ 2

-- the scale has the text with a store in which the history of each standard block goes on that the program before had
pub record GoesOnWith (new : Scale) (plate : PlateData) (came : Came) (before : Running) (text : Text) : Type 0 where
  pub store : Store
  pub represents : Represents new plate (with_program (record { text = text; store = store }) came)
  pub histories : HistoriesGoOn before.text before.store text store

-- the store of the new text is what is carried over to it, histories go on, and the moment of the last scan stays
pub record IsChangedTo (old new : Scale) (text : Text) : Type 0 where
  pub represents : (plate : PlateData) (came : Came) (running : Running) → came.program ≡ Some running → Represents old plate came →
      Represents new plate (with_program (changed_program running text) came)
  pub histories : (plate : PlateData) (came : Came) (running : Running) → came.program ≡ Some running → Represents old plate came →
      GoesOnWith new plate came running text
  pub last : (ms : ℕ) → IsNotAfter old ms → IsNotAfter new ms
  pub stays : (ms : ℕ) → IsNotAfter new ms → IsNotAfter old ms

-- why a change was not made, as a status
abbrev pub IsChangeStatus : ChangeFault → ℕ → Type 0
IsChangeStatus NoProgram status = status ≡ 5
IsChangeStatus Memory status = status ≡ 2

-- the bytes are loaded as a text that is no larger than they are, to which the program is changed
pub record IsChanged (old new : Scale) (bytes : List ℕ) : Type 0 where
  pub text : Text
  pub loaded : IsLoaded bytes text
  pub small : IsSmall bytes text
  pub accepted : IsNeverRefused bytes
  pub changed : IsChangedTo old new text

abbrev pub TakesChange : Scale → Scale → List ℕ → Refusal → Type 0
TakesChange old new bytes reported = reported.status ≡ 0 → IsChanged old new bytes

pub record RefusesChange (old new : Scale) (bytes : List ℕ) (reported : Refusal) : Type 0 where
  pub kept : IsKept old new reported.status
  pub closed : IsClosed old → reported.status ≡ 3
  pub program : ¬ (IsClosed old) → HasNoProgram old → reported.status ≡ 5
  pub says : reported.status ≡ 1 → IsRefusedAt bytes reported.number reported.place
  pub bare : IsBare reported
  pub else : ¬ (IsClosed old) → ¬ (HasNoProgram old) → reported.status ≤ 2
