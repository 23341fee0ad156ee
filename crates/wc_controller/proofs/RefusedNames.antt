-- What an observer that refused to begin holds of the programs with which it did.
use Rattle.wc_model.proofs.Common.{◌≡◌, ℕ, List, Bool, false, true, Option, Some, None, Result, Ok, Err, sym, subst, ◌∙◌, IfSome}
use Rattle.wc_controller.specs.{EndsAfter, EndsAfterFault, IsAt, StopsAt, begin_fault_input, Reader, AreReadOf, IfKnown, IsNextLoadedOf, OfLogic, OfPrograms}
use Rattle.wc_controller.specs.declared.ending.Ending.{Ending}
use Rattle.wc_controller.specs.declared.ending.Ending.TheVariants as ended
use Rattle.wc_job.specs.declared.input.Input.{Input}
use Rattle.wc_job.specs.declared.input.Input.TheVariants as input
use Rattle.wc_controller.specs.declared.ending.InputFault.{InputFault}
use Rattle.wc_cost.specs.LoadedTexts.{LoadedText}
use Rattle.wc_model.specs.Definitions.{IsLoaded, Text, text_view, Logic, first_logic}
use Rattle.wc_run.specs.{text_of_next, RefusesToBegin}
use Rattle.wc_run.specs.declared.fault.RunFault.{RunFault}
use Rattle.wc_run.specs.declared.fault.RunFault.TheVariants.{Refused, Read, Write, Memory}

-- the names are at fault if it refused to begin
pub refused_at_names : (begins : Bool) (held : Type 0) (why : RunFault) → begin_fault_input why ≡ input.Names → RefusesToBegin begins held why → (begins ≡ false) × held
refused_at_names begins held (Refused number place) at h = (h.0, h.1)
refused_at_names begins held Read at h = absurd h
refused_at_names begins held Write at h = absurd h
refused_at_names begins held Memory at h = absurd (cc (at))

-- with the next text, if there is one
pub next_refused : (first : Text) (bytes : Option (List ℕ)) (next : Option LoadedText) (begins : Option Logic → Bool) (held : Option Logic → Type 0) (why : RunFault)
    → IsNextLoadedOf bytes next → begin_fault_input why ≡ input.Names
    → RefusesToBegin (begins (Some (first_logic first (text_of_next next)))) (held (Some (first_logic first (text_of_next next)))) why
    → OfLogic first bytes (λ logic. (begins logic ≡ false) × held logic)
next_refused first None None begins held why is at h = refused_at_names (begins (Some (first_logic first None))) (held (Some (first_logic first None))) why at h
next_refused first None (Some loaded) begins held why is at h = absurd is
next_refused first (Some bytes) None begins held why is at h = absurd is
next_refused first (Some bytes) (Some loaded) begins held why is at h =
    let next : Text = text_view loaded.source in
    (next, is, refused_at_names (begins (Some (first_logic first (Some next)))) (held (Some (first_logic first (Some next)))) why at h)

-- an observer that begins with each logic refuses none
pub none_refused : (first : Text) (bytes : Option (List ℕ)) (held : Option Logic → Type 0) → OfLogic first bytes (λ logic. (true ≡ false) × held logic) → ⊥
none_refused first None held h = cc (h.0)
none_refused first (Some bytes) held h = cc (h.2.0)

-- of inputs that were read
pub programs_read : (program next : Option Reader) (text : List ℕ) (known : Option (List ℕ)) (first : Text) (holds : Option Logic → Type 0)
    → AreReadOf program (Some text) → AreReadOf next known → IsLoaded text first → OfLogic first known holds → OfPrograms program next holds
programs_read None next text known first holds read other is h = absurd read
programs_read (Some program) next text known first holds read other is h = on_text program.bytes read.1 where
  on_next : (next : Option Reader) (known : Option (List ℕ)) → AreReadOf next known → OfLogic first known holds
      → IfKnown next (λ bytes. (one : Text) × IsLoaded text one × OfLogic one bytes holds)
  on_next None None other h = (first, is, h)
  on_next None (Some bytes) other h = absurd other
  on_next (Some reader) None other h = absurd other
  on_next (Some reader) (Some bytes) other h = on_bytes reader.bytes other.1 where
    on_bytes : (all : Option (List ℕ)) → IfSome all (λ all. bytes ≡ all) → IfSome all (λ all. (one : Text) × IsLoaded text one × OfLogic one (Some all) holds)
    on_bytes None same = tt
    on_bytes (Some all) same = (first, is, subst (λ b. OfLogic first (Some b) holds) same h)

  on_text : (all : Option (List ℕ)) → IfSome all (λ all. text ≡ all) → IfSome all (λ all. IfKnown next (λ bytes. (one : Text) × IsLoaded all one × OfLogic one bytes holds))
  on_text None same = tt
  on_text (Some all) same = subst (λ t. IfKnown next (λ bytes. (one : Text) × IsLoaded t one × OfLogic one bytes holds)) same (on_next next known other h)

-- with no program
pub alone_read : (program next : Option Reader) (holds : Option Logic → Type 0) → AreReadOf program None → holds None → OfPrograms program next holds
alone_read None next holds read h = h
alone_read (Some program) next holds read h = absurd read

-- an ending that names the names comes of it
fault_at_names : (at : Input) (why : RunFault) (ending : Ending) (old new : Option (List ℕ)) → EndsAfterFault at why ending old new → IsAt input.Names ending → at ≡ input.Names
fault_at_names at (Refused number place) ended.Done old new k is = absurd is
fault_at_names at (Refused number place) (ended.Refused other n p) old new k is = sym k.0 ∙ is
fault_at_names at (Refused number place) (ended.ReadFault other) old new k is = absurd k
fault_at_names at (Refused number place) ended.WriteFault old new k is = absurd is
fault_at_names at (Refused number place) ended.NoMemory old new k is = absurd is
fault_at_names at Read ending old new k is = subst (λ e. IsAt input.Names e) k.0 is
fault_at_names at Write ending old new k is = absurd (subst (λ e. IsAt input.Names e) k.0 is)
fault_at_names at Memory ending old new k is = absurd (subst (λ e. IsAt input.Names e) k.0 is)

pub stopped_at_names : (answer : Result (Unit {0}) InputFault) (ending : Ending) (old new : Option (List ℕ)) → EndsAfter answer ending old new → IsAt input.Names ending → StopsAt input.Names answer
stopped_at_names (Ok done) ending old new k is = absurd (subst (λ e. IsAt input.Names e) k.0 is)
stopped_at_names (Err stopped) ending old new k is = fault_at_names stopped.input stopped.fault ending old new k is
