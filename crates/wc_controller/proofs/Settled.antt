-- What is loaded is never refused and no larger than its bytes, what is refused has one refusal, and a check writes the one report of a
-- text.
use Rattle.wc_model.proofs.Common.{ℕ, List, Result, Ok, Err, ◌≡◌, Bool, Option, sym, subst, ◌∙◌, IfErr, IfOk}
use Rattle.wc_controller.specs.{IsNeverRefused, IsRefusedLoad, IsTheOnlyRefusal, ChecksAlone, WritesReport}
use Rattle.wc_cost.specs.LoadedTexts.{LoadedText}
use Rattle.wc_laws_loading.proofs.FittingTexts.{loaded_is_small}
use Rattle.wc_laws_loading.proofs.LoadLaws.{never_both, one_refusal, one_loaded}
use Rattle.wc_laws_loading.specs.Laws.{IsSmall}
use Rattle.wc_model.specs.Definitions.{IsLoaded, text_view, Text, IsUnitReport}
use Rattle.wc_model.specs.declared.fault.Fault.{Fault}
use Rattle.wc_model.specs.declared.fault.Fault.TheVariants.{Memory, Refused}
use Rattle.wc_laws_loading.proofs.OneReport.{one_report}
use Rattle.wc_run.specs.declared.fault.RunFault.{RunFault}

-- a loaded text is never refused
pub never_refused : (bytes : List ℕ) (result : Result LoadedText Fault) → IfOk result (λ loaded. IsLoaded bytes (text_view loaded.source)) → IfOk result (λ loaded. IsNeverRefused bytes)
never_refused bytes (Ok loaded) is = λ number line refused. never_both bytes (text_view loaded.source) number line is refused
never_refused bytes (Err fault) is = tt

-- and no larger than its bytes
pub is_small : (bytes : List ℕ) (result : Result LoadedText Fault) → IfOk result (λ loaded. IsLoaded bytes (text_view loaded.source)) → IfOk result (λ loaded. IsSmall bytes (text_view loaded.source))
is_small bytes (Ok loaded) is = loaded_is_small bytes (text_view loaded.source) is
is_small bytes (Err fault) is = tt

-- a refusal is the only one
pub only_refusal : (bytes : List ℕ) (result : Result LoadedText Fault) → IfErr result (λ fault. IsRefusedLoad bytes fault) → IfErr result (λ fault. IsTheOnlyRefusal bytes fault)
only_refusal bytes (Ok loaded) is = tt
only_refusal bytes (Err (Refused number place)) is =
    (λ text loaded. never_both bytes text number place loaded is, λ other line there. one_refusal bytes other line number place there is)
only_refusal bytes (Err Memory) is = tt

-- any report of a text of these bytes is that of the other
same_report : (paths : Bool) (bytes : List ℕ) (text other : Text) (report found : List ℕ) → IsLoaded bytes text → IsLoaded bytes other
    → IsUnitReport paths text report → IsUnitReport paths other found → found ≡ report
same_report paths bytes text other report found loaded again is also =
    let one = one_report bytes text paths loaded in
    one.alone found (subst (λ (t : Text). IsUnitReport paths t found) (one_loaded bytes other text again loaded) also) ∙ sym (one.alone report is)

pub written_alone : {X : Type 0} (paths : Bool) (bytes : List ℕ) (text : Text) (result : Result X RunFault) (old new : Option (List ℕ))
    → IsLoaded bytes text → WritesReport paths text result old new → ChecksAlone paths bytes result old new
written_alone paths bytes text (Ok done) old new loaded w =
    (w.0, w.2, λ other found again is. same_report paths bytes text other w.0 found loaded again w.1 is)
written_alone paths bytes text (Err fault) old new loaded w = tt
