-- Fields that are those of a step keep the history as the step does.
use Rattle.std.proofs.Common.{◌≡◌, ℕ, List, ◌∷◌, sym, subst}
use Rattle.wc_laws_language.proofs.Counting.{ctu_fits}
use Rattle.wc_laws_language.proofs.Delaying.{tof_fits}
use Rattle.wc_laws_language.specs.Laws.{ctu_call, tof_call}
use Rattle.wc_model.specs.Definitions.{CtuFields, TofFields, ctu_step, tof_step, CtuCall, TimerCall, FitsCtu, FitsTof}

-- CTU
pub ctu_goes_on : (calls : List CtuCall) (old new : CtuFields) → new ≡ ctu_step old → FitsCtu calls old → FitsCtu (ctu_call old ∷ calls) new
ctu_goes_on calls old new e fits = let P : CtuFields → Type 0 = λ f. FitsCtu (ctu_call old ∷ calls) f in subst P (sym e) (ctu_fits calls old fits)

-- TOF
pub tof_goes_on : (now : ℕ) (calls : List TimerCall) (old new : TofFields) → new ≡ tof_step now old → FitsTof calls old → FitsTof (tof_call now old ∷ calls) new
tof_goes_on now calls old new e fits = let P : TofFields → Type 0 = λ f. FitsTof (tof_call now old ∷ calls) f in subst P (sym e) (tof_fits now calls old fits)
