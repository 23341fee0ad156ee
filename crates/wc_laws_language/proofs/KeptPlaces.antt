-- What a text keeps if it takes its own place.
use Rattle.std.proofs.Common.{◌≡◌, true, Option, Some, refl, subst, sym}
use Rattle.wc_laws_language.specs.Laws.{ATextKeepsItsPlaces}
use Rattle.wc_model.specs.Language.Carried.{Lead, ToPlace, ToField, same_lead}
use Rattle.wc_model.specs.declared.block.StandardBlock.TheVariants.{RTrig}
use Rattle.wc_model.specs.declared.kind.Kind.TheVariants.{Bool as KindBool}

-- where names lead is the same as itself
same_as_itself : (lead : Lead) → same_lead (Some lead) (Some lead) ≡ true
same_as_itself (ToPlace KindBool) = refl
same_as_itself (ToField RTrig) = refl
same_as_itself other = refl

-- so each place keeps
pub keeps_its_places : ATextKeepsItsPlaces
keeps_its_places text place lead e = let P : Option Lead → Type 0 = λ l. same_lead l l ≡ true in subst P (sym e) (same_as_itself lead)
