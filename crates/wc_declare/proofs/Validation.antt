-- What is found first, part by part.
use Rattle.wc_model.proofs.Common.{◌≡◌, ℕ, Bool, true, false, List, ◌∷◌, ◌++◌, Option, Some, Result, Ok, Err, append_assoc, refl, subst, ap, ◌∙◌, OnOk, IsErr, IsErrAnd}
use Rattle.wc_model.specs.Definitions.{Check, Refusal, asks, first_broken, Name, Declaration, ProgramUnit, Text, Validates}
use Rattle.wc_model.specs.Language.DeclarationRules.{Taken, declaration_checks, initial_checks, names_are_new, places_of_type, capacity_checks, type_checks}
use Rattle.wc_model.specs.declared.fault.Fault.{Fault}
use Rattle.wc_model.specs.declared.fault.Fault.TheVariants.{Refused, Memory}
use Rattle.wc_names.proofs.HandedOn.{propagated}

-- the same is found
pub validates_same : {X : Type 0} (found other rest : Option Refusal) (result : Result X Fault) → found ≡ other → Validates other rest result → Validates found rest result
validates_same found other rest (Ok x) e h = e ∙ h
validates_same found other rest (Err (Refused number place)) e h = e ∙ h
validates_same found other rest (Err Memory) e h = tt

-- the fault of a part, after what is found before it
pub validates_err : (X Y : Type 0) (found other rest following : Option Refusal) (fault : Fault) → found ≡ other → Validates {X = X} other rest (Err fault) → Validates {X = Y} found following (Err fault)
validates_err X Y found other rest following (Refused number place) e h = e ∙ h
validates_err X Y found other rest following Memory e h = tt

-- a fault that is propagated
pub validates_on : (X Y : Type 0) (found other rest following : Option Refusal) (fault : Fault) (result : Result Y Fault) → IsErr result × IsErrAnd result (λ e. e ≡ fault) → found ≡ other → Validates {X = X} other rest (Err fault) → Validates found following result
validates_on X Y found other rest following fault result gives e h = propagated (λ r. Validates {X = Y} found following r) fault result gives (validates_err X Y found other rest following fault e h)

pub validates_ok : {X : Type 0} (found rest : Option Refusal) (r : Result X Fault) (x : X) → r ≡ Ok x → Validates found rest r → found ≡ rest
validates_ok found rest r x e h = subst (λ y. Validates found rest y) e h

-- a rule that holds is passed over, and one that does not is what is found
pub passed : (number line : ℕ) (holds : Bool) (checks : List Check) → holds ≡ true → first_broken (asks number line holds ∷ checks) ≡ first_broken checks
passed number line holds checks e = rw e refl

pub broken : (number line : ℕ) (holds : Bool) (checks : List Check) → holds ≡ false → first_broken (asks number line holds ∷ checks) ≡ Some (record { number = number; line = line })
broken number line holds checks e = rw e refl

-- the parts of a declaration's rules, one after the other
pub regrouped : (a b c d e : List Check) → (((a ++ b) ++ c) ++ d) ++ e ≡ a ++ (b ++ (c ++ (d ++ e)))
regrouped a b c d e = simp append_assoc

pub chunks : (text : Text) (before : List ProgramUnit) (names : List Name) (t : Taken) (d : Declaration) (rest : List Check) →
    first_broken (declaration_checks text before names t d ++ rest)
    ≡ first_broken (names_are_new names d.names ++ (type_checks text before d ++ (initial_checks before d ++ (capacity_checks t (places_of_type before d.type_name.name) d.names ++ rest))))
chunks text before names t d rest =
    ap first_broken (regrouped (names_are_new names d.names) (type_checks text before d) (initial_checks before d) (capacity_checks t (places_of_type before d.type_name.name) d.names) rest)

-- what is so if a call succeeds
pub on_ok : {X E P Q : Type 0} (r : Result X E) → OnOk r P → (P → Q) → OnOk r Q
on_ok (Ok x) h f = f h
on_ok (Err e) h f = tt
