-- Why a text is not loaded, pass by pass.
use Rattle.wc_model.proofs.Common.{◌≡◌, ℕ, List, None, Result, Ok, Err, sym, subst, inl, inr, Keeps-refl}
use Rattle.wc_controller.specs.{IsRefusedLoad, Checks, HasTheHeadline, IsTheHeadline}
use Rattle.wc_model.specs.Definitions.{body_fault, declaration_fault, Validates, PlateData, text_view, IsLoaded, IsRefused, Text, IsRead}
use Rattle.std.specs.Prelude.{Bool, IfErr, IfOk, Option}
use Rattle.wc_cost.specs.LoadedTexts.{IsCosted, LoadedText}
use Rattle.wc_model.specs.declared.source.Source.{Source}
use Rattle.wc_model.specs.Language.Loading as loading
use Rattle.wc_model.specs.declared.fault.Fault.{Fault}
use Rattle.wc_model.specs.declared.fault.Fault.TheVariants.{Memory, Refused}
use Rattle.wc_run.specs.Doing.{from_fault}
use Rattle.wc_reader.specs.Reported.{IsFirstOf, IsRefusedAs}

-- a text that is not read
first_of : (bytes : List ℕ) (number place : ℕ) → IsFirstOf bytes number place → IsRefused bytes number place
first_of bytes number place (inl tokens) = loading.at_tokens tokens
first_of bytes number place (inr k) = loading.at_reading k.0 k.1 k.2

pub not_read : (bytes : List ℕ) (fault : Fault) → IsRefusedAs bytes fault → IsRefusedLoad bytes fault
not_read bytes (Refused number place) h = first_of bytes number place h.first
not_read bytes Memory h = tt

-- a text whose declarations are refused
pub not_declared : (bytes : List ℕ) (text : Text) → IsRead bytes text → (X : Type 0) (fault : Fault) → Validates {X = X} (declaration_fault text) None (Err fault) → IsRefusedLoad bytes fault
not_declared bytes text read X (Refused number place) h = loading.at_declarations text read h
not_declared bytes text read X Memory h = tt

-- a text whose bodies are refused
pub not_verified : (bytes : List ℕ) (text : Text) → IsRead bytes text → declaration_fault text ≡ None → (X : Type 0) (fault : Fault) → Validates {X = X} (body_fault text) None (Err fault) → IsRefusedLoad bytes fault
not_verified bytes text read declared X (Refused number place) h = loading.at_bodies text read declared h
not_verified bytes text read declared X Memory h = tt

-- a text that is too long to run
pub not_costed : (bytes : List ℕ) (text : Text) → IsRead bytes text → declaration_fault text ≡ None → body_fault text ≡ None → (source : Source) (result : Result LoadedText Fault) → IsCosted text source result → IfErr result (IsRefusedLoad bytes)
not_costed bytes text read declared sound source (Ok loaded) h = tt
not_costed bytes text read declared sound source (Err (Refused number place)) h = loading.at_costs text read declared sound h
not_costed bytes text read declared sound source (Err Memory) h = tt

-- a text that no pass refuses
pub is_loaded : (bytes : List ℕ) (source : Source) → IsRead bytes (text_view source) → declaration_fault (text_view source) ≡ None → body_fault (text_view source) ≡ None → (result : Result LoadedText Fault) → IsCosted (text_view source) source result →
    IfOk result (λ loaded. IsLoaded bytes (text_view loaded.source))
is_loaded bytes source read declared sound (Ok loaded) h =
    subst (λ (s : Source). IsLoaded bytes (text_view s)) (sym h.0) (record { read = read; declarations = declared; bodies = sound; costs = h.1 })
is_loaded bytes source read declared sound (Err fault) h = tt

-- and so the headline holds of it
pub with_headline : (bytes : List ℕ) (result : Result LoadedText Fault) → IfOk result (λ loaded. IsLoaded bytes (text_view loaded.source)) → IsTheHeadline →
    IfOk result (λ loaded. (plate : PlateData) → HasTheHeadline plate (text_view loaded.source))
with_headline bytes (Ok loaded) h law = λ plate. law plate bytes (text_view loaded.source) h
with_headline bytes (Err fault) h law = tt

-- a text that is not loaded is not checked either
pub checks_refused : (paths : Bool) (bytes : List ℕ) (why : Fault) (old : Option (List ℕ)) → IsRefusedLoad bytes why → Checks {X = Unit {0}} paths bytes (Err (from_fault why)) old old
checks_refused paths bytes (Refused number place) old h = (h, Keeps-refl old)
checks_refused paths bytes Memory old h = Keeps-refl old
