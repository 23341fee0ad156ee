-- Regions in which tokens are passed over, token by token.
use Rattle.std.proofs.Common.{◌≡◌, Bool, true, false, List, [], ◌∷◌, ◌++◌, refl, ap, inl, inr}
use Rattle.std.specs.Prelude.{◌⊎◌, not, filter}
use Rattle.wc_model.specs.Text.Languages.{Language, ◌then◌, skipping}

-- what a language goes on with after a token
abbrev pub following : {T : Type 0} → T → Language T → Language T
following token language tokens = language (token ∷ tokens)

-- a token that is not passed over is kept
pub kept : {T : Type 0} (is_skipped : T → Bool) (token : T) (tokens : List T) → is_skipped token ≡ false
    → filter (λ t. not (is_skipped t)) (token ∷ tokens) ≡ token ∷ filter (λ t. not (is_skipped t)) tokens
kept is_skipped token tokens h = rw h refl

-- a token that is passed over is dropped
pub passed_over : {T : Type 0} (is_skipped : T → Bool) (token : T) (tokens : List T) → is_skipped token ≡ true
    → filter (λ t. not (is_skipped t)) (token ∷ tokens) ≡ filter (λ t. not (is_skipped t)) tokens
passed_over is_skipped token tokens h = rw h refl

-- a token that is not passed over, and then the rest of the region
pub skip_next : {T : Type 0} (is_skipped : T → Bool) (language : List T → Type 0) {second : List T → Type 0} {token : T} {tokens : List T} → is_skipped token ≡ false
    → (skipping is_skipped (following token language) then second) tokens → (skipping is_skipped language then second) (token ∷ tokens)
skip_next is_skipped language {token = token} kept_here h = record {
  prefix = token ∷ h.prefix;
  rest = h.rest;
  whole = ap (λ ts. token ∷ ts) h.whole;
  begins = rw (kept is_skipped token h.prefix kept_here) h.begins;
  goes_on = h.goes_on;
}

-- a token that is passed over
pub skip_over : {T : Type 0} (is_skipped : T → Bool) (language : List T → Type 0) {second : List T → Type 0} {token : T} {tokens : List T} → is_skipped token ≡ true
    → (skipping is_skipped language then second) tokens → (skipping is_skipped language then second) (token ∷ tokens)
skip_over is_skipped language {token = token} skipped h = record {
  prefix = token ∷ h.prefix;
  rest = h.rest;
  whole = ap (λ ts. token ∷ ts) h.whole;
  begins = rw (passed_over is_skipped token h.prefix skipped) h.begins;
  goes_on = h.goes_on;
}

-- a region that is done
pub skip_none : {T : Type 0} (is_skipped : T → Bool) (language : List T → Type 0) {second : List T → Type 0} {tokens : List T} → language [] → second tokens → (skipping is_skipped language then second) tokens
skip_none is_skipped language {tokens = tokens} none goes_on = record { prefix = []; rest = tokens; whole = refl; begins = none; goes_on = goes_on }

next_parts : {T : Type 0} (is_skipped : T → Bool) (language second : List T → Type 0) (token : T) (tokens prefix rest : List T) → token ∷ tokens ≡ prefix ++ rest
    → is_skipped token ≡ false → skipping is_skipped language prefix → second rest
    → (language [] × second (token ∷ tokens)) ⊎ (skipping is_skipped (following token language) then second) tokens
next_parts is_skipped language second token tokens [] rest e kept_here begins goes_on = inl (begins, rw e goes_on)
next_parts is_skipped language second token tokens (x ∷ prefix) rest e kept_here begins goes_on =
    let a : token ≡ x = cc in
    let b : tokens ≡ prefix ++ rest = cc in
    inr (record { prefix = prefix; rest = rest; whole = b; begins = rw (← kept is_skipped token prefix kept_here, a) begins; goes_on = goes_on })

-- if a token that is not passed over comes next, the region is done or goes on with it
pub skip_next_is : {T : Type 0} (is_skipped : T → Bool) (language : List T → Type 0) {second : List T → Type 0} {token : T} {tokens : List T} → is_skipped token ≡ false
    → (skipping is_skipped language then second) (token ∷ tokens) → (language [] × second (token ∷ tokens)) ⊎ (skipping is_skipped (following token language) then second) tokens
skip_next_is is_skipped language {second = second} {token = token} {tokens = tokens} kept_here h =
    next_parts is_skipped language second token tokens h.prefix h.rest h.whole kept_here h.begins h.goes_on

over_parts : {T : Type 0} (is_skipped : T → Bool) (language second : List T → Type 0) (token : T) (tokens prefix rest : List T) → token ∷ tokens ≡ prefix ++ rest
    → is_skipped token ≡ true → skipping is_skipped language prefix → second rest
    → second (token ∷ tokens) ⊎ (skipping is_skipped language then second) tokens
over_parts is_skipped language second token tokens [] rest e skipped begins goes_on = inl (rw e goes_on)
over_parts is_skipped language second token tokens (x ∷ prefix) rest e skipped begins goes_on =
    let a : token ≡ x = cc in
    let b : tokens ≡ prefix ++ rest = cc in
    inr (record { prefix = prefix; rest = rest; whole = b; begins = rw (← passed_over is_skipped token prefix skipped, a) begins; goes_on = goes_on })

-- if a token that is passed over comes next, the region is done or goes on after it
pub skip_over_is : {T : Type 0} (is_skipped : T → Bool) (language : List T → Type 0) {second : List T → Type 0} {token : T} {tokens : List T} → is_skipped token ≡ true
    → (skipping is_skipped language then second) (token ∷ tokens) → second (token ∷ tokens) ⊎ (skipping is_skipped language then second) tokens
skip_over_is is_skipped language {second = second} {token = token} {tokens = tokens} skipped h =
    over_parts is_skipped language second token tokens h.prefix h.rest h.whole skipped h.begins h.goes_on
