-- A text is calm as far as its first character is, and the rest.
use Rattle.std.proofs.Common.{◌≡◌, ℕ, drop, false, not, List, [], ◌∷◌, refl, ap}
use Rattle.std.specs.Prelude.{◌&&◌}
use Rattle.wc_diag_texts.specs.Plain.{is_calm, starts_acting}

pub calm_on : (bytes : List ℕ) → starts_acting bytes ≡ false → is_calm bytes ≡ is_calm (drop 1 bytes)
calm_on [] e = refl
calm_on (byte ∷ bytes) e = ap (λ b. not b && is_calm bytes) e
