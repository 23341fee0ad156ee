-- Six bits as one number.
use Rattle.std.proofs.Common.{◌≡◌, ◌+◌, ◌*◌, ℕ, Bool, cond, [], ◌∷◌, refl, add-zero}
use Rattle.wc_model.specs.Run.ProcessImage.{number_of_bits}

-- a bit as a number
abbrev pub one : Bool → ℕ
one bit = cond bit 1 0

-- the number of six bits, the lowest first
pub six_bits : (a b c d e f a2 b2 c2 d2 e2 f2 : Bool) (k l m n o p : ℕ)
    → k ≡ one a → l ≡ one b → m ≡ one c → n ≡ one d → o ≡ one e → p ≡ one f
    → a ≡ a2 → b ≡ b2 → c ≡ c2 → d ≡ d2 → e ≡ e2 → f ≡ f2
    → k + 2 * (l + 2 * (m + 2 * (n + 2 * (o + 2 * p)))) ≡ number_of_bits (a2 ∷ b2 ∷ c2 ∷ d2 ∷ e2 ∷ f2 ∷ [])
six_bits a b c d e f a2 b2 c2 d2 e2 f2 k l m n o p ka lb mc nd oe pf ea eb ec ed ee ef =
    rw (ka, lb, mc, nd, oe, pf, ea, eb, ec, ed, ee, ef, add-zero) refl
