-- What chunks of nothing come to.
use Rattle.std.proofs.Common.{◌≡◌, ℕ, zero, suc, [], refl}
use Rattle.wc_model.specs.Run.Fuses.{repeated}

-- nothing, however often
pub nothing_repeated : (times : ℕ) → repeated [] times ≡ []
nothing_repeated zero = refl
nothing_repeated (suc times) = nothing_repeated times
