-- A chunk of nothing gives nothing, however often.
use Rattle.std.proofs.Common.{◌≡◌, ℕ, ◌-◌, List, [], ◌++◌, subst, sym}
use Rattle.wc_model.proofs.FuseLaws.{nothing_repeated}
use Rattle.wc_model.proofs.fuse_in.FuseIn.take_up.Goals as goal
use Rattle.wc_model.specs.Run.Fuses.{repeated}

-- chunks that are nothing come to nothing
all_nothing : (chunk : List ℕ) (times : ℕ) → chunk ≡ [] → chunk ++ repeated chunk times ≡ []
all_nothing chunk times e = let P : List ℕ → Type 0 = λ p. p ++ repeated p times ≡ [] in subst P (sym e) (nothing_repeated times)

pub returns-then-self-gt0-clause-burnt : goal.returns-then-self-gt0-clause-burnt
returns-then-self-gt0-clause-burnt c = λ e. all_nothing c.args.self.now.chunk.now (c.args.self.now.times - 1) e
