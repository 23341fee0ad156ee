-- What the readers and writers for tests still give, and what they took. (The profile's own.)
use Rattle.std.specs.Prelude.{◌≡◌, ℕ, zero, suc, List, [], ◌++◌, take}
use Rattle.wc_model.specs.declared.fuse_in.FuseIn.{FuseIn}
use Rattle.wc_model.specs.declared.fuse_out.FuseOut.{FuseOut}

-- a chunk n times
abbrev pub repeated : List ℕ → ℕ → List ℕ
repeated chunk zero = []
repeated chunk (suc times) = chunk ++ repeated chunk times

-- what a reader still gives
abbrev pub fuse_bytes : FuseIn → List ℕ
fuse_bytes fuse = fuse.left.now ++ repeated fuse.chunk.now fuse.times

-- if nothing is left of a chunk, nothing is left at all
abbrev pub has_burnt_in : FuseIn → Type 0
has_burnt_in fuse = fuse.left.now ≡ [] → fuse_bytes fuse ≡ []

-- what a writer took
abbrev pub taken_by : FuseOut → List ℕ
taken_by fuse = take fuse.taken fuse.buffer.items
