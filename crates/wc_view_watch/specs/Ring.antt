-- The last n texts of a sequence. (The profile's own.)
use Rattle.std.specs.Prelude.{◌≡◌, ℕ, ◌≤◌, List, [], ◌++◌, drop, length, replicate, take}
use Rattle.wc_model.specs.Instrument.WeighingHistories.{last_items}

-- the texts of a ring, and where the oldest is
pub record RingState : Type 0 where
  pub texts : List (List ℕ)
  pub first : ℕ

-- the texts from the oldest to the newest
abbrev pub in_order : RingState → List (List ℕ)
in_order ring = drop ring.first ring.texts ++ take ring.first ring.texts

-- they are the last n of all that were kept; before n were kept, empty ones are first
pub record HoldsLast (ring : RingState) (number : ℕ) (all : List (List ℕ)) : Type 0 where
  pub some : 1 ≤ number
  pub size : length ring.texts ≡ number
  pub within : ring.first ≤ number
  pub held : in_order ring ≡ last_items number (replicate number [] ++ all)
