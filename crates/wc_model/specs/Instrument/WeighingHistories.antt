-- What has come to an indicator so far. That an indication is a function of it is the profile's own form.
use Rattle.std.specs.Prelude.{ℕ, ◌-◌, Bool, List, [], ◌∷◌, ◌++◌, length, drop, ℤ, Option, Some, None, if◌then◌else◌}
use Rattle.std.specs.List.{last_or}

-- a sample from the sensor, or a command
pub data Event : Type 0 where
  Sample : (counts : ℤ) → Event
  SetZero : Event
  SetTare : Event
  ClearTare : Event

-- all events so far, the newest first
abbrev pub History : Type 0
History = List Event

-- the samples, in the order in which they came
abbrev pub samples : History → List ℤ
samples [] = []
samples (Sample counts ∷ before) = samples before ++ (counts ∷ [])
samples (SetZero ∷ before) = samples before
samples (SetTare ∷ before) = samples before
samples (ClearTare ∷ before) = samples before

-- the last sample, if one has come
abbrev pub last_sample : History → Option ℤ
last_sample history = last_or None (samples history)

-- the last n items of a list
abbrev pub last_items : {X : Type 0} → ℕ → List X → List X
last_items n xs = drop (length xs - n) xs

-- an event, and what had come before it
pub record Moment : Type 0 where
  pub event : Event
  pub before : History

-- the last event that passes a test, which looks at the event and at what had come before it
abbrev pub last_that : (Moment → Bool) → History → Option Moment
last_that test [] = None
last_that test (event ∷ before) =
    if test (record { event = event; before = before }) then Some (record { event = event; before = before })
    else last_that test before
