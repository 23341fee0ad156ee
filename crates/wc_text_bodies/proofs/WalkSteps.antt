-- One step of the walk over a text's tokens.
use Rattle.std.proofs.Common.{◌≡◌, ℕ, Bool, false, List, [], ◌∷◌, Option, Some, None, option_map, Result, Err, refl}
use Rattle.wc_laws_grammar.specs.Moves.{Raised, State, colon_next, fault_at, move, reading}
use Rattle.wc_model.specs.Definitions.{Mark, UnexpectedToken, Text}
use Rattle.wc_text_bodies.specs.Views.{fault_of, Stopping, walk}

-- where it stops after a detected fault
abbrev pub after_fault : State → Option Raised → Stopping → Stopping
after_fault state detected rest = elim detected as (λ _. Stopping) [ Some raised ↦ record { state = state; reported = Err raised } | None ↦ rest ]

-- where it stops after a move
abbrev pub after_move : State → Option State → List Mark → (last line : ℕ) → Stopping
after_move state moved following last line = elim moved as (λ _. Stopping) [
  | Some next ↦ walk next following last
  | None ↦ record { state = state; reported = Err (record { fault = UnexpectedToken; line = line }) }
]

-- a step of the walk
pub step : (state : State) (mark : Mark) (following : List Mark) (last : ℕ) (colon : Bool) → colon_next following false ≡ colon
    → walk state (mark ∷ following) last
    ≡ after_fault state (fault_at state mark.symbol mark.line colon) (after_move state (move state mark.symbol mark.line colon) following last mark.line)
step state mark following last colon e = rw (← e) refl

-- nothing is reported if nothing is found
pub unjudged : (raised : Option Raised) → None ≡ option_map fault_of raised → raised ≡ None
unjudged None h = refl
unjudged (Some raised) h = cc

-- at a token with which a text goes on
pub at_move : (state next : State) (mark : Mark) (following : List Mark) (last : ℕ) (colon : Bool) → colon_next following false ≡ colon
    → None ≡ option_map fault_of (fault_at state mark.symbol mark.line colon) → Some next ≡ move state mark.symbol mark.line colon
    → walk state (mark ∷ following) last ≡ walk next following last
at_move state next mark following last colon e h k =
    rw (step state mark following last colon e, unjudged (fault_at state mark.symbol mark.line colon) h, ← k) refl

-- what is reported after a step: what the reading of the text is
reported_after : (state : State) (mark : Mark) (following : List Mark) (last : ℕ) (detected : Option Raised) (moved : Option State)
    → ((next : State) → (walk next following last).reported ≡ reading next following last)
    → (after_fault state detected (after_move state moved following last mark.line)).reported
    ≡ elim detected as (λ _. Result Text Raised) [
      | Some raised ↦ Err raised
      | None ↦ elim moved as (λ _. Result Text Raised) [ Some next ↦ reading next following last | None ↦ Err (record { fault = UnexpectedToken; line = mark.line }) ]
    ]
reported_after state mark following last (Some raised) moved on = refl
reported_after state mark following last None (Some next) on = on next
reported_after state mark following last None None on = refl

-- the walk says what the text is read as
pub walk_reports : (state : State) (marks : List Mark) (last : ℕ) → (walk state marks last).reported ≡ reading state marks last
walk_reports state [] last = refl
walk_reports state (mark ∷ marks) last =
    reported_after state mark marks last (fault_at state mark.symbol mark.line (colon_next marks false)) (move state mark.symbol mark.line (colon_next marks false))
    (λ next. walk_reports next marks last)
