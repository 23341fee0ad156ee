-- One event more of a body. (No rule of the language.)
use Rattle.std.proofs.Common.{◌≡◌, ℕ, ◌+◌, ◌<◌, Bool, not, ◌&&◌, ◌||◌, List, [], ◌∷◌, ◌++◌, Option, append_assoc, length, get_or, reverse, take, refl, ap, ◌∙◌, arith}
use Rattle.wc_model.proofs.Common.{if◌then◌else◌, map_push, reverse-append, take_more, flat_map, list_any}
use Rattle.wc_model.specs.Language.Checks.{positions_after}
use Rattle.wc_diag_warnings.specs.{reads_valid, reads_weight, BodyEvent, WarningAt, address_of, begins_stretch, warning_at, action_begins, event_warnings, event_number, is_above_reached, is_stored_again, is_unasked, is_reached, event_view, events_view}
use Rattle.wc_diag_warnings.specs.declared.events.Event.{Event}

-- the events before the next, newest first
pub one_more_before : (events : List Event) (i : ℕ) (other : Event) → i < length events →
    reverse (events_view (take (i + 1) events)) ≡ event_view (get_or events i other) ∷ reverse (events_view (take i events))
one_more_before events i other below =
    ap (λ es. reverse (events_view es)) (take_more events i other below) ∙ ap reverse (map_push event_view (take i events) (get_or events i other))
    ∙ reverse-append (events_view (take i events)) (event_view (get_or events i other) ∷ [])

-- some event reads the validity
pub asked_in : (events : List Event) → list_any (λ e. reads_valid (event_view e)) events ≡ list_any reads_valid (events_view events)
asked_in [] = refl
asked_in (e ∷ events) = ap (λ b. reads_valid (event_view e) || b) (asked_in events)

-- a truth that comes last may come before the second
swapped : (v b w : Bool) → ((v || b) || w) ≡ (v || (w || b))
swapped v b w = grind arith

-- whether a weight is read or the validity anywhere, with one event more
pub asked_step : (events before more : List BodyEvent) (e : BodyEvent) (asked weighs next : Bool) → more ≡ e ∷ before →
    asked ≡ (list_any reads_valid events || list_any reads_weight before) → weighs ≡ reads_weight e → next ≡ (asked || weighs) →
    next ≡ (list_any reads_valid events || list_any reads_weight more)
asked_step events before more e asked weighs next is asked_is weighs_is next_is =
    let order = swapped (list_any reads_valid events) (list_any reads_weight before) (reads_weight e) in cc

-- whether the last instruction is reached, with one event more
pub above_step : (before more : List BodyEvent) (e : BodyEvent) (begins reached above next : Bool) → more ≡ e ∷ before →
    begins ≡ action_begins e.action → reached ≡ is_reached before e → above ≡ is_above_reached before → next ≡ (if begins then reached else above) →
    next ≡ is_above_reached more
above_step before more e begins reached above next is begins_is reached_is above_is next_is = cc

-- the number of an event's warning, by what is known of it
pub number_is : (numbers : List ℕ) (events before : List BodyEvent) (e : BodyEvent) (begins above reached again weighs asked : Bool) (number : Option ℕ) →
    number ≡ event_number (begins && above && not reached) again (weighs && not asked) →
    begins ≡ action_begins e.action → above ≡ is_above_reached before → reached ≡ is_reached before e → again ≡ is_stored_again numbers before e →
    weighs ≡ reads_weight e → asked ≡ (list_any reads_valid events || list_any reads_weight before) →
    number ≡ event_number (begins_stretch before e) (is_stored_again numbers before e) (is_unasked events before e)
number_is numbers events before e begins above reached again weighs asked number is begins_is above_is reached_is again_is weighs_is asked_is = cc

-- the warnings so far with those of the events that are left, with one event more
pub found_step : (numbers : List ℕ) (events before more left rest : List BodyEvent) (e : BodyEvent) (number : Option ℕ) (old new all : List WarningAt) →
    more ≡ e ∷ before → left ≡ e ∷ rest →
    new ≡ old ++ warning_at number e.line (address_of e.action) →
    number ≡ event_number (begins_stretch before e) (is_stored_again numbers before e) (is_unasked events before e) →
    old ++ flat_map (event_warnings numbers events) (positions_after before left) ≡ all →
    new ++ flat_map (event_warnings numbers events) (positions_after more rest) ≡ all
found_step numbers events before more left rest e number old new all more_is left_is pushed counted so_far =
    let own = warning_at (event_number (begins_stretch before e) (is_stored_again numbers before e) (is_unasked events before e)) e.line (address_of e.action) in
    cc (append_assoc old own (flat_map (event_warnings numbers events) (positions_after (e ∷ before) rest)))
