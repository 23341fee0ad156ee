-- The place at which a reader is, as the state machine of `csv` has it.
use Rattle.wc_model.proofs.Common.{◌≡◌, ◌+◌, ◌==◌, ◌||◌, ℕ, Bool, true, false, cond, min, refl, ap, arith, eqb-true}
use Rattle.csv.specs.Machine.{in_field, start_field, start_record, step}
use Rattle.csv.specs.Reading.{default_config}
use Rattle.csv.specs.declared.parser.Action.{Action}
use Rattle.csv.specs.declared.parser.Action.TheVariants as act
use Rattle.csv.specs.declared.parser.State.{State}
use Rattle.csv.specs.declared.parser.State.TheVariants as st
use Rattle.wc_record.specs.Cutting.{after, after_opening, after_plain, record_start}
use Rattle.wc_record.specs.declared.place.LogPlace.{LogPlace}
use Rattle.wc_record.specs.declared.place.ByteState.{ByteState}
use Rattle.wc_record.specs.declared.place.ByteState.TheVariants as byte_state

-- a place in a record of which n fields have ended, and some bytes were read
abbrev pub IsIn : ByteState → ℕ → LogPlace → Type 0
IsIn at ended place = (size : ℕ) × (place ≡ record { byte_state = at; ended = min 3 ended; size = size })

-- if n fields have ended, a state of the machine is at this place; the default
-- settings know no escape and no comment
abbrev pub IsAt : State → ℕ → LogPlace → Type 0
IsAt st.StartRecord ended place = (place ≡ record_start) × (ended ≡ 0)
IsAt st.AfterCr ended place = (place ≡ record_start) × (ended ≡ 0)
IsAt st.StartField ended place = IsIn byte_state.Opening ended place
IsAt st.AfterQuote ended place = IsIn byte_state.Opening ended place
IsAt st.InField ended place = IsIn byte_state.Plain ended place
IsAt st.InQuoted ended place = IsIn byte_state.Quoted ended place
IsAt st.InEscape ended place = ⊥
IsAt st.InComment ended place = ⊥

-- a step of the machine leads to this place: the end of a record leads to the start of one
abbrev pub LeadsTo : ℕ → State × Action → LogPlace → Type 0
LeadsTo ended (state, act.EndRecord) place = (place ≡ record_start) × IsAt state 0 record_start
LeadsTo ended (state, act.EndField) place = IsAt state (ended + 1) place
LeadsTo ended (state, act.Copy) place = IsAt state ended place
LeadsTo ended (state, act.Skip) place = IsAt state ended place

-- either of two steps
either : (ended : ℕ) (b : Bool) (q r : State × Action) (x y : LogPlace) → LeadsTo ended q x → LeadsTo ended r y → LeadsTo ended (cond b q r) (cond b x y)
either ended true q r x y h k = h
either ended false q r x y h k = k

-- after a comma
comma_leads : (ended size : ℕ) → IsIn byte_state.Opening (ended + 1) (record { byte_state = byte_state.Opening; ended = min 3 (min 3 ended + 1); size = size })
comma_leads ended size =
    let more : min 3 (min 3 ended + 1) ≡ min 3 (ended + 1) = omega arith in
    (size, ap (λ n. record { byte_state = byte_state.Opening; ended = n; size = size }) more)

-- in a field
plain_leads : (ended size byte : ℕ) → LeadsTo ended (in_field default_config byte) (after_plain (min 3 ended) size byte)
plain_leads ended size byte = either ended (byte == 44) _ _ _ _ (comma_leads ended size) (either ended ((byte == 13) || (byte == 10)) _ _ _ _ (ended_by (byte == 13)) (size, refl))
  where
    ended_by : (b : Bool) → LeadsTo ended (cond b st.AfterCr st.StartRecord, act.EndRecord) record_start
    ended_by true = (refl, (refl, refl))
    ended_by false = (refl, (refl, refl))

-- at a field's start
opening_leads : (ended size byte : ℕ) → LeadsTo ended (start_field default_config byte) (after_opening (min 3 ended) size byte)
opening_leads ended size byte = either ended (byte == 34) _ _ _ _ (size, refl) (plain_leads ended size byte)

-- at a record's start
record_leads : (byte : ℕ) → LeadsTo 0 (start_record default_config byte) (after record_start byte)
record_leads byte = by_end ((byte == 13) || (byte == 10)) refl
  where
    at_return : (b : Bool) → (byte == 13) ≡ b → (b || (byte == 10)) ≡ true → LeadsTo 0 (st.StartRecord, act.Skip) (after record_start byte)
    at_return true e f = rw (eqb-true byte 13 e) (refl, refl)
    at_return false e f = rw (eqb-true byte 10 f) (refl, refl)

    by_end : (b : Bool) → ((byte == 13) || (byte == 10)) ≡ b → LeadsTo 0 (cond b (st.StartRecord, act.Skip) (start_field default_config byte)) (after record_start byte)
    by_end true e = at_return (byte == 13) refl e
    by_end false e = opening_leads 0 1 byte

-- after a carriage return
return_leads : (byte : ℕ) → LeadsTo 0 (step default_config st.AfterCr byte) (after record_start byte)
return_leads byte = by_feed (byte == 10) refl
  where
    by_feed : (b : Bool) → (byte == 10) ≡ b → LeadsTo 0 (cond b (st.StartRecord, act.Skip) (start_record default_config byte)) (after record_start byte)
    by_feed true f = rw (eqb-true byte 10 f) (refl, refl)
    by_feed false f = record_leads byte

-- one byte more of n
abbrev counted : ℕ → ℕ
counted size = min 65536 (size + 1)

-- each step leads to the place after its byte
pub leads : (state : State) (ended : ℕ) (place : LogPlace) (byte : ℕ) → IsAt state ended place → LeadsTo ended (step default_config state byte) (after place byte)
leads st.StartRecord ended place byte h = rw (h.0, h.1) (record_leads byte)
leads st.AfterCr ended place byte h = rw (h.0, h.1) (return_leads byte)
leads st.StartField ended place byte h = rw h.1 (opening_leads ended (counted h.0) byte)
leads st.AfterQuote ended place byte h = rw h.1 (either ended (byte == 34) _ _ _ _ (counted h.0, refl) (plain_leads ended (counted h.0) byte))
leads st.InField ended place byte h = rw h.1 (plain_leads ended (counted h.0) byte)
leads st.InQuoted ended place byte h = rw h.1 (either ended (byte == 34) _ _ _ _ (counted h.0, refl) (counted h.0, refl))
leads st.InEscape ended place byte h = absurd h
leads st.InComment ended place byte h = absurd h
