-- What one read of `csv` takes of the records that are left.
use Rattle.std.proofs.Common.{◌≡◌, ℕ, true, false, List, [], ◌∷◌, Option, Some, None, refl, sym, ap, ◌∙◌, inl, Bool}
use Rattle.csv.specs.Machine.{Read, next_record}
use Rattle.csv.specs.Reading.{AreRecords, NextIs, Reached, ReadRecord, ReadsNext, Ready, is_flexible, pending_of, reader_trim, took_first}
use Rattle.csv.specs.declared.parser.Config.{Config}
use Rattle.csv.specs.declared.parser.State.{State}
use Rattle.csv.specs.declared.reader.Trim.TheVariants as trim
use Rattle.wc_model.specs.Run.Log.{Record}
use Rattle.wc_record.specs.Reading.{HasRecords, TakesFirst, borrowed_bytes}
use Rattle.wc_record.specs.declared.records.Records.{Records}

-- a record that was found is the first that is left
record Taken (cfg : Config) (b : State) (fields : Record) (after : Option (List ℕ)) (left : List Record) : Type 0 where
  rest : List Record
  first : left ≡ fields ∷ rest
  bytes : List ℕ
  known : after ≡ Some bytes
  are_left : AreRecords cfg b bytes rest

-- a record that was found
found_one : (cfg : Config) (a b : State) (xs : List ℕ) (fields : Record) (after : Option (List ℕ)) (left : List Record) → AreRecords cfg a xs left → ReadsNext cfg a (Some xs) after true fields b → Taken cfg b fields after left
unfolding Reached
found_one cfg a b xs fields None left h r = absurd r
found_one cfg a b xs fields (Some ys) [] h r = absurd (nothing (next_record cfg a [] [] xs) (rw (h.2.0, h.2.1) h.3) r)
  where
    nothing : (o : Option Read) → o ≡ None → NextIs o true fields b ys → ⊥
    nothing None e n = cc
    nothing (Some p) e n = cc
found_one cfg a b xs fields (Some ys) (one ∷ rest) h r =
    let p = h.2.0 in
    let is : NextIs (Some p) true fields b ys = rw h.2.1 at r in
    record {
      rest = rest;
      first = ap (λ (f : Record). f ∷ rest) (h.2.2 ∙ sym is.1);
      bytes = ys;
      known = refl;
      are_left = rw (is.2, is.3) (h.0, h.1, h.2.3, h.3);
    }

-- if none was found, none is left
found_none : (cfg : Config) (a b : State) (xs : List ℕ) (fields : Record) (after : Option (List ℕ)) (left : List Record) → AreRecords cfg a xs left → ReadsNext cfg a (Some xs) after false fields b → left ≡ []
unfolding Reached
found_none cfg a b xs fields None left h r = absurd r
found_none cfg a b xs fields (Some ys) [] h r = refl
found_none cfg a b xs fields (Some ys) (one ∷ rest) h r =
    let is : NextIs (Some h.2.0) false fields b ys = rw h.2.1 at r in
    cc is.0

-- the read of a record
next_left : {R : Type 0} (bytes_left : R → Option (List ℕ)) (old new : Records R) (fields : Record) (left : List Record) → HasRecords bytes_left old left
    → ReadRecord (borrowed_bytes bytes_left) old.csv new.csv true fields → took_first new.csv ≡ true → is_flexible new.csv ≡ is_flexible old.csv
    → (rest : List Record) × (left ≡ fields ∷ rest) × HasRecords bytes_left new rest
next_left bytes_left old new fields left h r first flexible =
    let t = found_one _ old.csv.state new.csv.state h.bytes fields (pending_of (borrowed_bytes bytes_left new.csv.rdr) new.csv) left h.are_left (rw (h.config, h.known) at r.0) in (
      t.rest,
      t.first,
      record {
        config = r.2 ∙ h.config;
        untrimmed = r.3 ∙ h.untrimmed;
        flexible = flexible ∙ h.flexible;
        ready = inl first;
        bytes = t.bytes;
        known = rw r.1 t.known;
        are_left = t.are_left;
      },
    )

-- the read that finds no record
none_left : {R : Type 0} (bytes_left : R → Option (List ℕ)) (old new : Records R) (fields : Record) (left : List Record) → HasRecords bytes_left old left
    → ReadRecord (borrowed_bytes bytes_left) old.csv new.csv false fields → left ≡ []
none_left bytes_left old new fields left h r =
    found_none _ old.csv.state new.csv.state h.bytes fields (pending_of (borrowed_bytes bytes_left new.csv.rdr) new.csv) left h.are_left (rw (h.config, h.known) at r.0)

-- what the read takes
pub takes_first : {R : Type 0} (bytes_left : R → Option (List ℕ)) (old new : Records R) (found : Bool) (fields : Record) → (reader_trim old.csv ≡ trim.None → Ready old.csv → ReadRecord (borrowed_bytes bytes_left) old.csv new.csv found fields)
    → (reader_trim old.csv ≡ trim.None → took_first new.csv ≡ true) → is_flexible new.csv ≡ is_flexible old.csv → TakesFirst (HasRecords bytes_left old) (HasRecords bytes_left new) found fields
takes_first bytes_left old new true fields reads first flexible = λ left h. next_left bytes_left old new fields left h (reads h.untrimmed h.ready) (first h.untrimmed) flexible
takes_first bytes_left old new false fields reads first flexible = λ left h. none_left bytes_left old new fields left h (reads h.untrimmed h.ready)
