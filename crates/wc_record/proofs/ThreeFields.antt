-- A record of three fields, from its fields one by one.
use Rattle.wc_model.proofs.Common.{◌≡◌, ◌≤◌, ℕ, length, true, List, [], ◌∷◌, Some, None, Ok, Err, refl, arith, nat_le, nat_tests}
use Rattle.csv.specs.Records.{field_at}
use Rattle.wc_model.specs.Definitions.{Record, moment_of, row_data_of, row_of_fields, RowData}
use Rattle.wc_record.specs.Views.{SaysData, SaysRow, three_of}
use Rattle.wc_record.specs.declared.row_data.RowFault.{RowFault}
use Rattle.wc_record.specs.declared.row_data.RowFault.TheVariants.{Refused, Memory}

-- no first field
pub no_first : (fields : Record) → None ≡ field_at fields 0 → None ≡ three_of fields
unfolding field_at
no_first [] e = refl
no_first (a ∷ more) e = cc

-- no second
pub no_second : (fields : Record) → None ≡ field_at fields 1 → None ≡ three_of fields
unfolding field_at
no_second [] e = refl
no_second (a ∷ []) e = refl
no_second (a ∷ b ∷ more) e = cc

-- no third
pub no_third : (fields : Record) → None ≡ field_at fields 2 → None ≡ three_of fields
unfolding field_at
no_third [] e = refl
no_third (a ∷ []) e = refl
no_third (a ∷ b ∷ []) e = refl
no_third (a ∷ b ∷ c ∷ more) e = cc

-- another number of fields
pub not_three : (fields : Record) → (length fields ≡ 3 → ⊥) → None ≡ three_of fields
not_three [] h = refl
not_three (a ∷ []) h = refl
not_three (a ∷ b ∷ []) h = refl
not_three (a ∷ b ∷ c ∷ []) h = absurd (h refl)
not_three (a ∷ b ∷ c ∷ f ∷ more) h = refl

-- three of them
pub just_three : (fields : Record) (a b c : List ℕ) → length fields ≡ 3 → Some a ≡ field_at fields 0 → Some b ≡ field_at fields 1 → Some c ≡ field_at fields 2 → Some (a ∷ b ∷ c ∷ []) ≡ three_of fields
unfolding field_at
just_three [] a b c n e f g = cc
just_three (x ∷ []) a b c n e f g = cc
just_three (x ∷ y ∷ []) a b c n e f g = cc
just_three (x ∷ y ∷ z ∷ []) a b c n e f g = cc
just_three (x ∷ y ∷ z ∷ w ∷ more) a b c n e f g = absurd (omega (arith, n))

-- which record has these three
pub three_are : (fields : Record) (a b c : List ℕ) → Some (a ∷ b ∷ c ∷ []) ≡ three_of fields → fields ≡ a ∷ b ∷ c ∷ []
three_are [] a b c e = cc
three_are (x ∷ []) a b c e = cc
three_are (x ∷ y ∷ []) a b c e = cc
three_are (x ∷ y ∷ z ∷ []) a b c e = cc
three_are (x ∷ y ∷ z ∷ w ∷ more) a b c e = cc

-- three fields, a moment in order and data make a row
pub row_read : (fields : Record) (a k d : List ℕ) (number last ms : ℕ) (brings : RowData) → Some (a ∷ k ∷ d ∷ []) ≡ three_of fields → Some ms ≡ moment_of a → last ≤ ms → row_data_of k d ≡ Ok brings
    → row_of_fields number (Some last) fields ≡ Ok (record { number = number; ms = ms; brings = brings })
row_read fields a k d number last ms brings e f h g =
    let order : nat_le last ms ≡ true = grind (arith, nat_tests) in
    rw (three_are fields a k d e, ← f, order, g) refl

-- three fields, a moment in order and data at fault make none
pub row_refused : (bytes : List ℕ) (fields : Record) (a k d : List ℕ) (number last ms : ℕ) (fault : RowFault) → Some (a ∷ k ∷ d ∷ []) ≡ three_of fields → Some ms ≡ moment_of a → last ≤ ms → SaysData bytes (Err fault) (row_data_of k d)
    → SaysRow bytes (Err fault) (row_of_fields number (Some last) fields)
row_refused bytes fields a k d number last ms (Refused n) e f h g =
    let order : nat_le last ms ≡ true = grind (arith, nat_tests) in
    rw (three_are fields a k d e, ← f, order, g) refl
row_refused bytes fields a k d number last ms Memory e f h g = tt
