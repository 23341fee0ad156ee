-- What a read gives, up to the cut.
use Rattle.wc_model.proofs.Common.{◌≡◌, ◌≤◌, ◌<◌, ℕ, zero, suc, true, List, ◌++◌, length, take, Option, Some, None, refl, sym, ap, ◌∙◌, arith, take-take, Consumes, IsAtEnd}
use Rattle.std.specs.Prelude.{option_map}
use Rattle.wc_record.proofs.Cuts.{cut_at_end}
use Rattle.wc_record.specs.Cutting.{Cuts, cut_from, is_cut}
use Rattle.wc_record.specs.declared.place.LogPlace.{LogPlace}

-- the known bytes up to the cut
abbrev read_of : LogPlace → Option (List ℕ) → Option (List ℕ)
read_of place known = option_map (cut_from place) known

-- the bytes up to the cut are consumed
consumes_cut : (old new : Option (List ℕ)) (here there : LogPlace) (given prefix : List ℕ) (count : ℕ) → Cuts here given count there → take count given ≡ prefix → Consumes old new given → Consumes (read_of here old) (read_of there new) prefix
consumes_cut None new here there given prefix count cuts e h = tt
consumes_cut (Some xs) None here there given prefix count cuts e h = absurd h
consumes_cut (Some xs) (Some ys) here there given prefix count cuts e h = ap (cut_from here) h ∙ cuts ys ∙ ap (λ (zs : List ℕ). zs ++ cut_from there ys) e

-- at the end of the bytes there are none up to the cut
end_of : (known : Option (List ℕ)) (place : LogPlace) → IsAtEnd known → IsAtEnd (read_of place known)
unfolding cut_from
end_of None place h = tt
end_of (Some xs) place h = ap (cut_from place) h

-- after the cut there are none
end_at_cut : (known : Option (List ℕ)) (place : LogPlace) → is_cut place ≡ true → IsAtEnd (read_of place known)
end_at_cut None place e = tt
end_at_cut (Some xs) place e = cut_at_end place xs e

-- if none is given, none is left
ends : (old new : Option (List ℕ)) (there : LogPlace) (given size : ℕ) → (0 < size → is_cut there ≡ true) → size ≡ given → (given ≡ 0 → IsAtEnd new) → IsAtEnd (read_of there new)
ends old new there given zero stops e h = end_of new there (h (sym e))
ends old new there given (suc n) stops e h = end_at_cut new there (stops (omega arith))

-- a read of m bytes, of which n are up to the cut
pub reads_cut : (old new : Option (List ℕ)) (here there : LogPlace) (buffer : List ℕ) (given count : ℕ) → Cuts here (take given buffer) count there → count ≤ length (take given buffer) → (count < length (take given buffer) → is_cut there ≡ true)
    → given ≡ length (take given buffer) → Consumes old new (take given buffer) × (given ≡ 0 → 0 < length buffer → IsAtEnd new)
    → Consumes (read_of here old) (read_of there new) (take count buffer) × (count ≡ 0 → 0 < length buffer → IsAtEnd (read_of there new))
reads_cut old new here there buffer given count cuts bound stops size h = (
  consumes_cut old new here there (take given buffer) (take count buffer) count cuts (take-take count given buffer (omega (arith, bound, size))) h.0,
  λ none nonempty. ends old new there given (length (take given buffer)) (λ some. stops (omega (arith, none, some))) (sym size) (λ e. h.1 e nonempty),
)

-- after the cut a read gives nothing
pub reads_none : (known : Option (List ℕ)) (place : LogPlace) (buffer : List ℕ) (none : ℕ) → is_cut place ≡ true → none ≡ 0 → Consumes (read_of place known) (read_of place known) (take none buffer) × (none ≡ 0 → 0 < length buffer → IsAtEnd (read_of place known))
reads_none None place buffer none e zero_is = (tt, λ at nonempty. tt)
reads_none (Some xs) place buffer none e zero_is = (rw zero_is refl, λ at nonempty. cut_at_end place xs e)
