-- What clap's typed getters give is what the definitions read of the same rows.
use Rattle.std.proofs.Common.{◌≡◌, ◌≢◌, ℕ, Bool, Bor, true, false, List, Option, Some, None, Result, Ok, Err, refl, ap, sym, arith, codes, unwrap_or, option_and_then, option_map}
use Rattle.std.specs.Option.{option_map_or, option_or}
use Rattle.std.specs.Str.{bytes_eq}
use Rattle.std.specs.Str.Parse.{ParsesBool, ParsesUnsigned}
use Rattle.std.proofs.lemmas.Slice.Eq.{bytes_eq-Decides}
use Rattle.clap.specs.Words.{ReadsOne, Text}
use Rattle.clap.specs.ValueTests.{accepts}
use Rattle.clap.specs.declared.builder.value_parser.ValueParser.TheVariants.{Unsigned}
use Rattle.clap.proofs.ValueTestLemmas.{accepts-Accepts, Accepts-accepts}
use Rattle.wc_arguments.specs.Asked.{number_of, wide_number_of}

-- a text, or another
pub text_or : (o : Option (Bor (List ℕ))) (other : Bor (List ℕ)) → (unwrap_or o other).now ≡ unwrap_or (option_map (λ text. text.now) o) other.now
text_or None other = refl
text_or (Some text) other = refl

-- the first text of two, if there is one
pub first_text : (o other : Option (Bor (List ℕ))) → option_map (λ text. text.now) (option_or o other) ≡ option_or (option_map (λ text. text.now) o) (option_map (λ text. text.now) other)
first_text None other = refl
first_text (Some text) other = refl

-- a number, as u16 reads a text
number_read : {E : Type 0} (G : List ℕ → Result ℕ E → Type 0) (t : Text) (r : Option ℕ) → ((x : Result ℕ E) → G t x → ParsesUnsigned 16 10 t x) → ReadsOne G t r → r ≡ number_of t
number_read G t (Some n) parses h =
    let p = parses (Ok n) h in
    let passes : accepts false (Unsigned 0 65535) t ≡ true = Accepts-accepts false (Unsigned 0 65535) t (p.0.0, omega (arith, p.0.1), omega arith, omega (arith, p.0.1)) in
    rw passes (ap Some p.1)
number_read G t None parses h = go (accepts false (Unsigned 0 65535) t) refl
  where
    go : (b : Bool) → accepts false (Unsigned 0 65535) t ≡ b → None ≡ number_of t
    go false e = rw e refl
    go true e =
        let a = accepts-Accepts false (Unsigned 0 65535) t e in
        absurd (parses (Err h.0) h.1 (a.0, omega (arith, a.3)))

pub number_given : {E : Type 0} (G : List ℕ → Result ℕ E → Type 0) (o : Option Text) (r : Option ℕ) → ((t : Text) (x : Result ℕ E) → G t x → ParsesUnsigned 16 10 t x)
    → (o ≡ None → r ≡ None) → ((t : List ℕ) → o ≡ Some t → ReadsOne G t r) → r ≡ option_and_then number_of o
number_given G None r parses none value = none refl
number_given G (Some t) r parses none value = number_read G t r (parses t) (value t refl)

-- a number, as u64 reads a text
wide_number_read : {E : Type 0} (G : List ℕ → Result ℕ E → Type 0) (t : Text) (r : Option ℕ) → ((x : Result ℕ E) → G t x → ParsesUnsigned 64 10 t x) → ReadsOne G t r → r ≡ wide_number_of t
wide_number_read G t (Some n) parses h =
    let p = parses (Ok n) h in
    let passes : accepts false (Unsigned 0 18446744073709551615) t ≡ true = Accepts-accepts false (Unsigned 0 18446744073709551615) t (p.0.0, omega (arith, p.0.1), omega arith, omega (arith, p.0.1)) in
    rw passes (ap Some p.1)
wide_number_read G t None parses h = go (accepts false (Unsigned 0 18446744073709551615) t) refl
  where
    go : (b : Bool) → accepts false (Unsigned 0 18446744073709551615) t ≡ b → None ≡ wide_number_of t
    go false e = rw e refl
    go true e =
        let a = accepts-Accepts false (Unsigned 0 18446744073709551615) t e in
        absurd (parses (Err h.0) h.1 (a.0, omega (arith, a.3)))

pub wide_number_given : {E : Type 0} (G : List ℕ → Result ℕ E → Type 0) (o : Option Text) (r : Option ℕ) → ((t : Text) (x : Result ℕ E) → G t x → ParsesUnsigned 64 10 t x)
    → (o ≡ None → r ≡ None) → ((t : List ℕ) → o ≡ Some t → ReadsOne G t r) → r ≡ option_and_then wide_number_of o
wide_number_given G None r parses none value = none refl
wide_number_given G (Some t) r parses none value = wide_number_read G t r (parses t) (value t refl)

differs : (t : Text) → t ≢ codes "true" → bytes_eq t (codes "true") ≡ false
differs t other = go (bytes_eq t (codes "true")) refl
  where
    go : (b : Bool) → bytes_eq t (codes "true") ≡ b → bytes_eq t (codes "true") ≡ false
    go false e = e
    go true e = absurd (other ((bytes_eq-Decides t (codes "true")).0 e))

flag_read : (E : Type 0) (t : Text) (r : Option Bool) → ReadsOne (ParsesBool {E = E}) t r → unwrap_or r false ≡ bytes_eq t (codes "true")
flag_read E t (Some true) h = rw h refl
flag_read E t (Some false) h = rw h refl
flag_read E t None h = sym (differs t h.1.0)

pub flag_given : (E : Type 0) (o : Option Text) (r : Option Bool) → (o ≡ None → r ≡ None) → ((t : List ℕ) → o ≡ Some t → ReadsOne (ParsesBool {E = E}) t r)
    → unwrap_or r false ≡ option_map_or (λ text. bytes_eq text (codes "true")) o false
flag_given E None r none value = rw (none refl) refl
flag_given E (Some t) r none value = flag_read E t r (value t refl)
