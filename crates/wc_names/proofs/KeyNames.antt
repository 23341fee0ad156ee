-- A name word by word, and what is found among keys: what is found among their names.
use Rattle.wc_model.proofs.Common.{◌≡◌, ◌+◌, Bool, true, false, not, List, [], ◌∷◌, ◌++◌, refl, sym, ap, ◌∙◌, ℕ, ◌<◌, ◌≤◌, length, get_or, take, drop, arith, map-append, list_any, to_ascii_lowercase}
use Rattle.std.specs.Prelude.{◌||◌, if◌then◌else◌}
use Rattle.wc_model.specs.Definitions.{is_among, Name, name_of}
use Rattle.wc_names.specs.Keys.{name_of_key, names_of_keys, same_key, same_name_laws, caseless, mix, number_after, word_of}
use Rattle.wc_names.specs.declared.key.Key.{Key}

pub keys_any : (k : Key) (keys : List Key) → list_any (same_key k) keys ≡ is_among (names_of_keys keys) (name_of_key k)
keys_any k [] = refl
keys_any k (x ∷ keys) = λ i. same_name_laws.symm (name_of_key x) (name_of_key k) i || keys_any k keys i

-- the names once a key is inserted
keys_more_by : (b : Bool) (k : Key) (keys : List Key) → names_of_keys (if b then keys else keys ++ k ∷ []) ≡ (if not b then names_of_keys keys ++ name_of_key k ∷ [] else names_of_keys keys)
keys_more_by true k keys = refl
keys_more_by false k keys = map-append name_of_key keys (k ∷ [])

pub keys_more : (k : Key) (keys new : List Key) (names : List Name) (fresh : Bool) → names_of_keys keys ≡ names → new ≡ (if list_any (same_key k) keys then keys else keys ++ k ∷ []) → fresh ≡ not (list_any (same_key k) keys) →
    names_of_keys new ≡ (if fresh then names ++ name_of_key k ∷ [] else names)
keys_more k keys new names fresh seen is e =
    ap names_of_keys is ∙ keys_more_by (list_any (same_key k) keys) k keys ∙ (λ i. if sym e i then seen i ++ name_of_key k ∷ [] else seen i)

-- eight bytes in small letters
abbrev pub small_eight : List ℕ → List ℕ
small_eight bytes =
    to_ascii_lowercase (get_or bytes 0 0) ∷ to_ascii_lowercase (get_or bytes 1 0) ∷ to_ascii_lowercase (get_or bytes 2 0) ∷ to_ascii_lowercase (get_or bytes 3 0) ∷ to_ascii_lowercase (get_or bytes 4 0) ∷ to_ascii_lowercase (get_or bytes 5 0)
    ∷ to_ascii_lowercase (get_or bytes 6 0) ∷ to_ascii_lowercase (get_or bytes 7 0) ∷ []

-- with them a text of eight bytes and more begins
pub eight : (text : List ℕ) → 8 ≤ length text → take 8 (name_of text) ≡ small_eight (take 8 text)
eight (a ∷ b ∷ c ∷ d ∷ e ∷ f ∷ g ∷ h ∷ text) long = refl
eight text long = absurd (omega (arith, long))

-- the first word of what is left
pub word_next : (number : ℕ) (name : Name) → 8 ≤ length name → number_after number name ≡ number_after (mix number (word_of (take 8 name))) (drop 8 name)
word_next number (a ∷ b ∷ c ∷ d ∷ e ∷ f ∷ g ∷ h ∷ name) long = refl
word_next number name long = absurd (omega (arith, long))

-- one of the last bytes
pub byte_next : (number byte : ℕ) (name : Name) → length name < 7 → number_after number (byte ∷ name) ≡ number_after (mix number (caseless byte)) name
byte_next number byte (b ∷ c ∷ d ∷ e ∷ f ∷ g ∷ h ∷ name) short = absurd (omega (arith, short))
byte_next number byte name short = refl
