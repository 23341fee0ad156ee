-- The name that a key of a set names. (No rule of the language.)
use Rattle.std.specs.Prelude.{◌≡◌, ℕ, ◌*◌, ◌%◌, ◌^◌, Bool, IsTrue, List, [], ◌∷◌, map, fold, bit_or, bit_xor}
use Rattle.std.specs.Int.{from_le_bytes, rotate_left}
use Rattle.std.proofs.Common.{sym, ap, w64}
use Rattle.std.proofs.lemmas.Slice.Eq.{bytes_eq-Decides}
use Rattle.std.specs.Cmp.{IsEquivalence, decided}
use Rattle.std.specs.Hash as fed
use Rattle.wc_model.specs.Definitions.{same_name, Name, name_of}
use Rattle.wc_names.specs.declared.key.Key.{Key}

-- the name that a key names
abbrev pub name_of_key : Key → Name
name_of_key key = name_of key.text.now

-- the names of keys, in their order
abbrev pub names_of_keys : List Key → List Name
names_of_keys keys = map name_of_key keys

-- two keys name one name
abbrev pub same_key : Key → Key → Bool
same_key a b = same_name (name_of_key b) (name_of_key a)

-- a byte as it is hashed: a letter is the same in either case
abbrev pub caseless : ℕ → ℕ
caseless byte = bit_or byte 32

-- a number with one word more
abbrev pub mix : ℕ → ℕ → ℕ
mix number word = rotate_left w64 ((bit_xor number word * 0x9e3779b97f4a7c15) % 2 ^ 64) 26

-- eight bytes as one word
abbrev pub word_of : List ℕ → ℕ
word_of bytes = from_le_bytes w64 (map caseless bytes)

-- the number of a name after another number: eight bytes are one word, and each of the last ones is one
abbrev pub number_after : ℕ → Name → ℕ
number_after number (a ∷ b ∷ c ∷ d ∷ e ∷ f ∷ g ∷ h ∷ name) = number_after (mix number (word_of (a ∷ b ∷ c ∷ d ∷ e ∷ f ∷ g ∷ h ∷ []))) name
number_after number name = fold (λ n byte. mix n (caseless byte)) number name

-- the number of a name, by all of its bytes
abbrev pub name_number : Name → ℕ
name_number name = number_after 0xcbf29ce484222325 name

-- what is hashed of a name: its number alone
abbrev pub fed_name : Name → fed.HashWrites
fed_name name = fed.u64 (name_number name)

-- the equality of names decides whether they are one
pub same_name_laws : IsEquivalence same_name
same_name_laws = decided same_name (λ x y. bytes_eq-Decides x y)

-- the equality of keys is one
pub same_key_laws : IsEquivalence same_key
same_key_laws = record {
  refl = λ x. same_name_laws.refl (name_of_key x);
  symm = λ x y. same_name_laws.symm (name_of_key y) (name_of_key x);
  congr = λ x y z e. ap (λ w. same_name (name_of_key z) w) (sym ((bytes_eq-Decides (name_of_key y) (name_of_key x)).0 e));
}

-- equal keys are hashed alike
pub same_key_fed : (x y : Key) → IsTrue (same_key x y) → fed_name (name_of_key x) ≡ fed_name (name_of_key y)
same_key_fed x y e = ap fed_name (sym ((bytes_eq-Decides (name_of_key y) (name_of_key x)).0 e))
