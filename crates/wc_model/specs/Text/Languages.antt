-- Languages: sets of lists of tokens, and how larger ones are put together, as a grammar's productions do.
use Rattle.std.specs.Prelude.{◌≡◌, ◌≢◌, Bool, not, List, [], ◌∷◌, ◌++◌, filter, Option, Some, None, ◌⊎◌}
use Rattle.std.specs.List.{AllByRecursion}

infix 20 ◌given◌
infixr 30 ◌or◌
infixr 40 ◌then◌
-- a set of lists of tokens
abbrev pub Language : Type 0 → Type 1
Language T = List T → Type 0

-- no list at all
abbrev pub nothing : {T : Type 0} → Language T
nothing tokens = ⊥

-- no token
abbrev pub empty : {T : Type 0} → Language T
empty tokens = tokens ≡ []

-- one token of this sort
abbrev pub one : {T : Type 0} → (T → Type 0) → Language T
one IsSort [] = ⊥
one IsSort (token ∷ []) = IsSort token
one IsSort (token ∷ next ∷ more) = ⊥

-- any number of tokens of this sort
abbrev pub many : {T : Type 0} → (T → Type 0) → Language T
many IsSort tokens = AllByRecursion IsSort tokens

-- the tokens are a prefix of one language, and then the rest of the other
pub record Sequence {T : Type 0} (first second : List T → Type 0) (tokens : List T) : Type 0 where
  pub prefix : List T
  pub rest : List T
  pub whole : tokens ≡ prefix ++ rest
  pub begins : first prefix
  pub goes_on : second rest

-- one, then the other
abbrev pub ◌then◌ : {T : Type 0} → Language T → Language T → Language T
◌then◌ first second = Sequence first second

-- either
abbrev pub ◌or◌ : {T : Type 0} → Language T → Language T → Language T
◌or◌ first second tokens = first tokens ⊎ second tokens

-- the language if the fact holds, and nothing if it does not
abbrev pub ◌given◌ : {T : Type 0} → Language T → Type 0 → Language T
◌given◌ language Fact tokens = Fact × language tokens

-- what is spelled, if there is something
abbrev pub optional : {T A : Type 0} → (A → Language T) → Option A → Language T
optional spelling None = empty
optional spelling (Some value) = spelling value

-- one after the other
abbrev pub each : {T A : Type 0} → (A → Language T) → List A → Language T
each spelling [] = empty
each spelling (value ∷ values) = spelling value then each spelling values

-- one after the other, with a separator between each two
abbrev pub separated : {T A : Type 0} → Language T → (A → Language T) → List A → Language T
separated separator spelling [] = empty
separated separator spelling (value ∷ values) = spelling value then each (λ next. separator then spelling next) values

-- tokens of this sort may be anywhere, and are passed over
abbrev pub skipping : {T : Type 0} → (T → Bool) → Language T → Language T
skipping is_skipped language tokens = language (filter (λ token. not (is_skipped token)) tokens)

-- what some further tokens complete
abbrev pub prefix_of : {T : Type 0} → Language T → Language T
prefix_of {T} language tokens = (more : List T) × language (tokens ++ more)

-- what is not yet whole: some token has still to come
abbrev pub unfinished : {T : Type 0} → Language T → Language T
unfinished {T} language tokens = (next : T) × (more : List T) × language (tokens ++ next ∷ more)

-- what has started, and is not yet whole
abbrev pub started : {T : Type 0} → Language T → Language T
started language tokens = (tokens ≢ []) × unfinished language tokens
