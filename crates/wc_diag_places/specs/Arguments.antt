-- Which one of a call's list breaks a rule first, and the tokens of it to which a refusal refers. (The profile's own.)
use Rattle.std.specs.Prelude.{◌≡◌, ◌<◌, ◌==◌, ◌||◌, ℕ, Bool, true, List, ◌∷◌, Option, Some, None, slice_get, if◌then◌else◌}
use Rattle.wc_diag_places.specs.OperandTokens.{tokens_at}
use Rattle.wc_diag_places.specs.Lists.{AreListed, IsListedAs, item_at, text_at}
use Rattle.wc_diag_places.specs.declared.arguments.BrokenItem.{BrokenItem}
use Rattle.wc_diag_places.specs.declared.arguments.ListItem.{ListItem}
use Rattle.wc_lexer.specs.declared.shape.Token.{Token}
use Rattle.wc_model.specs.Definitions.{argument_checks, is_instance, Member, VariableType, members_of, Name, name_of, Scope, type_of, Assignment}
use Rattle.wc_model.specs.Language.Checks.{Position, Refusal, first_broken, positions_of}
use Rattle.wc_names.specs.Numbered.{numbered_type}
use Rattle.wc_names.specs.declared.declared_type.DeclaredType.{DeclaredType}
use Rattle.wc_names.specs.declared.kept.Tables.{Tables}
use Rattle.wc_verify.specs.Seeing.{HoldsNames, first_at, IsScope}

-- the first rule that one of a list breaks, with those before it
abbrev pub broken_at : Scope → ℕ → List Member → Position Assignment → Option Refusal
broken_at scope line members position = first_broken (argument_checks scope line members position)

-- what is found of an item after those whose names are kept: the rule that it breaks first, if it breaks one
abbrev pub RuleIs : Tables → ℕ → DeclaredType → List Token → List Name → ListItem → Option ℕ → Type 0
RuleIs tables unit declared tokens names item found =
    (scope : Scope) (type : VariableType) (line : ℕ) (position : Position Assignment) → IsScope tables unit scope → numbered_type scope.before type ≡ Some declared
    → IsListedAs tokens item position.item → HoldsNames names position.before → broken_at scope line (members_of scope.before type) position ≡ first_at found line None

-- and its name is kept after theirs
abbrev pub KeepsNames : List Token → (names more : List Name) → ListItem → Type 0
KeepsNames tokens names more item =
    (position : Position Assignment) → IsListedAs tokens item position.item → HoldsNames names position.before → HoldsNames more (position.item ∷ position.before)

-- the one of that number breaks this rule first, and none before it breaks any
pub record IsFirstBrokenOf (scope : Scope) (line : ℕ) (members : List Member) (arguments : List Assignment) (number k : ℕ) : Type 0 where
  pub position : Position Assignment
  pub there : slice_get (positions_of arguments) k ≡ Some position
  pub broken : broken_at scope line members position ≡ Some (record { number = number; line = line })
  pub none_before : (j : ℕ) (earlier : Position Assignment) → j < k → slice_get (positions_of arguments) j ≡ Some earlier
      → broken_at scope line members earlier ≡ None

-- what is found in the list of a call of an instance of that type is the one that breaks a rule first, and its rule
abbrev pub FindsBroken : Tables → ℕ → DeclaredType → List Token → Option BrokenItem → Type 0
FindsBroken tables unit declared tokens found =
    (scope : Scope) (type : VariableType) (line k number : ℕ) (arguments : List Assignment)
    → IsScope tables unit scope → numbered_type scope.before type ≡ Some declared → AreListed tokens arguments
    → IsFirstBrokenOf scope line (members_of scope.before type) arguments number k
    → found ≡ Some (record { item = item_at tokens k; number = number })

-- 409 and 410 refer to the name, the others to the value
abbrev pub means_name : ℕ → Bool
means_name number = (number == 409) || (number == 410)

abbrev pub argument_from : ℕ → ListItem → ℕ
argument_from number item = if means_name number then item.name else item.value

abbrev pub argument_count : ℕ → ListItem → ℕ
argument_count number item = if means_name number then 1 else item.count

-- these tokens from an index on are those to which a refusal of that number refers in the list of a call of an instance of that type
abbrev pub PointsToBroken : ℕ → Tables → ℕ → DeclaredType → List Token → (from count : ℕ) → Type 0
PointsToBroken number tables unit declared tokens from count =
    (scope : Scope) (type : VariableType) (line k : ℕ) (arguments : List Assignment)
    → IsScope tables unit scope → numbered_type scope.before type ≡ Some declared → AreListed tokens arguments
    → IsFirstBrokenOf scope line (members_of scope.before type) arguments number k
    → (from ≡ argument_from number (item_at tokens k)) × (count ≡ argument_count number (item_at tokens k))

-- some tokens from an index on are those to which a refusal of that number refers: of the first that breaks a rule in the list of a
-- call of an instance in this scope
abbrev pub IsArgumentAt : Scope → ℕ → List Token → (from count : ℕ) → Type 0
IsArgumentAt scope number tokens from count =
    (type : VariableType) (line k : ℕ) (arguments : List Assignment)
    → type_of scope (name_of (text_at tokens 1)) ≡ Some type → is_instance (Some type) ≡ true → AreListed tokens arguments
    → IsFirstBrokenOf scope line (members_of scope.before type) arguments number k
    → (from ≡ argument_from number (item_at tokens k)) × (count ≡ argument_count number (item_at tokens k))

-- so of the tokens themselves
abbrev pub IsArgument : Scope → ℕ → List Token → List Token → Type 0
IsArgument scope number tokens operand_tokens =
    (type : VariableType) (line k : ℕ) (arguments : List Assignment)
    → type_of scope (name_of (text_at tokens 1)) ≡ Some type → is_instance (Some type) ≡ true → AreListed tokens arguments
    → IsFirstBrokenOf scope line (members_of scope.before type) arguments number k
    → operand_tokens ≡ tokens_at tokens (argument_from number (item_at tokens k)) (argument_count number (item_at tokens k))
