-- Which one of a call's list breaks a rule first.
use Rattle.wc_model.proofs.Common.{◌≡◌, ℕ, suc, ◌+◌, ◌<◌, ◌≤◌, Bool, true, false, not, List, [], ◌∷◌, map, ◌++◌, Option, Some, None, Err, append-nil, add-one, refl, sym, ap, subst, ◌∙◌, arith, ◌⊎◌, inl, inr, if◌then◌else◌, is_some, slice_get, list_any, cases_order, prefix_len-le-length}
use Rattle.wc_diag_places.proofs.Positions.{earlier_there, first_before, item_far, item_there, previous_of}
use Rattle.wc_diag_places.specs.Arguments.{IsArgument, IsArgumentAt, IsFirstBrokenOf, KeepsNames, RuleIs, argument_count, argument_from, broken_at, means_name}
use Rattle.wc_diag_places.specs.OperandTokens.{begins_item, is_shape, list_end, tokens_at}
use Rattle.wc_diag_places.specs.Lists.{AreListed, IsListedAs, item_after, item_at, operand_in, text_at}
use Rattle.wc_diag_places.specs.declared.arguments.BrokenItem.{BrokenItem}
use Rattle.wc_diag_places.specs.declared.arguments.ListItem.{ListItem}
use Rattle.wc_lexer.specs.declared.shape.Shape.TheVariants.{Closing}
use Rattle.wc_lexer.specs.declared.shape.Token.{Token}
use Rattle.wc_model.specs.Definitions.{actual_checks, argument_checks, formal_named, is_readable, is_writable, suits_input, suits_output, Member, VariableType, members_of, same_name, Name, name_of, Scope, entity_of, Assignment, Term, Validates}
use Rattle.wc_model.specs.Language.Checks.{Position, Refusal, asks, first_broken, positions_of}
use Rattle.wc_model.specs.declared.fault.Fault.{Fault}
use Rattle.wc_model.specs.declared.fault.Fault.TheVariants.{Refused}
use Rattle.wc_model.specs.declared.operator.Direction.{Direction}
use Rattle.wc_model.specs.declared.operator.Direction.TheVariants.{Into, OutOf}
use Rattle.wc_names.specs.Numbered.{numbered_type}
use Rattle.wc_names.specs.declared.declared_type.DeclaredType.{DeclaredType}
use Rattle.wc_names.specs.declared.kept.Tables.{Tables}
use Rattle.wc_verify.specs.Seeing.{HoldsNames, first_at, IsScope}

-- the number of a refusal, if there is one
abbrev number_of : Option Refusal → ℕ
number_of None = 0
number_of (Some refusal) = refusal.number

-- the rules of one of a list without their line
abbrev value_rules : Scope → Direction → Option Member → Term → List (ℕ × Bool)
value_rules scope Into formal term = (401, is_some (entity_of scope term)) ∷ (405, is_readable (entity_of scope term)) ∷ (402, suits_input scope formal term) ∷ []
value_rules scope OutOf formal term = (401, is_some (entity_of scope term)) ∷ (404, is_writable (entity_of scope term)) ∷ (402, suits_output scope formal term) ∷ []

abbrev rules_of : Scope → Direction → List Member → Position Assignment → List (ℕ × Bool)
rules_of scope direction members position =
    let formal = formal_named direction members position.item.formal in
    (409, is_some formal) ∷ (410, not (list_any (λ a. same_name a.formal position.item.formal) position.before)) ∷ value_rules scope direction formal position.item.actual

abbrev first_number : List (ℕ × Bool) → Option ℕ
first_number [] = None
first_number (rule ∷ rules) = if rule.1 then first_number rules else Some rule.0

asked_more : (holds : Bool) (number line : ℕ) (found : Option Refusal) (others : Option ℕ) → found ≡ first_at others line None
    → (if holds then found else Some (record { number = number; line = line })) ≡ first_at (if holds then others else Some number) line None
asked_more true number line found others e = e
asked_more false number line found others e = refl

asked_on : (line : ℕ) (rules : List (ℕ × Bool)) → first_broken (map (λ rule. asks rule.0 line rule.1) rules) ≡ first_at (first_number rules) line None
asked_on line [] = refl
asked_on line (rule ∷ rules) = asked_more rule.1 rule.0 line (first_broken (map (λ rule. asks rule.0 line rule.1) rules)) (first_number rules) (asked_on line rules)

number_broken : (scope : Scope) (members : List Member) (position : Position Assignment) → Option ℕ
number_broken scope members position = first_number (rules_of scope position.item.direction members position)

on_line : (scope : Scope) (members : List Member) (line : ℕ) (position : Position Assignment) → broken_at scope line members position ≡ first_at (number_broken scope members position) line None
unfolding number_broken
on_line scope members line position = by position.item.direction
  where
    by : (direction : Direction) →
        first_broken (asks 409 line (is_some (formal_named direction members position.item.formal)) ∷ asks 410 line (not (list_any (λ a. same_name a.formal position.item.formal) position.before))
        ∷ actual_checks scope line direction (formal_named direction members position.item.formal) position.item.actual)
        ≡ first_at (first_number (rules_of scope direction members position)) line None
    by Into = asked_on line (rules_of scope Into members position)
    by OutOf = asked_on line (rules_of scope OutOf members position)

same_number : (one other : Option ℕ) (line place : ℕ) → first_at one line None ≡ first_at other place None → one ≡ other
same_number None None line place e = refl
same_number (Some n) (Some m) line place e = ap (λ found. Some (number_of found)) e
same_number None (Some m) line place e = cc
same_number (Some n) None line place e = cc

-- what the verifier finds of one of a list, on a line, it finds on any
pub any_line : (scope : Scope) (members : List Member) (line place : ℕ) (position : Position Assignment) (argument : Assignment) (found : Option ℕ) → position.item ≡ argument
    → first_broken (argument_checks scope 0 members (record { before = position.before; item = argument; following = position.following }) ++ []) ≡ first_at found place None
    → broken_at scope line members position ≡ first_at found line None
any_line scope members line place position argument found same e =
    let here : broken_at scope 0 members position ≡ first_at found place None =
    ap (λ one. broken_at scope 0 members (record { before = position.before; item = one; following = position.following })) same
    ∙ ap first_broken (sym (append-nil (argument_checks scope 0 members (record { before = position.before; item = argument; following = position.following })))) ∙ e in
    on_line scope members line position ∙ ap (λ number. first_at number line None) (same_number (number_broken scope members position) found 0 place (sym (on_line scope members 0 position) ∙ here))

-- the number of a fault that the verifier finds
pub refused_at : (X : Type 0) (found rest : Option Refusal) (fault : Fault) (number place : ℕ) → fault ≡ Refused number place → Validates {X = X} found rest (Err fault) → found ≡ first_at (Some number) place None
refused_at X found rest fault number place is h = subst (λ one. Validates {X = X} found rest (Err one)) is h

-- one of a list as the verifier is asked of it
pub same_assignment : (tokens : List Token) (item : ListItem) (assignment : Assignment) (name : List ℕ) (value : List Token) (term : Term) → IsListedAs tokens item assignment
    → name ≡ text_at tokens item.name → value ≡ tokens_at tokens item.value item.count → Some term ≡ operand_in value
    → assignment ≡ record { direction = item.direction; formal = name_of name; actual = term }
same_assignment tokens item assignment name value term listed named there read =
    let both : Some assignment.actual ≡ Some term = listed.actual ∙ ap operand_in (sym there) ∙ sym read in
    let same : assignment.actual ≡ term = (cc (both)) in
    let formal : assignment.formal ≡ name_of name = listed.formal ∙ ap name_of (sym named) in
    λ i. record { direction = listed.direction i; formal = formal i; actual = same i }

-- what is known of those before a number: the next one is where it is, their names are kept, and none of them breaks a rule
pub record NoneBroken (tables : Tables) (unit : ℕ) (declared : DeclaredType) (tokens : List Token) (names : List Name) (item : ListItem) (n : ℕ) : Type 0 where
  pub here : item ≡ item_at tokens n
  pub held : (arguments : List Assignment) (position : Position Assignment) → AreListed tokens arguments → slice_get (positions_of arguments) n ≡ Some position
      → HoldsNames names position.before
  pub none : (scope : Scope) (type : VariableType) (line : ℕ) (arguments : List Assignment) (j : ℕ) (earlier : Position Assignment) → IsScope tables unit scope
      → numbered_type scope.before type ≡ Some declared → AreListed tokens arguments → j < n → slice_get (positions_of arguments) j ≡ Some earlier
      → broken_at scope line (members_of scope.before type) earlier ≡ None

pub at_first : (tables : Tables) (unit : ℕ) (declared : DeclaredType) (tokens : List Token) (names : List Name) (item : ListItem) → names ≡ [] → item ≡ item_after tokens 2
    → NoneBroken tables unit declared tokens names item 0
unfolding item_at
at_first tables unit declared tokens names item none is = record {
  here = is;
  held = λ arguments position listed there.
      subst (λ kept. HoldsNames kept position.before) (sym none) (subst (λ (before : List Assignment). HoldsNames [] before) (sym (first_before arguments position there)) (λ name. refl));
  none = λ scope type line arguments j earlier is num listed below there. absurd (omega (arith, below));
}

module _ (tables : Tables) (unit : ℕ) (declared : DeclaredType) (tokens : List Token) (names : List Name) (item : ListItem) (n : ℕ) (so_far : NoneBroken tables unit declared tokens names item n) where
  -- the item is that of the position
  listed_here : (arguments : List Assignment) (position : Position Assignment) → AreListed tokens arguments → slice_get (positions_of arguments) n ≡ Some position → IsListedAs tokens item position.item
  listed_here arguments position listed there =
      subst (λ (one : ListItem). IsListedAs tokens one position.item) (sym so_far.here) (listed n position.item (item_there [] arguments n position there))

  module _ (found : Option ℕ) (rule : RuleIs tables unit declared tokens names item found) where
    pub broken_here : (scope : Scope) (type : VariableType) (line : ℕ) (arguments : List Assignment) (position : Position Assignment) → IsScope tables unit scope
        → numbered_type scope.before type ≡ Some declared → AreListed tokens arguments → slice_get (positions_of arguments) n ≡ Some position
        → broken_at scope line (members_of scope.before type) position ≡ first_at found line None
    broken_here scope type line arguments position is num listed there =
        rule scope type line position is num (listed_here arguments position listed there) (so_far.held arguments position listed there)

    -- it breaks none: one more
    pub one_further : (more : List Name) (next : ListItem) → found ≡ None → KeepsNames tokens names more item → next ≡ item_after tokens item.end → NoneBroken tables unit declared tokens more next (n + 1)
    unfolding item_at
    one_further more next is_none keeps is = record {
      here = is ∙ ap (λ (one : ListItem). item_after tokens one.end) so_far.here ∙ ap (item_at tokens) (sym (add-one n));
      held = λ arguments position listed there.
          let at : slice_get (positions_of arguments) (suc n) ≡ Some position = ap (slice_get (positions_of arguments)) (sym (add-one n)) ∙ there in
          let after = previous_of [] arguments n position at in
          subst (λ (before : List Assignment). HoldsNames more before) (sym after.before_is)
          (keeps after.previous (listed_here arguments after.previous listed after.there) (so_far.held arguments after.previous listed after.there));
      none = λ scope type line arguments j earlier is num listed below there.
          by scope type line arguments j earlier is num listed below there (cases_order j n);
    }
      where
        by : (scope : Scope) (type : VariableType) (line : ℕ) (arguments : List Assignment) (j : ℕ) (earlier : Position Assignment) → IsScope tables unit scope
            → numbered_type scope.before type ≡ Some declared → AreListed tokens arguments → j < n + 1 → slice_get (positions_of arguments) j ≡ Some earlier
            → (j ≡ n) ⊎ ((j < n) ⊎ (n < j)) → broken_at scope line (members_of scope.before type) earlier ≡ None
        by scope type line arguments j earlier is num listed below there (inl same) =
            broken_here scope type line arguments earlier is num listed (ap (slice_get (positions_of arguments)) (sym same) ∙ there) ∙ ap (λ number. first_at number line None) is_none
        by scope type line arguments j earlier is num listed below there (inr (inl less)) = so_far.none scope type line arguments j earlier is num listed less there
        by scope type line arguments j earlier is num listed below there (inr (inr more)) = absurd (omega (arith, below, more))

  -- no rule is broken before
  none_below : (scope : Scope) (type : VariableType) (line k number : ℕ) (arguments : List Assignment) → IsScope tables unit scope → numbered_type scope.before type ≡ Some declared
      → AreListed tokens arguments → IsFirstBrokenOf scope line (members_of scope.before type) arguments number k → k < n → ⊥
  none_below scope type line k number arguments is num listed first below =
      let none = sym (so_far.none scope type line arguments k first.position is num listed below first.there) ∙ first.broken in cc

  -- past the end of the list there is none
  pub past_end : (scope : Scope) (type : VariableType) (line k number : ℕ) (arguments : List Assignment) → list_end tokens ≤ item.name → IsScope tables unit scope
      → numbered_type scope.before type ≡ Some declared → AreListed tokens arguments → IsFirstBrokenOf scope line (members_of scope.before type) arguments number k → ⊥
  past_end scope type line k number arguments past is num listed first = by (cases_order k n)
    where
      here : (position : Position Assignment) → slice_get (positions_of arguments) n ≡ Some position → ⊥
      here position there = let inside = (listed_here arguments position listed there).name_within in omega (arith, past, inside)

      by : (k ≡ n) ⊎ ((k < n) ⊎ (n < k)) → ⊥
      by (inl same) = here first.position (ap (slice_get (positions_of arguments)) (sym same) ∙ first.there)
      by (inr (inl less)) = none_below scope type line k number arguments is num listed first less
      by (inr (inr more)) = let one = earlier_there (positions_of arguments) n k first.position first.there more in here one.0 one.1

  module _ (found : Option ℕ) (number : ℕ) (is_found : found ≡ Some number) (rule : RuleIs tables unit declared tokens names item found) where
    -- if it breaks one, it is the first
    pub found_first : (scope : Scope) (type : VariableType) (line k other : ℕ) (arguments : List Assignment) → IsScope tables unit scope → numbered_type scope.before type ≡ Some declared
        → AreListed tokens arguments → IsFirstBrokenOf scope line (members_of scope.before type) arguments other k → (number ≡ other) × (item ≡ item_at tokens k)
    found_first scope type line k other arguments is num listed first = by (cases_order k n)
      where
        here : (position : Position Assignment) → slice_get (positions_of arguments) n ≡ Some position → broken_at scope line (members_of scope.before type) position ≡ Some (record { number = number; line = line })
        here position there = broken_here found rule scope type line arguments position is num listed there ∙ ap (λ one. first_at one line None) is_found

        by : (k ≡ n) ⊎ ((k < n) ⊎ (n < k)) → (number ≡ other) × (item ≡ item_at tokens k)
        by (inl same) =
            let two = sym (here first.position (ap (slice_get (positions_of arguments)) (sym same) ∙ first.there)) ∙ first.broken in
            (ap number_of two, so_far.here ∙ ap (item_at tokens) (sym same))
        by (inr (inl less)) = absurd (none_below scope type line k other arguments is num listed first less)
        by (inr (inr more)) =
            let one = earlier_there (positions_of arguments) n k first.position first.there more in
            let two = sym (here one.0 one.1) ∙ first.none_before n one.0 more one.1 in absurd (cc)

-- as many items as tokens before the end of a list are not in it
pub all_looked_at : (tables : Tables) (unit : ℕ) (declared : DeclaredType) (tokens : List Token) (names : List Name) (item : ListItem) (n : ℕ) → NoneBroken tables unit declared tokens names item n
    → list_end tokens ≤ n → (scope : Scope) (type : VariableType) (line k number : ℕ) (arguments : List Assignment) → IsScope tables unit scope
    → numbered_type scope.before type ≡ Some declared → AreListed tokens arguments → IsFirstBrokenOf scope line (members_of scope.before type) arguments number k → ⊥
all_looked_at tables unit declared tokens names item n so_far all scope type line k number arguments is num listed first =
    past_end tables unit declared tokens names item n so_far scope type line k number arguments
    (let far = item_far tokens n in let within = prefix_len-le-length (λ (token : Token). not (is_shape Closing token.shape)) tokens in
    let here = ap (λ (one : ListItem). one.name) so_far.here in omega (arith, all, far, within, here)) is num listed first

-- what is found is one of a number
abbrev item_or : ListItem → Option BrokenItem → ListItem
item_or other None = other
item_or other (Some broken) = broken.item

abbrev number_or : ℕ → Option BrokenItem → ℕ
number_or other None = other
number_or other (Some broken) = broken.number

pub same_broken : (found : Option BrokenItem) (broken : BrokenItem) (item : ListItem) (number : ℕ) → found ≡ Some broken → found ≡ Some (record { item = item; number = number })
    → (broken.item ≡ item) × (broken.number ≡ number)
same_broken found broken item number here there = (ap (item_or item) (sym here ∙ there), ap (number_or number) (sym here ∙ there))

-- the tokens of one of a list to which a refusal refers are in the list
argument_there : (tokens : List Token) (number : ℕ) (item : ListItem) (a : Assignment) → IsListedAs tokens item a
    → (argument_from number item + argument_count number item ≤ list_end tokens) × (begins_item tokens (argument_from number item) ≡ true)
argument_there tokens number item a listed = by (means_name number)
  where
    by : (name : Bool) → ((if name then item.name else item.value) + (if name then 1 else item.count) ≤ list_end tokens) × (begins_item tokens (if name then item.name else item.value) ≡ true)
    by true = (listed.name_within, listed.name_begins)
    by false = (listed.value_within, listed.value_begins)

pub argument_operand_tokens : (scope : Scope) (number : ℕ) (tokens operand_tokens : List Token) (from count : ℕ) → IsArgumentAt scope number tokens from count
    → (from + count ≤ list_end tokens → begins_item tokens from ≡ true → operand_tokens ≡ tokens_at tokens from count) → IsArgument scope number tokens operand_tokens
argument_operand_tokens scope number tokens operand_tokens from count at there = λ type line k arguments typed instance listed first.
    let here = at type line k arguments typed instance listed first in
    let one = listed k first.position.item (item_there [] arguments k first.position first.there) in
    let inside = argument_there tokens number (item_at tokens k) first.position.item one in
    there (subst (λ n. n ≤ list_end tokens) (λ i. sym here.0 i + sym here.1 i) inside.0) (subst (λ n. begins_item tokens n ≡ true) (sym here.0) inside.1)
    ∙ (λ i. tokens_at tokens (here.0 i) (here.1 i))
