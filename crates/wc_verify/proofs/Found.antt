-- What is found first at a line, rule by rule, and the kind of the result after it.
use Rattle.wc_model.proofs.Common.{◌≡◌, ℕ, Bool, List, [], ◌∷◌, ◌++◌, Option, append_assoc, sym, ap, ◌∙◌, true, false, Some, Result, Err, subst, if◌then◌else◌}
use Rattle.wc_model.specs.Definitions.{Check, Refusal, asks, first_broken, line_rules, BodyLine, PlainLine, kind_after, term_kind, Scope, Word, Term, Load, Validates}
use Rattle.wc_verify.specs.{Finds, first_at, GoesOn}
use Rattle.wc_model.specs.declared.fault.Fault.{Fault}
use Rattle.wc_model.specs.declared.fault.Fault.TheVariants.{Refused, Memory}
use Rattle.wc_model.specs.declared.kind.Kind.{Kind}
use Rattle.wc_model.specs.declared.kind.Kind.TheVariants.{Bool as KindBool}

-- a rule's number is what is found of it
abbrev pub Asked : ℕ → Bool → Option ℕ → Type 0
Asked number holds found = (line : ℕ) (rest : List Check) → first_broken (asks number line holds ∷ rest) ≡ first_at found line (first_broken rest)

-- what is found of one, and then of another
abbrev pub Both : Option ℕ → Option ℕ → Option ℕ → Type 0
Both first then' found = (line : ℕ) (rest : Option Refusal) → first_at found line rest ≡ first_at first line (first_at then' line rest)

-- two rules, one after the other
pub pair_found : (n m : ℕ) (a b a' b' : Bool) (p q r : Option ℕ) → Asked n a p → Asked m b q → Both p q r → a' ≡ a → b' ≡ b → (line : ℕ) (rest : List Check) →
    first_broken (asks n line a' ∷ asks m line b' ∷ rest) ≡ first_at r line (first_broken rest)
pair_found n m a b a' b' p q r asked asked' both e e' line rest =
    (λ i. first_broken (asks n line (e i) ∷ asks m line (e' i) ∷ rest)) ∙ asked line (asks m line b ∷ rest) ∙ ap (first_at p line) (asked' line rest) ∙ sym (both line (first_broken rest))

-- rules, and others after them
pub joined : (these those : ℕ → List Check) (p q r : Option ℕ) → Finds these p → Finds those q → Both p q r → Finds (λ line. these line ++ those line) r
joined these those p q r finds finds' both line rest =
    ap first_broken (append_assoc (these line) (those line) rest) ∙ finds line (those line ++ rest) ∙ ap (first_at p line) (finds' line rest) ∙ sym (both line (first_broken rest))

-- a rule that holds if another does
pub asked_as : (n : ℕ) (a a' : Bool) (p : Option ℕ) → Asked n a p → a' ≡ a → Finds (λ line. asks n line a' ∷ []) p
asked_as n a a' p asked e line rest = (λ i. first_broken (asks n line (e i) ∷ rest)) ∙ asked line rest

-- a fault stays
goes_so : (scope : Scope) (line : BodyLine) (following : List BodyLine) (kind : Option Kind) (more : List Check) (fault : Fault) →
    Validates {X = Unit {0}} (first_broken (line_rules scope line following kind ++ more)) (first_broken more) (Err fault) → GoesOn scope line following kind more (Err fault)
goes_so scope line following kind more (Refused number place) h = h
goes_so scope line following kind more Memory h = tt

pub goes_wrong : (scope : Scope) (line : BodyLine) (following : List BodyLine) (kind : Option Kind) (more : List Check) (r : Result (Unit {0}) Fault) (fault : Fault) → r ≡ Err fault →
    Validates (first_broken (line_rules scope line following kind ++ more)) (first_broken more) r → GoesOn scope line following kind more (Err fault)
goes_wrong scope line following kind more r fault e h = goes_so scope line following kind more fault (subst (λ x. Validates (first_broken (line_rules scope line following kind ++ more)) (first_broken more) x) e h)

-- the kind after LD and LDN
pub loaded : (scope : Scope) (label : Option Word) (line : ℕ) (negated : Bool) (term : Term) (kind seen after : Option Kind) → after ≡ (if negated then Some KindBool else seen) → term_kind scope term ≡ seen →
    after ≡ kind_after scope (PlainLine label line (Load negated term)) kind
loaded scope label line true term kind seen after e k = e
loaded scope label line false term kind seen after e k = e ∙ sym k
