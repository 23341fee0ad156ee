-- What is found of an opening line, the lines inside and the `)`.
use Rattle.std.proofs.Common.{◌≡◌, ℕ, List, ◌++◌, Option, Ok, Err, append_assoc, ap, ◌∙◌}
use Rattle.wc_model.specs.Definitions.{closing_checks, inside_rules, line_rules, opening_checks, Check, first_broken, BodyLine, NestedLine, kind_following, opening_kind, Scope, Word, Term, Lines, End, Validates}
use Rattle.wc_model.specs.declared.fault.Fault.{Fault}
use Rattle.wc_model.specs.declared.fault.Fault.TheVariants.{Refused, Memory}
use Rattle.wc_model.specs.declared.kind.Kind.{Kind}
use Rattle.wc_model.specs.declared.operator.Operator.{Operator}
use Rattle.wc_verify.specs.{first_at, GoesInside, GoesOn}

module _ (scope : Scope) (label : Option Word) (line : ℕ) (operator : Operator) (term : Option Term) (inside : Lines) (close : ℕ) (following : List BodyLine) (kind : Option Kind) (more : List Check) where
  -- the whole line
  abbrev pub whole : BodyLine
  whole = NestedLine label line operator term inside close

  -- what is asked after the opening line, and after the lines inside
  abbrev pub closing : List Check
  closing = closing_checks close kind (kind_following scope inside (opening_kind scope term)) ++ more

  abbrev pub within : List Check
  within = inside_rules scope inside (opening_kind scope term) ++ closing

  regrouped : (a b c d : List Check) → ((a ++ b) ++ c) ++ d ≡ a ++ (b ++ (c ++ d))
  regrouped a b c d = simp append_assoc

  pub asked : first_broken (line_rules scope whole following kind ++ more) ≡ first_broken (opening_checks scope line operator term kind ++ within)
  asked = ap first_broken (regrouped (opening_checks scope line operator term kind) (inside_rules scope inside (opening_kind scope term)) (closing_checks close kind (kind_following scope inside (opening_kind scope term))) more)

  -- the opening line is refused
  pub opening_refused : (fault : Fault) → Validates {X = Unit {0}} (first_broken (opening_checks scope line operator term kind ++ within)) (first_broken within) (Err fault) → GoesOn scope whole following kind more (Err fault)
  opening_refused (Refused number place) h = asked ∙ h
  opening_refused Memory h = tt

  -- the lines inside are
  pub inside_refused : (first : Option Kind) (fault : Fault) → opening_kind scope term ≡ first → first_broken (opening_checks scope line operator term kind ++ within) ≡ first_broken within →
      GoesInside scope inside first End closing (Err fault) → GoesOn scope whole following kind more (Err fault)
  inside_refused first (Refused number place) e passed h = asked ∙ passed ∙ ap (λ k. first_broken (inside_rules scope inside k ++ closing)) e ∙ h
  inside_refused first Memory e passed h = tt

  -- none of them is: what is found is found at the `)`
  pub closing_found : (first inner : Option Kind) (found : Option ℕ) → opening_kind scope term ≡ first → first_broken (opening_checks scope line operator term kind ++ within) ≡ first_broken within →
      GoesInside scope inside first End closing (Ok inner) → ((line : ℕ) (rest : List Check) → first_broken (closing_checks line kind inner ++ rest) ≡ first_at found line (first_broken rest)) →
      first_broken (line_rules scope whole following kind ++ more) ≡ first_at found close (first_broken more)
  closing_found first inner found e passed h closes =
      asked ∙ passed ∙ ap (λ k. first_broken (inside_rules scope inside k ++ closing)) e ∙ h.0 ∙ ap (λ k. first_broken (closing_checks close kind k ++ more)) (ap (kind_following scope inside) e ∙ h.1) ∙ closes close more
