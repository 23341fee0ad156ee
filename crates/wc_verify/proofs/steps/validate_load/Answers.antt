use Rattle.wc_model.proofs.Common.{◌≡◌, Bool, true, false, sym, ap, ◌∙◌, ℕ, Option, [], ◌∷◌, is_some, if◌then◌else◌}
use Rattle.wc_model.specs.Definitions.{asks, is_bool, load_checks, reading_checks, term_kind, Scope, Term}
use Rattle.wc_model.specs.declared.kind.Kind.{Kind}
use Rattle.wc_verify.specs.Seeing.{Finds}
use Rattle.wc_verify.proofs.Found.{Both, Asked, asked_as, joined}
use Rattle.wc_verify.proofs.steps.validate_load.Goals as goal

-- of either form
either : (scope : Scope) (term : Term) (negated b : Bool) (p q r : Option ℕ) (kind : Option Kind) → Finds (λ line. reading_checks scope line term) p → Asked 402 b q → Both p q r →
    b ≡ (if negated then is_bool kind else is_some kind) → term_kind scope term ≡ kind → Finds (λ line. load_checks scope line negated term) r
either scope term true b p q r kind reads asked both e k =
    joined (λ line. reading_checks scope line term) (λ line. asks 402 line (is_bool (term_kind scope term)) ∷ []) p q r reads (asked_as 402 b (is_bool (term_kind scope term)) q asked (ap is_bool k ∙ sym e)) both
either scope term false b p q r kind reads asked both e k =
    joined (λ line. reading_checks scope line term) (λ line. asks 402 line (is_some (term_kind scope term)) ∷ []) p q r reads (asked_as 402 b (is_some (term_kind scope term)) q asked (ap is_some k ∙ sym e)) both

pub returns : goal.returns
returns c = λ scope term seen line rest.
    either scope term c.args.negated c.is_loaded.result c.validate_reading.result c.unless.result c.first_of.result c.args.seen.kind (c.validate_reading.ensures scope term seen) c.unless.ensures c.first_of.ensures c.is_loaded.ensures seen.kind line rest
