-- The offending slice on a line.
use Rattle.std.proofs.Common.{◌≡◌, ◌<◌, ◌≤◌, refl, ℕ, List, Option, Some, None, IfSome, length, sym, subst}
use Rattle.wc_diag_spans.specs.{HasLaterSpan, HasStop, IsKept, IsLaterOperand, IsOffendingBy, IsStop, IsStoppedBy, MeansSlice, MeansStop, line_of_part, read_as}
use Rattle.wc_job.specs.declared.input.Input.{Input}
use Rattle.wc_job.specs.declared.input.Input.TheVariants.{Program, Next}
use Rattle.wc_diag_spans.specs.declared.diagnostic.Diagnostic.{Diagnostic}
use Rattle.wc_diag_spans.specs.declared.diagnostic.Span.{Span}

-- the reader's stop is that of the line that is shown
stop_shown : (number line : ℕ) (text : List ℕ) (old new : Diagnostic) (span : Option Span) → HasStop text number line old → IfSome span (λ s. IsKept old new line s)
    → IfSome span (λ s. MeansStop text number new.line new.shown.items s)
stop_shown number line text old new None has kept = tt
stop_shown number line text old new (Some s) has kept =
    let was : IsStop text number line kept.found.start kept.found.length = subst (λ o. IfSome o (λ x. IsStop text number line x.start x.length)) kept.was has in
    let sized : IsStop text number line kept.found.start s.length = subst (λ n. IsStop text number line kept.found.start n) (sym kept.size) was in
    (kept.found.start, subst (λ l. IsStop text number l kept.found.start s.length) (sym kept.on) sized, kept.start)

-- so is the slice of a later refusal
span_shown : (number line : ℕ) (text : List ℕ) (old new : Diagnostic) (span : Option Span) → HasLaterSpan text number line old → IfSome span (λ s. IsKept old new line s)
    → IfSome span (λ s. MeansSlice text number new.line new.shown.items new.subject.items s)
span_shown number line text old new None has kept = tt
span_shown number line text old new (Some s) has kept =
    let quoted = old.subject.items in
    let was : IsLaterOperand text number line kept.found.start kept.found.length quoted = subst (λ o. IfSome o (λ x. IsLaterOperand text number line x.start x.length quoted)) kept.was has in
    let sized : IsLaterOperand text number line kept.found.start s.length quoted = subst (λ n. IsLaterOperand text number line kept.found.start n quoted) (sym kept.size) was in
    let same : IsLaterOperand text number line kept.found.start s.length new.subject.items = subst (λ q. IsLaterOperand text number line kept.found.start s.length q) (sym kept.quoted) sized in
    (kept.found.start, subst (λ l. IsLaterOperand text number l kept.found.start s.length new.subject.items) (sym kept.on) same, kept.start)

-- what a refusal of the tokens or of the reading means
pub stopped_kept : (part : Input) (number place first other line : ℕ) (text : List ℕ) (old new : Diagnostic) → line ≡ line_of_part part place first
    → (read_as part ≡ Program → number < 300 → HasStop text number line old) → IfSome new.span (λ s. IsKept old new (line_of_part part place other) s) → IsStoppedBy part number text new
stopped_kept Program number place first other line text old new e has kept =
    λ below. stop_shown number place text old new new.span (subst (λ l. HasStop text number l old) e (has refl below)) kept
stopped_kept Next number place first other line text old new e has kept =
    λ below. stop_shown number place text old new new.span (subst (λ l. HasStop text number l old) e (has refl below)) kept
stopped_kept part number place first other line text old new e has kept = tt

-- what a later one means
pub offending_kept : (part : Input) (number place first other line : ℕ) (text : List ℕ) (old new : Diagnostic) → line ≡ line_of_part part place first
    → (read_as part ≡ Program → 300 ≤ number → HasLaterSpan text number line old) → IfSome new.span (λ s. IsKept old new (line_of_part part place other) s) → IsOffendingBy part number text new
offending_kept Program number place first other line text old new e has kept =
    λ above. span_shown number place text old new new.span (subst (λ l. HasLaterSpan text number l old) e (has refl above)) kept
offending_kept Next number place first other line text old new e has kept =
    λ above. span_shown number place text old new new.span (subst (λ l. HasLaterSpan text number l old) e (has refl above)) kept
offending_kept part number place first other line text old new e has kept = tt
