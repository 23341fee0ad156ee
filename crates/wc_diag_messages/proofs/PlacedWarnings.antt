-- A warning that is placed at its token: what follows for its line and its mark.
use Rattle.std.proofs.Common.{◌≡◌, ◌∙◌, ◌≤◌, ◌&&◌, ℕ, Bool, true, false, List, [], ◌∷◌, Option, Some, None, IfSome, drop, length, take, unwrap_or, refl, sym, subst, ap, arith}
use Rattle.wc_model.proofs.Common.{min-le_right, and_parts, leb-true, bytes_eq-Decides}
use Rattle.std.specs.Bool.{nat_le}
use Rattle.std.specs.List.{find}
use Rattle.std.specs.Prelude.{cond}
use Rattle.wc_diag_spans.specs.Finds.{IsWithin}
use Rattle.wc_diag_spans.specs.declared.diagnostic.Diagnostic.{Diagnostic}
use Rattle.wc_diag_messages.specs.Warned.{IsNamedThere, IsPlaced, has_there, is_called, is_warned, marked_span, shown_line, start_on, warned_token}
use Rattle.wc_diag_warnings.specs.declared.warning.Warning.{Warning}
use Rattle.wc_lexer.specs.declared.shape.Token.{Token}

-- what is found passes
found_passes : {X : Type 0} (p : X → Bool) (xs : List X) (x : X) → find p xs ≡ Some x → p x ≡ true
found_passes p [] x e = absurd (cc)
found_passes p (y ∷ ys) x e = by (p y) refl e (found_passes p ys x)
  where
    by : (b : Bool) → p y ≡ b → cond b (Some y) (find p ys) ≡ Some x → (find p ys ≡ Some x → p x ≡ true) → p x ≡ true
    by true is found later = let same : y ≡ x = ap (λ o. unwrap_or o y) found in subst (λ z. p z ≡ true) same is
    by false is found later = later found

-- a mark begins where it is put
begins_there : (name : List ℕ) (start : ℕ) (line : List ℕ) → (marked_span name start line).start ≡ start
begins_there [] start line = refl
begins_there (byte ∷ rest) start line = refl

-- the name is where the line has it
named : (name : List ℕ) (start : ℕ) (line : List ℕ) → has_there line start name ≡ true → IsNamedThere name line (marked_span name start line)
named [] start line there = tt
named (byte ∷ rest) start line there = (bytes_eq-Decides (take (length (byte ∷ rest)) (drop start line)) (byte ∷ rest)).0 there

-- what is known of the line and of the mark
pub record Follows (warning : Warning) (diagnostic : Diagnostic) : Type 0 where
  pub below : warning.line ≤ diagnostic.line
  pub own : diagnostic.span ≡ None → diagnostic.line ≡ warning.line
  pub within : IsWithin diagnostic
  pub represents : IfSome diagnostic.span (IsNamedThere warning.name.now diagnostic.shown.items)

at_none : (text : List ℕ) (warning : Warning) (diagnostic : Diagnostic) → IsPlaced text warning None diagnostic → Follows warning diagnostic
at_none text warning diagnostic placed =
    record {
      below = let e : diagnostic.line ≡ warning.line = placed.line_is in omega (arith, e);
      own = λ none. placed.line_is;
      within = subst (λ s. IfSome s (λ span. span.start ≤ length diagnostic.shown.items)) (sym placed.span_is) tt;
      represents = subst (λ s. IfSome s (IsNamedThere warning.name.now diagnostic.shown.items)) (sym placed.span_is) tt;
    }

at_token : (text : List ℕ) (warning : Warning) (diagnostic : Diagnostic) (token : Token) → is_warned text warning token ≡ true →
    IsPlaced text warning (Some token) diagnostic → Follows warning diagnostic
at_token text warning diagnostic token is placed =
    let shown = diagnostic.shown.items in
    let line = shown_line token.line text in
    let name = warning.name.now in
    let start = start_on text token shown in
    let rest = (and_parts (nat_le warning.line token.line) (is_called name token && has_there line (start_on text token line) name) is).1 in
    let there = (and_parts (is_called name token) (has_there line (start_on text token line) name) rest).1 in
    let same : shown ≡ line = placed.shows ∙ ap (λ l. shown_line l text) placed.line_is in
    let here : has_there shown start name ≡ true = subst (λ l. has_there l (start_on text token l) name ≡ true) (sym same) there in
    let least : warning.line ≤ token.line = leb-true warning.line token.line (and_parts (nat_le warning.line token.line) (is_called name token && has_there line (start_on text token line) name) is).0 in
    record {
      below = let e : diagnostic.line ≡ token.line = placed.line_is in omega (arith, e, least);
      own = λ none. let e : None ≡ Some (marked_span name start shown) = sym none ∙ placed.span_is in absurd (cc);
      within = subst (λ s. IfSome s (λ span. span.start ≤ length shown)) (sym placed.span_is) (subst (λ n. n ≤ length shown) (sym (begins_there name start shown)) (min-le_right _ (length shown)));
      represents = subst (λ s. IfSome s (IsNamedThere name shown)) (sym placed.span_is) (named name start shown here);
    }

pub follows : (text : List ℕ) (tokens : List Token) (warning : Warning) (diagnostic : Diagnostic) → IsPlaced text warning (warned_token text warning tokens) diagnostic → Follows warning diagnostic
follows text tokens warning diagnostic placed = by (warned_token text warning tokens) (λ token e. found_passes (is_warned text warning) tokens token e) placed
  where
    by : (found : Option Token) → ((token : Token) → found ≡ Some token → is_warned text warning token ≡ true) → IsPlaced text warning found diagnostic → Follows warning diagnostic
    by None is at = at_none text warning diagnostic at
    by (Some token) is at = at_token text warning diagnostic token (is token refl) at
