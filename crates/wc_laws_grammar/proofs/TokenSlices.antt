-- The tokens of a text are its slices, in rising order.
use Rattle.std.proofs.Common.{◌≡◌, ℕ, ◌+◌, ◌≤◌, List, ◌++◌, length, take, drop, All, AllPairs, refl, sym, ap, ◌∙◌, arith, append_assoc, take_at, drop_at, length-append}
use Rattle.wc_model.proofs.Common.{All-cons, All-nil, AllPairs-cons}
use Rattle.wc_model.specs.Definitions.{IsSliceOf, TokensAreInOrder, TokensAreSlices, Cuts, Nothing, Skipped, Taken, Token, line_after, token_after}

-- a slice moves from the rest of a text to what precedes it
moved : (before chunk after rest text : List ℕ) → chunk ++ after ≡ rest → before ++ rest ≡ text → (before ++ chunk) ++ after ≡ text
moved before chunk after rest text e whole = append_assoc before chunk after ∙ ap (λ l. before ++ l) e ∙ whole

-- the tokens from a place on are slices of the text
pub slices : (Ends : List ℕ → List ℕ → Type 0) (text : List ℕ) {before rest : List ℕ} {tokens : List Token} → before ++ rest ≡ text → Cuts Ends before rest tokens → All (IsSliceOf text) tokens
slices Ends text whole (Nothing ends) = All-nil (IsSliceOf text)
slices Ends text {before} {rest} whole (Skipped chunk after e blank more) = slices Ends text (moved before chunk after rest text e whole) more
slices Ends text {before} {rest} whole (Taken {tokens = tokens} shape chunk after e longest h more) =
    let from : drop (length before) text ≡ rest = ap (drop (length before)) (sym whole) ∙ drop_at before rest (length before) refl in
    All-cons (IsSliceOf text) (token_after before shape chunk) tokens (record {
      slice = ap (take (length chunk)) (from ∙ sym e) ∙ take_at chunk after (length chunk) refl;
      counted = ap line_after (sym (ap (take (length before)) (sym whole) ∙ take_at before rest (length before) refl));
    }) (slices Ends text (moved before chunk after rest text e whole) more)

-- the tokens from a place on start there or later
pub start_after : (Ends : List ℕ → List ℕ → Type 0) (n : ℕ) {before rest : List ℕ} {tokens : List Token} → n ≤ length before → Cuts Ends before rest tokens → All (λ token. n ≤ token.start) tokens
start_after Ends n l (Nothing ends) = All-nil (λ token. n ≤ token.start)
start_after Ends n {before} {rest} l (Skipped chunk after e blank more) = start_after Ends n (omega (arith, length-append before chunk)) more
start_after Ends n {before} {rest} l (Taken {tokens = tokens} shape chunk after e longest h more) =
    All-cons (λ token. n ≤ token.start) (token_after before shape chunk) tokens l (start_after Ends n (omega (arith, length-append before chunk)) more)

-- the tokens from a place on are in order
pub in_order : (Ends : List ℕ → List ℕ → Type 0) {before rest : List ℕ} {tokens : List Token} → Cuts Ends before rest tokens → AllPairs (λ token later. token.start + length token.text ≤ later.start) tokens
in_order Ends (Nothing ends) = λ i j d less short. absurd (omega arith)
in_order Ends (Skipped chunk after e blank more) = in_order Ends more
in_order Ends {before} {rest} (Taken {tokens = tokens} shape chunk after e longest h more) =
    AllPairs-cons (λ token later. token.start + length token.text ≤ later.start) (token_after before shape chunk) tokens (start_after Ends (length before + length chunk) (omega (arith, length-append before chunk)) more) (in_order Ends more)

-- the tokens of a text are its slices
pub tokens_are_slices : TokensAreSlices
tokens_are_slices text tokens cut = slices _ text refl cut

-- each token ends before the later ones start
pub tokens_are_in_order : TokensAreInOrder
tokens_are_in_order text tokens cut = in_order _ cut
