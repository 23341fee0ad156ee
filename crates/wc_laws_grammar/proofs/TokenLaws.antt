-- The laws of the tokens of a text.
use Rattle.std.proofs.Common.{◌≡◌, ℕ, List, ◌∷◌, ◌++◌, Ok, refl, sym, ap, ◌∙◌, subst, arith}
use Rattle.wc_model.specs.Definitions.{shape_of, AtEnd, Cuts, Nothing, Skipped, Taken, Faulty, TooLong, Represents, Token, token_after, CutIsUnique, CutHasNoFault, FirstFaultIsUnique, LongTextIsRefused}
use Rattle.wc_laws_grammar.proofs.TokenSteps.{IsStuck, end_is_stuck, fault_is_before_end, fault_is_stuck, no_lexeme_at_blank, one_blank, one_fault, one_longest}

-- two cuts have the same tokens and end at one place
pub record Meets (P Q : List ℕ → List ℕ → Type 0) (tokens others : List Token) : Type 0 where
  pub same : tokens ≡ others
  pub before : List ℕ
  pub rest : List ℕ
  pub one : P before rest
  pub two : Q before rest

-- two cuts from one place meet, if nothing goes on after what they end at
pub meet : (P Q : List ℕ → List ℕ → Type 0) → ((before rest : List ℕ) → P before rest → IsStuck rest) → ((before rest : List ℕ) → Q before rest → IsStuck rest) → {before rest : List ℕ} {tokens others : List Token} → Cuts P before rest tokens → Cuts Q before rest others → Meets P Q tokens others
meet P Q p_stuck q_stuck {before} {rest} (Nothing p) (Nothing q) = record { same = refl; before = before; rest = rest; one = p; two = q }
meet P Q p_stuck q_stuck {before} {rest} (Nothing p) (Skipped chunk after e blank more) = absurd ((p_stuck before rest p).no_blank chunk after e blank)
meet P Q p_stuck q_stuck {before} {rest} (Nothing p) (Taken shape chunk after e longest h more) = absurd ((p_stuck before rest p).no_token shape chunk after e longest h)
meet P Q p_stuck q_stuck {before} {rest} (Skipped chunk after e blank more) (Nothing q) = absurd ((q_stuck before rest q).no_blank chunk after e blank)
meet P Q p_stuck q_stuck {before} {rest} {tokens} {others} (Skipped chunk after e blank more) (Skipped chunk₁ after₁ e₁ blank₁ more₁) =
    let same = one_blank chunk after chunk₁ after₁ (e ∙ sym e₁) blank blank₁ in
    let moved : Cuts Q (before ++ chunk) after others = subst (λ a. Cuts Q (before ++ chunk) a others) (sym same.1) (subst (λ p. Cuts Q (before ++ p) after₁ others) (sym same.0) more₁) in
    meet P Q p_stuck q_stuck more moved
meet P Q p_stuck q_stuck (Skipped chunk after e blank more) (Taken shape chunk₁ after₁ e₁ longest h more₁) = absurd (no_lexeme_at_blank chunk after chunk₁ after₁ (e ∙ sym e₁) blank longest.lexeme)
meet P Q p_stuck q_stuck {before} {rest} (Taken shape chunk after e longest h more) (Nothing q) = absurd ((q_stuck before rest q).no_token shape chunk after e longest h)
meet P Q p_stuck q_stuck (Taken shape chunk after e longest h more) (Skipped chunk₁ after₁ e₁ blank more₁) = absurd (no_lexeme_at_blank chunk₁ after₁ chunk after (e₁ ∙ sym e) blank longest.lexeme)
meet P Q p_stuck q_stuck {before} {rest} (Taken {tokens = tokens} shape chunk after e longest h more) (Taken {tokens = others} shape₁ chunk₁ after₁ e₁ longest₁ h₁ more₁) =
    let same = one_longest chunk after chunk₁ after₁ (e ∙ sym e₁) longest longest₁ in
    let validated : Ok shape ≡ Ok shape₁ = sym h ∙ ap shape_of same.0 ∙ h₁ in
    let shaped : shape ≡ shape₁ = cc in
    let moved : Cuts Q (before ++ chunk) after others = subst (λ a. Cuts Q (before ++ chunk) a others) (sym same.1) (subst (λ p. Cuts Q (before ++ p) after₁ others) (sym same.0) more₁) in
    let raised = meet P Q p_stuck q_stuck more moved in
    record {
      same = ap (λ s. token_after before s chunk ∷ tokens) shaped ∙ ap (λ p. token_after before shape₁ p ∷ tokens) same.0 ∙ ap (λ ts. token_after before shape₁ chunk₁ ∷ ts) raised.same;
      before = raised.before;
      rest = raised.rest;
      one = raised.one;
      two = raised.two;
    }

-- a text has one list of tokens
pub cut_is_unique : CutIsUnique
cut_is_unique text tokens others one two = (meet AtEnd AtEnd (λ before rest. end_is_stuck rest) (λ before rest. end_is_stuck rest) one two).same

-- a text within the limit that has tokens has no fault
pub cut_has_no_fault : CutHasNoFault
cut_has_no_fault text tokens number line short cut (TooLong long) = omega arith
cut_has_no_fault text tokens number line short cut (Represents others within faulty) =
    let raised = meet AtEnd (Faulty number line) (λ before rest. end_is_stuck rest) (λ before rest f. fault_is_stuck rest number f.fault) cut faulty in
    fault_is_before_end raised.rest number raised.two.fault raised.one

-- a text has one first fault
pub first_fault_is_unique : FirstFaultIsUnique
first_fault_is_unique text number line other_number other_line (TooLong long) (TooLong long₁) = (refl, refl)
first_fault_is_unique text number line other_number other_line (TooLong long) (Represents tokens short faulty) = absurd (omega arith)
first_fault_is_unique text number line other_number other_line (Represents tokens short faulty) (TooLong long) = absurd (omega arith)
first_fault_is_unique text number line other_number other_line (Represents tokens short faulty) (Represents others short₁ faulty₁) =
    let raised = meet (Faulty number line) (Faulty other_number other_line) (λ before rest f. fault_is_stuck rest number f.fault) (λ before rest f. fault_is_stuck rest other_number f.fault) faulty faulty₁ in
    (one_fault raised.rest number other_number raised.one.fault raised.two.fault, raised.one.here ∙ sym raised.two.here)

-- a text that is too long has fault 107
pub long_text_is_refused : LongTextIsRefused
long_text_is_refused text long = TooLong long
