-- What the look ahead finds if an identifier starts and no `#` follows it.
use Rattle.std.proofs.Common.{◌≡◌, ℕ, zero, suc, ◌+◌, ◌≤◌, Bool, true, false, cond, ◌||◌, List, [], ◌∷◌, length, drop, take, refl, sym, ap, ◌∙◌, subst, arith, add-zero, length-take-le, true≢false, Result, Ok, Err, if◌then◌else◌}
use Rattle.wc_model.proofs.Common.{and_parts, cond-false, cond-true, ne_eqb, prefix_len-le-length, list_all, list_any, prefix_len}
use Rattle.wc_lexer.specs.Views.{is_name_so}
use Rattle.wc_laws_grammar.proofs.Attained.{prefix_passes, prefix_starts, start_goes_on}
use Rattle.wc_laws_grammar.proofs.Reach.{reach_word}
use Rattle.wc_laws_grammar.specs.Sights.{hash_reach, reach, Take, sight_by_reach, sight_of_lexeme}
use Rattle.wc_model.specs.Definitions.{begins, is_hash, is_identifier_character, starts_identifier, has_single_underscores}
use Rattle.wc_model.specs.Text.Shapes.{Identifier, Shape, shape_of}

-- characters of an identifier hold no `#`
pub no_hash : (xs : List ℕ) → list_all is_identifier_character xs ≡ true → list_any is_hash xs ≡ false
no_hash [] h = refl
no_hash (b ∷ xs) h =
    let both = and_parts (is_identifier_character b) (list_all is_identifier_character xs) h in
    ap (λ v. v || list_any is_hash xs) (ne_eqb b 35 (λ e. true≢false (sym both.0 ∙ ap is_identifier_character e))) ∙ no_hash xs both.1

-- nothing that starts with a `#` follows
no_hash_reach : (rest : List ℕ) → begins is_hash rest ≡ false → hash_reach rest ≡ 0
no_hash_reach [] h = refl
no_hash_reach (b ∷ rest) h = cond-false (is_hash b) _ _ h

-- the shape of an identifier, a name or not
abbrev pub validated : ℕ → Bool → Result Shape ℕ
validated length single = if is_name_so length single then Ok Identifier else Err 104

-- an identifier's shape
identifier_shape_is : (b : ℕ) (rest : List ℕ) → starts_identifier b ≡ true → (n : ℕ) → n ≡ prefix_len is_identifier_character (b ∷ rest) → shape_of (take n (b ∷ rest)) ≡ validated n (has_single_underscores (take n (b ∷ rest)))
identifier_shape_is b rest h n e =
    let chunk = take n (b ∷ rest) in
    let started : begins starts_identifier chunk ≡ true = subst (λ k. begins starts_identifier (take k (b ∷ rest)) ≡ true) (sym e) (prefix_starts is_identifier_character starts_identifier b rest (start_goes_on b h) h) in
    let passes : list_all is_identifier_character chunk ≡ true = subst (λ k. list_all is_identifier_character (take k (b ∷ rest)) ≡ true) (sym e) (prefix_passes is_identifier_character (b ∷ rest)) in
    let sized : length chunk ≡ n = length-take-le n (b ∷ rest) (omega (arith, e, prefix_len-le-length is_identifier_character (b ∷ rest))) in
    cond-true (begins starts_identifier chunk) _ _ started ∙ cond-false (list_any is_hash chunk) _ _ (no_hash chunk passes) ∙ ap (λ k. validated k (has_single_underscores chunk)) sized

-- a length that is not 0 is looked up by its shape
by_shape : (n : ℕ) (text : List ℕ) → 1 ≤ n → sight_by_reach n text ≡ sight_of_lexeme n (shape_of (take n text))
by_shape zero text h = absurd (omega arith)
by_shape (suc n) text h = refl

-- what the look ahead finds
pub word_sight : (text rest : List ℕ) (n : ℕ) (single : Bool) → begins starts_identifier text ≡ true → n ≡ prefix_len is_identifier_character text → rest ≡ drop n text → begins is_hash rest ≡ false → single ≡ has_single_underscores (take n text) → sight_of_lexeme n (validated n single) ≡ sight_by_reach (reach text) text
word_sight [] rest n single h e r f s = absurd (true≢false (sym h))
word_sight (b ∷ text) rest n single h e r f s =
    let none : hash_reach (drop (prefix_len is_identifier_character (b ∷ text)) (b ∷ text)) ≡ 0 = no_hash_reach (drop (prefix_len is_identifier_character (b ∷ text)) (b ∷ text)) (ap (λ k. begins is_hash (drop k (b ∷ text))) (sym e) ∙ ap (begins is_hash) (sym r) ∙ f) in
    let reached : reach (b ∷ text) ≡ n = reach_word b text h ∙ ap (λ k. prefix_len is_identifier_character (b ∷ text) + k) none ∙ add-zero _ ∙ sym e in
    let goes : cond (is_identifier_character b) (1 + prefix_len is_identifier_character text) 0 ≡ 1 + prefix_len is_identifier_character text = cond-true (is_identifier_character b) _ _ (start_goes_on b h) in
    let some : 1 ≤ n = omega (arith, e, goes) in
    ap (λ v. sight_of_lexeme n (validated n v)) s ∙ ap (sight_of_lexeme n) (sym (identifier_shape_is b text h n e)) ∙ sym (by_shape n (b ∷ text) some) ∙ ap (λ k. sight_by_reach k (b ∷ text)) (sym reached)

-- if it is a name
pub name_sight : (text rest : List ℕ) (n : ℕ) (single : Bool) → begins starts_identifier text ≡ true → n ≡ prefix_len is_identifier_character text → rest ≡ drop n text → begins is_hash rest ≡ false → single ≡ has_single_underscores (take n text) → is_name_so n single ≡ true → Take n Identifier ≡ sight_by_reach (reach text) text
name_sight text rest n single h e r f s name =
    sym (ap (λ v. sight_of_lexeme n (if v then Ok Identifier else Err 104)) name) ∙ word_sight text rest n single h e r f s
