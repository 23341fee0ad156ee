use Rattle.std.proofs.Common.{sym, ◌∙◌, ◌&&◌, ◌≡◌, Bool, false, true, refl}
use Rattle.wc_lexer.proofs.NamePrefixes.{digit_step, letter_step, passed_step, underscore_step}
use Rattle.wc_lexer.proofs.prefixes.identifier_prefix.Goals as goal
use Rattle.wc_lexer.proofs.prefixes.identifier_prefix.Goals.{then-not-is_ascii_alphabetic+then-first-eq95+then-not-begins_plain, then-not-is_ascii_alphabetic+then-first-eq95+else-not-begins_plain, then-not-is_ascii_alphabetic+else-first-eq95+else-not-is_ascii_digit, else-not-is_ascii_alphabetic}

-- nothing is single after a loose underscore
none : (single : Bool) → false ≡ (single && false)
none true = refl
none false = refl

-- what was single stays so after another one
same : (single : Bool) → single ≡ (single && true)
same true = refl
same false = refl

pub loop-rest-preserved : goal.loop-rest-preserved
loop-rest-preserved c =
    passed_step c.args.text.now c.loop-rest.rest.now c.loop-rest.count c.loop-rest.single c.if-not-is_ascii_alphabetic.single c.in-len1-up.len_at_least
    (elim c.if-not-is_ascii_alphabetic.branch [
      | then-not-is_ascii_alphabetic+then-first-eq95+then-not-begins_plain w ↦
          underscore_step c.loop-rest.rest.now c.loop-rest.single c.if-not-is_ascii_alphabetic.single false w.if-first-eq95.true (sym w.if-not-begins_plain.true ∙ w.begins_plain.ensures) (w.single-is ∙ none c.loop-rest.single)
      | then-not-is_ascii_alphabetic+then-first-eq95+else-not-begins_plain w ↦
          underscore_step c.loop-rest.rest.now c.loop-rest.single c.if-not-is_ascii_alphabetic.single true w.if-first-eq95.true (sym w.if-not-begins_plain.false ∙ w.begins_plain.ensures) (w.single-is ∙ same c.loop-rest.single)
      | then-not-is_ascii_alphabetic+else-first-eq95+else-not-is_ascii_digit w ↦
          digit_step c.loop-rest.rest.now c.loop-rest.single c.if-not-is_ascii_alphabetic.single (sym w.is_ascii_digit.ensures.value ∙ w.if-not-is_ascii_digit.false) w.single-is
      | else-not-is_ascii_alphabetic w ↦
          letter_step c.loop-rest.rest.now c.loop-rest.single c.if-not-is_ascii_alphabetic.single (sym c.is_ascii_alphabetic.ensures.value ∙ w.if-not-is_ascii_alphabetic.false) w.single-is
    ])
    c.loop-rest.invariant
