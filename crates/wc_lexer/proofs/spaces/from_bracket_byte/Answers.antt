use Rattle.std.proofs.Common.{ap, arith, sym, subst, ◌∙◌, ◌≤◌, ℕ, length}
use Rattle.memchr.specs.Find.{IsFirstByte, Nowhere, Passes}
use Rattle.wc_lexer.proofs.BracketBytes.{is_bracket_byte, passed_over}
use Rattle.wc_lexer.proofs.spaces.from_bracket_byte.Goals as goal
use Rattle.wc_lexer.proofs.spaces.from_bracket_byte.Goals.{in-Some, in-None}
use Rattle.wc_model.specs.Text.Blanks.{from_bracket}

pub returns-clause-kept : goal.returns-clause-kept
returns-clause-kept c =
    let text = c.args.text.now in
    let Skips : ℕ → Type 0 = λ place. (place ≤ length text) × Nowhere (Passes is_bracket_byte text) 0 place in
    let skipped : Skips c.match-memchr2.place = elim c.match-memchr2.branch [
      | in-Some w ↦
          let found = subst (IsFirstByte is_bracket_byte text) w.in-Some.is c.memchr2.ensures in
          subst Skips (sym w.place-is) (omega (arith, found.0.high), found.0.before)
      | in-None w ↦
          let none = subst (IsFirstByte is_bracket_byte text) w.in-None.is c.memchr2.ensures in
          subst Skips (sym w.place-is) (omega arith, none)
    ] in
    ap from_bracket c.split_at.ensures.back ∙ passed_over c.match-memchr2.place text skipped.0 skipped.1
