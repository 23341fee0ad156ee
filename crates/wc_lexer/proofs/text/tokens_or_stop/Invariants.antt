use Rattle.std.proofs.Common.{◌≡◌, ◌+◌, ◌-◌, ◌≤◌, length, map, take}
use Rattle.wc_lexer.proofs.Steps.{Going}
use Rattle.wc_lexer.proofs.text.tokens_or_stop.Given as goal
use Rattle.wc_lexer.specs.Views.{token_view}
use Rattle.wc_model.specs.Text.Tokens.{line_after}

abbrev pub invariant-loop-start : goal.invariant-loop-start
invariant-loop-start l = record {
  within : l.start ≤ length l.text;
  bounded : l.line ≤ 1 + l.start;
  counted : l.line ≡ line_after (take l.start l.text);
  going : Going l.text l.start (map token_view l.tokens.items);
}

abbrev pub decreases-loop-start : goal.decreases-loop-start
decreases-loop-start l = length l.text - l.start
