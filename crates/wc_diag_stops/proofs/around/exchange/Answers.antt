use Rattle.wc_model.proofs.Common.{◌≡◌, ◌<◌, ◌+◌, ℕ, List, ◌++◌, drop, get_or, length, map, set, take, arith, get_or_default, map_over_more}
use Rattle.wc_lexer.specs.declared.shape.Token.{Token}
use Rattle.wc_diag_stops.specs.Stopping.{exchanged}
use Rattle.wc_diag_stops.proofs.around.exchange.Goals as goal

-- one more token
exchange_more : (xs ys : List Token) (i : ℕ) (other : Token) (x y : ℕ) → i < length xs → length ys ≡ length xs → ys ≡ map exchanged (take i xs) ++ drop i xs → x ≡ (get_or ys i other).line
    → y ≡ (get_or ys i other).start
    → set ys i (record { shape = (get_or ys i other).shape; text = (get_or ys i other).text; start = x; line = y }) ≡ map exchanged (take (i + 1) xs) ++ drop (i + 1) xs
exchange_more xs ys i other x y lt long h a b =
    let within : i < length ys = omega arith in
    rw (a, b) (map_over_more exchanged xs ys i (get_or ys i other) lt h (get_or_default ys i other (get_or ys i other) within))

pub loop-token-preserved : goal.loop-token-preserved
loop-token-preserved c =
    exchange_more c.args.tokens.now c.loop-token.tokens c.loop-token.token-index _ c.swap.new.x c.swap.new.y c.loop-token-test.true c.loop-token.auto.tokens c.loop-token.invariant
    c.swap.ensures.x_after c.swap.ensures.y_after
