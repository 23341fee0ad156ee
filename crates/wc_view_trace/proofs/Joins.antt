-- Parts that are written one after the other.
use Rattle.std.proofs.Common.{◌≡◌, List, ◌++◌}
use Rattle.wc_view_trace_rows.proofs.Joins.{three_parts, two_parts}

pub four_parts : {X : Type 0} (old a b c d first second third all : List X) → first ≡ old ++ a → second ≡ first ++ b → third ≡ second ++ c → all ≡ third ++ d
    → all ≡ old ++ (a ++ (b ++ (c ++ d)))
four_parts old a b c d first second third all e f g h = two_parts old a (b ++ (c ++ d)) first all e (three_parts first b c d second third all f g h)
