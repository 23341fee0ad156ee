use Rattle.std.proofs.Common.{Global, Vec, map}
use Rattle.std.specs.Prelude.{ℕ}
use Rattle.wc_view_watch.proofs.RingSteps.{none_kept}
use Rattle.wc_view_watch.proofs.last_texts.LastTexts.new.Goals as goal

pub returns-clause-empty : goal.returns-clause-empty
returns-clause-empty c =
    none_kept (map (λ (text : Vec ℕ Global). text.items) c.in_ok-texts.texts.items) c.args.number c.requires.some c.in_ok-texts.ensures.empty
