use Rattle.wc_model.proofs.Common.{◌≡◌, Option, drop, length, map, take, position_from}
use Rattle.wc_model.specs.Language.Tree.{Text}
use Rattle.wc_view_watch.specs.{names_in, is_unknown, with_commas, AreLookedUp}
use Rattle.wc_view_watch.proofs.watched_names.WatchedNames.find_unknown.Given as goal

-- the next name begins there, and the names before it are known
pub record SoFar (l : goal.Live-loop-index) : Type 0 where
  pub start : map (λ name. name.now) l.fn.self.names.items ≡ names_in l.fn.list → l.start ≡ length (with_commas (take l.index (names_in l.fn.list)))
  pub known : (text : Text) (next : Option Text) → AreLookedUp l.fn.self l.fn.list text next
      → position_from (is_unknown text next) 0 (names_in l.fn.list) ≡ position_from (is_unknown text next) l.index (drop l.index (names_in l.fn.list))

abbrev pub invariant-loop-index : goal.invariant-loop-index
invariant-loop-index l = SoFar l
