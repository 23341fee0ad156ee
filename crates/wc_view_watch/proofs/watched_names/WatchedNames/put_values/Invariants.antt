use Rattle.std.proofs.Common.{◌≡◌, ◌++◌, List, Option, take}
use Rattle.std.specs.Prelude.{ℕ, flat_map}
use Rattle.wc_machine.specs.Machines.{RepresentsText}
use Rattle.wc_model.specs.Definitions.{Store, Text}
use Rattle.wc_view_watch.specs.{names_in, value_text, AreLookedUp}
use Rattle.wc_view_watch.proofs.watched_names.WatchedNames.put_values.Given as goal

-- the names so far are put with their values
abbrev pub invariant-loop-index : goal.invariant-loop-index
invariant-loop-index l = (list : List ℕ) (text : Text) (next : Option Text) (store : Store) → AreLookedUp l.fn.self list text next → RepresentsText l.fn.machine text store
    → l.line.items ≡ l.initial.line.items ++ flat_map (value_text text store) (take l.index (names_in list))
