-- What an observer that watches variables has seen, step by step.
use Rattle.std.proofs.Common.{◌≡◌, ◌≤◌, ◌+◌, ℕ, Bool, List, [], length, Option, Some, None, refl, sym, ap, subst, ◌∙◌, arith}
use Rattle.std.specs.Prelude.{IfSome, option_map, reverse, slice_get}
use Rattle.wc_controller.proofs.Allowing.{known_more, on_known}
use Rattle.wc_controller.specs.TakenLogs.{Reader, observed_by, OfLogic, OfPrograms}
use Rattle.wc_model.specs.Definitions.{PlateData, Text, Past, Logic, first_logic}
use Rattle.wc_run.specs.{logic_after, onto, text_in_all}
use Rattle.wc_view_watch.proofs.LookUps.{start_more, start_within}
use Rattle.wc_view_watch.proofs.Rows.{past_again}
use Rattle.wc_view_watch.specs.{names_in, IsFirstUnknown, begins_with, end_text, last_values, scans_so_far, watch_observed, watch_plan, FitLogic, HasSeen, KeepsLast, KeepsValues}
use Rattle.wc_view_watch.specs.declared.watched_names.WatchedNames.{WatchedNames}
use Rattle.wc_view_watch.specs.declared.names.UnknownName.{UnknownName}
use Rattle.wc_view_watch.specs.declared.watcher.Watcher.{Watcher}

-- after the last row
pub end_is : (watcher : Watcher) (plate : PlateData) (logic : Option Logic) (past : Past) (text : List ℕ) → text ≡ end_text watcher.number (scans_so_far watcher.list.now watcher.changes plate logic past)
    → text ≡ end_text watcher.number (scans_so_far watcher.list.now watcher.changes plate logic (reverse (onto past [])))
end_is watcher plate logic past text is = is ∙ ap (λ rows. end_text watcher.number (scans_so_far watcher.list.now watcher.changes plate logic rows)) (sym (past_again past))

-- after a row
pub seen_after : (old new : Watcher) (names : WatchedNames) (plate : PlateData) (logic : Option Logic) (past : Past) → new.list ≡ old.list → new.number ≡ old.number → new.changes ≡ old.changes
    → new.names ≡ names → FitLogic names old.list.now (logic_after plate logic past) → KeepsLast new.last old.number (scans_so_far old.list.now old.changes plate logic past)
    → KeepsValues new.changes new.values (last_values old.list.now plate logic past) → HasSeen new plate logic past
seen_after old new names plate logic past list number changes same fit scans values =
    record { names = rw (list, same) fit; scans = rw (list, number, changes) scans; values = rw list values }

-- an unknown name is inside its list
name_inside : (list : List ℕ) (logic : Option Logic) (name : UnknownName) → IsFirstUnknown list logic name → name.start + name.length ≤ length list
name_inside list logic name at = by (slice_get (names_in list) at.index) refl at.count
  where
    by : (found : Option (List ℕ)) → slice_get (names_in list) at.index ≡ found → option_map length found ≡ Some name.length → name.start + name.length ≤ length list
    by None there e = absurd (cc (e))
    by (Some one) there e =
        let same : length one ≡ name.length = cc (e) in
        omega (arith, same, at.start, start_more list at.index one there, start_within list (at.index + 1))

pub found_name : (list names : List ℕ) (logic : Option Logic) (unknown : Option UnknownName) (held shown : UnknownName) → list ≡ names → IfSome unknown (λ name. held ≡ name)
    → (held.start + held.length ≤ length names → shown ≡ held) → (name : UnknownName) × (unknown ≡ Some name) × IsFirstUnknown list logic name → IsFirstUnknown names logic shown
found_name list names logic unknown held shown listed holds same (name, is, found) =
    let held_is : held ≡ name = subst (λ one. IfSome one (λ n. held ≡ n)) is holds in
    let first : IsFirstUnknown names logic name = subst (λ one. IsFirstUnknown one logic name) listed found in
    let inside : held.start + held.length ≤ length names = subst (λ (n : UnknownName). n.start + n.length ≤ length names) (sym held_is) (name_inside names logic name first) in
    subst (λ n. IsFirstUnknown names logic n) (sym (same inside ∙ held_is)) first

-- what follows of what holds of the logic of programs holds of it too
logic_more : (first : Text) (known : Option (List ℕ)) (P Q : Option Logic → Type 0) → ((logic : Option Logic) → P logic → Q logic) → OfLogic first known P → OfLogic first known Q
logic_more first None P Q f h = f (Some (first_logic first None)) h
logic_more first (Some bytes) P Q f h = (h.0, h.1, f (Some (first_logic first (Some h.0))) h.2)

pub programs_more : (program next : Option Reader) (P Q : Option Logic → Type 0) → ((logic : Option Logic) → P logic → Q logic) → OfPrograms program next P → OfPrograms program next Q
programs_more None next P Q f h = f None h
programs_more (Some program) next P Q f h =
    on_known program.bytes _ _ (λ text k. known_more next _ _ (λ known m. (m.0, m.1, logic_more m.0 known P Q f m.2)) k) h

-- the observer of a run with these names
pub observed_is : (watcher : Watcher) (names : List ℕ) (changes : Bool) (last : Option ℕ) → watcher.list.now ≡ names → watcher.number ≡ last → watcher.changes ≡ changes
    → observed_by (λ (w : Watcher). watch_plan w.list.now w.changes w.number) (λ w logic. begins_with w.list.now logic) watcher ≡ watch_observed names changes last
observed_is watcher names changes last listed numbered chosen =
    λ i. record { written = text_in_all (watch_plan (listed i) (chosen i) (numbered i)); begins = begins_with (listed i) }
