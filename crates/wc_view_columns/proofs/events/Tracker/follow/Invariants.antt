use Rattle.std.proofs.Common.{◌≤◌, ℕ, List, ◌++◌, length, take}
use Rattle.wc_model.specs.Instrument.Requests.{requests_in}
use Rattle.wc_sma.specs.Feeding.{HasRead}
use Rattle.wc_view_columns.specs.Followed.{HasFollowed}
use Rattle.wc_view_columns.proofs.events.Tracker.follow.Given as goal

-- the bytes so far are followed
abbrev pub invariant-loop-byte : goal.invariant-loop-byte
invariant-loop-byte l = record {
  within : l.at ≤ length l.fn.answers;
  read : (before : List ℕ) → HasRead l.initial.self.requests before → HasRead l.self.requests (before ++ take l.byte-index l.fn.bytes);
  followed : (before : List ℕ) → HasRead l.initial.self.requests before → HasFollowed l.fn.ms (requests_in before (take l.byte-index l.fn.bytes)) l.fn.answers l.at l.events;
}
