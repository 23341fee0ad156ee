-- The kinds of results while the items of a scan are gone through, body by body. (The profile's own; the kinds that operators give
-- are those of IEC 61131-3:2003, 3.2.2.)
use Rattle.std.specs.Prelude.{ℕ, suc, ◌+◌, List, [], ◌∷◌, ◌++◌, map, reverse, take, replicate, slice_get, slice_set, Option, None, unwrap_or}
use Rattle.wc_machine.specs.declared.seen.SeenLine.{SeenLine}
use Rattle.wc_model.specs.Language.Kinds.{kind_after_operator}
use Rattle.wc_model.specs.declared.code.Code.{Code}
use Rattle.wc_model.specs.declared.code.Code.TheVariants.{LoadNumber, LoadPlace, Store, ApplyNumber, ApplyPlace, Open, OpenNumber, OpenPlace, Close, Call, ArgumentNumber, ArgumentPlace, Standard}
use Rattle.wc_model.specs.declared.kind.Kind.{Kind}
use Rattle.wc_view_trace_rows.specs.Items.{up_to_most}
use Rattle.wc_view_trace_rows.specs.Legends.{kind_at, literal_kind, note_of}
use Rattle.wc_view_trace_rows.specs.declared.legend.Legend.{Legend}
use Rattle.wc_view_trace_rows.specs.declared.levels.BodyLevel.{BodyLevel}
use Rattle.wc_view_trace_rows.specs.declared.levels.Levels.{Levels}
use Rattle.wc_view_trace_rows.specs.declared.levels.ItemNotes.{ItemNotes}
use Rattle.wc_view_trace_rows.specs.declared.notes.Note.{Note}

-- the level of a body: the kind of its result, the kinds of the results that are put by, newest first, and the number of items of the
-- list of its last call that were passed, as far as 64 bits count
pub record Level : Type 0 where
  pub kind : Option Kind
  pub put_by : List (Option Kind)
  pub items : ℕ

-- a body of which no line is passed
abbrev pub fresh : Level
fresh = record { kind = None; put_by = []; items = 0 }

-- a parenthesis is opened, and the result after it has this kind
abbrev pub opened : Level → Option Kind → Level
opened level kind = record { kind = kind; put_by = level.kind ∷ level.put_by; items = level.items }

-- it is closed: the operator takes the result that was last put by
abbrev pub closed : Level → List (Option Kind) → (Option Kind → Option Kind) → Level
closed level [] operated = record { kind = operated None; put_by = []; items = level.items }
closed level (outer ∷ others) operated = record { kind = operated outer; put_by = others; items = level.items }

-- what a line that loads nothing makes of it: an operator gives its result a kind
abbrev pub operated : Code → Level → Level
operated (ApplyNumber operator n) level = record level { kind = kind_after_operator operator level.kind }
operated (ApplyPlace operator place) level = record level { kind = kind_after_operator operator level.kind }
operated (Close operator) level = closed level level.put_by (kind_after_operator operator)
operated (Call condition skip) level = record level { items = 0 }
operated (ArgumentNumber target n) level = record level { items = up_to_most (level.items + 1) }
operated (ArgumentPlace place target) level = record level { items = up_to_most (level.items + 1) }
operated line level = level

-- what a line makes of it: a load gives the kind of what is loaded
abbrev pub level_after : Legend → ℕ → ℕ → Level → Code → Level
level_after legend base line level (LoadNumber n) = record level { kind = literal_kind legend line }
level_after legend base line level (LoadPlace negated place) = record level { kind = kind_at legend (base + place.0) }
level_after legend base line level Open = opened level None
level_after legend base line level (OpenNumber n) = opened level (literal_kind legend line)
level_after legend base line level (OpenPlace place) = opened level (kind_at legend (base + place.0))
level_after legend base line level code = operated code level

abbrev pub after_seen : Legend → SeenLine → Level → Level
after_seen legend seen level = level_after legend seen.base seen.source level seen.line

-- the kind of what a line writes: that of the place
abbrev pub written_kind : Legend → ℕ → Code → Option Kind
written_kind legend base (Store storing target) = kind_at legend (base + target.0)
written_kind legend base (ArgumentNumber target n) = kind_at legend (base + target.0)
written_kind legend base (ArgumentPlace place target) = kind_at legend (base + target.0)
written_kind legend base line = None

-- the note of what a line writes to, or of the instance that it calls: a call's notes are one for the instance, and after it one
-- for each item of its list
abbrev pub note_said : Legend → ℕ → ℕ → Code → Option Note
note_said legend line items (Store storing target) = note_of legend line 0
note_said legend line items (ArgumentNumber target n) = note_of legend line items
note_said legend line items (ArgumentPlace place target) = note_of legend line items
note_said legend line items (Call condition skip) = note_of legend line 0
note_said legend line items (Standard block at) = note_of legend line 0
note_said legend line items code = None

-- what is said of a line that was passed
abbrev pub said_of : Legend → SeenLine → Level → ItemNotes
said_of legend seen level = record {
  result = level.kind;
  written = written_kind legend seen.base seen.line;
  note = note_said legend seen.source level.items seen.line;
}

-- the bodies that run when a line is executed at that depth of calls: one that is deeper is left, and one that is new begins
abbrev pub levels_at : ℕ → List Level → List Level
levels_at depth levels = take (suc depth) (levels ++ replicate (suc depth) fresh)

-- the body in which a line is executed, before it and after it
abbrev pub level_before : SeenLine → List Level → Level
level_before seen levels = unwrap_or (slice_get (levels_at seen.depth levels) seen.depth) fresh

abbrev pub level_left : Legend → SeenLine → List Level → Level
level_left legend seen levels = after_seen legend seen (level_before seen levels)

-- all bodies after it
abbrev pub levels_after : Legend → SeenLine → List Level → List Level
levels_after legend seen levels = slice_set (levels_at seen.depth levels) seen.depth (level_left legend seen levels)

-- what the code's levels are
abbrev pub level_view : BodyLevel → Level
level_view level = record { kind = level.kind; put_by = reverse level.put_by.items; items = level.items }

abbrev pub levels_view : Levels → List Level
levels_view levels = map level_view levels.levels.items
