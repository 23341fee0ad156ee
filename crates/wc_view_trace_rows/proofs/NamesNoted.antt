-- Names that are noted one after the other.
use Rattle.wc_model.proofs.Common.{◌≡◌, ℕ, zero, suc, ◌-◌, ◌≤◌, None, subst, rules, ◌&&◌, Bool, true, false, List, [], ◌∷◌, ◌++◌, length, drop, take, map, refl, sym, ap, ◌∙◌, arith, Result, nat_le, slice_range, if◌then◌else◌, le-leb, leb-true, All-push, drop-append_seam, to_ascii_lowercase}
use Rattle.std.proofs.lemmas.List.{take-append-le, take_all, length-append, drop-append-le, length-drop, map-append}
use Rattle.wc_model.specs.Definitions.{BodyLine, PlainLine, Call, assignment_view, name_of}
use Rattle.wc_model.specs.declared.fault.Fault.{Fault}
use Rattle.wc_model.specs.declared.tree.Instr as made
use Rattle.wc_model.specs.declared.tree.Instr.{Instr}
use Rattle.wc_model.specs.declared.tree.Line.{the_lemmas}
use Rattle.wc_verify.specs.Instructions.{instr_line}
use Rattle.wc_view_trace_rows.specs.Named.{Adds, dotted, line_named, named_as, note_named}
use Rattle.wc_view_trace_rows.specs.Notes.{AreWithin, part_of}
use Rattle.wc_view_trace_rows.specs.declared.notes.Note.{Note}
use Rattle.wc_view_trace_rows.specs.declared.notes.Notes.{Notes}

pub part_kept : (text more : List ℕ) (from to : ℕ) → to ≤ length text → part_of (text ++ more) from to ≡ part_of text from to
part_kept text more from to h = by (nat_le from to) refl
  where
    longer : nat_le to (length (text ++ more)) ≡ true
    longer = le-leb to (length (text ++ more)) (omega (arith, length-append text more, h))

    by : (b : Bool) → nat_le from to ≡ b → (if b && nat_le to (length (text ++ more)) then slice_range (text ++ more) from to else []) ≡ (if b && nat_le to (length text) then slice_range text from to else [])
    by false e = refl
    by true e =
        let ordered : from ≤ to = leb-true from to e in
        ap (λ b. if b then slice_range (text ++ more) from to else []) longer
        ∙ ap (take (to - from)) (drop-append-le from text more (omega (arith, ordered, h)))
        ∙ take-append-le (to - from) (drop from text) more (omega (arith, length-drop from text, ordered, h))
        ∙ sym (ap (λ b. if b then slice_range text from to else []) (le-leb to (length text) h))

pub part_last : (text more : List ℕ) → part_of (text ++ more) (length text) (length (text ++ more)) ≡ more
part_last text more =
    ap (λ b. if b && nat_le (length (text ++ more)) (length (text ++ more)) then slice_range (text ++ more) (length text) (length (text ++ more)) else [])
    (le-leb (length text) (length (text ++ more)) (omega (arith, length-append text more)))
    ∙ ap (λ b. if b then slice_range (text ++ more) (length text) (length (text ++ more)) else [])
    (le-leb (length (text ++ more)) (length (text ++ more)) (omega arith))
    ∙ ap (take (length (text ++ more) - length text)) (drop-append_seam text more)
    ∙ take_all (length (text ++ more) - length text) more (omega (arith, length-append text more))

-- names that are added leave what is noted
kept : (names more : List ℕ) (notes : List Note) → AreWithin notes names → map (note_named (names ++ more)) notes ≡ map (note_named names) notes
kept names more [] h = refl
kept names more (note ∷ notes) h =
    ap (λ part. record { kind = note.kind; name = name_of part } ∷ map (note_named (names ++ more)) notes) (part_kept names more note.start note.end (h zero note (omega arith)))
    ∙ ap (λ rest. note_named names note ∷ rest) (kept names more notes (λ k d l. h (suc k) d (omega (arith, l))))

pub within_more : (names more : List ℕ) (notes : List Note) → AreWithin notes names → AreWithin notes (names ++ more)
within_more names more notes h = λ k d l. omega (arith, length-append names more, h k d l)

-- a note more, of the names that are added
pub added : (names more : List ℕ) (notes : List Note) (note : Note) → AreWithin notes names → note.start ≡ length names → note.end ≡ length (names ++ more)
    → map (note_named (names ++ more)) (notes ++ note ∷ []) ≡ map (note_named names) notes ++ record { kind = note.kind; name = name_of more } ∷ []
added names more notes note h from to =
    map-append (note_named (names ++ more)) notes (note ∷ [])
    ∙ ap (λ before. before ++ note_named (names ++ more) note ∷ []) (kept names more notes h)
    ∙ ap (λ part. map (note_named names) notes ++ record { kind = note.kind; name = name_of part } ∷ [])
    (ap (λ n. part_of (names ++ more) n note.end) from ∙ ap (part_of (names ++ more) (length names)) to ∙ part_last names more)

pub within_added : (names more : List ℕ) (notes : List Note) (note : Note) → AreWithin notes names → note.end ≡ length (names ++ more)
    → AreWithin (notes ++ note ∷ []) (names ++ more)
within_added names more notes note h to =
    All-push (λ (one : Note). one.end ≤ length (names ++ more)) notes note (within_more names more notes h) (omega (arith, to))

-- a name and its field without letter case
pub name_dotted : (name field : List ℕ) → name_of (dotted name field) ≡ dotted (name_of name) (name_of field)
name_dotted name [] = refl
name_dotted name (letter ∷ field) = map-append to_ascii_lowercase name (46 ∷ letter ∷ field)

-- what a note more of a name says
pub noted_more : (names new : List ℕ) (notes after : List Note) (note : Note) (name field : List ℕ) → AreWithin notes names → new ≡ names ++ dotted name field → after ≡ notes ++ note ∷ []
    → note.start ≡ length names → note.end ≡ length new
    → (map (note_named new) after ≡ map (note_named names) notes ++ named_as note.kind (name_of name) (name_of field) ∷ []) × AreWithin after new
noted_more names new notes after note name field h put pushed from to =
    let end : note.end ≡ length (names ++ dotted name field) = to ∙ ap length put in (
      ap (λ l. map (note_named l) after) put ∙ ap (map (note_named (names ++ dotted name field))) pushed
          ∙ added names (dotted name field) notes note h from end
          ∙ ap (λ l. map (note_named names) notes ++ record { kind = note.kind; name = l } ∷ []) (name_dotted name field),
      subst (λ l. AreWithin after l) (sym put) (subst (λ l. AreWithin l (names ++ dotted name field)) (sym pushed) (within_added names (dotted name field) notes note h end)),
    )

-- an instruction that is known
pub known_added : {A : Type 0} (r : Result A Fault) (instr known : Instr) (line : BodyLine) (old new : Notes) → instr ≡ known → instr_line known None ≡ line
    → Adds old new r (line_named line) → Adds old new r (line_named (instr_line instr None))
known_added r instr known line old new is seen h = subst (λ l. Adds old new r (line_named l)) (sym (ap (λ i. instr_line i None) is ∙ seen)) h

pub seen_call : (condition : _) (instance : _) (arguments : _) (line : _) → instr_line (made.Call condition instance arguments line) None ≡ PlainLine None line (Call condition (name_of instance.now) (map assignment_view arguments.items))
seen_call condition instance arguments line = search (the_lemmas, rules)
