-- The lines of the code as lines of a body, and the number of them that carry a label.
use Rattle.std.proofs.Common.{◌≡◌, ℕ, ◌+◌, ◌≤◌, Bool, true, false, List, [], Option, Some, None, option_map, add-zero, zero-add, arith, refl, sym, ap, ◌∙◌}
use Rattle.wc_model.specs.Definitions.{BodyLine, label_of, lines_of, carries, Name, Scope, Word, Lines, label_view, line_view, word_view}
use Rattle.wc_model.specs.declared.tree.Instr.{Instr, out-Instr}
use Rattle.wc_model.specs.declared.tree.Instr.TheOpen.{Instr-F}
use Rattle.wc_model.specs.declared.tree.Line.{Line}
use Rattle.wc_verify.specs.{instr_line, opened_line, carriers, counted_row, one_more, row_at, row_named}
use Rattle.wc_verify.specs.declared.labels.LabelRow.{LabelRow}
use Rattle.wc_verify.specs.declared.edges.Way.TheVariants.{Unseen}
use Rattle.wc_verify.proofs.InstrLines.{lines_put, view_instr, view_none}

-- an instruction follows its label
label_opened : (layer : Instr-F Instr Line) (label : Option Word) → label_of (opened_line layer label) ≡ label
label_opened (Instr-F.Load negated operand line) label = refl
label_opened other label = refl

pub label_kept : (instr : Instr) (label : Option Word) → label_of (instr_line instr label) ≡ label
label_kept instr label = label_opened (out-Instr instr) label

-- a line of the code carries its label, if it has one
none_carried : (name : Name) (label : Option Word) (rest : Lines) → carriers name (lines_of (label_view label rest)) ≡ one_more (carries label name) (carriers name (lines_of rest))
none_carried name None rest = refl
none_carried name (Some word) rest = refl

carried_by : (name : Name) (line : Line) (rest : Lines) (o : Option Instr) → line.instr ≡ o → carriers name (lines_of (line_view line rest)) ≡ one_more (carries (option_map word_view line.label) name) (carriers name (lines_of rest))
carried_by name line rest (Some instr) e =
    ap (λ ls. carriers name (lines_of ls)) (view_instr line instr rest e) ∙ ap (carriers name) (lines_put (instr_line instr (option_map word_view line.label)) rest)
    ∙ ap (λ l. one_more (carries l name) (carriers name (lines_of rest))) (label_kept instr (option_map word_view line.label))
carried_by name line rest None e = ap (λ ls. carriers name (lines_of ls)) (view_none line rest e) ∙ none_carried name (option_map word_view line.label) rest

pub line_carried : (name : Name) (line : Line) (rest : Lines) → carriers name (lines_of (line_view line rest)) ≡ one_more (carries (option_map word_view line.label) name) (carriers name (lines_of rest))
line_carried name line rest = carried_by name line rest line.instr refl

-- the lines so far are counted
pub record AreCounted (all left : List BodyLine) (so_far : ℕ) (rows : List (Name × LabelRow)) : Type 0 where
  pub counted : (name : Name) → (row_named rows name).ahead + carriers name left ≡ carriers name all
  pub few : (name : Name) → (row_named rows name).ahead ≤ so_far
  pub given : (name : Name) → (row_named rows name).given ≡ false
  pub way : (name : Name) → (row_named rows name).way ≡ Unseen

-- none of them is
pub none_counted : (all : List BodyLine) → AreCounted all all 0 []
none_counted all = record { counted = λ name. zero-add (carriers name all); few = λ name. omega arith; given = λ name. refl; way = λ name. refl }

-- one more is
more_counted : (b : Bool) (row : LabelRow) (n total : ℕ) → row.ahead + one_more b n ≡ total → (counted_row b row).ahead + n ≡ total
more_counted true row n total e = omega arith
more_counted false row n total e = e

more_few : (b : Bool) (row : LabelRow) (n : ℕ) → row.ahead ≤ n → (counted_row b row).ahead ≤ n + 1
more_few true row n e = omega arith
more_few false row n e = omega arith

same_given : (b : Bool) (row : LabelRow) → (counted_row b row).given ≡ row.given
same_given true row = refl
same_given false row = refl

same_way : (b : Bool) (row : LabelRow) → (counted_row b row).way ≡ row.way
same_way true row = refl
same_way false row = refl

pub one_counted : (all : List BodyLine) (line : Line) (rest : Lines) (so_far : ℕ) (rows new : List (Name × LabelRow)) → AreCounted all (lines_of (line_view line rest)) so_far rows →
    ((name : Name) → row_named new name ≡ counted_row (carries (option_map word_view line.label) name) (row_named rows name)) → AreCounted all (lines_of rest) (so_far + 1) new
one_counted all line rest so_far rows new h e = record {
  counted = λ name. ap (λ row. row.ahead + carriers name (lines_of rest)) (e name)
      ∙ more_counted (carries (option_map word_view line.label) name) (row_named rows name) (carriers name (lines_of rest)) (carriers name all) (ap (λ n. (row_named rows name).ahead + n) (sym (line_carried name line rest)) ∙ h.counted name);
  few = λ name. rw (e name) (more_few (carries (option_map word_view line.label) name) (row_named rows name) so_far (h.few name));
  given = λ name. ap (λ row. row.given) (e name) ∙ same_given (carries (option_map word_view line.label) name) (row_named rows name) ∙ h.given name;
  way = λ name. ap (λ row. row.way) (e name) ∙ same_way (carries (option_map word_view line.label) name) (row_named rows name) ∙ h.way name;
}

-- all of them are
pub all_counted : (all : List BodyLine) (so_far : ℕ) (rows : List (Name × LabelRow)) → AreCounted all [] so_far rows → (scope : Scope) (name : Name) → row_named rows name ≡ row_at scope [] all name
all_counted all so_far rows h scope name =
    let ahead : (row_named rows name).ahead ≡ carriers name all = sym (add-zero (row_named rows name).ahead) ∙ h.counted name in
    λ i. record { ahead = ahead i; given = h.given name i; way = h.way name i }
