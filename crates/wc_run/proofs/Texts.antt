-- What is written of rows, one after the other.
use Rattle.std.proofs.Common.{◌≡◌, refl, ap, sym, ◌∙◌, arith, ℕ, ◌+◌, List, [], ◌∷◌, ◌++◌, length, Option, append-nil}
use Rattle.std.proofs.lemmas.List.{append_assoc}
use Rattle.wc_model.specs.Definitions.{PlateData, LogRow, Past, Logic, LogRefusal}
use Rattle.wc_run.specs.Observing.{Plan, onto, text_coming, text_in_all}

-- the number of rows with those before them
pub length-onto : (past : Past) (rows : List LogRow) → length (onto past rows) ≡ length past + length rows
length-onto [] rows = omega (arith)
length-onto (row ∷ past) rows = omega (arith, length-onto past (row ∷ rows))

-- what follows the rows stays after them
pub onto-append : (past : Past) (rows more : List LogRow) → onto past (rows ++ more) ≡ onto past rows ++ more
onto-append [] rows more = refl
onto-append (row ∷ past) rows more = onto-append past (row ∷ rows) more

-- what is written of the rows so far
abbrev pub text_so_far : Plan → PlateData → Option Logic → Past → List ℕ
text_so_far plan plate logic [] = []
text_so_far plan plate logic (row ∷ past) = text_so_far plan plate logic past ++ plan.at_row plate logic past row

-- what is written of all rows is that of those so far, and of the rows that follow
pub text_of_all : (plan : Plan) (plate : PlateData) (logic : Option Logic) (past : Past) (rows : List LogRow)
    → text_coming plan plate logic [] (onto past rows) ≡ text_so_far plan plate logic past ++ text_coming plan plate logic past rows
text_of_all plan plate logic [] rows = refl
text_of_all plan plate logic (row ∷ past) rows =
    text_of_all plan plate logic past (row ∷ rows)
    ∙ sym (append_assoc (text_so_far plan plate logic past) (plan.at_row plate logic past row) (text_coming plan plate logic (row ∷ past) rows))

-- if no row follows, it is that of those so far
pub text_at_last : (plan : Plan) (plate : PlateData) (logic : Option Logic) (past : Past) → text_coming plan plate logic [] (onto past []) ≡ text_so_far plan plate logic past
text_at_last plan plate logic past = text_of_all plan plate logic past [] ∙ append-nil (text_so_far plan plate logic past)

-- what is written of the first rows is a prefix of what is written in all
pub lines_first : (plan : Plan) (plate : PlateData) (logic : Option Logic) (refusal : Option LogRefusal) (first left : List LogRow)
    → (rest : List ℕ) × (text_in_all plan plate logic refusal (first ++ left) ≡ text_coming plan plate logic [] first ++ rest)
lines_first plan plate logic refusal first left =
    let end : List ℕ = plan.at_end plate logic (first ++ left) refusal in
    let more = coming [] first in
    (more.0 ++ end, ap (λ text. text ++ end) more.1 ∙ append_assoc (text_coming plan plate logic [] first) more.0 end) where
      coming : (past : Past) (rows : List LogRow) → (rest : List ℕ) × (text_coming plan plate logic past (rows ++ left) ≡ text_coming plan plate logic past rows ++ rest)
      coming past [] = (text_coming plan plate logic past left, refl)
      coming past (row ∷ rows) =
          let more = coming (row ∷ past) rows in
          let here : List ℕ = plan.at_row plate logic past row in
          (more.0, ap (λ text. here ++ text) more.1 ∙ sym (append_assoc here (text_coming plan plate logic (row ∷ past) rows) more.0))
