-- One row more of those that are written one by one.
use Rattle.wc_model.proofs.Common.{◌≡◌, ℕ, ◌+◌, ◌<◌, List, [], ◌∷◌, ◌++◌, length, take, map, get_or, ap, sym, ◌∙◌, append_assoc, append-nil, flat_map-append, map_more, replicate_more}
use Rattle.std.specs.Prelude.{ℤ, replicate}
use Rattle.wc_cut.specs.Cuts.{line_of, lines_of}
use Rattle.wc_model.specs.Run.Rows.{RowData, Counts}

-- after rows
one_more : (start text now : List ℕ) (ms : ℕ) (rows : List RowData) (row : RowData) → text ≡ start ++ lines_of ms rows → now ≡ text ++ line_of ms row →
    now ≡ start ++ lines_of ms (rows ++ (row ∷ []))
one_more start text now ms rows row so_far more =
    more ∙ ap (λ t. t ++ line_of ms row) so_far ∙ append_assoc start (lines_of ms rows) (line_of ms row)
    ∙ ap (λ t. start ++ (lines_of ms rows ++ t)) (sym (append-nil (line_of ms row)))
    ∙ ap (λ t. start ++ t) (sym (flat_map-append (line_of ms) rows (row ∷ [])))

pub one_sample_more : (start text now : List ℕ) (ms : ℕ) (samples : List ℤ) (i : ℕ) (d : ℤ) → i < length samples →
    text ≡ start ++ lines_of ms (map Counts (take i samples)) → now ≡ text ++ line_of ms (Counts (get_or samples i d)) →
    now ≡ start ++ lines_of ms (map Counts (take (i + 1) samples))
one_sample_more start text now ms samples i d within so_far more =
    one_more start text now ms (map Counts (take i samples)) (Counts (get_or samples i d)) so_far more
    ∙ ap (λ rows. start ++ lines_of ms rows) (sym (map_more Counts samples i d within))

pub one_load_more : (start text now : List ℕ) (ms : ℕ) (counts : ℤ) (i : ℕ) →
    text ≡ start ++ lines_of ms (replicate i (Counts counts)) → now ≡ text ++ line_of ms (Counts counts) →
    now ≡ start ++ lines_of ms (replicate (i + 1) (Counts counts))
one_load_more start text now ms counts i so_far more =
    one_more start text now ms (replicate i (Counts counts)) (Counts counts) so_far more
    ∙ ap (λ rows. start ++ lines_of ms rows) (replicate_more i (Counts counts))
