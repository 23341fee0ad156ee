use Rattle.wc_model.proofs.Common.{◌≡◌, ap, length, map, sym, ◌∙◌, length-map, to_ascii_lowercase}
use Rattle.wc_model.specs.Definitions.{named_in, name_of}
use Rattle.wc_built_in.specs.Keywords.{keyword_row, keywords, of_length}
use Rattle.wc_built_in.proofs.WordTables.{found_of_length}
use Rattle.wc_built_in.proofs.keywords.keyword_named.Goals as goal

pub returns : goal.returns
returns c =
    let name = name_of c.args.text.now in
    let rows = map keyword_row c.words_of_length.result.now in
    let letters : length c.args.text.now ≡ length name = sym (length-map c.args.text.now to_ascii_lowercase) in
    let same = ap (λ n. of_length n rows) (sym letters) ∙ c.words_of_length.ensures ∙ ap (λ n. of_length n keywords) letters in
    c.keyword_in.ensures ∙ sym (found_of_length rows name) ∙ ap (λ found. named_in found name) same ∙ found_of_length keywords name
