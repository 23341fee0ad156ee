use Rattle.wc_model.proofs.Common.{◌∙◌, List, Bor, ap, map, sym, drop_all}
use Rattle.wc_model.specs.Language.Names.{Name, name_of}
use Rattle.wc_names.proofs.Lists.{from_index}
use Rattle.wc_text_variables.proofs.variables.is_hidden_at.Goals as goal
use Rattle.wc_text_variables.specs.Names.{is_hidden_field}

pub returns-in-Some : goal.returns-in-Some
returns-in-Some c =
    c.is_hidden_field.ensures
    ∙ ap (λ (left : List (Bor Name)). is_hidden_field c.args.block (map (λ name. name_of name.now) left))
    (sym (from_index c.args.names.now c.args.index c.in-Some.field.now c.in-Some.ensures.lookup.3.0 c.in-Some.ensures.lookup.1))

pub returns-in-None : goal.returns-in-None
returns-in-None c =
    ap (λ (left : List (Bor Name)). is_hidden_field c.args.block (map (λ name. name_of name.now) left)) (sym (drop_all c.args.index c.args.names.now c.in-None.ensures.lookup.3))
