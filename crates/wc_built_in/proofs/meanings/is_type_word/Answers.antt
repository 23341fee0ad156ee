use Rattle.wc_model.proofs.Common.{◌≡◌, Bool, false, Option, Some, None, ◌∙◌, ap, MatchOption, option_and_then}
use Rattle.std.specs.Option.{is_some}
use Rattle.wc_built_in.specs.Keywords.{type_for}
use Rattle.wc_built_in.specs.declared.keyword.Keyword.{Keyword}
use Rattle.wc_model.specs.Language.Names.{name_of}
use Rattle.wc_built_in.proofs.ReservedWords.{types_are}
use Rattle.wc_built_in.proofs.meanings.is_type_word.Goals as goal

-- a word is a type if what it represents is one
typed : (found : Option Keyword) (answer : Bool) → MatchOption found (answer ≡ false) (λ keyword. answer ≡ is_some (type_for keyword)) → answer ≡ is_some (option_and_then type_for found)
typed None answer is = is
typed (Some keyword) answer is = is

pub returns : goal.returns
returns c =
    typed c.keyword_named.result c.is_some_and.result c.is_some_and.ensures
    ∙ ap (λ o. is_some (option_and_then type_for o)) c.keyword_named.ensures ∙ types_are (name_of c.args.text.now)
