-- Tokens have one first fault, on one line; what some further tokens complete, and what none do.
use Rattle.std.proofs.Common.{sym, subst, List, [], ◌++◌, append_assoc, append-nil}
use Rattle.wc_laws_grammar.specs.Laws.{OneFirstFault}
use Rattle.wc_model.specs.Definitions.{ReadingFault, IsRaised, Language, prefix_of}
use Rattle.wc_laws_grammar.proofs.OneLine.{raised_on_one_line}
use Rattle.wc_laws_grammar.proofs.Unique.{same_first}

pub one_first_fault : OneFirstFault
one_first_fault tokens last_line line place fault other h k =
    let s = same_first tokens last_line line place fault other h k in
    (s.fault, raised_on_one_line fault h.before h.left last_line line place h.raised (subst (λ (f : ReadingFault). IsRaised f h.before h.left last_line place) (sym s.fault) s.raised))

-- a whole list is a prefix
pub whole_is_prefix : {T : Type 0} (language : Language T) (tokens : List T) → language tokens → prefix_of language tokens
whole_is_prefix language tokens h = ([], rw append-nil h)

-- the prefix of a prefix is a prefix
pub prefix_of_prefix : {T : Type 0} (language : Language T) (prefix more : List T) → prefix_of language (prefix ++ more) → prefix_of language prefix
prefix_of_prefix language prefix more h = (more ++ h.0, rw (← append_assoc) h.1)
