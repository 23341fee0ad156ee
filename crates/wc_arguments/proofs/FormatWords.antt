-- The format that the arguments give, after a word or before it, and the arguments that are refused.
use Rattle.std.proofs.Common.{◌≡◌, ◌∙◌, true, List, [], ◌∷◌, Option, Some, None, refl, ap, ap₂, subst, inl, inr, codes, option_map, unwrap_or}
use Rattle.std.specs.Option.{option_map_or, option_or}
use Rattle.clap.specs.Words.{App, HasKind, Kinds, Row, Text, fault_of, first_of, is_simple, is_simple_and_free, matches_of, subcommand_of}
use Rattle.clap.specs.Kinds.{or_else}
use Rattle.clap.specs.Matches.{subcommand_name_of}
use Rattle.clap.specs.Simple.{subcommand_rows, subcommand_rows_of}
use Rattle.clap.specs.Values.{kind_of}
use Rattle.clap.specs.declared.error.Error.{Error}
use Rattle.clap.specs.declared.parser.matches.ArgMatches.{ArgMatches}
use Rattle.clap.specs.declared.parser.matches.ArgMatches.TheViews.{out-ArgMatches, out-SubCommand}
use Rattle.clap.specs.declared.parser.matches.SubCommand.{SubCommand}
use Rattle.std.specs.Prelude.{Box}
use Rattle.std.specs.Box.{box_value}
use Rattle.clap.specs.declared.error.kind.ErrorKind.{ErrorKind}
use Rattle.clap.specs.declared.error.kind.ErrorKind.TheVariants as kind
use Rattle.clap.proofs.OnLiterals.{clap_on_literals}
use Rattle.wc_diag_texts.specs.declared.format.Format.{Format}
use Rattle.wc_diag_texts.specs.declared.format.Format.TheVariants.{Long}
use Rattle.wc_arguments.specs.CommandLine.{command_line}
use Rattle.wc_arguments.specs.Asked.{Asked, asked, asked_at, asked_by, fault_in, format_asked, format_in, faults_of, format_named}

-- a format after the word that was found, else before it
pub after_word : (raised : Option (Text × List Row)) (rows before : List Row) (v : Option Text) → Some rows ≡ option_map (λ p. p.1) raised → v ≡ first_of (codes "message") rows
    → option_or v (first_of (codes "message") before) ≡ format_in raised before
after_word None rows before v raised given = cc
after_word (Some p) rows before v raised given =
    ap (λ (o : Option Text). option_or o (first_of (codes "message") before)) (given ∙ ap (first_of (codes "message")) (ap (λ (o : Option (List Row)). unwrap_or o rows) raised))

-- what the word that was found asks for
asked_after : {Z : Type 0} (sub : Option (Box SubCommand Z)) (word : Text) (rows : List Row) → Some word ≡ option_map (λ b. (out-SubCommand (box_value b)).name.now) sub
    → Some rows ≡ option_map (λ p. p.1) (subcommand_rows sub) → asked_at word rows ≡ asked_by (subcommand_rows sub)
asked_after None word rows name given = cc
asked_after (Some b) word rows name given =
    ap₂ (λ (w : Text) (r : List Row). asked_at w r) (ap (λ (o : Option Text). unwrap_or o word) name) (ap (λ (o : Option (List Row)). unwrap_or o rows) given)

pub asked_of_word : (m : ArgMatches) (word : Text) (rows : List Row) → Some word ≡ subcommand_name_of m → Some rows ≡ option_map (λ p. p.1) (subcommand_rows_of m)
    → asked_at word rows ≡ asked_by (subcommand_rows_of m)
asked_of_word m word rows name given = asked_after (out-ArgMatches m).subcommand word rows name given

-- if no word was found
pub no_word : (raised : Option (Text × List Row)) (before : List Row) → None ≡ option_map (λ p. p.1) raised → first_of (codes "message") before ≡ format_in raised before
no_word None before none = refl
no_word (Some p) before none = cc

is_plain : is_simple_and_free command_line ≡ true
unfolding clap_on_literals
is_plain = refl

is_plainly_simple : is_simple command_line ≡ true
unfolding clap_on_literals
is_plainly_simple = refl

-- a fault of the parse is one of the arguments
pub among : (f g : Kinds) (e : Error) → HasKind f e → HasKind (or_else f g) e
among [] g e (inl memory) = inl memory
among [] g e (inr none) = absurd none
among (k ∷ ks) g e h = h

-- an error of the parse
pub refused_by : (a : App) (words : List Text) (e : Error) → a ≡ command_line → (is_simple_and_free a ≡ true → HasKind (fault_of a words) e) → HasKind (fault_of command_line words) e
refused_by a words e line kinds = subst (λ (b : App). HasKind (fault_of b words) e) line (kinds (ap is_simple_and_free line ∙ is_plain))

-- the arguments are parsed
pub parsed : (a : App) (words : List Text) → a ≡ command_line → (is_simple_and_free a ≡ true → fault_of a words ≡ []) → fault_of command_line words ≡ []
parsed a words line kinds = subst (λ (b : App). fault_of b words ≡ []) line (kinds (ap is_simple_and_free line ∙ is_plain))

-- what was read of the arguments is what they ask for
pub asked_is : (a : App) (words : List Text) (raised : Option (Text × List Row)) (rows : List Row) (this : Asked) → a ≡ command_line
    → (is_simple a ≡ true → (rows ≡ matches_of a words) × (raised ≡ subcommand_of a words)) → this ≡ asked_by raised → this ≡ asked words
asked_is a words raised rows this line matches given =
    let both = subst (λ (b : App). (rows ≡ matches_of b words) × (raised ≡ subcommand_of b words)) line (matches (ap is_simple line ∙ is_plainly_simple)) in
    given ∙ ap (λ (m : Option (Text × List Row)). asked_by m) both.1

-- the format that was read is the one that is asked for
pub format_is : (a : App) (words : List Text) (raised : Option (Text × List Row)) (rows : List Row) (text : Option Text) (format : Option Format) → a ≡ command_line
    → (is_simple a ≡ true → (rows ≡ matches_of a words) × (raised ≡ subcommand_of a words)) → text ≡ format_in raised rows
    → format ≡ option_map_or format_named text (Some Long) → format ≡ format_asked words
format_is a words raised rows text format line matches given read =
    let both = subst (λ (b : App). (rows ≡ matches_of b words) × (raised ≡ subcommand_of b words)) line (matches (ap is_simple line ∙ is_plainly_simple)) in
    read ∙ ap (λ (o : Option Text). option_map_or format_named o (Some Long)) (given ∙ ap₂ format_in both.1 both.0)

-- arguments that are parsed, with an unknown format, are refused
pub refused_format : (words : List Text) (e : Error) → fault_of command_line words ≡ [] → None ≡ format_asked words → kind_of e ≡ kind.InvalidValue → HasKind (fault_in words) e
refused_format words e none asked is = rw (none, ← asked) (inr (inl is))

-- arguments that are parsed, with a known format, are refused if their options don't go together
pub refused_option : (words : List Text) (format : Format) (this : Asked) (e : Error) (fault : ErrorKind) → fault_of command_line words ≡ [] → Some format ≡ format_asked words → this ≡ asked words
    → fault ∷ [] ≡ faults_of this → kind_of e ≡ fault → HasKind (fault_in words) e
refused_option words format this e fault none given same faults is = rw (none, ← given, ← same, ← faults) (inr (inl is))

-- and are not, if none is
pub not_refused : (words : List Text) (format : Format) (this : Asked) → fault_of command_line words ≡ [] → Some format ≡ format_asked words → this ≡ asked words
    → [] ≡ faults_of this → fault_in words ≡ []
not_refused words format this none given same whole = rw (none, ← given, ← same, ← whole) refl
