-- Which command is asked for by which arguments, the first of which is the program's own name.
use Rattle.std.specs.Prelude.{◌≡◌, ◌==◌, ℕ, Bool, true, false, List, [], ◌∷◌, map, Option, Some, None}
use Rattle.std.specs.List.{count_by}
use Rattle.std.specs.Prelude.{codes, if◌then◌else◌, is_some, nat_lt, option_and_then, option_map, unwrap_or}
use Rattle.std.specs.Prelude.{String}
use Rattle.std.specs.Prelude.{string_bytes}
use Rattle.std.specs.declared.alloc.Global.{Global}
use Rattle.std.specs.Option.{option_map_or, option_or}
use Rattle.std.specs.Str.{bytes_eq}
use Rattle.std.specs.Str.Parse.{digits_value, without_leading_plus}
use Rattle.clap.specs.Words.{Kinds, Row, Text, fault_of, first_of, matches_of, one_of}
use Rattle.clap.specs.Words.{subcommand_of}
use Rattle.clap.specs.Kinds.{or_else}
use Rattle.clap.specs.declared.error.kind.ErrorKind.{ErrorKind}
use Rattle.clap.specs.declared.error.kind.ErrorKind.TheVariants as kind
use Rattle.wc_diag_texts.specs.declared.format.Format.{Format}
use Rattle.wc_diag_texts.specs.declared.format.Format.TheVariants.{Long, Short, Json}
use Rattle.clap.specs.ValueTests.{accepts}
use Rattle.clap.specs.declared.builder.value_parser.ValueParser.TheVariants.{Unsigned}
use Rattle.wc_arguments.specs.CommandLine.{command_line}
use Rattle.wc_arguments.specs.declared.invocation.Invocation.{Invocation}
use Rattle.wc_arguments.specs.declared.invocation.Invocation.TheVariants as wanted

-- the arguments as texts
abbrev pub texts_of : List (String Global) → List Text
texts_of = map (λ word. string_bytes word)

-- the file that is given to an option, no name if there is none
abbrev pub file_in : Text → List Row → Text
file_in option given = unwrap_or (first_of option given) (codes "")

-- the flag is given
abbrev pub flag_in : Text → List Row → Bool
flag_in option given =
    option_map_or (λ text. bytes_eq text (codes "true")) (one_of option given) false

-- the number of 16 bits that a text's digits spell
abbrev pub number_of : Text → Option ℕ
number_of text = if accepts false (Unsigned 0 65535) text
    then Some (digits_value 10 (without_leading_plus text)) else None

-- the number of 64 bits that a text's digits spell
abbrev pub wide_number_of : Text → Option ℕ
wide_number_of text = if accepts false (Unsigned 0 18446744073709551615) text
    then Some (digits_value 10 (without_leading_plus text)) else None

-- the number of 64 bits that is given to an option
abbrev pub wide_number_in : Text → List Row → Option ℕ
wide_number_in option given = option_and_then wide_number_of (one_of option given)

-- the number that is given to an option
abbrev pub number_in : Text → List Row → Option ℕ
number_in option given = option_and_then number_of (one_of option given)

-- what the arguments ask for, with the texts of files in the order of the options
pub data Asked : Type 0 where
  job : Asked
  -- a program's file, that of one that may take its place if it is given, whether paths are
  -- wanted, and whether warnings are refused
  check : Text → Option Text → Bool → Bool → Asked
  -- the files of a plate, a program, a next program if one is given, and a log, the number of scans
  -- that are wanted, the names of the variables that are watched, and whether those scans alone are
  -- wanted at which these change
  run : Text → Text → Option Text → Text → Option ℕ → Option Text → Bool → Asked
  -- the files of a run whose scans are shown, in the same order, and which: the moment, the number of the
  -- scan, the first moment and the last
  trace : Text → Text → Option Text → Text → Option ℕ → Option ℕ → Option ℕ → Option ℕ → Asked
  -- the files of a plate, a program and a next program if they are given, and a log, of whose run a
  -- picture is wanted, and the names of the variables that are drawn
  show : Text → Option Text → Option Text → Text → Option Text → Asked
  -- a report from standard input, and whether a table is wanted
  decode : Bool → Asked
  -- the number of a refusal or of a warning
  explain : Text → Asked
  -- the files of a plate and a log
  line : Text → Text → Asked
  -- the files of a plate and a log that is cut, and the number of the row after which it is, if one is
  -- given
  cut : Text → Text → Option ℕ → Asked

-- what a word asks for, by what is given to its options
abbrev pub asked_at : Text → List Row → Asked
asked_at word given =
    if bytes_eq word (codes "check")
    then check (file_in (codes "program") given) (first_of (codes "next") given)
    (flag_in (codes "path") given) (flag_in (codes "deny-warnings") given)
    else (if bytes_eq word (codes "run")
    then run (file_in (codes "plate") given) (file_in (codes "program") given)
    (first_of (codes "next") given) (file_in (codes "log") given)
    (number_in (codes "last") given) (first_of (codes "watch") given) (flag_in (codes "changes") given)
    else (if bytes_eq word (codes "trace")
    then trace (file_in (codes "plate") given) (file_in (codes "program") given)
    (first_of (codes "next") given) (file_in (codes "log") given)
    (wide_number_in (codes "at") given) (wide_number_in (codes "scan") given)
    (wide_number_in (codes "from") given) (wide_number_in (codes "to") given)
    else (if bytes_eq word (codes "show")
    then show (file_in (codes "plate") given) (first_of (codes "program") given)
    (first_of (codes "next") given) (file_in (codes "log") given) (first_of (codes "watch") given)
    else (if bytes_eq word (codes "decode") then decode (flag_in (codes "csv") given)
    else (if bytes_eq word (codes "explain")
    then explain (file_in (codes "number") given)
    else (if bytes_eq word (codes "line")
    then line (file_in (codes "plate") given) (file_in (codes "log") given)
    else (if bytes_eq word (codes "cut")
    then cut (file_in (codes "plate") given) (file_in (codes "log") given)
    (wide_number_in (codes "at") given) else job)))))))

-- what is asked for by the word that was found: a job if there was none
abbrev pub asked_by : Option (Text × List Row) → Asked
asked_by raised = option_map_or (λ at. asked_at at.0 at.1) raised job

-- what the arguments ask for
abbrev pub asked : List Text → Asked
asked words = asked_by (subcommand_of command_line words)

-- a command of the code as what is asked for
abbrev pub view : Invocation → Asked
view wanted.Job = job
view (wanted.Check program next paths deny) =
    check program.now (option_map (λ path. path.now) next) paths deny
view (wanted.Run plate files last watch changes) =
    run plate.now files.program.now (option_map (λ next. next.now) files.next) files.log.now last
    (option_map (λ names. names.now) watch) changes
view (wanted.Trace plate files chosen) =
    trace plate.now files.program.now (option_map (λ next. next.now) files.next) files.log.now
    chosen.at chosen.scan chosen.from chosen.to
view (wanted.Show plate program next log watch) =
    show plate.now (option_map (λ path. path.now) program) (option_map (λ path. path.now) next)
    log.now (option_map (λ names. names.now) watch)
view (wanted.Decode table) = decode table
view (wanted.Explain number) = explain number.now
view (wanted.Line plate log) = line plate.now log.now
view (wanted.Cut plate log at) = cut plate.now log.now at

-- the text of a format that is given after the word that was found, or else before it
abbrev pub format_in : Option (Text × List Row) → List Row → Option Text
format_in raised before = option_or (option_and_then (λ at. first_of (codes "message") at.1) raised)
    (first_of (codes "message") before)

-- the format of that name
abbrev pub format_named : Text → Option Format
format_named text = if bytes_eq text (codes "long") then Some Long
    else (if bytes_eq text (codes "short") then Some Short
    else (if bytes_eq text (codes "json") then Some Json else None))

-- the format of a refusal's message, the long one if none is given; none if it is not a
-- format
abbrev pub format_asked : List Text → Option Format
format_asked words = option_map_or format_named
    (format_in (subcommand_of command_line words) (matches_of command_line words)) (Some Long)

-- An option is given, and not the one that it needs: a next program and none whose place it could take,
-- names and no program that has them, changes of no names.
abbrev pub lacks_option : Asked → Bool
lacks_option (show plate None (Some next) log watch) = true
lacks_option (show plate None None log (Some names)) = true
lacks_option (run plate program next log last None true) = true
lacks_option this = false

-- more names, between commas, than a picture has lanes for
abbrev pub has_many_names : Asked → Bool
has_many_names (show plate program next log (Some names)) =
    nat_lt 3 (count_by (λ byte. byte == 44) names)
has_many_names this = false

-- the kind of fault of the options together, if there is one
abbrev pub faults_of : Asked → Kinds
faults_of this = if lacks_option this then kind.MissingRequiredArgument ∷ []
    else (if has_many_names this then kind.InvalidValue ∷ [] else [])

-- the kinds of fault by which the arguments are refused, those of the first step that fails
abbrev pub fault_in : List Text → Kinds
fault_in words = or_else (fault_of command_line words) (if is_some (format_asked words)
    then faults_of (asked words) else kind.InvalidValue ∷ [])

-- the arguments are not refused, and ask for this, and for refusals in this format
abbrev pub Ask : List Text → Asked → Format → Type 0
Ask words this format = (asked words ≡ this) × (format_asked words ≡ Some format)
    × (fault_of command_line words ≡ []) × (faults_of this ≡ [])

-- a byte more at the beginning of the first argument
abbrev pub with_byte : ℕ → List Text → List Text
with_byte byte [] = (byte ∷ []) ∷ []
with_byte byte (first ∷ rest) = (byte ∷ first) ∷ rest

-- the arguments of a line, with a space (32) between each two
abbrev pub split : Text → List Text
split [] = [] ∷ []
split (byte ∷ rest) = if byte == 32 then [] ∷ split rest else with_byte byte (split rest)

-- the program's own name, and the arguments of a line
abbrev pub arguments : Text → Text → List Text
arguments name typed = name ∷ split typed

-- the arguments of this line are not refused, and ask for this, and for refusals in the long format
abbrev pub Asks : Text → Asked → Type 0
Asks typed this = (name : Text) → Ask (arguments name typed) this Long

-- the arguments of this line are refused, with this kind of fault
abbrev pub IsRefused : Text → ErrorKind → Type 0
IsRefused typed fault = (name : Text) → fault_in (arguments name typed) ≡ fault ∷ []

-- an argument that does not begin with a hyphen (45), so that it is not an option
abbrev pub IsPlain : Text → Type 0
IsPlain [] = Unit
IsPlain (x ∷ rest) = (x == 45) ≡ false
