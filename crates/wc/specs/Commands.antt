-- Which of the program's commands the arguments ask for. (No rule of the language.)
use Rattle.std.specs.Prelude.{◌≡◌, ◌≤◌, false, Option, Some, None, IfSome, option_map}
use Rattle.wc_arguments.specs.Asked.{Asked, asked, format_asked, line, run, show, texts_of, trace}
use Rattle.wc.specs.declared.observation.Observation.{Observation}
use Rattle.wc.specs.declared.observation.Observation.TheVariants.{Scans, Watched, Traced, Drawn}
use Rattle.wc.specs.declared.files.RunPaths.{RunPaths}
use Rattle.wc.specs.declared.session.Session.{Session}
use Rattle.clap.specs.Words.{Text}

-- the arguments ask for this, and for messages in the session's format
abbrev pub Asks : Session → Asked → Type 0
Asks session this =
    (asked (texts_of session.arguments.now) ≡ this)
    × (format_asked (texts_of session.arguments.now) ≡ Some session.format)

-- what asks for this to be observed of the run of a log with these files, if anything does
abbrev pub observed_with : Observation → Text → Option Text → Option Text → Text → Option Asked
observed_with (Scans last) plate (Some program) next log =
    Some (run plate program next log last None false)
observed_with (Scans None) plate None None log = Some (line plate log)
observed_with (Watched choice) plate (Some program) next log =
    Some (run plate program next log choice.last (Some choice.names.now) choice.changes)
observed_with (Traced chosen) plate (Some program) next log =
    Some (trace plate program next log chosen.at chosen.scan chosen.from chosen.to)
observed_with (Drawn names) plate program next log =
    Some (show plate program next log (option_map (λ list. list.now) names))
observed_with observed plate program next log = None

-- what asks for it with files at these paths, if anything does
abbrev pub observed_of : RunPaths → Observation → Option Asked
observed_of paths observed = observed_with observed paths.plate.now
    (option_map (λ path. path.now) paths.program) (option_map (λ path. path.now) paths.next)
    paths.log.now

-- the arguments ask for this to be observed
abbrev pub Observes : Session → RunPaths → Observation → Type 0
Observes session paths observed =
    (observed_of paths observed ≡ Some (asked (texts_of session.arguments.now)))
    × (format_asked (texts_of session.arguments.now) ≡ Some session.format)

-- a number of last scans is 1 to 1000
abbrev pub IsCounted : Observation → Type 0
IsCounted (Scans last) = IfSome last (λ n. (1 ≤ n) × (n ≤ 1000))
IsCounted (Watched choice) = IfSome choice.last (λ n. (1 ≤ n) × (n ≤ 1000))
IsCounted observed = Unit {0}
