-- What the plain command lines ask for.
use Rattle.std.proofs.Common.{◌≡◌, true, false, [], ◌∷◌, Some, None, refl, codes}
use Rattle.clap.specs.Words.{Text}
use Rattle.clap.specs.Lexer.{long_of, short_of}
use Rattle.std.specs.Str.{bytes_eq}
use Rattle.clap.proofs.OnLiterals.{clap_on_literals}
use Rattle.clap.specs.declared.error.kind.ErrorKind.TheVariants as kind
use Rattle.wc_diag_texts.specs.declared.format.Format.TheVariants.{Long}
use Rattle.wc_arguments.specs.Asked.{Ask, IsPlain, asked, check, cut, decode, explain, fault_in, job, line, run, show, trace}

-- the argument is not an option, a bundle of flags or `--`
abbrev pub IsValue : Text → Type 0
IsValue word = (bytes_eq word (45 ∷ 45 ∷ []) ≡ false) × (long_of word ≡ None) × (short_of word ≡ None)

pub plain : (word : Text) → IsPlain word → IsValue word
plain [] h = (refl, refl, refl)
plain (x ∷ xs) h = (rw h refl, rw h refl, rw h refl)

pub job_format : (name : Text) → Ask (name ∷ []) job Long
unfolding clap_on_literals
job_format name = (refl, refl, refl, refl)

pub check_format : (name p : Text) → IsValue p → Ask (name ∷ codes "check" ∷ p ∷ []) (check p None false false) Long
unfolding clap_on_literals
check_format name p v = (rw (v.0, v.1, v.2) refl, rw (v.0, v.1, v.2) refl, rw (v.0, v.1, v.2) refl, refl)

pub paths_format : (name p : Text) → IsValue p → Ask (name ∷ codes "check" ∷ codes "--path" ∷ p ∷ []) (check p None true false) Long
unfolding clap_on_literals
paths_format name p v = (rw (v.0, v.1, v.2) refl, rw (v.0, v.1, v.2) refl, rw (v.0, v.1, v.2) refl, refl)

pub deny_format : (name p : Text) → IsValue p → Ask (name ∷ codes "check" ∷ codes "--deny-warnings" ∷ p ∷ []) (check p None false true) Long
unfolding clap_on_literals
deny_format name p v = (rw (v.0, v.1, v.2) refl, rw (v.0, v.1, v.2) refl, rw (v.0, v.1, v.2) refl, refl)

pub preview_format : (name : Text) → Ask (name ∷ codes "check" ∷ codes "--next" ∷ codes "b" ∷ codes "a" ∷ []) (check (codes "a") (Some (codes "b")) false false) Long
unfolding clap_on_literals
preview_format name = (refl, refl, refl, refl)

pub run_format : (name p q l : Text) → IsValue p → IsValue q → IsValue l
    → asked (name ∷ codes "run" ∷ codes "--plate" ∷ p ∷ codes "--program" ∷ q ∷ codes "--log" ∷ l ∷ []) ≡ run p q None l None None false
unfolding clap_on_literals
run_format name p q l u v w = rw (u.0, u.1, u.2) (rw (v.0, v.1, v.2) (rw (w.0, w.1, w.2) refl))

pub next_format : (name : Text) → Ask (name ∷ codes "run" ∷ codes "--plate" ∷ codes "a" ∷ codes "--program" ∷ codes "b" ∷ codes "--next" ∷ codes "c" ∷ codes "--log" ∷ codes "d" ∷ [])
    (run (codes "a") (codes "b") (Some (codes "c")) (codes "d") None None false) Long
unfolding clap_on_literals
next_format name = (refl, refl, refl, refl)

pub trace_format : (name : Text) → Ask (name ∷ codes "trace" ∷ codes "--plate" ∷ codes "a" ∷ codes "--program" ∷ codes "b" ∷ codes "--log" ∷ codes "c" ∷ codes "--at" ∷ codes "650" ∷ [])
    (trace (codes "a") (codes "b") None (codes "c") (Some 650) None None None) Long
unfolding clap_on_literals
trace_format name = (refl, refl, refl, refl)

pub watch_format : (name : Text) → asked (name ∷ codes "run" ∷ codes "--plate" ∷ codes "a" ∷ codes "--program" ∷ codes "b" ∷ codes "--log" ∷ codes "c" ∷ codes "--watch" ∷ codes "d,t.ET" ∷ [])
    ≡ run (codes "a") (codes "b") None (codes "c") None (Some (codes "d,t.ET")) false
unfolding clap_on_literals
watch_format name = refl

pub changes_format : (name : Text) → asked (name ∷ codes "run" ∷ codes "--plate" ∷ codes "a" ∷ codes "--program" ∷ codes "b" ∷ codes "--log" ∷ codes "c" ∷ codes "--watch" ∷ codes "d" ∷ codes "--changes" ∷ [])
    ≡ run (codes "a") (codes "b") None (codes "c") None (Some (codes "d")) true
unfolding clap_on_literals
changes_format name = refl

pub changes_alone_format : (name : Text) → fault_in (name ∷ codes "run" ∷ codes "--plate" ∷ codes "a" ∷ codes "--program" ∷ codes "b" ∷ codes "--log" ∷ codes "c" ∷ codes "--changes" ∷ []) ≡ kind.MissingRequiredArgument ∷ []
unfolding clap_on_literals
changes_alone_format name = refl

pub show_format : (name : Text) → Ask (name ∷ codes "show" ∷ codes "--plate" ∷ codes "a" ∷ codes "--log" ∷ codes "b" ∷ []) (show (codes "a") None None (codes "b") None) Long
unfolding clap_on_literals
show_format name = (refl, refl, refl, refl)

pub drawn_format : (name : Text) → Ask (name ∷ codes "show" ∷ codes "--plate" ∷ codes "a" ∷ codes "--program" ∷ codes "b" ∷ codes "--log" ∷ codes "c" ∷ [])
    (show (codes "a") (Some (codes "b")) None (codes "c") None) Long
unfolding clap_on_literals
drawn_format name = (refl, refl, refl, refl)

pub redrawn_format : (name : Text) → Ask (name ∷ codes "show" ∷ codes "--plate" ∷ codes "a" ∷ codes "--program" ∷ codes "b" ∷ codes "--next" ∷ codes "c" ∷ codes "--log" ∷ codes "d" ∷ [])
    (show (codes "a") (Some (codes "b")) (Some (codes "c")) (codes "d") None) Long
unfolding clap_on_literals
redrawn_format name = (refl, refl, refl, refl)

pub drawn_names_format : (name : Text) → Ask (name ∷ codes "show" ∷ codes "--plate" ∷ codes "a" ∷ codes "--program" ∷ codes "b" ∷ codes "--log" ∷ codes "c" ∷ codes "--watch" ∷ codes "d" ∷ [])
    (show (codes "a") (Some (codes "b")) None (codes "c") (Some (codes "d"))) Long
unfolding clap_on_literals
drawn_names_format name = (refl, refl, refl, refl)

pub many_names_format : (name : Text) → fault_in (name ∷ codes "show" ∷ codes "--plate" ∷ codes "a" ∷ codes "--program" ∷ codes "b" ∷ codes "--log" ∷ codes "c" ∷ codes "--watch" ∷ codes "d,e,f,g,h" ∷ [])
    ≡ kind.InvalidValue ∷ []
unfolding clap_on_literals
many_names_format name = refl

pub next_alone_format : (name : Text) → fault_in (name ∷ codes "show" ∷ codes "--plate" ∷ codes "a" ∷ codes "--next" ∷ codes "b" ∷ codes "--log" ∷ codes "c" ∷ []) ≡ kind.MissingRequiredArgument ∷ []
unfolding clap_on_literals
next_alone_format name = refl

pub line_format : (name p l : Text) → IsValue p → IsValue l → Ask (name ∷ codes "line" ∷ codes "--plate" ∷ p ∷ codes "--log" ∷ l ∷ []) (line p l) Long
unfolding clap_on_literals
line_format name p l u w = (rw (u.0, u.1, u.2, w.0, w.1, w.2) refl, rw (u.0, u.1, u.2, w.0, w.1, w.2) refl, rw (u.0, u.1, u.2, w.0, w.1, w.2) refl, refl)

pub cut_format : (name p l : Text) → IsValue p → IsValue l → Ask (name ∷ codes "cut" ∷ codes "--plate" ∷ p ∷ codes "--log" ∷ l ∷ []) (cut p l None) Long
unfolding clap_on_literals
cut_format name p l u w = (rw (u.0, u.1, u.2, w.0, w.1, w.2) refl, rw (u.0, u.1, u.2, w.0, w.1, w.2) refl, rw (u.0, u.1, u.2, w.0, w.1, w.2) refl, refl)

pub cut_at_format : (name : Text) → Ask (name ∷ codes "cut" ∷ codes "--plate" ∷ codes "a" ∷ codes "--log" ∷ codes "b" ∷ codes "--at" ∷ codes "5000" ∷ [])
    (cut (codes "a") (codes "b") (Some 5000)) Long
unfolding clap_on_literals
cut_at_format name = (refl, refl, refl, refl)

pub decode_format : (name : Text) → Ask (name ∷ codes "decode" ∷ []) (decode false) Long
unfolding clap_on_literals
decode_format name = (refl, refl, refl, refl)

pub table_format : (name : Text) → Ask (name ∷ codes "decode" ∷ codes "--csv" ∷ []) (decode true) Long
unfolding clap_on_literals
table_format name = (refl, refl, refl, refl)

pub explain_format : (name : Text) → Ask (name ∷ codes "explain" ∷ codes "403" ∷ []) (explain (codes "403")) Long
unfolding clap_on_literals
explain_format name = (refl, refl, refl, refl)

pub last_format : (name : Text) → Ask (name ∷ codes "run" ∷ codes "--last" ∷ codes "10" ∷ codes "--log" ∷ codes "a" ∷ codes "--program" ∷ codes "b" ∷ codes "--plate=c" ∷ [])
    (run (codes "c") (codes "b") None (codes "a") (Some 10) None false) Long
unfolding clap_on_literals
last_format name = (refl, refl, refl, refl)
