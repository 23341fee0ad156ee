-- How far an answer was written, step by step of a command.
use Rattle.wc_model.proofs.Common.{◌≡◌, ℕ, List, [], ◌++◌, Result, Ok, Err, refl, ap, sym, ◌∙◌, subst, append-nil, inl, inr, Appends-nil, Appends-trans, Appends-kept, Keeps-refl, Keeps-trans, Appends, Keeps}
use Rattle.std.specs.Prelude.{Bool, true, false, Option, Some, None, if◌then◌else◌}
use Rattle.wc_controller.specs.{IsNextUnloaded, IsUnloaded, Checks, IsAt, IsReadFaultAt, EndsAs, EndsAfter, EndsAfterFault, EndsRefused, WritesPrefix, WritesUpTo, answered, failed, fault_in_memory, fault_raised, raised, status_of, AnswersCheck, AnswersLog, AnswersPrinting, IsAnswer, Observed, answer_written, refuses_text, reports_units, Gives, IsRefusedLoad, IsNextLoadedOf}
use Rattle.wc_controller.specs.Files as jobs
use Rattle.wc_cost.specs.LoadedTexts.{LoadedText}
use Rattle.wc_model.specs.Definitions.{text_view, PlateData, LogOf, LogRefusal, Text, AnswersNext, AnswersProgram, JobAnswer, after_report, loads_program, refused_text, refuses_program, refusing, run_answer, log_for, Logic, first_logic}
use Rattle.wc_controller.specs.declared.ending.Ending.{Ending}
use Rattle.wc_controller.specs.declared.ending.Ending.TheVariants as ended
use Rattle.wc_job.specs.declared.input.Input.{Input}
use Rattle.wc_controller.specs.declared.ending.InputFault.{InputFault}
use Rattle.wc_model.specs.declared.fault.Fault.{Fault}
use Rattle.wc_model.specs.declared.fault.Fault.TheVariants as fault
use Rattle.wc_run.proofs.Prefixes.{prefix_after, prefix_of_more}
use Rattle.wc_run.proofs.Lines.{whole_written}
use Rattle.wc_run.proofs.Texts.{lines_first}
use Rattle.wc_run.specs.{from_fault, WritesBy, report_plan, text_of_next, Plan, RefusesToBegin, Written, said, text_coming, text_in_all, AppendsFirst, AppendsPrefix}
use Rattle.wc_run.specs.declared.fault.RunFault.{RunFault}
use Rattle.wc_run.specs.declared.fault.RunFault.TheVariants.{Refused, Read, Write, Memory}

-- more may be allowed of a prefix
prefix_more : (allowed more : JobAnswer → Type 0) (old new : Option (List ℕ)) → ((answer : JobAnswer) → allowed answer → more answer)
    → WritesPrefix allowed old new → WritesPrefix more old new
prefix_more allowed more old new f (inl kept) = inl kept
prefix_more allowed more old new f (inr k) = inr (k.0, f k.0 k.1, k.2)

-- more may be allowed
pub upto_more : (allowed more : JobAnswer → Type 0) (answer : Option RunFault) (old new : Option (List ℕ))
    → ((answer : JobAnswer) → allowed answer → more answer) → WritesUpTo allowed answer old new → WritesUpTo more answer old new
upto_more allowed more None old new f k = (k.0, f k.0 k.1, k.2, k.3)
upto_more allowed more (Some (Refused number place)) old new f k = (k.0, f (record { output = k.0 ++ refused_text number place; status = 1 }) k.1, k.2)
upto_more allowed more (Some why) old new f k = prefix_more allowed more old new f k

-- a text is a prefix of itself
whole_prefix : (old new : Option (List ℕ)) (text : List ℕ) → Appends old new text → AppendsPrefix old new text
whole_prefix old new text w = (text, [], sym (append-nil text), w)

-- a prefix after which nothing was written
kept_prefix : (old middle new : Option (List ℕ)) (text : List ℕ) → AppendsPrefix old middle text → Keeps middle new → AppendsPrefix old new text
kept_prefix old middle new text f k = (f.0, f.1, f.2, Appends-kept old middle new f.0 f.3 k)

-- nothing but a refusal is to be written
pub only_refused : (allowed : JobAnswer → Type 0) (number place : ℕ) (old : Option (List ℕ))
    → allowed (record { output = refused_text number place; status = 1 }) → WritesUpTo allowed (Some (Refused number place)) old old
only_refused allowed number place old h = ([], h, Appends-nil old)

-- what a run writes, by how it ended
module _ (plan : Plan) (plate : PlateData) (logic : Option Logic) (log : LogOf) (old new : Option (List ℕ)) where
  abbrev pub whole : List ℕ
  whole = text_in_all plan plate logic log.refusal log.rows

  abbrev pub IsRun : JobAnswer → Type 0
  IsRun answer = answer ≡ after_report whole log.refusal

  -- a prefix of what is written is one of the output
  prefix_of_output : (refusal : Option LogRefusal) → AppendsPrefix old new whole → AppendsPrefix old new (after_report whole refusal).output
  prefix_of_output None f = f
  prefix_of_output (Some refusal) f = prefix_of_more old new whole (refused_text refusal.number refusal.row) f

  cut_short : AppendsPrefix old new whole → WritesPrefix IsRun old new
  cut_short f = inr (after_report whole log.refusal, refl, prefix_of_output log.refusal f)

  -- what is written of the first rows is a prefix of all of it
  first_rows : AppendsFirst (text_coming plan plate logic []) log.rows old new → AppendsPrefix old new whole
  first_rows f = let rest = lines_first plan plate logic log.refusal f.0 f.1 in
      (text_coming plan plate logic [] f.0, rest.0, ap (text_in_all plan plate logic log.refusal) f.2 ∙ rest.1, f.3)

  -- all rows ran, or it was stopped
  pub written_by : (answer : Result ℕ RunFault) → WritesBy plan plate logic log answer old new → WritesUpTo IsRun (fault_raised answer) old new
  written_by (Ok count) reported = (record { output = whole; status = 0 }, sym (ap (after_report whole) reported.0), refl, reported.2)
  written_by (Err (Refused number place)) reported = (whole, sym (ap (after_report whole) reported.0), reported.1)
  written_by (Err Write) reported = cut_short reported
  written_by (Err why) reported = cut_short (first_rows reported)

-- so it is answered
pub answered_so : (o : Observed) (plate : PlateData) (logic : Option Logic) (log : LogOf) (answer : Option RunFault) (old new : Option (List ℕ))
    → o.begins logic ≡ true → WritesUpTo (λ one. one ≡ answer_written o.written plate logic log) answer old new → WritesUpTo (IsAnswer o plate logic log) answer old new
answered_so o plate logic log answer old new begins h =
    upto_more (λ one. one ≡ answer_written o.written plate logic log) (IsAnswer o plate logic log) answer old new
    (λ one is. subst (λ started. one ≡ (if started then answer_written o.written plate logic log else refusing 401 0)) (sym begins) is) h

-- or it is refused to begin
pub not_started : (o : Observed) (plate : PlateData) (logic : Option Logic) (log : LogOf) (held : Type 0) (why : RunFault) (old : Option (List ℕ))
    → RefusesToBegin (o.begins logic) held why → WritesUpTo (IsAnswer o plate logic log) (Some why) old old
not_started o plate logic log held (Refused number place) old (begins, holds, is, at) =
    only_refused (IsAnswer o plate logic log) number place old
    (subst (λ started. refusing number place ≡ (if started then answer_written o.written plate logic log else refusing 401 0)) (sym begins)
    (λ i. record { output = refused_text (is i) (at i); status = 1 }))
not_started o plate logic log held Read old h = absurd h
not_started o plate logic log held Write old h = absurd h
not_started o plate logic log held Memory old h = inl (Keeps-refl old)

-- a program that is not loaded
pub not_loaded : (bytes : List ℕ) (rest : Text → JobAnswer → Type 0) (why : Fault) (old : Option (List ℕ))
    → IsRefusedLoad bytes why → WritesUpTo (AnswersProgram bytes rest) (Some (from_fault why)) old old
not_loaded bytes rest (fault.Refused number place) old h = only_refused (AnswersProgram bytes rest) number place old (refuses_program number place h refl)
not_loaded bytes rest fault.Memory old h = inl (Keeps-refl old)

-- so of a fault of a command
pub unloaded : (bytes : List ℕ) (rest : Text → JobAnswer → Type 0) (why : RunFault) (old : Option (List ℕ))
    → IsUnloaded bytes why → WritesUpTo (AnswersProgram bytes rest) (Some why) old old
unloaded bytes rest (Refused number place) old h = only_refused (AnswersProgram bytes rest) number place old (refuses_program number place h refl)
unloaded bytes rest Memory old h = inl (Keeps-refl old)
unloaded bytes rest why old h = absurd h

-- and of the next program
pub next_unloaded : (next : Option (List ℕ)) (rest : Option Text → JobAnswer → Type 0) (why : RunFault) (old : Option (List ℕ))
    → IsNextUnloaded next why → WritesUpTo (AnswersNext next rest) (Some why) old old
next_unloaded None rest why old h = absurd h
next_unloaded (Some bytes) rest why old h = unloaded bytes (λ text. rest (Some text)) why old h

-- what is answered once the next program is loaded, if there is one
pub next_loaded : (bytes : Option (List ℕ)) (next : Option LoadedText) (rest : Option Text → JobAnswer → Type 0) (answer : Option RunFault) (old new : Option (List ℕ))
    → IsNextLoadedOf bytes next → WritesUpTo (rest (text_of_next next)) answer old new → WritesUpTo (AnswersNext bytes rest) answer old new
next_loaded None None rest answer old new is h = h
next_loaded None (Some loaded) rest answer old new is h = absurd is
next_loaded (Some bytes) None rest answer old new is h = absurd is
next_loaded (Some bytes) (Some loaded) rest answer old new is h =
    let text : Text = text_view loaded.source in
    upto_more (rest (Some text)) (AnswersProgram bytes (λ other. rest (Some other))) answer old new (λ one e. loads_program text is e) h

-- a log in memory
pub in_memory : (allowed : JobAnswer → Type 0) (why : RunFault) (old new : Option (List ℕ))
    → WritesUpTo allowed (Some why) old new → WritesUpTo allowed (Some (fault_in_memory why)) old new
in_memory allowed Read old new k = k
in_memory allowed why old new k = k

-- a check of a text
pub checked : {X : Type 0} (paths : Bool) (bytes : List ℕ) (answer : Result X RunFault) (old new : Option (List ℕ))
    → Checks paths bytes answer old new → WritesUpTo (AnswersCheck paths bytes) (fault_raised answer) old new
checked paths bytes (Ok done) old new k =
    (record { output = k.1; status = 0 }, reports_units k.0 k.1 k.2 k.3 refl, refl, k.4)
checked paths bytes (Err (Refused number place)) old new k =
    ([], refuses_text number place k.0 refl, Appends-kept old old new [] (Appends-nil old) k.1)
checked paths bytes (Err Read) old new k = absurd k
checked paths bytes (Err Write) old new k =
    inr (record { output = k.1; status = 0 }, reports_units k.0 k.1 k.2 k.3 refl, (k.4.prefix, k.4.rest, k.4.cut, k.4.taken))
checked paths bytes (Err Memory) old new k = inl k

-- a refusal after a report
following : (input : Input) (allowed : JobAnswer → Type 0) (said : List ℕ) (number place : ℕ) (ending : Ending) (old middle new : Option (List ℕ))
    → allowed (record { output = said ++ refused_text number place; status = 1 }) → Appends old middle said
    → EndsRefused input number place ending middle new → EndsAs allowed ending old new
following input allowed said number place ended.Done old middle new h w k = absurd k
following input allowed said number place (ended.Refused at other line) old middle new h w k =
    answered (record { output = said ++ refused_text number place; status = 1 }) h
    (said, sym (ap (λ n. record { output = said ++ refused_text n place; status = 1 }) k.1) ∙ sym (ap (λ p. record { output = said ++ refused_text other p; status = 1 }) k.2))
    (Appends-trans old middle new said (refused_text number place) w k.3)
following input allowed said number place (ended.ReadFault at) old middle new h w k = absurd k
following input allowed said number place ended.WriteFault old middle new h w k =
    failed tt (inr (
      record { output = said ++ refused_text number place; status = 1 },
      h,
      prefix_after old middle new said (refused_text number place) w (k.prefix, k.rest, k.cut, k.taken),
    ))
following input allowed said number place ended.NoMemory old middle new h w k =
    failed tt (inr (
      record { output = said ++ refused_text number place; status = 1 },
      h,
      prefix_of_more old new said (refused_text number place) (whole_prefix old new said (Appends-kept old middle new said w k)),
    ))

-- a prefix after which nothing was written
kept_after : (allowed : JobAnswer → Type 0) (old middle new : Option (List ℕ)) → WritesPrefix allowed old middle → Keeps middle new → WritesPrefix allowed old new
kept_after allowed old middle new (inl kept) k = inl (Keeps-trans old middle new kept k)
kept_after allowed old middle new (inr f) k = inr (f.0, f.1, kept_prefix old middle new f.0.output f.2 k)

-- a fault by which a command stopped, and its ending
ended_by : (input : Input) (allowed : JobAnswer → Type 0) (why : RunFault) (ending : Ending) (old middle new : Option (List ℕ))
    → WritesUpTo allowed (Some why) old middle → EndsAfterFault input why ending middle new → EndsAs allowed ending old new
ended_by input allowed (Refused number place) ending old middle new w k = following input allowed w.0 number place ending old middle new w.1 w.2 k
ended_by input allowed why ending old middle new w k =
    subst (λ e. EndsAs allowed e old new) (sym k.0) (failed tt (kept_after allowed old middle new w k.1))

-- whatever a command answered, and its ending
pub ends : {X : Type 0} (allowed : JobAnswer → Type 0) (answer : Result X InputFault) (ending : Ending) (old middle new : Option (List ℕ))
    → WritesUpTo allowed (raised answer) old middle → EndsAfter answer ending middle new → EndsAs allowed ending old new
ends allowed (Ok done) ending old middle new w k =
    subst (λ e. EndsAs allowed e old new) (sym k.0) (answered w.0 w.1 w.2 (Appends-kept old middle new w.0.output w.3 k.1))
ends allowed (Err stopped) ending old middle new w k = ended_by stopped.input allowed stopped.fault ending old middle new w k

-- a prefix, at a status that says that something failed
in_prefix : (allowed : JobAnswer → Type 0) (status : ℕ) (old new : Option (List ℕ)) → jobs.IsFailure status → WritesPrefix allowed old new → Gives allowed status old new
in_prefix allowed status old new failure (inl kept) = jobs.silent failure kept
in_prefix allowed status old new failure (inr f) = jobs.cut_short f.0 f.1 failure f.2

-- more may be allowed of an ending, and of a status
pub ends_more : (allowed more : JobAnswer → Type 0) (ending : Ending) (old new : Option (List ℕ)) → ((answer : JobAnswer) → allowed answer → more answer)
    → EndsAs allowed ending old new → EndsAs more ending old new
ends_more allowed more ending old new f (answered answer h is w) = answered answer (f answer h) is w
ends_more allowed more ending old new f (failed is k) = failed is (prefix_more allowed more old new f k)

pub gives_more : (allowed more : JobAnswer → Type 0) (status : ℕ) (old new : Option (List ℕ)) → ((answer : JobAnswer) → allowed answer → more answer)
    → Gives allowed status old new → Gives more status old new
gives_more allowed more status old new f (jobs.answered answer h is w) = jobs.answered answer (f answer h) is w
gives_more allowed more status old new f (jobs.cut_short answer h failure w) = jobs.cut_short answer (f answer h) failure w
gives_more allowed more status old new f (jobs.silent failure kept) = jobs.silent failure kept

-- an ending's status
pub gives : (allowed : JobAnswer → Type 0) (ending : Ending) (old new : Option (List ℕ)) → EndsAs allowed ending old new → Gives allowed (status_of ending) old new
gives allowed ended.Done old new (answered answer h is w) = jobs.answered answer h (sym is) w
gives allowed (ended.Refused input number place) old new (answered answer h is w) = jobs.answered answer h (sym (ap (λ a. a.status) is.1)) w
gives allowed ended.Done old new (failed is f) = absurd is
gives allowed (ended.Refused input number place) old new (failed is f) = absurd is
gives allowed (ended.ReadFault input) old new (failed is f) = in_prefix allowed 3 old new (inl refl) f
gives allowed ended.WriteFault old new (failed is f) = in_prefix allowed 3 old new (inl refl) f
gives allowed ended.NoMemory old new (failed is f) = in_prefix allowed 4 old new (inr refl) f
gives allowed ending old new (answered answer h is w) = absurd is

-- an ending that reports a read fault at an input comes of one
pub read_fault_reported : {X : Type 0} (input : Input) (answer : Result X InputFault) (ending : Ending) (old new : Option (List ℕ))
    → EndsAfter answer ending old new → ending ≡ ended.ReadFault input → IsReadFaultAt input answer
read_fault_reported input (Ok done) ending old new k e = absurd (cc (sym k.0 ∙ e))
read_fault_reported input (Err stopped) ending old new k e = by_fault stopped.fault stopped.input refl k where
  by_fault : (why : RunFault) (at : Input) → stopped.fault ≡ why → EndsAfterFault at why ending old new → (at ≡ input) × (stopped.fault ≡ Read)
  by_fault (Refused number place) at same h = absurd (subst (λ one. EndsRefused at number place one old new) e h)
  by_fault Read at same h = (sym (subst (λ one. IsAt at one) (sym h.0 ∙ e) refl), same)
  by_fault why at same h = absurd (cc (sym h.0 ∙ e))

-- what is said of an ending if its bytes are given, and if nothing is said of them
ends_fault_said : (speaks : Bool) (input : Input) (why : RunFault) (ending : Ending) (old new : Option (List ℕ)) → EndsAfterFault input why ending old new
    → EndsAfterFault input why ending (said speaks old) (said speaks new)
ends_fault_said true input why ending old new h = h
ends_fault_said false input (Refused number place) ended.Done old new h = absurd h
ends_fault_said false input (Refused number place) (ended.Refused at other line) old new h = (h.0, h.1, h.2, tt)
ends_fault_said false input (Refused number place) (ended.ReadFault at) old new h = absurd h
ends_fault_said false input (Refused number place) ended.WriteFault old new h = record { prefix = h.prefix; rest = h.rest; cut = h.cut; short = h.short; taken = tt }
ends_fault_said false input (Refused number place) ended.NoMemory old new h = tt
ends_fault_said false input Read ending old new h = (h.0, tt)
ends_fault_said false input Write ending old new h = (h.0, tt)
ends_fault_said false input Memory ending old new h = (h.0, tt)

pub ends_said : {X : Type 0} (speaks : Bool) (answer : Result X InputFault) (ending : Ending) (old new : Option (List ℕ)) → EndsAfter answer ending old new
    → EndsAfter answer ending (said speaks old) (said speaks new)
ends_said true answer ending old new h = h
ends_said false (Ok done) ending old new h = (h.0, tt)
ends_said false (Err stopped) ending old new h = ends_fault_said false stopped.input stopped.fault ending old new h

-- what the observer of a report answers is what a job answers
is_report : (plate : PlateData) (logic : Logic) (log : LogOf) (one : JobAnswer) → IsAnswer (record { written = text_in_all report_plan; begins = λ logic. true }) plate (Some logic) log one
    → one ≡ run_answer plate logic log
is_report plate logic log one is =
    let taken : LogOf = log_for (Some logic) log in
    is ∙ ap (λ (written : Written). after_report (written plate (Some logic) taken.refusal taken.rows) taken.refusal) (whole_written None)

-- more may be answered with the next program
next_more : (next : Option (List ℕ)) (P Q : Option Text → JobAnswer → Type 0) → ((text : Option Text) (one : JobAnswer) → P text one → Q text one)
    → (one : JobAnswer) → AnswersNext next P one → AnswersNext next Q one
next_more None P Q f one h = f None one h
next_more (Some bytes) P Q f one (refuses_program number line refused is) = refuses_program number line refused is
next_more (Some bytes) P Q f one (loads_program text loaded h) = loads_program text loaded (f (Some text) one h)

-- so with whatever next program
pub logged : (next : Option (List ℕ)) (plate : PlateData) (log : LogOf) (text : Text) (answer : Option RunFault) (old new : Option (List ℕ))
    → WritesUpTo (AnswersNext next (AnswersPrinting (record { written = text_in_all report_plan; begins = λ logic. true }) plate log text)) answer old new
    → WritesUpTo (AnswersNext next (AnswersLog plate log text)) answer old new
logged next plate log text answer old new h =
    upto_more (AnswersNext next (AnswersPrinting (record { written = text_in_all report_plan; begins = λ logic. true }) plate log text)) (AnswersNext next (AnswersLog plate log text)) answer old new
    (λ one is. next_more next (AnswersPrinting (record { written = text_in_all report_plan; begins = λ logic. true }) plate log text) (AnswersLog plate log text)
    (λ other this says. is_report plate (first_logic text other) log this says) one is) h
