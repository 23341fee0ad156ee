-- What a run of files has written, by the input at which it stopped.
use Rattle.std.proofs.Common.{◌≡◌, ℕ, ◌≤◌, List, length, Ok}
use Rattle.std.specs.Prelude.{Option, Some, None, IfSome, IsSome}
use Rattle.wc_controller.proofs.Allowing.{file_not_read, file_read, known_each, known_more, of_known, on_each, on_known, plate_not_read, plate_read, too_long_file}
use Rattle.wc_controller.proofs.Givings.{unloaded, upto_more}
use Rattle.wc_controller.specs.{IsUnloaded, RefusesLength, RefusesPlate, WritesUpTo, AnswersFile, AnswersNextFile, AnswersPrinting, AnswersRun, AnswersText, Observed, Reader, AreReadOf, IfKnown, known_of}
use Rattle.wc_job.specs.Views.{IsWhole}
use Rattle.wc_model.specs.Definitions.{plate_of, PlateData, IsLoaded, Text, longest_job, log_of, AnswersNext, AnswersProgram, loads_program}
use Rattle.wc_plate.specs.TomlTable.{table_read}
use Rattle.wc_record.specs.Reading.{records_of}
use Rattle.wc_run.specs.declared.fault.RunFault.{RunFault}

module _ (o : Observed) (table program : Option (List ℕ)) (next : Option Reader) (log : Option (List ℕ)) where
  -- what a run of all bytes that are known has written
  abbrev pub OnRun : Option RunFault → Option (List ℕ) → Option (List ℕ) → Type 0
  OnRun answer old new =
      IfSome table (λ keys. IfSome program (λ text. IfKnown next (λ known. IfSome log (λ bytes. WritesUpTo (AnswersRun o keys text known bytes) answer old new))))

  -- no plate was read
  pub at_plate : (why : RunFault) (old : Option (List ℕ)) → IfSome table (λ keys. RefusesPlate keys why) → OnRun (Some why) old old
  at_plate why old refused =
      on_known table _ _
      (λ keys is. on_each program _ (λ text. known_each next _ (λ known. on_each log _
      (λ bytes. plate_not_read keys (λ read. AnswersFile text (AnswersText o read text known (log_of (records_of bytes)))) why old is)))) refused

  module _ (plate : PlateData) (read : IfSome table (λ keys. (length keys ≤ longest_job) × (plate_of (table_read keys) ≡ Ok plate))) where
    -- what is said of the plate
    after_plate : (answer : Option RunFault) (old new : Option (List ℕ))
        → IfSome program (λ text. IfKnown next (λ known. IfSome log (λ bytes. WritesUpTo (AnswersFile text (AnswersText o plate text known (log_of (records_of bytes)))) answer old new)))
        → OnRun answer old new
    after_plate answer old new h =
        on_known table _ _
        (λ keys is. on_known program _ _ (λ text reported. known_more next _ _ (λ known more. on_known log _ _
        (λ bytes upto. plate_read keys plate (λ read. AnswersFile text (AnswersText o read text known (log_of (records_of bytes)))) answer old new is upto) more) reported) h) read

    -- no program was read
    pub at_program : (why : RunFault) (old : Option (List ℕ)) → RefusesLength program why → OnRun (Some why) old old
    at_program why old refused =
        after_plate (Some why) old old
        (file_not_read program _ why
        (λ text longer. known_each next _ (λ known. on_each log _ (λ bytes. too_long_file text (AnswersText o plate text known (log_of (records_of bytes))) why old longer))) refused)

    module _ (text : List ℕ) (whole : IsWhole program text) where
      -- what is said of the program's bytes
      after_program : (answer : Option RunFault) (old new : Option (List ℕ))
          → IfKnown next (λ known. IfSome log (λ bytes. WritesUpTo (AnswersText o plate text known (log_of (records_of bytes))) answer old new))
          → OnRun answer old new
      after_program answer old new h =
          after_plate answer old new
          (of_known program text
          (λ all. IfKnown next (λ known. IfSome log (λ bytes. WritesUpTo (AnswersFile all (AnswersText o plate all known (log_of (records_of bytes)))) answer old new))) whole.1
          (known_more next _ _ (λ known more. on_known log _ _
          (λ bytes upto. file_read text (AnswersText o plate text known (log_of (records_of bytes))) answer old new whole.0 upto) more) h))

      -- no program was loaded
      pub at_text : (why : RunFault) (old : Option (List ℕ)) → IsUnloaded text why → OnRun (Some why) old old
      at_text why old refused =
          after_program (Some why) old old
          (known_each next _ (λ known. on_each log _
          (λ bytes. unloaded text (λ first. AnswersNextFile known (AnswersPrinting o plate (log_of (records_of bytes)) first)) why old refused)))

      module _ (first : Text) (loads : IsLoaded text first) where
        -- what is said of the program
        after_text : (answer : Option RunFault) (old new : Option (List ℕ))
            → IfKnown next (λ known. IfSome log (λ bytes. WritesUpTo (AnswersNextFile known (AnswersPrinting o plate (log_of (records_of bytes)) first)) answer old new))
            → OnRun answer old new
        after_text answer old new h =
            after_program answer old new
            (known_more next _ _ (λ known more. on_known log _ _
            (λ bytes upto. upto_more (AnswersNextFile known (AnswersPrinting o plate (log_of (records_of bytes)) first)) (AnswersText o plate text known (log_of (records_of bytes))) answer old new
            (λ one e. loads_program first loads e) upto) more) h)

        -- no next program was read
        pub at_next : (why : RunFault) (old : Option (List ℕ)) → IsSome next → RefusesLength (known_of next) why → OnRun (Some why) old old
        at_next why old there refused = after_text (Some why) old old (by_next next there refused) where
          by_next : (reader : Option Reader) → IsSome reader → RefusesLength (known_of reader) why
              → IfKnown reader (λ known. IfSome log (λ bytes. WritesUpTo (AnswersNextFile known (AnswersPrinting o plate (log_of (records_of bytes)) first)) (Some why) old old))
          by_next None there refused = absurd (cc)
          by_next (Some reader) there refused =
              file_not_read reader.bytes _ why
              (λ other longer. on_each log _
              (λ bytes. too_long_file other (AnswersProgram other (λ text. AnswersPrinting o plate (log_of (records_of bytes)) first (Some text))) why old longer)) refused

        -- the log was started, or the next program not loaded
        pub at_log : (held : Option (List ℕ)) → AreReadOf next held → (answer : Option RunFault) (old new : Option (List ℕ))
            → IfSome log (λ bytes. WritesUpTo (AnswersNext held (AnswersPrinting o plate (log_of (records_of bytes)) first)) answer old new) → OnRun answer old new
        at_log held are answer old new reported = after_text answer old new (by_next next held are reported) where
          by_next : (reader : Option Reader) (held : Option (List ℕ)) → AreReadOf reader held
              → IfSome log (λ bytes. WritesUpTo (AnswersNext held (AnswersPrinting o plate (log_of (records_of bytes)) first)) answer old new)
              → IfKnown reader (λ known. IfSome log (λ bytes. WritesUpTo (AnswersNextFile known (AnswersPrinting o plate (log_of (records_of bytes)) first)) answer old new))
          by_next None None are reported = reported
          by_next None (Some other) are reported = absurd are
          by_next (Some reader) None are reported = absurd are
          by_next (Some reader) (Some other) are reported =
              of_known reader.bytes other
              (λ all. IfSome log (λ bytes. WritesUpTo (AnswersNextFile (Some all) (AnswersPrinting o plate (log_of (records_of bytes)) first)) answer old new)) are.1
              (on_known log _ _
              (λ bytes upto. file_read other (AnswersProgram other (λ text. AnswersPrinting o plate (log_of (records_of bytes)) first (Some text))) answer old new are.0 upto) reported)
