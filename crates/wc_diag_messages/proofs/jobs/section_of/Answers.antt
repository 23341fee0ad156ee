use Rattle.std.proofs.Common.{ap, is_some, option_map}
use Rattle.wc_job.specs.Views.{sections_view}
use Rattle.wc_diag_messages.proofs.LinesAbove.{above_plate, ends_given, log_is_there, next_is_there, program_is_there}
use Rattle.wc_diag_messages.proofs.jobs.section_of.Goals.{in-Plate, in-Program, in-Next+in-Some, in-Log}
use Rattle.wc_diag_messages.proofs.jobs.section_of.Goals as goal

pub returns-clause-above : goal.returns-clause-above
returns-clause-above c =
    let job = c.args.job.now in
    let found = sections_view c.in-Ok.found in
    let program = c.after_heading-program.result in
    let next = c.after_heading-next.result in
    elim c.match-part.branch [
      | in-Plate w ↦ rw (w.in-Plate.is, w.above-is) (λ sections e made. above_plate job sections made)
      | in-Program w ↦ rw (w.in-Program.is, w.above-is) (program_is_there job found program c.in-Ok.ensures c.after_heading-program.ensures)
      | in-Next+in-Some w ↦
          rw (w.in-Next.is, w.above-is) (next_is_there job found program next c.in-Ok.ensures c.after_heading-program.ensures c.after_heading-next.ensures (ap (λ o. is_some (option_map (λ t. t.now) o)) w.in-Some.is))
      | in-Log w ↦
          let given = ends_given c.in-Ok.found.next w.above_log.result next w.above_log.ensures.none w.above_log.ensures.next in
          rw (w.in-Log.is, w.above-is) (log_is_there job found program next w.above_log.result c.in-Ok.ensures c.after_heading-program.ensures c.after_heading-next.ensures given.0 given.1)
    ]
