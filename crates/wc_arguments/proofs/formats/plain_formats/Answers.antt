use Rattle.wc_arguments.proofs.Plain.{check_format, changes_alone_format, changes_format, cut_at_format, cut_format, decode_format, deny_format, drawn_format, drawn_names_format, explain_format, job_format, last_format, line_format, many_names_format, next_alone_format, next_format, paths_format, plain, preview_format, redrawn_format, run_format, show_format, table_format, trace_format, watch_format}
use Rattle.wc_arguments.proofs.formats.plain_formats.Goals as goal

pub returns : goal.returns
returns c = record {
  job = job_format;
  check = λ name p h. check_format name p (plain p h);
  paths = λ name p h. paths_format name p (plain p h);
  preview = preview_format;
  deny = λ name p h. deny_format name p (plain p h);
  run = λ name p q l h i j. run_format name p q l (plain p h) (plain q i) (plain l j);
  last = last_format;
  next = next_format;
  watch = watch_format;
  changes = changes_format;
  changes_alone = changes_alone_format;
  trace = trace_format;
  show = show_format;
  drawn = drawn_format;
  redrawn = redrawn_format;
  drawn_names = drawn_names_format;
  many_names = many_names_format;
  next_alone = next_alone_format;
  line = λ name p l h j. line_format name p l (plain p h) (plain l j);
  cut = λ name p l h j. cut_format name p l (plain p h) (plain l j);
  cut_at = cut_at_format;
  decode = decode_format;
  table = table_format;
  explain = explain_format;
}
