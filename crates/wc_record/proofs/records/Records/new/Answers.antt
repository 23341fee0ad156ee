use Rattle.std.proofs.Common.{◌≡◌, true, false, inr, ap, ◌∙◌, option_map}
use Rattle.csv.specs.Reading.{builder_config, builder_is_flexible, builder_names_headers, builder_trim, strip_bom, with_flexible, with_names_headers}
use Rattle.wc_record.proofs.RecordEnds.{records_are_all}
use Rattle.wc_record.proofs.records.Records.new.Goals as goal
use Rattle.wc_record.specs.Reading.{borrowed}

pub returns-clause-records : goal.returns-clause-records
returns-clause-records g c =
    λ bytes e.
    let fr = c.from_reader.ensures in
    let built : c.flexible.result.now ≡ with_flexible (with_names_headers c.new.result false) true = rw c.has_headers.ensures at c.flexible.ensures in
    record {
      config = fr.config ∙ ap builder_config built ∙ c.new.ensures.config;
      untrimmed = fr.trim ∙ ap builder_trim built ∙ c.new.ensures.trim;
      flexible = fr.flexible ∙ ap builder_is_flexible built;
      ready = inr (inr (fr.has_headers ∙ ap builder_names_headers built, fr.headers));
      bytes = strip_bom bytes;
      known = fr.source ∙ ap (option_map strip_bom) e;
      are_left = rw fr.state (records_are_all _ (strip_bom bytes));
    }

pub returns-clause-borrowed : goal.returns-clause-borrowed
returns-clause-borrowed g c = ap borrowed c.from_reader.ensures.rdr

pub returns-clause-whole : goal.returns-clause-whole
returns-clause-whole g c = c.from_reader.ensures.rdr
