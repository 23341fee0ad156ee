use Rattle.std.proofs.Common.{◌≡◌, ◌∙◌, ◌++◌, ap, arith, map, rules, subst, sym}
use Rattle.wc_model.specs.Definitions.{frame_of_text, slot_kinds, text_view}
use Rattle.wc_view_trace_rows.specs.{line_starts, note_named, text_named, AreWithin}
use Rattle.wc_view_trace_rows.proofs.legend.Legend.new.Goals as goal

pub note_units-requires : goal.note_units-requires
note_units-requires c = subst (λ l. AreWithin l c.new-4.result.items) (sym c.new-3.ensures.items) (λ k d l. absurd (omega (arith, l)))

pub returns-clause-legend : goal.returns-clause-legend
returns-clause-legend c =
    let text = text_view c.args.loaded.now.source in
    let kinds : c.extend_from_slice.new.self.items ≡ c.new-5.result.items ++ slot_kinds (frame_of_text text) = search (rules) in
    let source : c.source.result.now ≡ c.args.loaded.now.source = search (rules) in
    record {
      text_is = c.in_ok-put_bytes.ensures.bytes ∙ ap (λ l. l ++ c.args.text.now) c.new.ensures.items;
      starts_are = c.in_ok-put_starts.ensures.0 ∙ ap (λ l. l ++ line_starts c.args.text.now) c.new-2.ensures.items;
      named_are = c.in_ok-note_units.ensures.0.0 ∙ ap (λ s. map (note_named c.new-4.result.items) c.new-3.result.items ++ text_named (text_view s)) source
          ∙ ap (λ l. map (note_named c.new-4.result.items) l ++ text_named text) c.new-3.ensures.items;
      kinds_are = kinds ∙ ap (λ l. l ++ slot_kinds (frame_of_text text)) c.new-5.ensures.items;
    }
