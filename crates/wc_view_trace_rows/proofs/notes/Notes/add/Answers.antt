use Rattle.std.proofs.Common.{rules, length, ◌≡◌, ◌++◌, ◌∷◌, [], IsOkUnless, OnOk}
use Rattle.std.proofs.lemmas.Result.{on_ok_weaker}
use Rattle.wc_model.specs.declared.fault.Fault.TheVariants as fault
use Rattle.wc_view_trace_rows.proofs.NamesNoted.{noted_more}
use Rattle.wc_view_trace_rows.specs.declared.notes.Note.{Note}
use Rattle.wc_view_trace_rows.proofs.notes.Notes.add.Goals as goal

pub returns : goal.returns
returns c =
    let note : Note = record { line = c.map_or-line.result; kind = c.args.kind; start = c.len-start.result; end = c.len.result } in
    let from : c.len-start.result ≡ length c.args.self.now.names.items = search (rules) in
    let to : c.len.result ≡ length c.put_name.new.names.items = search (rules) in
    let pushed : OnOk c.map_err.result (c.push.new.self.items ≡ c.args.self.now.notes.items ++ note ∷ []) = search (rules) in
    let memory : IsOkUnless c.map_err.result fault.Memory = search (rules) in (
      on_ok_weaker c.map_err.result
          (λ put. noted_more c.args.self.now.names.items c.put_name.new.names.items c.args.self.now.notes.items c.push.new.self.items note c.args.name.now c.args.field.now c.requires c.in_ok-put_name.ensures.0 put from to)
          pushed,
      memory,
    )
