use Rattle.wc_model.proofs.Common.{◌≡◌, ◌++◌, ◌∷◌, [], refl, IfOk-weaker}
use Rattle.json.specs.Print.{print}
use Rattle.json.specs.Token.{end_object}
use Rattle.wc_diag_messages.proofs.OneObject.{left_out_above}
use Rattle.wc_diag_messages.proofs.left_out.object.Goals as goal
use Rattle.wc_diag_messages.specs.Warned.{left_out_tokens}

pub returns : goal.returns
returns c =
    let begun = c.in_ok-writer.ensures.begins in
    let tokens = c.write_number.new.writer.tokens ++ (end_object ∷ []) in
    let are : tokens ≡ left_out_tokens c.args.severity c.args.count begun.text = rw (c.in_ok-write_number.ensures.tokens, c.in_ok-write_severity.ensures.tokens, begun.tokens_are) refl in
    IfOk-weaker c.line_of.result _ _ (λ bytes ended. record {
      text = begun.text;
      name_is = begun.name_is;
      tokens = tokens;
      tokens_are = are;
      reads = ended.reads;
      all = ended.all;
      one = record { line = print tokens; ends = ended.all; controls = left_out_above c.args.severity c.args.count _ tokens are };
    }) c.line_of.ensures
