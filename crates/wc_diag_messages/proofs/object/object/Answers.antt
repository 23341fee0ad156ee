use Rattle.wc_model.proofs.Common.{◌≡◌, ◌++◌, ◌∷◌, [], refl, IfOk-weaker}
use Rattle.json.specs.Print.{print}
use Rattle.json.specs.Token.{end_object}
use Rattle.wc_diag_messages.proofs.OneObject.{object_above}
use Rattle.wc_diag_messages.proofs.object.object.Goals as goal
use Rattle.wc_diag_messages.specs.Formats.{object_tokens}

pub returns : goal.returns
returns c =
    let begun = c.in_ok-writer.ensures.begins in
    let tokens = c.write_reported.new.writer.tokens ++ (end_object ∷ []) in
    let are : tokens ≡ object_tokens c.args.parts.now begun.text = rw (c.in_ok-write_reported.ensures.tokens, c.in_ok-write_position.ensures.tokens, begun.tokens_are) refl in
    IfOk-weaker c.line_of.result _ _ (λ bytes ended. record {
      text = begun.text;
      name_is = begun.name_is;
      tokens = tokens;
      tokens_are = are;
      reads = ended.reads;
      all = ended.all;
      one = record { line = print tokens; ends = ended.all; controls = object_above c.args.parts.now _ tokens are };
    }) c.line_of.ensures
