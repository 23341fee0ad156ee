use Rattle.std.proofs.Common.{refl}
use Rattle.wc_diag_messages.proofs.object.object_of.Goals as goal

pub returns-clause-begins : goal.returns-clause-begins
returns-clause-begins c =
    record {
      text = _;
      name_is = c.in_ok-name.ensures;
      tokens_are = rw (rw c.deref.ensures at c.in_ok-write_text.ensures.tokens, c.in_ok-begin_object.ensures.ok, c.new-writer.ensures.tokens) refl;
    }
