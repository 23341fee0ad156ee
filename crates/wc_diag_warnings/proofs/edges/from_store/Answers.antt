use Rattle.wc_model.proofs.Common.{◌||◌, ◌^◌, nat_eq, bit_or, sym, ap, ◌∙◌, or-false, one_shl, bit_at}
use Rattle.wc_diag_warnings.proofs.Again.{bit_of_both, bit_of_one}
use Rattle.wc_diag_warnings.specs.Paths.{Start, Store}
use Rattle.wc_diag_warnings.proofs.edges.from_store.Goals as goal

pub returns : goal.returns
returns c Start = sym (or-false c.args.paths.started)
returns c (Store output) =
    ap (λ n. nat_eq (bit_at (bit_or c.args.paths.stored n) output) 1) (one_shl c.args.output 64 c.requires)
    ∙ bit_of_both c.args.paths.stored (2 ^ c.args.output) output
    ∙ ap (λ b. nat_eq (bit_at c.args.paths.stored output) 1 || b) (bit_of_one c.args.output output)
