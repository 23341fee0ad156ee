use Rattle.std.proofs.Common.{◌≡◌, ℕ, List, ap, subst, ◌∙◌, drop, take}
use Rattle.std.proofs.lemmas.List.{drop-drop}
use Rattle.std.specs.Io.KnownBytes.{Appends, Keeps, append_known}
use Rattle.wc_devices.proofs.PassedOn.{propagated}
use Rattle.wc_devices.proofs.output_buffer.OutputBuffer.give_some.Goals as goal

pub returns-clause-bytes : goal.returns-clause-bytes
returns-clause-bytes g c =
    let known = g.D.Write.contents in
    let old = c.args.self.now in
    let items = old.buffered.items in
    let rest : List ℕ = drop old.given items in
    let same : c.split_at.result.1.now ≡ rest = c.split_at.ensures.back ∙ ap (drop old.given) c.as_slice.ensures.value in
    let wrote = subst (λ (bytes : List ℕ). Appends (known old.inner) (known c.write.new.self) (take c.in_ok-count.count bytes)) same c.in_ok-count.ensures.bytes in
    subst (λ (left : List ℕ). Keeps (append_known (known old.inner) rest) (append_known (known c.write.new.self) left)) (drop-drop c.in_ok-count.count old.given items) (propagated (known old.inner) (known c.write.new.self) rest c.in_ok-count.count wrote)
