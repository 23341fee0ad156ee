-- What is buffered is neither lost nor written twice.
use Rattle.std.proofs.Common.{ℕ, List, [], ◌++◌, Option, Some, None, Result, Ok, Err, ap, sym, ◌∙◌, append_assoc, append-nil, take, drop, take-append-drop}
use Rattle.std.specs.Io.KnownBytes.{Appends, Keeps, WriteAppends, append_known}

-- some of what is pending is passed on
pub propagated : (old new : Option (List ℕ)) (pending : List ℕ) (count : ℕ) → Appends old new (take count pending) → Keeps (append_known old pending) (append_known new (drop count pending))
propagated None new pending count wrote = tt
propagated (Some xs) None pending count wrote = absurd wrote
propagated (Some xs) (Some ys) pending count wrote =
    ap (λ bytes. bytes ++ drop count pending) wrote ∙ append_assoc xs (take count pending) (drop count pending) ∙ ap (λ bytes. xs ++ bytes) (take-append-drop count pending)

-- a chunk is passed on if nothing is pending
pub passed_on : {E : Type 0} (old new : Option (List ℕ)) (result : Result ℕ E) (chunk : List ℕ) → WriteAppends old new result chunk → WriteAppends (append_known old []) (append_known new []) result chunk
passed_on None new (Ok count) chunk wrote = tt
passed_on None new (Err error) chunk wrote = tt
passed_on (Some xs) None (Ok count) chunk wrote = absurd wrote
passed_on (Some xs) None (Err error) chunk wrote = absurd wrote
passed_on (Some xs) (Some ys) (Ok count) chunk wrote = append-nil ys ∙ wrote ∙ ap (λ bytes. bytes ++ take count chunk) (sym (append-nil xs))
passed_on (Some xs) (Some ys) (Err error) chunk wrote = append-nil ys ∙ wrote ∙ sym (append-nil xs)
