-- The end of a run: what the observer writes after the rest, and how a fault is classified.
use Rattle.std.proofs.lemmas.Result.{IfErr-at_err}
use Rattle.wc_model.proofs.Common.{refl, inl, inr, ◌≡◌, sym, subst, ℕ, List, [], Option, Ok, Err, Result, append-nil, true, false, Appends-kept, Appends-trans, Appends}
use Rattle.wc_model.specs.Definitions.{LogOf, PlateData, LogRow, Past, Logic}
use Rattle.wc_run.proofs.Prefixes.{prefix_after, prefix_of_more}
use Rattle.wc_run.specs.{Ended, EndsWhole, HasSeenAll, IsCutShort, IsClassified, RunsRows, Seeing, Writes, WritesBy, is_cut_short, refused_in, Plan, Start, onto, refusal_of, text_coming, HasNotFailed, IsNoRefusal, ReportsBy, ReportsFaults, ReportsWrite}
use Rattle.wc_record.specs.{HasCause}
use Rattle.wc_run.specs.declared.fault.RunFault.{RunFault}
use Rattle.wc_run.specs.declared.fault.RunFault.TheVariants.{Refused, Read, Write, Memory}

-- what a fault says is also said by what it is classified as, if a read fault says what out of memory does
classified : (P : RunFault → Type 0) → (P Read → P Memory) → (P Memory → P Read) → (fault named : RunFault) → IsClassified fault named → P fault → P named
classified P on back Read named (inl same) says = subst P (sym same) says
classified P on back Read named (inr same) says = subst P (sym same) (on says)
classified P on back Memory named (inl same) says = subst P (sym same) (back says)
classified P on back Memory named (inr same) says = subst P (sym same) says
classified P on back fault named same says = subst P (sym same) says

module _ {O : Type 0} (has_seen : Seeing O) (plan : Plan) (plate : PlateData) (logic : Option Logic) (log : LogOf) (old mid new : Option (List ℕ)) where
  -- rows that were not cut short are all seen and written, and the answer has the log's refusal
  pub record Done (observer : O) (answer : Result ℕ RunFault) : Type 0 where
    pub seen : HasSeenAll has_seen observer plate logic log.rows
    pub written : Appends old mid (text_coming plan plate logic [] log.rows)
    pub refusal : log.refusal ≡ refusal_of (refused_in answer)

  pub all_done : (observer : O) (answer : Result ℕ RunFault) → is_cut_short answer ≡ false → RunsRows has_seen plan plate logic log observer answer old mid → Done observer answer
  all_done observer (Ok count) whole runs = record { seen = runs.2; written = runs.3; refusal = runs.0 }
  all_done observer (Err (Refused code place)) whole runs = record { seen = runs.1; written = runs.2; refusal = runs.0 }
  all_done observer (Err fault) whole runs = absurd (cc)

  -- what an observer writes at the end is what the plan says of the end of this log
  pub ends_plan : {X : Type 0} (observer : O) (answer : Result ℕ RunFault) (end : Result X RunFault) → Done observer answer
      → ((past : Past) → has_seen observer plate logic past → Writes (plan.at_end plate logic (onto past []) (refusal_of (refused_in answer))) end mid new)
      → Writes (plan.at_end plate logic log.rows log.refusal) end mid new
  ends_plan observer answer end done writes =
      subst (λ refusal. Writes (plan.at_end plate logic log.rows refusal) end mid new) (sym done.refusal)
      (subst (λ rows. Writes (plan.at_end plate logic rows (refusal_of (refused_in answer))) end mid new) (sym done.seen.1) (writes done.seen.0 done.seen.2))

  -- the end is cut short
  pub cut_at_end : (raised : RunFault) → Appends old mid (text_coming plan plate logic [] log.rows)
      → IsCutShort raised mid new (plan.at_end plate logic log.rows log.refusal) → WritesBy plan plate logic log (Err raised) old new
  cut_at_end Write written cut = prefix_after old mid new (text_coming plan plate logic [] log.rows) (plan.at_end plate logic log.rows log.refusal) written cut
  cut_at_end Memory written cut = (log.rows, [], sym (append-nil log.rows), Appends-kept old mid new (text_coming plan plate logic [] log.rows) written cut)
  cut_at_end raised written cut = absurd cut

  -- the answer stays if the end is written
  pub ends_whole : (observer : O) (answer : Result ℕ RunFault) → is_cut_short answer ≡ false → RunsRows has_seen plan plate logic log observer answer old mid
      → Appends mid new (plan.at_end plate logic log.rows log.refusal) → WritesBy plan plate logic log answer old new
  ends_whole observer (Ok count) whole runs more =
      (runs.0, runs.1, Appends-trans old mid new (text_coming plan plate logic [] log.rows) (plan.at_end plate logic log.rows log.refusal) runs.3 more)
  ends_whole observer (Err (Refused code place)) whole runs more =
      (runs.0, Appends-trans old mid new (text_coming plan plate logic [] log.rows) (plan.at_end plate logic log.rows log.refusal) runs.2 more)
  ends_whole observer (Err fault) whole runs more = absurd (cc)

  -- nothing is written after a fault of a device or of memory
  pub ends_short : (observer : O) (answer : Result ℕ RunFault) → is_cut_short answer ≡ true → RunsRows has_seen plan plate logic log observer answer old mid
      → WritesBy plan plate logic log answer old mid
  ends_short observer (Ok count) short runs = absurd (cc)
  ends_short observer (Err (Refused code place)) short runs = absurd (cc)
  ends_short observer (Err Write) short runs =
      prefix_of_more old mid (text_coming plan plate logic [] log.rows) (plan.at_end plate logic log.rows log.refusal) runs
  ends_short observer (Err fault) short runs = runs

-- what is said of the end of a run is said if it came there
module _ (ended : Ended) (start : Start) (plate : PlateData) (logic : Option Logic) (log : LogOf) (taken : Option (List ℕ)) where
  pub came_to_end : (answer : Result ℕ RunFault) → is_cut_short answer ≡ false → ended start taken plate logic log.rows log.refusal → EndsWhole ended start plate logic log answer taken
  came_to_end (Ok count) whole says = says
  came_to_end (Err (Refused number place)) whole says = says
  came_to_end (Err fault) whole says = absurd (cc)

  -- else nothing is
  pub came_short : (answer : Result ℕ RunFault) → is_cut_short answer ≡ true → EndsWhole ended start plate logic log answer taken
  came_short (Ok count) short = absurd (cc)
  came_short (Err (Refused number place)) short = absurd (cc)
  came_short (Err fault) short = tt

  pub failed_there : (fault : RunFault) → IsNoRefusal fault → EndsWhole ended start plate logic log (Err fault) taken
  failed_there (Refused number place) held = absurd held
  failed_there fault held = tt

  -- what a fault says of the end is also said by what it is classified as
  pub classified_at_end : (fault named : RunFault) → IsClassified fault named → EndsWhole ended start plate logic log (Err fault) taken
      → EndsWhole ended start plate logic log (Err named) taken
  classified_at_end = classified (λ fault. EndsWhole ended start plate logic log (Err fault) taken) (λ says. says) (λ says. says)

-- what a fault says of what was written is also said by what it is classified as
pub classified_says : (whole coming : List LogRow → List ℕ) (log : LogOf) (old new : Option (List ℕ)) (fault named : RunFault)
    → IsClassified fault named → ReportsBy whole coming log (Err fault) old new → ReportsBy whole coming log (Err named) old new
classified_says whole coming log old new = classified (λ fault. ReportsBy whole coming log (Err fault) old new) (λ says. says) (λ says. says)

-- so are the causes of a fault, which a reader's failures and what it gave decide
pub classified_faults : (f f' s s' w w' : ℕ) (fault named : RunFault) → IsClassified fault named → (named ≡ Read → HasCause f f' s s')
    → (named ≡ Memory → HasCause f f' s s' → ⊥) → ReportsWrite fault w w' → HasNotFailed (Err fault) f f' → ReportsFaults (Err named) f f' s s' w w'
classified_faults f f' s s' w w' fault named is read memory writes held = record {
  read = λ e. read (IfErr-at_err (λ other. named ≡ other) e refl);
  memory = λ e. memory (IfErr-at_err (λ other. named ≡ other) e refl);
  writer = classified (λ other. ReportsWrite other w w') (λ says. says) (λ says. says) fault named is writes;
  reader = classified (λ other. HasNotFailed (Err other) f f') (λ says. says) (λ says. says) fault named is held;
}
