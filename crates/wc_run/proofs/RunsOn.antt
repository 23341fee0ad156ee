-- While a log is run: what is done of it, and what is left.
use Rattle.std.proofs.Common.{◌≡◌, refl, ap, sym, subst, ◌∙◌, ℕ, ◌+◌, List, [], ◌∷◌, ◌++◌, length, Option, Some, None, Result, Ok, Err, OnOk, arith}
use Rattle.wc_model.proofs.Common.{Appends-kept, Appends-nil, Appends-trans, Keeps-refl, Appends, Keeps}
use Rattle.wc_model.specs.Definitions.{LogOf, refused_at, with_row, PlateData, LogRow, Past, log_for, Logic}
use Rattle.wc_record.specs.{HasLeft, Takes, nothing_left, row_bytes, head_view}
use Rattle.wc_record.specs.declared.log.Rows.{Rows}
use Rattle.wc_record.specs.declared.row_kind.LogFault.{LogFault}
use Rattle.wc_record.specs.declared.row_kind.LogFault.TheVariants as fault
use Rattle.wc_record.specs.declared.row_head.RowHead.{RowHead}
use Rattle.wc_run.proofs.Prefixes.{prefix_after, prefix_of_more}
use Rattle.wc_run.specs.{from_log_fault, Does, HasSeenAll, RunsRows, Seeing, Writes, StopsAtRow, IsTaken, logic_after, Plan, onto, text_coming, AppendsFirst, AppendsPrefix, Represents}
use Rattle.wc_run.specs.declared.fault.RunFault.{RunFault}
use Rattle.wc_run.specs.declared.fault.RunFault.TheVariants.{Refused, Read, Write, Memory}
use Rattle.wc_run.specs.declared.log_scale.LogScale.{LogScale}
use Rattle.wc_run.proofs.Texts.{length-onto, onto-append, text_at_last, text_of_all, text_so_far}

-- N rows of the log are done, the scale represents them, and the observer has seen them; with
-- those that a run takes of what is left they are the log. What the plan says of them is written.
pub record Running {R S O : Type 0} (bytes_left : R → Option (List ℕ)) (rows : Rows R) (scale : LogScale S) (has_seen : Seeing O) (observer : O)
    (plan : Plan) (plate : PlateData) (logic : Option Logic) (log : LogOf) (count : ℕ) (old new : Option (List ℕ)) : Type 0 where
  pub past : Past
  pub left : LogOf
  pub has_left : HasLeft bytes_left rows left
  pub same_refusal : log.refusal ≡ (log_for (logic_after plate logic past) left).refusal
  pub in_all : log.rows ≡ onto past (log_for (logic_after plate logic past) left).rows
  pub counted : length past ≡ count
  pub represents : Represents scale plate logic past
  pub seen : has_seen observer plate logic past
  pub written : Appends old new (text_so_far plan plate logic past)

-- a row that is done by the scale, and that the observer is shown
pub does_row : {S O X : Type 0} (answer : Result X RunFault) (has_seen : Seeing O) (plan : Plan) (plate : PlateData) (logic : Option Logic) (past : Past)
    (row : LogRow) (scale : LogScale S) (observer : O) (old new : Option (List ℕ))
    → IsTaken (logic_after plate logic past) (logic_after plate logic (row ∷ past)) row → Represents scale plate logic (row ∷ past)
    → OnOk answer (has_seen observer plate logic (row ∷ past)) → Writes (plan.at_row plate logic past row) answer old new
    → Does has_seen plan plate logic past row scale observer answer old new
does_row (Ok x) has_seen plan plate logic past row scale observer old new taken represents seen writes = (taken, represents, seen, writes)
does_row (Err (Refused code place)) has_seen plan plate logic past row scale observer old new taken represents seen writes = absurd writes
does_row (Err Read) has_seen plan plate logic past row scale observer old new taken represents seen writes = absurd writes
does_row (Err Write) has_seen plan plate logic past row scale observer old new taken represents seen writes = (taken, writes)
does_row (Err Memory) has_seen plan plate logic past row scale observer old new taken represents seen writes = writes

-- a row from which the scale is kept
pub stops_row : {S O : Type 0} (X : Type 0) (fault : RunFault) (has_seen : Seeing O) (plan : Plan) (plate : PlateData) (logic : Option Logic) (past : Past)
    (row : LogRow) (old scale : LogScale S) (observer : O) (taken : Option (List ℕ)) → StopsAtRow old row fault → Represents old plate logic past
    → has_seen observer plate logic past → Does {X = X} has_seen plan plate logic past row scale observer (Err fault) taken taken
stops_row X (Refused code place) has_seen plan plate logic past row old scale observer taken stops represents seen = (stops plate logic past represents, seen, Keeps-refl taken)
stops_row X Read has_seen plan plate logic past row old scale observer taken stops represents seen = absurd stops
stops_row X Write has_seen plan plate logic past row old scale observer taken stops represents seen = absurd stops
stops_row X Memory has_seen plan plate logic past row old scale observer taken stops represents seen = Keeps-refl taken

-- before any row the logic is the first one
logic_at_first : (plate : PlateData) (logic : Option Logic) → logic_after plate logic [] ≡ logic
logic_at_first plate None = refl
logic_at_first plate (Some logic) = refl

-- a log of which nothing is left is taken as such, and so is a refusal
nothing_taken : (logic : Option Logic) → log_for logic nothing_left ≡ nothing_left
nothing_taken None = refl
nothing_taken (Some logic) = refl

refusal_taken : (logic : Option Logic) (code place : ℕ) → log_for logic (refused_at code place) ≡ refused_at code place
refusal_taken None code place = refl
refusal_taken (Some logic) code place = refl

-- before the first row
pub at_first : {R S O : Type 0} (bytes_left : R → Option (List ℕ)) (rows : Rows R) (scale : LogScale S) (has_seen : Seeing O) (observer : O)
    (plan : Plan) (plate : PlateData) (logic : Option Logic) (log : LogOf) (taken : Option (List ℕ)) → HasLeft bytes_left rows log
    → Represents scale plate logic [] → has_seen observer plate logic [] → Running bytes_left rows scale has_seen observer plan plate logic (log_for logic log) 0 taken taken
at_first bytes_left rows scale has_seen observer plan plate logic log taken has represents seen = record {
  past = [];
  left = log;
  has_left = has;
  same_refusal = ap (λ l. (log_for l log).refusal) (sym (logic_at_first plate logic));
  in_all = ap (λ l. (log_for l log).rows) (sym (logic_at_first plate logic));
  counted = refl;
  represents = represents;
  seen = seen;
  written = Appends-nil taken;
}

module _ {R S O : Type 0} (bytes_left : R → Option (List ℕ)) (rows : Rows R) (scale : LogScale S) (has_seen : Seeing O) (observer : O)
    (plan : Plan) (plate : PlateData) (logic : Option Logic) (log : LogOf) (count : ℕ) (old mid : Option (List ℕ))
    (r : Running bytes_left rows scale has_seen observer plan plate logic log count old mid) where
  -- a row that is taken precedes the rest that is
  row_coming : (row : LogRow) (rest : LogOf) → r.left ≡ with_row row rest → IsTaken (logic_after plate logic r.past) (logic_after plate logic (row ∷ r.past)) row
      → log_for (logic_after plate logic r.past) r.left ≡ with_row row (log_for (logic_after plate logic (row ∷ r.past)) rest)
  row_coming row rest is taken = ap (λ l. log_for (logic_after plate logic r.past) l) is ∙ taken rest

  -- after one row more
  pub one_more : (rows' : Rows R) (scale' : LogScale S) (observer' : O) (new : Option (List ℕ)) (row : RowHead) {X : Type 0} (x : X)
      → Takes (head_view (row_bytes rows')) bytes_left r.left (Ok (Some row)) rows'
      → Does has_seen plan plate logic r.past (head_view (row_bytes rows') row) scale' observer' (Ok x) mid new
      → Running bytes_left rows' scale' has_seen observer' plan plate logic log (count + 1) old new
  one_more rows' scale' observer' new row x takes does =
      let one = row_coming (head_view (row_bytes rows') row) takes.0 takes.1 does.0 in
      record {
        past = head_view (row_bytes rows') row ∷ r.past;
        left = takes.0;
        has_left = takes.2;
        same_refusal = r.same_refusal ∙ ap (λ l. l.refusal) one;
        in_all = r.in_all ∙ ap (λ l. onto r.past l.rows) one;
        counted = omega (arith, r.counted);
        represents = does.1;
        seen = does.2;
        written = Appends-trans old mid new (text_so_far plan plate logic r.past) (plan.at_row plate logic r.past (head_view (row_bytes rows') row)) r.written does.3;
      }

  -- if no row is taken any more, those so far are all
  all_rows : (log_for (logic_after plate logic r.past) r.left).rows ≡ [] → log.rows ≡ onto r.past []
  all_rows none = r.in_all ∙ ap (λ l. onto r.past l) none

  -- what is written of them is written
  all_written : (log_for (logic_after plate logic r.past) r.left).rows ≡ [] → Appends old mid (text_coming plan plate logic [] log.rows)
  all_written none =
      subst (λ t. Appends old mid t) (sym (ap (λ l. text_coming plan plate logic [] l) (all_rows none) ∙ text_at_last plan plate logic r.past)) r.written

  -- and they are seen
  all_seen : (observer' : O) → (log_for (logic_after plate logic r.past) r.left).rows ≡ [] → has_seen observer' plate logic r.past
      → HasSeenAll has_seen observer' plate logic log.rows
  all_seen observer' none seen = (r.past, all_rows none, seen)

  -- none is left
  pub at_end : (rows' : Rows R) → Takes (head_view (row_bytes rows')) bytes_left r.left (Ok None) rows' → RunsRows has_seen plan plate logic log observer (Ok count) old mid
  at_end rows' takes =
      let nothing : log_for (logic_after plate logic r.past) r.left ≡ nothing_left =
      ap (λ l. log_for (logic_after plate logic r.past) l) takes.0 ∙ nothing_taken (logic_after plate logic r.past) in
      let none : (log_for (logic_after plate logic r.past) r.left).rows ≡ [] = ap (λ l. l.rows) nothing in (
        r.same_refusal ∙ ap (λ l. l.refusal) nothing,
        omega (arith, r.counted, ap length (all_rows none), length-onto r.past []),
        all_seen observer none r.seen,
        all_written none,
      )

  -- what is written of the first rows is written
  first_written : AppendsFirst (text_coming plan plate logic []) log.rows old mid
  first_written = (
    onto r.past [],
    (log_for (logic_after plate logic r.past) r.left).rows,
    r.in_all ∙ onto-append r.past [] (log_for (logic_after plate logic r.past) r.left).rows,
    subst (λ t. Appends old mid t) (sym (text_at_last plan plate logic r.past)) r.written,
  )

  -- what is left is a refusal, that of the log or of a row
  at_refusal : (observer' : O) (new : Option (List ℕ)) (code place : ℕ) → log_for (logic_after plate logic r.past) r.left ≡ refused_at code place
      → has_seen observer' plate logic r.past → Keeps mid new → RunsRows has_seen plan plate logic log observer' (Err (Refused code place)) old new
  at_refusal observer' new code place refused seen kept =
      let none : (log_for (logic_after plate logic r.past) r.left).rows ≡ [] = ap (λ l. l.rows) refused in (
        r.same_refusal ∙ ap (λ l. l.refusal) refused,
        all_seen observer' none seen,
        Appends-kept old mid new (text_coming plan plate logic [] log.rows) (all_written none) kept,
      )

  -- the log gives no further row
  pub at_fault : (rows' : Rows R) (raised : LogFault) → Takes (head_view (row_bytes rows')) bytes_left r.left (Err raised) rows'
      → RunsRows has_seen plan plate logic log observer (Err (from_log_fault raised)) old mid
  at_fault rows' (fault.Refused code place) takes =
      at_refusal observer mid code place
      (ap (λ l. log_for (logic_after plate logic r.past) l) takes.0 ∙ refusal_taken (logic_after plate logic r.past) code place) r.seen (Keeps-refl mid)
  at_fault rows' raised takes = first_written

  -- a row of which a prefix was written
  prefix_of_row : (new : Option (List ℕ)) (row : LogRow) (rest : LogOf) → log_for (logic_after plate logic r.past) r.left ≡ with_row row rest
      → AppendsPrefix mid new (plan.at_row plate logic r.past row) → AppendsPrefix old new (text_coming plan plate logic [] log.rows)
  prefix_of_row new row rest one cut =
      let done : List ℕ = text_so_far plan plate logic r.past in
      let this : List ℕ = plan.at_row plate logic r.past row in
      let later : List ℕ = text_coming plan plate logic (row ∷ r.past) rest.rows in
      let all : text_coming plan plate logic [] log.rows ≡ done ++ (this ++ later) =
      ap (λ l. text_coming plan plate logic [] l) (r.in_all ∙ ap (λ l. onto r.past l.rows) one) ∙ text_of_all plan plate logic r.past (row ∷ rest.rows) in
      subst (λ t. AppendsPrefix old new t) (sym all) (prefix_after old mid new done (this ++ later) r.written (prefix_of_more mid new this later cut))

  -- a row that was refused, or not done to its end
  pub at_row : (rows' : Rows R) (scale' : LogScale S) (observer' : O) (new : Option (List ℕ)) (row : RowHead) (X : Type 0)
      → Takes (head_view (row_bytes rows')) bytes_left r.left (Ok (Some row)) rows' → (raised : RunFault)
      → Does {X = X} has_seen plan plate logic r.past (head_view (row_bytes rows') row) scale' observer' (Err raised) mid new
      → RunsRows has_seen plan plate logic log observer' (Err raised) old new
  at_row rows' scale' observer' new row X takes (Refused code place) does =
      at_refusal observer' new code place (ap (λ l. log_for (logic_after plate logic r.past) l) takes.1 ∙ does.0 takes.0) does.1 does.2
  at_row rows' scale' observer' new row X takes Read does = absurd does
  at_row rows' scale' observer' new row X takes Write does =
      prefix_of_row new (head_view (row_bytes rows') row) (log_for (logic_after plate logic (head_view (row_bytes rows') row ∷ r.past)) takes.0)
      (row_coming (head_view (row_bytes rows') row) takes.0 takes.1 does.0) does.1
  at_row rows' scale' observer' new row X takes Memory does =
      (first_written.0, first_written.1, first_written.2, Appends-kept old mid new (text_coming plan plate logic [] first_written.0) first_written.3 does)
