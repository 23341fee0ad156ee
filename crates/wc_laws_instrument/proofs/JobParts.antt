-- The parts of a job, joined, are its bytes.
use Rattle.std.proofs.Common.{◌≡◌, ◌==◌, ℕ, Bool, true, false, codes, List, [], ◌∷◌, ◌++◌, length, Option, Some, None, Result, Ok, Err, if◌then◌else◌, refl, sym, ap, subst, ◌∙◌, append_assoc}
use Rattle.wc_model.proofs.Common.{nat_lt, eqb-true, concat}
use Rattle.std.proofs.lemmas.List.{append-nil}
use Rattle.wc_laws_instrument.specs.Logs.{IsMadeOf, IsNextPart, JobIsItsSections}
use Rattle.wc_model.specs.Run.JobSections.{Parted, Sections, is_heading, longest_job, onto_first_line, part_at, sections_in, sections_or_refusal, sections_with_log, sections_with_next, sections_with_program, whole_lines, with_line}

-- a byte before the first line precedes all
onto_all : (byte : ℕ) (lines : List (List ℕ)) → concat (onto_first_line byte lines) ≡ byte ∷ concat lines
onto_all byte [] = refl
onto_all byte (line ∷ lines) = refl

-- the lines are the text
pub lines_whole : (text : List ℕ) → concat (whole_lines text) ≡ text
lines_whole [] = refl
lines_whole (byte ∷ rest) =
    let further = lines_whole rest in
    elim (byte == 10) as (λ v. (byte == 10) ≡ v → concat (if v then (10 ∷ []) ∷ whole_lines rest else onto_first_line byte (whole_lines rest)) ≡ byte ∷ rest) [
      | true ↦ λ e. ap (λ r. 10 ∷ r) further ∙ ap (λ b. b ∷ rest) (sym (eqb-true byte 10 e))
      | false ↦ λ e. onto_all byte (whole_lines rest) ∙ ap (λ r. byte ∷ r) further
    ] refl

-- what is parted at a heading is what precedes it, the heading's line, and what is after it
pub record IsPartedAt (word : List ℕ) (text : List ℕ) (parted : Parted) : Type 0 where
  pub heading : List ℕ
  pub is : is_heading word heading ≡ true
  pub whole : text ≡ parted.section ++ (heading ++ concat parted.rest)

-- a line before what is parted
line_before : (word line text : List ℕ) (o : Option Parted) (parted : Parted) → ((p : Parted) → o ≡ Some p → IsPartedAt word text p) → with_line line o ≡ Some parted
    → IsPartedAt word (line ++ text) parted
line_before word line text None parted known e = absurd (cc)
line_before word line text (Some p) parted known e =
    let k = known p refl in
    let same : record { section = line ++ p.section; rest = p.rest } ≡ parted = cc in
    subst (IsPartedAt word (line ++ text)) same (record {
      heading = k.heading;
      is = k.is;
      whole = ap (λ t. line ++ t) k.whole ∙ sym (append_assoc line p.section (k.heading ++ concat p.rest));
    })

pub parted_whole : (word : List ℕ) (lines : List (List ℕ)) (parted : Parted) → part_at word lines ≡ Some parted → IsPartedAt word (concat lines) parted
parted_whole word [] parted e = absurd (cc)
parted_whole word (line ∷ lines) parted e = by_test (is_heading word line) refl e (λ p. parted_whole word lines p)
  where
    by_test : (b : Bool) → is_heading word line ≡ b → (if b then Some (record { section = []; rest = lines }) else with_line line (part_at word lines)) ≡ Some parted
        → ((p : Parted) → part_at word lines ≡ Some p → IsPartedAt word (concat lines) p) → IsPartedAt word (concat (line ∷ lines)) parted
    by_test true is f further =
        let same : record { section = []; rest = lines } ≡ parted = cc in
        subst (IsPartedAt word (concat (line ∷ lines))) same (record { heading = line; is = is; whole = refl })
    by_test false is f further = line_before word line (concat lines) (part_at word lines) parted further f

-- what is between two headings is the program with what follows it of a next one
record IsMadeOfPrograms (between : List ℕ) (sections : Sections) : Type 0 where
  pub next_part : List ℕ
  pub next_heading : IsNextPart sections.next next_part
  pub whole : between ≡ sections.program ++ next_part

programs_made : (plate between log : List ℕ) (o : Option Parted) → part_at (codes "@next") (whole_lines between) ≡ o
    → IsMadeOfPrograms between (sections_with_next plate between log o)
programs_made plate between log None e = record { next_part = []; next_heading = refl; whole = sym (append-nil between) }
programs_made plate between log (Some parted) e =
    let k = parted_whole (codes "@next") (whole_lines between) parted e in
    record {
      next_part = k.heading ++ concat parted.rest;
      next_heading = (k.heading, k.is, refl);
      whole = sym (lines_whole between) ∙ k.whole;
    }

-- the plate and the log of such sections
same_ends : (plate between log : List ℕ) (o : Option Parted)
    → ((sections_with_next plate between log o).plate ≡ plate) × ((sections_with_next plate between log o).log ≡ log)
same_ends plate between log None = (refl, refl)
same_ends plate between log (Some parted) = (refl, refl)

-- the lines of the headings with what follows each
made : (text first : List ℕ) (lines : List (List ℕ)) (sections : Sections) → text ≡ first ++ concat lines → is_heading (codes "@plate") first ≡ true
    → sections_with_program (part_at (codes "@program") lines) ≡ Some sections → IsMadeOf text sections
made text first lines sections whole is e = by_program (part_at (codes "@program") lines) refl e
  where
    by_log : (p : Parted) → IsPartedAt (codes "@program") (concat lines) p → (o : Option Parted) → part_at (codes "@log") p.rest ≡ o → sections_with_log p.section o ≡ Some sections → IsMadeOf text sections
    by_log p k None f e = absurd (cc)
    by_log p k (Some q) f e =
        let l = parted_whole (codes "@log") p.rest q f in
        let following = part_at (codes "@next") (whole_lines q.section) in
        let found = sections_with_next p.section q.section (concat q.rest) following in
        let ends = same_ends p.section q.section (concat q.rest) following in
        let programs = programs_made p.section q.section (concat q.rest) following refl in
        let same : found ≡ sections = cc in
        let end : concat q.rest ≡ found.log ++ [] = sym ends.1 ∙ sym (append-nil found.log) in
        let middle : q.section ++ (l.heading ++ concat q.rest) ≡ found.program ++ (programs.next_part ++ (l.heading ++ (found.log ++ []))) =
        ap (λ t. t ++ (l.heading ++ concat q.rest)) programs.whole
        ∙ append_assoc found.program programs.next_part (l.heading ++ concat q.rest)
        ∙ ap (λ t. found.program ++ (programs.next_part ++ (l.heading ++ t))) end in
        subst (IsMadeOf text) same (record {
          plate_line = first;
          program_line = k.heading;
          next_part = programs.next_part;
          log_line = l.heading;
          plate_heading = is;
          program_heading = k.is;
          next_heading = programs.next_heading;
          log_heading = l.is;
          whole = whole ∙ ap (λ t. first ++ t) (k.whole
              ∙ ap (λ t. p.section ++ (k.heading ++ t)) (l.whole ∙ middle)
              ∙ ap (λ t. t ++ (k.heading ++ (found.program ++ (programs.next_part ++ (l.heading ++ (found.log ++ [])))))) (sym ends.0));
        })

    by_program : (o : Option Parted) → part_at (codes "@program") lines ≡ o → sections_with_program o ≡ Some sections → IsMadeOf text sections
    by_program None f e = absurd (cc)
    by_program (Some p) f e = by_log p (parted_whole (codes "@program") lines p f) (part_at (codes "@log") p.rest) refl e

-- the sections in the lines of a text
in_lines : (text : List ℕ) (lines : List (List ℕ)) (sections : Sections) → text ≡ concat lines → sections_in lines ≡ Some sections → IsMadeOf text sections
in_lines text [] sections whole e = absurd (cc)
in_lines text (first ∷ lines) sections whole e = by_test (is_heading (codes "@plate") first) refl e
  where
    by_test : (b : Bool) → is_heading (codes "@plate") first ≡ b → (if b then sections_with_program (part_at (codes "@program") lines) else None) ≡ Some sections → IsMadeOf text sections
    by_test true is f = made text first lines sections whole is f
    by_test false is f = absurd (cc)

-- a job that is not refused has sections
accepted : (o : Option Sections) (sections : Sections) → sections_or_refusal o ≡ Ok sections → o ≡ Some sections
accepted None sections e = cc
accepted (Some s) sections e = let same : s ≡ sections = cc in ap Some same

within : (b : Bool) (r : Result Sections ℕ) (sections : Sections) → (if b then Err 702 else r) ≡ Ok sections → r ≡ Ok sections
within true r sections e = cc
within false r sections e = e

pub job_is_its_sections : JobIsItsSections
job_is_its_sections bytes sections e =
    let short = within (nat_lt longest_job (length bytes)) (sections_or_refusal (sections_in (whole_lines bytes))) sections e in
    in_lines bytes (whole_lines bytes) sections (sym (lines_whole bytes)) (accepted (sections_in (whole_lines bytes)) sections short)
