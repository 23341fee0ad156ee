-- The lines above the sections of a job, counted.
use Rattle.std.proofs.Common.{◌≡◌, ◌≤◌, ◌+◌, ◌==◌, ◌||◌, ℕ, true, false, List, [], ◌∷◌, ◌++◌, length, codes, Bor, Option, Some, None, IfNone, IfSome, is_some, option_map, Result, Ok, Err, if◌then◌else◌, refl, sym, ap, ◌∙◌, arith, length-append, subst}
use Rattle.wc_model.proofs.Common.{ltb-false, count_by-le-length, sum_by-append, bytes_eq-Decides}
use Rattle.std.specs.Prelude.{nat_lt, cond, bytes_eq}
use Rattle.wc_job.specs.declared.input.Input.TheVariants.{Plate, Program, Next, Log}
use Rattle.wc_laws_instrument.specs.Logs.{IsMadeOf, IsNextPart}
use Rattle.wc_diag_messages.specs.Locations.{bytes_before, line_ends, next_line}
use Rattle.wc_model.specs.Run.JobSections.{Sections, is_heading, longest_job, sections_in, sections_of, sections_or_refusal, whole_lines}

-- the line ends of two slices
ends_on : (a b : List ℕ) → line_ends (a ++ b) ≡ line_ends a + line_ends b
ends_on a b = sum_by-append (λ byte. cond (byte == 10) 1 0) a b

-- one of two texts
either_text : (line one other : List ℕ) → (bytes_eq line one || bytes_eq line other) ≡ true → line_ends one ≡ 1 → line_ends other ≡ 1 → line_ends line ≡ 1
either_text line one other e f g =
    elim (bytes_eq line one) as (λ v. bytes_eq line one ≡ v → (v || bytes_eq line other) ≡ true → line_ends line ≡ 1) [
      | true ↦ λ is _. ap line_ends ((bytes_eq-Decides line one).0 is) ∙ f
      | false ↦ λ _ is. ap line_ends ((bytes_eq-Decides line other).0 is) ∙ g
    ] refl e

-- a heading is one line
heading_ends : (word line : List ℕ) → line_ends (word ++ (10 ∷ [])) ≡ 1 → line_ends (word ++ (13 ∷ 10 ∷ [])) ≡ 1 → is_heading word line ≡ true → line_ends line ≡ 1
heading_ends word line f g e = either_text line (word ++ (10 ∷ [])) (word ++ (13 ∷ 10 ∷ [])) e f g

-- a job that is not refused is short
pub job_is_short : (bytes : List ℕ) (sections : Sections) → sections_of bytes ≡ Ok sections → length bytes ≤ 1048576
job_is_short bytes sections e =
    elim (nat_lt longest_job (length bytes)) as (λ v. nat_lt longest_job (length bytes) ≡ v → (if v then Err 702 else sections_or_refusal (sections_in (whole_lines bytes))) ≡ Ok sections → length bytes ≤ 1048576) [
      | true ↦ λ _ f. absurd (cc)
      | false ↦ λ long _. ltb-false longest_job (length bytes) long
    ] refl e

-- the lines of a next program's part: its heading's and its own
abbrev next_ends : Option (List ℕ) → ℕ
next_ends None = 0
next_ends (Some next) = 1 + line_ends next

part_ends : (next : Option (List ℕ)) (part : List ℕ) → IsNextPart next part → line_ends part ≡ next_ends next
part_ends None part empty = ap line_ends empty
part_ends (Some next) part heading =
    ap line_ends heading.2 ∙ ends_on heading.0 next ∙ ap (λ n. n + line_ends next) (heading_ends (codes "@next") heading.0 refl refl heading.1)

-- a slice has no more lines than bytes
few_ends : (snippet : List ℕ) (rest most : ℕ) → length snippet + rest ≤ most → line_ends snippet ≤ most
few_ends snippet rest most short = let few = count_by-le-length (λ byte. byte == 10) snippet in omega (arith, few, short)

-- the parts of a job's bytes are short
pub record AreShort (sections : Sections) (part : List ℕ) : Type 0 where
  pub plate : line_ends sections.plate ≤ 1048576
  pub program : line_ends sections.program ≤ 1048576
  pub next : line_ends part ≤ 1048576
  pub together : line_ends sections.plate + line_ends sections.program ≤ 1048576

pub sections_are_short : (bytes : List ℕ) (sections : Sections) → sections_of bytes ≡ Ok sections → (made : IsMadeOf bytes sections) → AreShort sections made.next_part
sections_are_short bytes sections e made =
    let short = job_is_short bytes sections e in
    let log = sections.log ++ [] in
    let following = made.log_line ++ log in
    let next = made.next_part ++ following in
    let program = sections.program ++ next in
    let heading = made.program_line ++ program in
    let plate = sections.plate ++ heading in
    let whole : length bytes ≡ length (made.plate_line ++ plate) = ap length made.whole in
    let a = length-append made.plate_line plate in
    let b = length-append sections.plate heading in
    let c = length-append made.program_line program in
    let d = length-append sections.program next in
    let f = length-append made.next_part following in
    let p = count_by-le-length (λ byte. byte == 10) sections.plate in
    let q = count_by-le-length (λ byte. byte == 10) sections.program in
    record {
      plate = few_ends sections.plate 0 1048576 (omega (arith, whole, a, b, short));
      program = few_ends sections.program 0 1048576 (omega (arith, whole, a, b, c, d, short));
      next = few_ends made.next_part 0 1048576 (omega (arith, whole, a, b, c, d, f, short));
      together = omega (arith, whole, a, b, c, d, p, q, short);
    }

-- one line is above the plate
pub above_plate : (bytes : List ℕ) (sections : Sections) (made : IsMadeOf bytes sections) → 1 ≡ line_ends (bytes_before Plate bytes sections made)
above_plate bytes sections made = sym (heading_ends (codes "@plate") made.plate_line refl refl made.plate_heading)

-- the lines above the program
pub above_program : (bytes : List ℕ) (sections : Sections) (made : IsMadeOf bytes sections) → 1 + line_ends sections.plate + 1 ≡ line_ends (bytes_before Program bytes sections made)
above_program bytes sections made =
    let one = above_plate bytes sections made in
    let two = heading_ends (codes "@program") made.program_line refl refl made.program_heading in
    let a = ends_on made.plate_line (sections.plate ++ made.program_line) in
    let b = ends_on sections.plate made.program_line in
    omega (arith, one, two, a, b)

-- the lines above what follows the program, up to a slice after it
above_part : (bytes : List ℕ) (sections : Sections) (made : IsMadeOf bytes sections) (snippet : List ℕ)
    → (1 + line_ends sections.plate + 1) + line_ends sections.program + line_ends snippet ≡ line_ends (made.plate_line ++ (sections.plate ++ (made.program_line ++ (sections.program ++ snippet))))
above_part bytes sections made snippet =
    let one = above_plate bytes sections made in
    let two = heading_ends (codes "@program") made.program_line refl refl made.program_heading in
    let a = ends_on made.plate_line (sections.plate ++ (made.program_line ++ (sections.program ++ snippet))) in
    let b = ends_on sections.plate (made.program_line ++ (sections.program ++ snippet)) in
    let c = ends_on made.program_line (sections.program ++ snippet) in
    let d = ends_on sections.program snippet in
    omega (arith, one, two, a, b, c, d)

-- the lines above the next program
above_next : (bytes : List ℕ) (sections : Sections) (made : IsMadeOf bytes sections) → is_some sections.next ≡ true → (1 + line_ends sections.plate + 1) + line_ends sections.program + 1 ≡ line_ends (bytes_before Next bytes sections made)
above_next bytes sections made there =
    let heading = next_line sections.next made.next_part made.next_heading in
    let one : line_ends heading ≡ 1 = by_next sections.next made.next_part made.next_heading there in
    let all = above_part bytes sections made heading in
    omega (arith, one, all)
  where
    by_next : (next : Option (List ℕ)) (part : List ℕ) (h : IsNextPart next part) → is_some next ≡ true → line_ends (next_line next part h) ≡ 1
    by_next None part h e = absurd (cc)
    by_next (Some next) part h e = heading_ends (codes "@next") h.0 refl refl h.1

-- the lines above the log
above_log : (bytes : List ℕ) (sections : Sections) (made : IsMadeOf bytes sections) → (1 + line_ends sections.plate + 1) + line_ends sections.program + next_ends sections.next + 1 ≡ line_ends (bytes_before Log bytes sections made)
above_log bytes sections made =
    let three = heading_ends (codes "@log") made.log_line refl refl made.log_heading in
    let next = part_ends sections.next made.next_part made.next_heading in
    let all = above_part bytes sections made (made.next_part ++ made.log_line) in
    let e = ends_on made.next_part made.log_line in
    omega (arith, three, next, all, e)

-- a job has one cut in sections
same_sections : (a b : Sections) (r : Result Sections ℕ) → Ok a ≡ r → r ≡ Ok b → a ≡ b
same_sections a b r e f = cc

-- the count of the lines above the program
pub program_is_there : (job : List ℕ) (found : Sections) (result : ℕ) → Ok found ≡ sections_of job → (1 ≤ 2097152 → line_ends found.plate ≤ 1048576 → result ≡ 1 + line_ends found.plate + 1)
    → (sections : Sections) → sections_of job ≡ Ok sections → (made : IsMadeOf job sections) → result ≡ line_ends (bytes_before Program job sections made)
program_is_there job found result is counts sections e made =
    let same = ap (λ (s : Sections). s.plate) (same_sections found sections (sections_of job) is e) in
    let short = sections_are_short job sections e made in
    let few = subst (λ (x : List ℕ). line_ends x ≤ 1048576) (sym same) short.plate in
    counts (omega arith) few ∙ ap (λ (x : List ℕ). 1 + line_ends x + 1) same ∙ above_program job sections made

-- the count of the lines above what follows the program and the heading after it
between : (job : List ℕ) (found : Sections) (program next : ℕ) → (1 ≤ 2097152 → line_ends found.plate ≤ 1048576 → program ≡ 1 + line_ends found.plate + 1)
    → (program ≤ 2097152 → line_ends found.program ≤ 1048576 → next ≡ program + line_ends found.program + 1)
    → sections_of job ≡ Ok found → IsMadeOf job found → next ≡ (1 + line_ends found.plate + 1) + line_ends found.program + 1
between job found program next first second e made =
    let short = sections_are_short job found e made in
    let one = first (omega arith) short.plate in
    let few = short.plate in
    let two = second (omega (arith, one, few)) short.program in
    omega (arith, one, two)

-- the count of the lines above the next program
pub next_is_there : (job : List ℕ) (found : Sections) (program next : ℕ) → Ok found ≡ sections_of job → (1 ≤ 2097152 → line_ends found.plate ≤ 1048576 → program ≡ 1 + line_ends found.plate + 1)
    → (program ≤ 2097152 → line_ends found.program ≤ 1048576 → next ≡ program + line_ends found.program + 1) → is_some found.next ≡ true
    → (sections : Sections) → sections_of job ≡ Ok sections → (made : IsMadeOf job sections) → next ≡ line_ends (bytes_before Next job sections made)
next_is_there job found program next is first second there sections e made =
    subst (λ (s : Sections). sections_of job ≡ Ok s → (m : IsMadeOf job s) → next ≡ line_ends (bytes_before Next job s m)) (same_sections found sections (sections_of job) is e)
    (λ f m. between job found program next first second f m ∙ above_next job found m there) e made

-- the count of the lines above the log
pub log_is_there : (job : List ℕ) (found : Sections) (program next result : ℕ) → Ok found ≡ sections_of job → (1 ≤ 2097152 → line_ends found.plate ≤ 1048576 → program ≡ 1 + line_ends found.plate + 1)
    → (program ≤ 2097152 → line_ends found.program ≤ 1048576 → next ≡ program + line_ends found.program + 1)
    → (found.next ≡ None → result ≡ next) → ((text : List ℕ) → found.next ≡ Some text → next ≤ 2097152 → line_ends text ≤ 1048576 → result ≡ next + line_ends text + 1)
    → (sections : Sections) → sections_of job ≡ Ok sections → (made : IsMadeOf job sections) → result ≡ line_ends (bytes_before Log job sections made)
log_is_there job found program next result is first second none some sections e made =
    subst (λ (s : Sections). sections_of job ≡ Ok s → (m : IsMadeOf job s) → result ≡ line_ends (bytes_before Log job s m)) (same_sections found sections (sections_of job) is e)
    (λ f m. counted f m ∙ above_log job found m) e made
  where
    by_next : (o : Option (List ℕ)) (part : List ℕ) → found.next ≡ o → IsNextPart o part → line_ends part ≤ 1048576 → next ≤ 2097152 → result ≡ next + next_ends o
    by_next None part f h few low = let same = none f in omega (arith, same)
    by_next (Some text) part f h few low =
        let both = part_ends (Some text) part h in
        let same = some text f low (omega (arith, both, few)) in
        omega (arith, same)

    counted : sections_of job ≡ Ok found → (m : IsMadeOf job found) → result ≡ (1 + line_ends found.plate + 1) + line_ends found.program + next_ends found.next + 1
    counted f m =
        let short = sections_are_short job found f m in
        let low = short.together in
        let middle = between job found program next first second f m in
        let last = by_next found.next m.next_part refl m.next_heading short.next (omega (arith, middle, low)) in
        omega (arith, middle, last)

-- what the count above the log is, of a text that is borrowed
pub ends_given : (o : Option (Bor (List ℕ))) (result next : ℕ) → IfNone o (result ≡ next) → IfSome o (λ text. next ≤ 2097152 → line_ends text.now ≤ 1048576 → result ≡ next + line_ends text.now + 1)
    → (option_map (λ text. text.now) o ≡ None → result ≡ next) × ((text : List ℕ) → option_map (λ t. t.now) o ≡ Some text → next ≤ 2097152 → line_ends text ≤ 1048576 → result ≡ next + line_ends text + 1)
ends_given None result next none some = (λ e. none, λ text e. absurd (cc))
ends_given (Some borrowed) result next none some = (
  λ e. absurd (cc),
  λ text e low few. let same : borrowed.now ≡ text = cc in subst (λ (t : List ℕ). line_ends t ≤ 1048576 → result ≡ next + line_ends t + 1) same (some low) few,
)
