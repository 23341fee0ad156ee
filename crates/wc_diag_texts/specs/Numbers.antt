-- the numbers of refusals
use Rattle.std.specs.Prelude.{ℕ, Bool, ◌||◌, ◌&&◌, nat_le}

-- the number is one of these, the first and the last included
abbrev pub is_from : ℕ → ℕ → ℕ → Bool
is_from first last number = nat_le first number && nat_le number last

-- the number is that of a refusal: of tokens, of reading, of declarations, of bodies, of plates, of logs, of jobs
abbrev pub is_refusal : ℕ → Bool
is_refusal number =
    is_from 101 107 number || is_from 201 208 number || is_from 301 308 number || is_from 401 411 number
    || is_from 501 508 number || is_from 601 609 number || is_from 701 702 number
