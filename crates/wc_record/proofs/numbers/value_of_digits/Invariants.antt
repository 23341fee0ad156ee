use Rattle.wc_model.proofs.Common.{◌≡◌, ◌≤◌, ◌<◌, ◌-◌, ◌^◌, length, is_ascii_digit, number_from_digits, number_from_digits_after, list_all}
use Rattle.wc_record.proofs.DigitValues.{values}
use Rattle.wc_record.proofs.numbers.value_of_digits.Given as goal

-- the bytes so far are digits, and have as many digits as their number at most
abbrev pub invariant-loop-rest : goal.invariant-loop-rest
invariant-loop-rest l = record {
  digits : list_all is_ascii_digit l.rest ≡ list_all is_ascii_digit l.text;
  whole : number_from_digits_after 10 l.value (values l.rest) ≡ number_from_digits 10 (values l.text);
  shorter : length l.rest ≤ length l.text;
  few : l.value < 10 ^ (length l.text - length l.rest);
}

abbrev pub decreases-loop-rest : goal.decreases-loop-rest
decreases-loop-rest l = length l.rest
