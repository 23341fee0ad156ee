use Rattle.wc_model.proofs.Common.{◌≡◌, ◌≤◌, ◌<◌, ◌-◌, get_or, length, true, arith, sym, ◌∙◌, nat_lt, nat_tests, is_ascii_digit}
use Rattle.wc_record.proofs.DigitValues.{digits_after, few_after, shorter_after, ten_rises, whole_after}
use Rattle.wc_record.proofs.numbers.value_of_digits.Goals as goal

pub overflow_mul-value : goal.overflow_mul-value
overflow_mul-value c =
    let i = c.loop-rest.invariant in
    let so_far : length c.args.text.now - length c.loop-rest.rest.now ≤ 12 = omega (arith, c.requires, c.in-len1-up.len_at_least) in
    omega (arith, i.few, ten_rises (length c.args.text.now - length c.loop-rest.rest.now) 12 so_far)

pub overflow_add-value : goal.overflow_add-value
overflow_add-value c =
    let i = c.loop-rest.invariant in
    let so_far : length c.args.text.now - length c.loop-rest.rest.now ≤ 12 = omega (arith, c.requires, c.in-len1-up.len_at_least) in
    omega (arith, i.few, ten_rises (length c.args.text.now - length c.loop-rest.rest.now) 12 so_far)

pub loop-rest-preserved : goal.loop-rest-preserved
loop-rest-preserved c =
    let i = c.loop-rest.invariant in
    let rest = c.loop-rest.rest.now in
    let some = c.in-len1-up.len_at_least in
    let below : c.digit_value-digit.result < 10 = omega arith in
    let test : nat_lt c.digit_value-digit.result 10 ≡ true = grind (arith, nat_tests) in
    let digit : true ≡ is_ascii_digit (get_or rest 0 0) = sym test ∙ c.digit_value-digit.ensures.digit in
    let value = c.digit_value-digit.ensures.value below in
    record {
      digits = digits_after rest _ some digit i.digits;
      whole = whole_after c.loop-rest.value c.digit_value-digit.result _ rest some value i.whole;
      shorter = shorter_after rest (length c.args.text.now) some i.shorter;
      few = few_after c.loop-rest.value c.digit_value-digit.result (length c.args.text.now) rest some i.shorter digit value i.few;
    }
