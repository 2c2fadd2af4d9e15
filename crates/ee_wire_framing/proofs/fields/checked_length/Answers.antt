use Rattle.std.proofs.Common.{◌≡◌, ◌<◌, ◌⊎◌, sym, subst, take, get_or, arith}
use Rattle.std.specs.Str.Parse.{digits_value}
use Rattle.std.proofs.lemmas.List.{take_more}
use Rattle.std.proofs.lemmas.Bool.Decides.{nat_tests}
use Rattle.std.proofs.lemmas.Grind.{common_steps}
use Rattle.ee_wire_framing.proofs.FieldSteps.{digit_small, digit_step, digits_more}
use Rattle.ee_wire_framing.proofs.fields.checked_length.Goals as goal

pub loop-byte-preserved : goal.loop-byte-preserved
loop-byte-preserved c =
    let text = c.args.text.now in
    let i = c.loop-byte.byte-index in
    let digit = sym c.if-not-is_ascii_digit.ensures.value in
    let step = digit_step (take i text) (get_or text i 0) c.loop-byte.value c.with_digit-value.result digit c.loop-byte.invariant.value c.with_digit-value.ensures in
    record {
      digits = digits_more text i c.loop-byte-test.true digit c.loop-byte.invariant.digits;
      small = (let s = c.loop-byte.invariant.small in let d = digit_small (get_or text i 0) digit in let r = c.with_digit-value.ensures in grind (arith, nat_tests, s, d, r));
      value = subst (λ l. (c.with_digit-value.result ≡ digits_value 10 l) ⊎ ((1048576 < c.with_digit-value.result) × (1048576 < digits_value 10 l))) (sym (take_more text i 0 c.loop-byte-test.true)) step;
    }

pub returns-else-value-gt-BODY_LIMIT : goal.returns-else-value-gt-BODY_LIMIT
returns-else-value-gt-BODY_LIMIT c = grind (arith, common_steps)
