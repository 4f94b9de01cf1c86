use Rattle.std.proofs.Common.{sym, ◌∙◌, ◌^◌, arith, refl}
use Rattle.sn_text.proofs.Digits.{digit-step, digit-other, digit-too_large, number-ends}
use Rattle.sn_text.proofs.numbers.digits_in.Goals as goal

pub digits-preserved : goal.digits-preserved
digits-preserved c =
    let digit = c.in-Some.ensures.some in
    record {
      same =
          digit-step
          (2 ^ 64) c.digits.number c.in-Some-with_digit.longer c.in-Some.digit c.args.text.now c.digits.byte-index c.digits-test.true digit.0 digit.1 c.in-Some-with_digit.ensures.some ∙ c.digits.invariant.same;
      fits = omega arith;
    }

pub returns-in_default : goal.returns-in_default
returns-in_default c =
    sym (digit-other (2 ^ 64) c.digits.number c.args.text.now c.digits.byte-index c.digits-test.true (c.in_default.ensures.none.0 refl))
    ∙ c.digits.invariant.same

pub returns-in_default-with_digit : goal.returns-in_default-with_digit
returns-in_default-with_digit c =
    let digit = c.in-Some.ensures.some in
    sym (digit-too_large (2 ^ 64) c.digits.number c.in-Some.digit c.args.text.now c.digits.byte-index c.digits-test.true digit.0 digit.1
    (c.in_default-with_digit.ensures.none.0 refl)) ∙ c.digits.invariant.same

pub returns : goal.returns
returns c =
    sym (number-ends (2 ^ 64) c.digits.number c.args.text.now c.digits.byte-index
    (omega (arith, c.digits-test.false)) c.digits.invariant.fits) ∙ c.digits.invariant.same
