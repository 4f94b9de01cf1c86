use Rattle.std.proofs.Common.{◌≤◌, ◌^◌, ◌*◌, lit<, arith}
use Rattle.std.proofs.Math.Nat.{pow-le-pow_right, mul-le-mul_left}
use Rattle.rv_statement.proofs.operands.digits_of.Goals as goal

pub overflow_mul-number : goal.overflow_mul-number
overflow_mul-number c =
    let few : c.digits.byte-index ≤ 11 = omega arith in
    let most : 16 ^ c.digits.byte-index ≤ 16 ^ 11 = pow-le-pow_right (lit< tt) few in
    let base : c.from.result ≤ 16 = omega (arith, c.from.ensures) in
    let more : c.digits.number * c.from.result ≤ c.digits.number * 16 = mul-le-mul_left c.digits.number base in
    omega (arith, c.digits.invariant.small, most, more)

pub overflow_add-number : goal.overflow_add-number
overflow_add-number c =
    let few : c.digits.byte-index ≤ 11 = omega arith in
    let most : 16 ^ c.digits.byte-index ≤ 16 ^ 11 = pow-le-pow_right (lit< tt) few in
    let base : c.from.result ≤ 16 = omega (arith, c.from.ensures) in
    let more : c.digits.number * c.from.result ≤ c.digits.number * 16 = mul-le-mul_left c.digits.number base in
    omega (arith, c.digits.invariant.small, most, more, c.from-in-digits.ensures)

pub returns-clause-small : goal.returns-clause-small
returns-clause-small c =
    let few : c.digits.byte-index ≤ 12 = omega arith in
    let most : 16 ^ c.digits.byte-index ≤ 16 ^ 12 = pow-le-pow_right (lit< tt) few in
    omega (arith, c.digits.invariant.small, most)
