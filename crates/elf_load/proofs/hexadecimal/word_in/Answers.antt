use Rattle.std.proofs.Common.{◌≤◌, ◌^◌, lit<, arith}
use Rattle.std.proofs.Math.Nat.{pow-le-pow_right}
use Rattle.elf_load.proofs.hexadecimal.word_in.Goals as goal

pub overflow_mul-number : goal.overflow_mul-number
overflow_mul-number c =
    let few : c.digits.byte-index ≤ 7 = omega arith in
    let most : 16 ^ c.digits.byte-index ≤ 16 ^ 7 = pow-le-pow_right (lit< tt) few in
    omega (arith, c.digits.invariant.small, most)

pub overflow_add-number : goal.overflow_add-number
overflow_add-number c =
    let few : c.digits.byte-index ≤ 7 = omega arith in
    let most : 16 ^ c.digits.byte-index ≤ 16 ^ 7 = pow-le-pow_right (lit< tt) few in
    omega (arith, c.digits.invariant.small, most, c.in-Some.ensures.small)
