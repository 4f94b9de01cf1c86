use Rattle.std.proofs.Common.{◌≡◌, ◌^◌, ◌<◌, true, Some, None, Ok, arith, subst, sym, ap, ◌∙◌}
use Rattle.std.specs.Prelude.{ok_or, ◌↔◌, IsErr, MatchResult, IfOk}
use Rattle.rv_decode.specs.declared.instr.Instr.{Instr}
use Rattle.rv_decode.specs.Table.{IsWordOf, instr_fits}
use Rattle.rv_decode.specs.Decoded.{instruction_at}
use Rattle.rv_decode.proofs.Words.{decode-exact, decode-illegal, one-instruction, decode-tells, decode-fits}
use Rattle.rv_decode.proofs.reading.decode.Goals as goal

pub returns-clause-value : goal.returns-clause-value
returns-clause-value c =
    let e : c.ok_or.result ≡ ok_or (instruction_at c.args.word) record {} = c.ok_or.ensures.value
    ∙ ap (λ found. ok_or found record {}) c.instruction.ensures in
    subst (λ answer. MatchResult answer (λ instr. instruction_at c.args.word ≡ Some instr) (λ _. instruction_at c.args.word ≡ None)) (sym e)
    (decode-tells c.args.word record {})

pub returns-clause-fits : goal.returns-clause-fits
returns-clause-fits c =
    let e : c.ok_or.result ≡ ok_or (instruction_at c.args.word) record {} = c.ok_or.ensures.value
    ∙ ap (λ found. ok_or found record {}) c.instruction.ensures in
    subst (λ answer. IfOk answer (λ instr. instr_fits instr ≡ true)) (sym e) (decode-fits c.args.word record {})

pub returns-clause-exact : goal.returns-clause-exact
returns-clause-exact c =
    let small : c.args.word < 2 ^ 32 = omega arith in
    let e : c.ok_or.result ≡ ok_or (instruction_at c.args.word) record {} = c.ok_or.ensures.value
    ∙ ap (λ found. ok_or found record {}) c.instruction.ensures in
    λ instr. subst (λ answer. (answer ≡ Ok instr) ↔ IsWordOf instr c.args.word) (sym e) (decode-exact c.args.word small record {} instr)

pub returns-clause-illegal : goal.returns-clause-illegal
returns-clause-illegal c =
    let small : c.args.word < 2 ^ 32 = omega arith in
    let e : c.ok_or.result ≡ ok_or (instruction_at c.args.word) record {} = c.ok_or.ensures.value
    ∙ ap (λ found. ok_or found record {}) c.instruction.ensures in
    subst (λ answer. IsErr answer ↔ ((instr : Instr) → IsWordOf instr c.args.word → ⊥)) (sym e) (decode-illegal c.args.word small record {})

pub returns-clause-one : goal.returns-clause-one
returns-clause-one c = let small : c.args.word < 2 ^ 32 = omega arith in one-instruction c.args.word small
