use Rattle.std.proofs.Common.{ℕ, ◌<◌, arith, refl}
use Rattle.std.proofs.lemmas.List.Elements.{All-nil, All-more}
use Rattle.std.proofs.lemmas.Result.{err_from_is_err_and}
use Rattle.sn_resume.proofs.Parts.{bytes_next, bytes_none, all_done}
use Rattle.sn_resume.proofs.Putting.{all_left, next_put, next_broken, none_left}
use Rattle.sn_resume.proofs.saving.put_bytes.Goals as goal

pub bytes-init : goal.bytes-init
bytes-init g c = record { put = all_left _ _ _ _ refl; numbers = All-nil (λ (byte : ℕ). byte < 256) }

pub bytes-preserved : goal.bytes-preserved
bytes-preserved g c = record {
  put =
      next_put _ _ _ _ _ _ _ _ _ _
      (bytes_next c.args.node c.args.bytes.now c.bytes.byte-index _ c.bytes-test.true)
      c.bytes.invariant.put c.in_ok-put_byte.ensures.put;
  numbers =
      All-more (λ (byte : ℕ). byte < 256) c.args.bytes.now c.bytes.byte-index _ c.bytes-test.true c.bytes.invariant.numbers c.put_byte.ensures.number;
}

pub returns-in_err-put_byte-clause-put : goal.returns-in_err-put_byte-clause-put
returns-in_err-put_byte-clause-put g c =
    let p = err_from_is_err_and c.from_residual.result c.from_residual.ensures.1 in
    rw p.1
    (next_broken _ _ _ _ _ _ _ _ _ _
    (bytes_next c.args.node c.args.bytes.now c.bytes.byte-index _ c.bytes-test.true)
    c.bytes.invariant.put c.in_err-put_byte.ensures.put)

pub returns-clause-put : goal.returns-clause-put
returns-clause-put g c =
    none_left _ _ _ _ _ _
    (bytes_none c.args.node c.args.bytes.now c.bytes.byte-index (omega (arith, c.bytes-test.false, c.bytes.auto.byte-index-end)))
    c.bytes.invariant.put

pub returns-clause-numbers : goal.returns-clause-numbers
returns-clause-numbers g c =
    all_done (λ (byte : ℕ). byte < 256) c.args.bytes.now c.bytes.byte-index (omega (arith, c.bytes-test.false, c.bytes.auto.byte-index-end))
    c.bytes.invariant.numbers
