use Rattle.std.proofs.Common.{◌∙◌, sym, refl, take, get_or}
use Rattle.std.proofs.lemmas.Result.{err_from_is_err_and}
use Rattle.elf_load.specs.declared.program_header.ProgramHeader.{ProgramHeader}
use Rattle.elf_load.proofs.Table.{header_step-passes, tried-over, tried-next, tried-refuses, tried-all}
use Rattle.elf_load.proofs.program_header.read_segments.Goals as goal
use Rattle.elf_load.proofs.program_header.read_segments.Goals.{then-loads+in_ok-check+in_ok-segment+in_ok-push, else-loads}

-- what is read past the end of a list of headers
abbrev absent : ProgramHeader
absent = record { kind = 0; offset = 0; address = 0; file_size = 0; memory_size = 0; flags = 0 }

pub returns-in_err-check-clause-refused : goal.returns-in_err-check-clause-refused
returns-in_err-check-clause-refused c =
    let p = err_from_is_err_and c.from_residual.result c.from_residual.ensures.1 in
    rw (p.1, p.2) (tried-refuses c.args.bytes.now c.args.headers.now c.headers.segments.items c.headers.number
    (get_or c.args.headers.now c.headers.number absent) absent c.in_err-check.field-0.0 c.headers-test.true refl (sym c.if-loads.ensures)
    (sym c.check.ensures ∙ c.in_err-check.was) c.headers.invariant)

pub segment-requires : goal.segment-requires
segment-requires c =
    (header_step-passes c.args.bytes.now (take c.headers.number c.args.headers.now) (get_or c.args.headers.now c.headers.number absent)
    (sym c.check.ensures ∙ c.in_ok-check.was)).reached

pub returns-clause-passes : goal.returns-clause-passes
returns-clause-passes c =
    tried-all c.args.bytes.now c.args.headers.now c.headers.segments.items c.headers.number c.headers-test.false c.headers.invariant

pub headers-preserved : goal.headers-preserved
headers-preserved c =
    elim c.if-loads.branch [
      | then-loads+in_ok-check+in_ok-segment+in_ok-push w ↦
          rw (w.segments-is, w.in_ok-push.ensures.items, w.in_ok-segment.ensures)
          (tried-next c.args.bytes.now c.args.headers.now c.headers.segments.items c.headers.number
          (get_or c.args.headers.now c.headers.number absent) absent c.headers-test.true refl (sym w.if-loads.ensures)
          (sym w.check.ensures ∙ w.in_ok-check.was) c.headers.invariant)
      | else-loads w ↦
          rw w.segments-is (tried-over c.args.bytes.now c.args.headers.now c.headers.segments.items c.headers.number
          (get_or c.args.headers.now c.headers.number absent) absent c.headers-test.true refl (sym w.if-loads.ensures) c.headers.invariant)
    ]
