-- What the processors and the service controller hear of an event of the fabric.
use Rattle.std.specs.Prelude.{◌≡◌, ℕ, ◌<◌, max, List, length, slice_set, slice_index, Option, Some, None, ⊤}
use Rattle.reg_ckpt.specs.Checkpoints.{next, freed_below}
use Rattle.validation.specs.Ready.{Reports}
use Rattle.sn_model.specs.declared.net.News.{News}
use Rattle.sn_model.specs.declared.net.News.TheVariants.{LostCopy, Ready, Advance}
use Rattle.sn_model.specs.MachineEvents.{core_without_reservation}
use Rattle.sn_machine.specs.declared.processor.Processor.{Processor as ProcessorUnit}
use Rattle.sn_machine.specs.Parts.{unit_at}

-- whom an event tells of is there, and a point is below the node's next checkpoint
abbrev pub CanHear : List ProcessorUnit → Reports → Option News → Type 0
CanHear units reports None = ⊤
CanHear units reports (Some (LostCopy n block)) = n < length units
CanHear units reports (Some (Ready n k)) = n < length reports.reported
CanHear units reports (Some (Advance n k)) = (n < length units) × (k < next (unit_at units n).checkpoints)

-- the processors after node n lost its copy of a block: its core keeps no reservation on that
abbrev pub after_loss : List ProcessorUnit → ℕ → ℕ → List ProcessorUnit
after_loss units n block = slice_set units n (record (unit_at units n) { core = core_without_reservation (unit_at units n).core block })

-- after node n heard of recovery point k: it frees the checkpoints below
abbrev pub after_news : List ProcessorUnit → ℕ → ℕ → List ProcessorUnit
after_news units n k = slice_set units n (record (unit_at units n) { checkpoints = freed_below (unit_at units n).checkpoints k })

-- the reports after one of node n, which counts where it is the greatest
abbrev pub after_report : Reports → ℕ → ℕ → Reports
after_report reports n k = record reports { reported = slice_set reports.reported n (max (slice_index reports.reported n) k) }

-- what becomes of the processors and the reports
abbrev pub Hear : List ProcessorUnit → Reports → Option News → List ProcessorUnit → Reports → Type 0
Hear units reports None later after = (later ≡ units) × (after ≡ reports)
Hear units reports (Some (LostCopy n block)) later after = (later ≡ after_loss units n block) × (after ≡ reports)
Hear units reports (Some (Ready n k)) later after = (later ≡ units) × (after ≡ after_report reports n k)
Hear units reports (Some (Advance n k)) later after = (later ≡ after_news units n k) × (after ≡ reports)
