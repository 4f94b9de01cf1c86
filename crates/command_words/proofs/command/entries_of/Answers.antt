use Rattle.std.proofs.Common.{◌≡◌, ◌↔◌, refl, arith, Bool, true, false, Result, Err}
use Rattle.clap.specs.declared.error.kind.ErrorKind.{ErrorKind}
use Rattle.clap.specs.declared.error.kind.ErrorKind.TheVariants.{OutOfMemory}
use Rattle.command_words.specs.declared.request.WordsFault.{WordsFault}
use Rattle.command_words.specs.declared.request.WordsFault.TheVariants.{Memory, Usage}
use Rattle.command_words.proofs.command.entries_of.Goals as goal

abbrev failed : {T : Type 0} → WordsFault → Result T WordsFault
failed fault = Err fault

untaken : {T : Type 0} (taken : Bool) (fault : WordsFault) (kind : ErrorKind) → ((fault ≡ Memory) ↔ (kind ≡ OutOfMemory)) →
    (taken ≡ true → kind ≡ OutOfMemory)
    → failed {T = T} fault ≡ failed {T = T} Usage → taken ≡ false
untaken false fault kind is h e = refl
untaken true fault kind is h e = grind (arith, is, h refl, e)

pub returns-in-Err-clause-usage : goal.returns-in-Err-clause-usage
returns-in-Err-clause-usage c = untaken _ c.fault_of.result _ c.fault_of.ensures c.in-Err.ensures.refusal
