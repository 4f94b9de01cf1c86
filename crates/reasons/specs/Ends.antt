-- Why a call ended that was not refused, or that wanted what the system didn't give.
use Rattle.std.specs.Prelude.{ℕ, List, ◌++◌, codes, decimal}
use Rattle.reasons.specs.Reason.{of_file}
use Rattle.rv_core.specs.declared.state.Cause.{Cause}
use Rattle.rv_core.specs.declared.state.Cause.TheVariants.{Illegal, FetchFault, MisalignedTarget, MisalignedAccess, AccessFault}
use Rattle.rv_core.specs.declared.state.Cause.TheVariants.{UnknownCall, Break}
use Rattle.reasons.specs.declared.ends.Lack.{Lack}
use Rattle.reasons.specs.declared.ends.Lack.TheVariants as lack
use Rattle.reasons.specs.declared.ends.Unread.{Unread}
use Rattle.reasons.specs.declared.ends.Unread.TheVariants.{NotFound, NotAllowed, Directory, Other}

-- what the system didn't give
abbrev pub lack_text : Lack → List ℕ
lack_text lack.Output = codes "not all of the output could be written"
lack_text lack.Memory = codes "there wasn't enough memory"
lack_text lack.File = codes "a file couldn't be read, and now it can"
lack_text lack.Text = codes "a word isn't UTF-8"

-- why a file can't be read
abbrev pub unread_text : Unread → List ℕ
unread_text NotFound = codes "no such file"
unread_text NotAllowed = codes "it may not be read"
unread_text Directory = codes "it is a directory"
unread_text Other = codes "it couldn't be read"

-- a text, and then what the system didn't give
unfoldable pub lack_reason : List ℕ → Lack → List ℕ
lack_reason text missing = text ++ lack_text missing

-- a text, and then which file couldn't be read, and why
unfoldable pub unread : List ℕ → List ℕ → Unread → List ℕ
unread text name fault = text ++ of_file name ++ unread_text fault

-- a text, and then that a run has as many events as it may have
unfoldable pub spent_reason : List ℕ → ℕ → List ℕ
spent_reason text budget = text ++ codes "the run has " ++ decimal budget ++ codes " events, which is its budget, and its cores haven't all ended"

-- a text, and then which nodes are cut off
unfoldable pub cut_off : List ℕ → ℕ → ℕ → List ℕ
cut_off text a b = text ++ codes "nodes " ++ decimal a ++ codes " and " ++ decimal b ++ codes " are cut off: no living switches join them"

-- what a core met that trapped
abbrev pub trap_text : Cause → List ℕ
trap_text Illegal = codes "its next word is no instruction"
trap_text FetchFault = codes "no instruction stands where it is"
trap_text MisalignedTarget = codes "it jumped to an address that is no multiple of 4"
trap_text MisalignedAccess = codes "the address of its access doesn't suit the width"
trap_text AccessFault = codes "there is no memory at its access, or none that may be written"
trap_text UnknownCall = codes "the number in a7 names no call"
trap_text Break = codes "it met ebreak"

-- a text, and then which core trapped, and why
unfoldable pub trap_reason : List ℕ → ℕ → Cause → List ℕ
trap_reason text node cause = text ++ codes "core " ++ decimal node ++ codes " trapped: " ++ trap_text cause
