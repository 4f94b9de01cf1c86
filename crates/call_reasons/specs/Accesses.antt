-- Why a list of accesses isn't legal.
use Rattle.std.specs.Prelude.{◌≡◌, ℕ, ◌+◌, ◌-◌, nat_eq, nat_lt, if◌then◌else◌, List, ◌++◌, length, slice_get, codes, decimal}
use Rattle.std.specs.Prelude.{Option, Some, None, Result, Ok, Err}
use Rattle.text_lines.specs.Hex.{hex_word}
use Rattle.sn_text.specs.declared.cause.ScriptCause.{ScriptCause}
use Rattle.access_check.specs.Accesses.{seen_by}
use Rattle.access_check.specs.Legal.{start_of}
use Rattle.access_check.specs.Verdicts.{IsVerdict}
use Rattle.access_check.specs.declared.access.Access.{Access}
use Rattle.access_check.specs.declared.verdict.Cause.{Cause}
use Rattle.access_check.specs.declared.verdict.Cause.TheVariants.{Value, Unreserved}
use Rattle.access_check.specs.declared.verdict.Refusal.{Refusal}
use Rattle.access_check.specs.declared.verdict.Verdict.{Verdict}
use Rattle.access_check.specs.declared.verdict.Verdict.TheVariants.{Legal, Refused}
use Rattle.access_texts.specs.Lists.{Said}
use Rattle.reasons.specs.Places.{record_line}
use Rattle.reasons.specs.Reason.{begun, line_of_reason}

-- the access at a place, counted from 1
abbrev pub access_at : List Access → ℕ → Option Access
access_at accesses place = if nat_lt 0 place then slice_get accesses (place - 1) else None

-- the number of its line, where so many words of memory stand before the accesses
abbrev pub access_line : List ℕ → ℕ → ℕ → Option ℕ
access_line bytes words place = if nat_lt (words + place) 18446744073709551616 then record_line bytes (words + place) else None

-- a text, and then the access's place and its line
unfoldable pub access_numbered : List ℕ → ℕ → Option ℕ → List ℕ
access_numbered text place None = text ++ codes "access " ++ decimal place ++ codes ": "
access_numbered text place (Some line) = text ++ codes "access " ++ decimal place ++ codes " (line " ++ decimal line ++ codes "): "

-- a text, and then which value a core read
unfoldable pub access_read : List ℕ → ℕ → Option ℕ → List ℕ
access_read text core None = text
access_read text core (Some value) = text ++ codes "core " ++ decimal core ++ codes " read " ++ hex_word value ++ codes ", and "

-- a text, and then which access was the last to write it, if one did
unfoldable pub last_written : List ℕ → ℕ → List ℕ
last_written text since =
    if nat_eq since 0 then text ++ codes " from the start" else text ++ codes ", which access " ++ decimal since ++ codes " wrote last"

-- a text, and then which value memory has
unfoldable pub memory_has : List ℕ → ℕ → List ℕ
memory_has text expected = text ++ codes "memory has " ++ hex_word expected

-- a text, and then that a core has no reservation, and which access was the last to end one, if one did
unfoldable pub no_reservation_reason : List ℕ → ℕ → ℕ → List ℕ
no_reservation_reason text core since =
    if nat_eq since 0 then text ++ codes "core " ++ decimal core ++ codes " has no reservation"
    else text ++ codes "core " ++ decimal core ++ codes " has no reservation" ++ codes " since access " ++ decimal since

-- a text, and then why an access isn't legal
abbrev pub access_cause : List ℕ → Access → Cause → List ℕ
access_cause text a (Value width expected since) = last_written (memory_has (access_read text a.core (seen_by a.operation)) expected) since
access_cause text a (Unreserved since) = no_reservation_reason text a.core since

abbrev pub at_access : List ℕ → Option Access → Cause → List ℕ
at_access text None cause = text
at_access text (Some a) cause = access_cause text a cause

-- a text, and then which access of a list is the first that isn't legal, and why it isn't
unfoldable pub refused_access : List ℕ → List ℕ → Said → Refusal → List ℕ
refused_access text bytes said refusal =
    line_of_reason (at_access (access_numbered (begun text) refusal.place (access_line bytes (length said.words) refusal.place))
    (access_at said.accesses refusal.place) refusal.cause)

abbrev pub of_verdict : List ℕ → List ℕ → Said → Verdict → List ℕ
of_verdict text bytes said Legal = text
of_verdict text bytes said (Refused refusal) = refused_access text bytes said refusal

-- what a text became when it was said why what these bytes say isn't legal; nothing is said where they are no list any more, or a legal one
abbrev pub IsOfAccesses : Result Said ScriptCause → List ℕ → List ℕ → List ℕ → Type 0
IsOfAccesses (Err cause) bytes text new = new ≡ text
IsOfAccesses (Ok said) bytes text new =
    (verdict : Verdict) × IsVerdict (start_of said.words) said.accesses verdict × (new ≡ of_verdict text bytes said verdict)
