-- The text of a verdict.
use Rattle.std.specs.Prelude.{◌≡◌, ℕ, ◌-◌, ◌*◌, List, [], ◌∷◌, ◌++◌, codes, decimal, drop, length, Option, Result, Ok, Err}
use Rattle.text_lines.specs.Hex.{hex_word}
use Rattle.sn_base.specs.Blocks.{bytes_of}
use Rattle.sn_base.specs.declared.block.Width.{Width}
use Rattle.access_check.specs.declared.verdict.Cause.{Cause}
use Rattle.access_check.specs.declared.verdict.Cause.TheVariants.{Value, Unreserved}
use Rattle.access_check.specs.declared.verdict.Verdict.{Verdict}
use Rattle.access_check.specs.declared.verdict.Verdict.TheVariants.{Legal, Refused}
use Rattle.access_check.specs.Legal.{start_of}
use Rattle.access_check.specs.Verdicts.{IsVerdict}
use Rattle.sn_io.specs.Outside.{followed_by}
use Rattle.sink_pieces.specs.Pieces.{Report, ends, Breaks}
use Rattle.sn_text.specs.declared.cause.ScriptCause.{ScriptCause}
use Rattle.access_texts.specs.Lists.{Said}

-- a value of so many bytes, two digits for each
abbrev pub value_text : Width → ℕ → List ℕ
value_text width value = drop (8 - 2 * bytes_of width) (hex_word value)

-- ` since ` and a place, and the end of the line
abbrev pub since_text : ℕ → List ℕ
since_text since = codes " since " ++ decimal since ++ codes "\n"

abbrev pub cause_text : Cause → List ℕ
cause_text (Value width expected since) = codes "expected " ++ value_text width expected ++ since_text since
cause_text (Unreserved since) = codes "unreserved" ++ since_text since

-- the verdict on so many accesses: `legal` and how many there are, or `refused` and the place, and a line that says why
abbrev pub verdict_text : ℕ → Verdict → List ℕ
verdict_text count Legal = codes "legal " ++ decimal count ++ codes "\n"
verdict_text count (Refused refusal) = codes "refused " ++ decimal refusal.place ++ codes "\n" ++ cause_text refusal.cause

-- this verdict is right, and its text was appended
pub record IsPut (said : Said) (before behind : Option (List ℕ)) (verdict : Verdict) : Type 0 where
  pub right : IsVerdict (start_of said.words) said.accesses verdict
  pub written : behind ≡ followed_by before (verdict_text (length said.accesses) verdict)

-- the bytes say words and accesses, this is the verdict on them, and its text was appended
abbrev pub IsJudged : Result Said ScriptCause → Option (List ℕ) → Option (List ℕ) → Verdict → Type 0
IsJudged (Ok said) before behind verdict = IsPut said before behind verdict
IsJudged (Err cause) before behind verdict = ⊥

-- this verdict is right, and its text was broken off
pub record IsBrokenOff (said : Said) (before behind : Option (List ℕ)) (verdict : Verdict) : Type 0 where
  pub right : IsVerdict (start_of said.words) said.accesses verdict
  pub breaks : (c : Option (List ℕ)) →
      Breaks (Report (verdict_text (length said.accesses) verdict) ∷ []) (ends c before) (ends c behind)

-- the same of what the bytes say
abbrev pub IsJudgedInPart : Result Said ScriptCause → Option (List ℕ) → Option (List ℕ) → Verdict → Type 0
IsJudgedInPart (Ok said) before behind verdict = IsBrokenOff said before behind verdict
IsJudgedInPart (Err cause) before behind verdict = ⊥
