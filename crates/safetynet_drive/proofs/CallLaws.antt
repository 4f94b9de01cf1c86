-- What follows of a call from how its program was found.
use Rattle.std.proofs.Common.{◌≡◌, ℕ, List, [], ◌∷◌, ◌++◌, refl, ap, sym, subst, ◌∙◌, inl, inr}
use Rattle.std.specs.Prelude.{Option, Some, None, IfSome, Result, Ok, Err, ◌⊎◌}
use Rattle.sn_base.specs.Image.{ImageData}
use Rattle.sn_base.specs.declared.config.Config.{Config}
use Rattle.sn_io.specs.Outside.{Found, File, TooLong as FileTooLong, Missing, Rose, found_in}
use Rattle.sn_probe.specs.Probes.{Meter}
use Rattle.command_words.specs.Request.{Request, Drive as DriveRequest}
use Rattle.command_words.specs.declared.request.DriveReport.{DriveReport}
use Rattle.sink_pieces.specs.Pieces.{Ends}
use Rattle.driven_replay.specs.declared.job.Drive.{Drive}
use Rattle.driven_replay.specs.declared.driving.DriveEnd.TheVariants.{Whole, TooMany}
use Rattle.driven_replay.specs.declared.driving.DriveEnd.{DriveEnd}
use Rattle.driven_replay.specs.Driven.{SourceData, AreRead, IsAtEnd, source, IsLeftOff, LacksMemory, LacksMemoryAtEnd, BreaksAtStart, BreaksInAnswer, BreaksAtEnd}
use Rattle.line_source.specs.Lines.{LineRead}
use Rattle.call_files.specs.Fetches.{Fetches}
use Rattle.call_files.specs.Files.{program_limit, program_in}
use Rattle.call_status.specs.declared.status.Status.{Status}
use Rattle.call_status.specs.declared.status.Status.TheVariants.{StoreFault, Usage, Memory, SinkFault, InputFault}
use Rattle.call_files.proofs.Found.{program-of_bytes, if_some-intro}
use Rattle.driven_replay.specs.declared.job.DriveShowing.{DriveShowing}
use Rattle.safetynet_drive.specs.Call.{Asked, asked_in, showing_of, ComesTo, Follows, Comes, FollowsOver, IsCutShort, EndsInTheMiddle}

-- a drive that began ends in no refusal
not-refused : (d : Drive) (probes : List Meter) (status refusal : Status) (from to : SourceData) (before behind : Ends) →
    ComesTo d probes status from to before behind → (refusal ≡ StoreFault) ⊎ (refusal ≡ Usage) → status ≡ refusal → ⊥
not-refused d probes status refusal from to before behind (inl (Whole, lines, told, is, driven, end)) (inl w) e = cc
not-refused d probes status refusal from to before behind (inl (Whole, lines, told, is, driven, end)) (inr w) e = cc
not-refused d probes status refusal from to before behind (inl (TooMany, lines, told, is, driven, end)) (inl w) e = cc
not-refused d probes status refusal from to before behind (inl (TooMany, lines, told, is, driven, end)) (inr w) e = cc
not-refused d probes status refusal from to before behind (inr (inl (is, broken))) (inl w) e = cc
not-refused d probes status refusal from to before behind (inr (inl (is, broken))) (inr w) e = cc
not-refused d probes status refusal from to before behind (inr (inr (is, left))) (inl w) e = cc
not-refused d probes status refusal from to before behind (inr (inr (is, left))) (inr w) e = cc

-- a call that ends in one had no program
refused-program : (config : Config) (report : DriveReport) (watch : Option ℕ) (probes : List Meter) (program : Result ImageData Status) (status refusal : Status)
    (from to : SourceData) (before behind : Ends) → Follows config report watch probes program status from to before behind →
    (refusal ≡ StoreFault) ⊎ (refusal ≡ Usage) → status ≡ refusal → program ≡ Err refusal
refused-program config report watch probes (Err s) status refusal from to before behind h which e = ap (λ t. Err t) (sym h.0 ∙ e)
refused-program config report watch probes (Ok image) status refusal from to before behind h which e =
    absurd (not-refused _ probes status refusal from to before behind h which e)

-- a program that is refused as one of the store's faults is missing
missing : (found : Found) → program_in found ≡ Err StoreFault → found ≡ Missing
missing Missing e = refl
missing FileTooLong e = absurd cc
missing (File bytes) e = absurd ((program-of_bytes bytes).0 e)

-- and none is refused as a fault of the words
not-usage : (found : Found) → program_in found ≡ Err Usage → ⊥
not-usage Missing e = cc
not-usage FileTooLong e = cc
not-usage (File bytes) e = (program-of_bytes bytes).1 e

module _ {S : Type 0} (files : S → Option (List ℕ → Option (List ℕ))) (sure : S → Type 0) (faults : S → ℕ) (gave : S → List ℕ → Found → S → Type 0) (old new : S) (probes : List Meter) (status : Status) (from to : SourceData) (before behind : Ends) where
  rose-by : (asked : Option Asked) → Comes (Fetches files sure faults gave) probes asked status old new from to before behind →
      status ≡ StoreFault → Rose (faults old) (faults new)
  rose-by None h e = absurd cc
  rose-by (Some asked) h e =
      h.1.0.rose (missing h.0 (refused-program asked.config asked.report asked.watch probes (program_in h.0) status StoreFault from to before behind h.1.1 (inl refl) e))

  usage-by : (asked : Option Asked) → Comes (Fetches files sure faults gave) probes asked status old new from to before behind →
      status ≡ Usage → asked ≡ None
  usage-by None h e = refl
  usage-by (Some asked) h e =
      absurd (not-usage h.0 (refused-program asked.config asked.report asked.watch probes (program_in h.0) status Usage from to before behind h.1.1 (inr refl) e))

  -- over a sure store the file that it holds says what is done
  sure-by : (asked : Option Asked) (held : List ℕ → Option (List ℕ)) →
      Comes (Fetches files sure faults gave) probes asked status old new from to before behind → sure old → files old ≡ Some held →
      FollowsOver held probes asked status from to before behind
  sure-by None held (usage, (files, (read, put))) s e = (usage, (read, put))
  sure-by (Some asked) held h s e =
      subst (λ f. Follows asked.config asked.report asked.watch probes (program_in f) status from to before behind)
      (found-held h.0 (held asked.program) (subst (λ o. IfSome o (λ files. (h.0 ≡ Missing → ⊥) → h.0 ≡ found_in (files asked.program) program_limit)) e h.1.0.told)
      (subst (λ o. IfSome o (λ files. h.0 ≡ Missing → files asked.program ≡ None)) e (h.1.0.lacking s)))
      h.1.1
    where
      found-held : (found : Found) (bytes : Option (List ℕ)) → ((found ≡ Missing → ⊥) → found ≡ found_in bytes program_limit) →
          (found ≡ Missing → bytes ≡ None) → found ≡ found_in bytes program_limit
      found-held Missing bytes told lacking = sym (ap (λ b. found_in b program_limit) (lacking refl))
      found-held FileTooLong bytes told lacking = told (λ e. cc)
      found-held (File content) bytes told lacking = told (λ e. cc)

  pub clause-sure : (given : List Meter) (asked : Option Asked) →
      ((status ≡ Memory → ⊥) → Comes (Fetches files sure faults gave) given asked status old new from to before behind) → given ≡ probes →
      sure old → IfSome (files old) (λ held. (status ≡ Memory → ⊥) → FollowsOver held probes asked status from to before behind)
  clause-sure given asked h same s =
      if_some-intro (files old) (λ held. (status ≡ Memory → ⊥) → FollowsOver held probes asked status from to before behind)
      (λ held e m. sure-by asked held
      (subst (λ (p : List Meter). Comes (Fetches files sure faults gave) p asked status old new from to before behind) same (h m)) s e)

  pub clause-rose : (asked : Option Asked) →
      ((status ≡ Memory → ⊥) → Comes (Fetches files sure faults gave) probes asked status old new from to before behind) → status ≡ StoreFault →
      Rose (faults old) (faults new)
  clause-rose asked h e = rose-by asked (h (λ m. cc)) e

  pub clause-usage : (asked : Option Asked) →
      ((status ≡ Memory → ⊥) → Comes (Fetches files sure faults gave) probes asked status old new from to before behind) → status ≡ Usage →
      asked ≡ None
  clause-usage asked h e = usage-by asked (h (λ m. cc)) e

  pub clause-comes : (given : List Meter) (asked : Option Asked) →
      ((status ≡ Memory → ⊥) → Comes (Fetches files sure faults gave) given asked status old new from to before behind) → given ≡ probes →
      (status ≡ Memory → ⊥) → Comes (Fetches files sure faults gave) probes asked status old new from to before behind
  clause-comes given asked h same m =
      subst (λ (p : List Meter). Comes (Fetches files sure faults gave) p asked status old new from to before behind) same (h m)

-- a drive of which the program was fetched
pub comes-of : {S : Type 0} (fetches : S → List ℕ → ℕ → Found → S → Type 0) (probes : List Meter) (ask : Option Request) (config : Config)
    (report : DriveReport) (watch : Option ℕ) (program name : List ℕ) (image : ImageData) (showing : DriveShowing) (status : Status) (old new : S) (from to : SourceData) (before behind : Ends) →
    ask ≡ Some (DriveRequest config report watch program) → name ≡ program →
    (found : Found) × fetches old name program_limit found new × (Ok image ≡ program_in found) →
    showing ≡ showing_of report watch → ComesTo (record { program = image; config = config; showing = showing }) probes status from to before behind →
    Comes fetches probes (asked_in ask) status old new from to before behind
comes-of fetches probes ask config report watch program name image showing status old new from to before behind e n (found, fetched, is) shows h =
    subst (λ (a : Option Request). Comes fetches probes (asked_in a) status old new from to before behind) (sym e) (
      found,
      (
        subst (λ (t : List ℕ). fetches old t program_limit found new) n fetched,
        subst (λ (p : Result ImageData Status). Follows config report watch probes p status from to before behind) is
            (subst (λ (s : DriveShowing). ComesTo (record { program = image; config = config; showing = s }) probes status from to before behind) shows h),
      ),
    )

-- what a drive comes to whose sink broke, or whose source failed
module _ {L : Type 0} (read left : L → Option (List LineRead)) (old new : L) (d : Drive) (probes told : List Meter) (before behind : Ends) where
  abbrev source_before : SourceData
  source_before = source (read old) (left old)

  abbrev source_behind : SourceData
  source_behind = source (read new) (left new)

  pub broken-off :
      ((new ≡ old) × BreaksAtStart d probes before behind told)
      ⊎ (((lines : List LineRead) × (last : LineRead) × BreaksInAnswer d lines last probes before behind told
      × AreRead (lines ++ last ∷ []) source_before source_behind)
      ⊎ ((how : DriveEnd) × (lines : List LineRead) × BreaksAtEnd d how lines probes before behind told
      × IsAtEnd d lines how source_before source_behind)) →
      ComesTo d probes SinkFault source_before source_behind before behind
  broken-off (inl (same, breaks)) = inr (inl (refl, inl (told, breaks, ap (λ l. source (read l) (left l)) same)))
  broken-off (inr (inl (lines, last, breaks, taken))) = inr (inl (refl, inr (inl (lines, last, told, breaks, taken))))
  broken-off (inr (inr (how, lines, breaks, end))) = inr (inl (refl, inr (inr (how, lines, told, breaks, end))))

pub left-off : (d : Drive) (probes told : List Meter) (from to : SourceData) (before behind : Ends) (A : List LineRead → Type 0) →
    (lines : List LineRead) × IsLeftOff d lines probes before behind told × AreRead lines from to × A lines →
    ComesTo d probes InputFault from to before behind
left-off d probes told from to before behind A (lines, left, read, why) = inr (inr (refl, (lines, told, left, read)))

-- memory was lacking before a line was read, for what the last line asks for, or for the end
pub cut-short : (d : Drive) (probes told : List Meter) (from to : SourceData) (before behind : Ends) (L C R P : Type 0) →
    (L × C × R × P) ⊎ (((lines : List LineRead) × (last : LineRead)
    × LacksMemory d lines last probes before behind told × AreRead (lines ++ last ∷ []) from to)
    ⊎ ((how : DriveEnd) × (lines : List LineRead)
    × LacksMemoryAtEnd d how lines probes before behind told × IsAtEnd d lines how from to)) →
    (C × (R × L)) ⊎ ((Memory ≡ Memory) × IsCutShort d probes from to before behind)
cut-short d probes told from to before behind L C R P (inl (l, c, r, p)) = inl (c, (r, l))
cut-short d probes told from to before behind L C R P (inr (inl (lines, last, lacks, read))) = inr (refl, inl (lines, last, told, lacks, read))
cut-short d probes told from to before behind L C R P (inr (inr (how, lines, lacks, end))) = inr (refl, inr (how, lines, told, lacks, end))

pub in-the-middle : {S : Type 0} (fetches : S → List ℕ → ℕ → Found → S → Type 0) (probes : List Meter) (ask : Option Request) (config : Config)
    (report : DriveReport) (watch : Option ℕ) (program name : List ℕ) (image : ImageData) (showing : DriveShowing) (status : Status) (old new : S) (from to : SourceData) (before behind : Ends)
    (A : Type 0) → ask ≡ Some (DriveRequest config report watch program) → name ≡ program →
    (found : Found) × fetches old name program_limit found new × (Ok image ≡ program_in found) →
    showing ≡ showing_of report watch →
    A ⊎ ((status ≡ Memory) × IsCutShort (record { program = image; config = config; showing = showing }) probes from to before behind) →
    A ⊎ ((status ≡ Memory) × EndsInTheMiddle fetches probes (asked_in ask) old new from to before behind)
in-the-middle fetches probes ask config report watch program name image showing status old new from to before behind A e n fetched shows (inl same) = inl same
in-the-middle fetches probes ask config report watch program name image showing status old new from to before behind A e n (found, fetched, is) shows (inr (m, cut)) =
    inr (
      m,
      subst (λ (a : Option Request). EndsInTheMiddle fetches probes (asked_in a) old new from to before behind) (sym e) (
        found,
        image,
        subst (λ (t : List ℕ). fetches old t program_limit found new) n fetched,
        sym is,
        subst (λ (s : DriveShowing). IsCutShort (record { program = image; config = config; showing = s }) probes from to before behind) shows cut,
      ),
    )

pub middle-same : {S : Type 0} (fetches : S → List ℕ → ℕ → Found → S → Type 0) (probes given : List Meter) (asked : Option Asked) (status : Status)
    (old new : S) (from to : SourceData) (before behind : Ends) (A : Type 0) → given ≡ probes →
    A ⊎ ((status ≡ Memory) × EndsInTheMiddle fetches given asked old new from to before behind) →
    A ⊎ ((status ≡ Memory) × EndsInTheMiddle fetches probes asked old new from to before behind)
middle-same fetches probes given asked status old new from to before behind A e h =
    subst (λ (p : List Meter). A ⊎ ((status ≡ Memory) × EndsInTheMiddle fetches p asked old new from to before behind)) e h
