-- The statistics are put behind what a replay puts.
use Rattle.std.proofs.Common.{◌≡◌, List, [], ◌∷◌, ◌++◌, ap, sym, subst, ◌∙◌, inr, append_assoc, append-nil}
use Rattle.std.specs.Prelude.{ℕ, Option}
use Rattle.std.specs.List.{All}
use Rattle.std.proofs.Common.{true}
use Rattle.sn_base.specs.Events.{event_fits}
use Rattle.sn_base.specs.declared.event.Event.{Event}
use Rattle.consistent_cuts.specs.Runs.{AllFit}
use Rattle.run_statistics.specs.Statistics.{statistics_of}
use Rattle.run_statistics.specs.Lines.{statistics_lines}
use Rattle.run_statistics.proofs.CountedSoFar.{fits-all}
use Rattle.sn_io.specs.Outside.{followed_by}
use Rattle.sn_probe.specs.Probes.{Meter}
use Rattle.sink_pieces.specs.Pieces.{Piece, Report, Ends, ends, after, Breaks, report_text, HasBeginning}
use Rattle.sink_pieces.proofs.PieceLaws.{after-append, Breaks-more, Breaks-after, report_text-append}
use Rattle.sink_pieces.proofs.Begun.{report-begun}
use Rattle.script_replay.specs.declared.job.Replay.{Replay}
use Rattle.script_replay.specs.Probed.{told_all}
use Rattle.script_replay.specs.Shown.{IsReplayed, IsBrokenOff as IsReplayBroken, pieces_due as replay_pieces, output_of}
use Rattle.counted_replay.specs.Shown.{counted_lines, pieces_due, IsCounted, IsBrokenOff, KnowApplied}

-- the beginning of a text is one of a longer text
begins-longer : (text more : List ℕ) (before behind : Option (List ℕ)) → HasBeginning text before behind → HasBeginning (text ++ more) before behind
begins-longer text more before behind h = record {
  put = h.put;
  left = h.left ++ more;
  whole = sym (append_assoc h.put h.left more) ∙ ap (λ t. t ++ more) h.whole;
  written = h.written;
}

-- a text is its own beginning
begins-whole : (text : List ℕ) (before behind : Option (List ℕ)) → behind ≡ followed_by before text → HasBeginning text before behind
begins-whole text before behind h = record { put = text; left = []; whole = append-nil text; written = h }

-- the nodes and switches of a script's events are there
pub fits-script : (r : Replay) (events : List Event) → events ≡ r.script → AllFit r.config.nodes r.script →
    All (λ (e : Event). event_fits r.config.nodes e ≡ true) events
fits-script r events same fit =
    subst (λ (t : List Event). All (λ (e : Event). event_fits r.config.nodes e ≡ true) t) (sym same) (fits-all r.config.nodes r.script fit)

-- the text that was made is the lines that are due
pub text-is : (r : Replay) (events : List Event) (text : List ℕ) →
    text ≡ statistics_lines r.config.nodes (statistics_of r.program r.config events) → events ≡ r.script → text ≡ counted_lines r
text-is r events text is same = is ∙ ap (λ (t : List Event). statistics_lines r.config.nodes (statistics_of r.program r.config t)) same

module _ (r : Replay) (probes : List Meter) (before : Ends) where
  -- the replay is done, and the statistics are put
  pub counted : (c w v : Option (List ℕ)) (text : List ℕ) → text ≡ counted_lines r → IsReplayed r probes before (ends c w) →
      ends c v ≡ after (ends c w) (Report text ∷ []) → IsCounted r probes before (ends c v)
  counted c w v text is h put = record {
    put = put
        ∙ ap (λ t. after (ends c w) (Report t ∷ [])) is
        ∙ ap (λ (e : Ends). after e (Report (counted_lines r) ∷ [])) h.put
        ∙ after-append before (replay_pieces r probes) (Report (counted_lines r) ∷ []);
    shown = record { lawful = h.shown.lawful; in_step = h.shown.in_step; output = h.shown.output };
  }

  -- the replay broke off
  pub broken-replay : (behind : Ends) → IsReplayBroken r probes before behind → IsBrokenOff r probes before behind
  broken-replay behind h = record {
    broken = Breaks-more (replay_pieces r probes) (Report (counted_lines r) ∷ []) before behind h.broken;
    shown = record {
      lawful = h.shown.lawful;
      in_step = h.shown.in_step;
      output = h.shown.output;
      report = longer (report_text (pieces_due r probes))
          (sym (report_text-append (replay_pieces r probes) (Report (counted_lines r) ∷ [])))
          (begins-longer (report_text (replay_pieces r probes)) (report_text (Report (counted_lines r) ∷ [])) before.report behind.report h.shown.report);
    };
  } where
    longer : (text : List ℕ) → report_text (replay_pieces r probes) ++ report_text (Report (counted_lines r) ∷ []) ≡ text →
        HasBeginning (report_text (replay_pieces r probes) ++ report_text (Report (counted_lines r) ∷ [])) before.report behind.report →
        HasBeginning text before.report behind.report
    longer text is h = record { put = h.put; left = h.left; whole = h.whole ∙ is; written = h.written }

  -- the report broke in the statistics
  breaks-lines : (text : List ℕ) (mid behind : Ends) → text ≡ counted_lines r → mid ≡ after before (replay_pieces r probes) →
      Breaks (Report text ∷ []) mid behind → Breaks (Report (counted_lines r) ∷ []) (after before (replay_pieces r probes)) behind
  breaks-lines text mid behind is at h =
      subst (λ (t : List ℕ). Breaks (Report t ∷ []) (after before (replay_pieces r probes)) behind) is
      (subst (λ (e : Ends). Breaks (Report text ∷ []) e behind) at h)

  pub broken-lines : (c w v : Option (List ℕ)) (text : List ℕ) → text ≡ counted_lines r → IsReplayed r probes before (ends c w) →
      Breaks (Report text ∷ []) (ends c w) (ends c v) → IsBrokenOff r probes before (ends c v)
  broken-lines c w v text is h b =
      let broken : Breaks (pieces_due r probes) before (ends c v) = Breaks-after (replay_pieces r probes) (Report (counted_lines r) ∷ []) before (ends c v)
      (breaks-lines text (ends c w) (ends c v) is h.put b) in
      record {
        broken = broken;
        shown = record {
          lawful = h.shown.lawful;
          in_step = h.shown.in_step;
          output = begins-whole (output_of r.program r.config r.script) before.console c h.shown.output;
          report = report-begun (pieces_due r probes) broken.whole broken.rest broken.piece broken.count before (ends c v) broken.all broken.put;
        };
      }

  -- and then the probes know all events
  pub knows-lines : (c w v : Option (List ℕ)) (text : List ℕ) (told : List Meter) → text ≡ counted_lines r → IsReplayed r probes before (ends c w) →
      Breaks (Report text ∷ []) (ends c w) (ends c v) → told ≡ told_all r probes → KnowApplied r probes before (ends c v) told
  knows-lines c w v text told is h b knows =
      inr (record { broken = breaks-lines text (ends c w) (ends c v) is h.put b; knows = knows })
