-- After the last event the summary is put.
use Rattle.std.proofs.Common.{◌≡◌, ℕ, List, [], ◌∷◌, take, length, ap, sym, subst, ◌∙◌, inr, arith}
use Rattle.std.proofs.lemmas.List.{take_all}
use Rattle.sn_base.specs.Image.{ImageData}
use Rattle.sn_base.specs.declared.config.Config.{Config}
use Rattle.sn_model.specs.Machine.{State}
use Rattle.script_replay.specs.Machine.{MachineData}
use Rattle.consistent_cuts.specs.Headline.{state_of_run}
use Rattle.sn_probe.specs.Probes.{Meter, tallies_of}
use Rattle.state_json.specs.Lines.{last_line}
use Rattle.sink_pieces.specs.Pieces.{Piece, Report, Ends, after, Breaks}
use Rattle.sink_pieces.proofs.PieceLaws.{after-append, Breaks-after}
use Rattle.script_replay.specs.Probed.{told_of_run}
use Rattle.shown_states.specs.declared.job.StatesReplay.{StatesReplay}
use Rattle.shown_states.specs.Pieces.{turns_of}
use Rattle.shown_states.specs.Shown.{MayBegin, told_script, IsShown, IsShownInPart, KnowApplied}
use Rattle.shown_states.proofs.Moments.{last_piece, due-is, all-put, part-put}
use Rattle.shown_states.proofs.Played.{IsPlayed}

module _ (r : StatesReplay) (may : MayBegin r) (probes : List Meter) (before : Ends) (i : ℕ) (m : MachineData) (now_ : List Meter) (behind : Ends) (h : IsPlayed r probes before i m now_ behind) (end : length r.script ≡ i) where
  whole : take i r.script ≡ r.script
  whole = take_all i r.script (omega (arith, end))

  pub ended-told : now_ ≡ told_script r probes
  ended-told = h.knows ∙ ap (λ t. told_of_run r.program r.config t probes) whole

  put-is : behind ≡ after before (turns_of r.program r.config r.only r.script)
  put-is = h.put ∙ ap (λ t. after before (turns_of r.program r.config r.only t)) whole

  line-is : Report (last_line m.image m.config r.watch (tallies_of now_) m.applied m.state) ∷ [] ≡ last_piece r probes
  line-is =
      ap (λ (t : ImageData). Report (last_line t m.config r.watch (tallies_of now_) m.applied m.state) ∷ []) h.reached.image
      ∙ ap (λ (t : Config). Report (last_line r.program t r.watch (tallies_of now_) m.applied m.state) ∷ []) h.reached.config
      ∙ ap (λ (t : List Meter). Report (last_line r.program r.config r.watch (tallies_of t) m.applied m.state) ∷ []) ended-told
      ∙ ap (λ k. Report (last_line r.program r.config r.watch (tallies_of (told_script r probes)) k m.state) ∷ [])
      (h.reached.count ∙ sym end)
      ∙ ap (λ (t : State). Report (last_line r.program r.config r.watch (tallies_of (told_script r probes)) (length r.script) t) ∷ [])
      (h.reached.state ∙ ap (state_of_run r.program r.config) whole)

  pub ended-all : (d : Ends) → d ≡ after behind (Report (last_line m.image m.config r.watch (tallies_of now_) m.applied m.state) ∷ []) →
      IsShown r probes before d
  ended-all d put =
      all-put r may probes before d
      (put ∙ ap (after behind) line-is ∙ ap (λ (t : Ends). after t (last_piece r probes)) put-is
      ∙ after-append before (turns_of r.program r.config r.only r.script) (last_piece r probes) ∙ ap (after before) (sym (due-is r probes)))

  module _ (d : Ends) (broken : Breaks (Report (last_line m.image m.config r.watch (tallies_of now_) m.applied m.state) ∷ []) behind d) where
    broken-last : Breaks (last_piece r probes) (after before (turns_of r.program r.config r.only r.script)) d
    broken-last =
        subst (λ (t : Ends). Breaks (last_piece r probes) t d) put-is
        (subst (λ (t : List Piece). Breaks t behind d) line-is broken)

    pub ended-broken : IsShownInPart r probes before d
    ended-broken =
        part-put r may probes before d
        (subst (λ (t : List Piece). Breaks t before d) (sym (due-is r probes))
        (Breaks-after (turns_of r.program r.config r.only r.script) (last_piece r probes) before d broken-last))

    pub ended-known : (told : List Meter) → told ≡ now_ → KnowApplied r probes before d told
    ended-known told same = inr (inr (record {
      pieces = last_piece r probes;
      are = due-is r probes;
      broken = broken-last;
      knows = same ∙ ended-told;
    }))
