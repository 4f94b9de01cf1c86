-- A generated run: the loader reads its program in the program's text, and its replay is the job that is due.
use Rattle.std.proofs.Common.{◌≡◌, ℕ, List, refl, sym, ap, subst, ◌∙◌, inl, inr}
use Rattle.std.specs.Prelude.{Option, Some, None, Result, Ok}
use Rattle.text_lines.specs.Lines.{lines_from}
use Rattle.text_lines.specs.Hex.{hex_word}
use Rattle.asm_texts.specs.Texts.{words_text}
use Rattle.sn_base.specs.Image.{ImageData}
use Rattle.elf_load.specs.Hexadecimal.{code_from}
use Rattle.elf_load.specs.Loading.{image_of}
use Rattle.sn_io.specs.Outside.{Found}
use Rattle.command_words.specs.Request.{Request, Demo, as_request}
use Rattle.command_words.specs.declared.request.Request.{Request as CodeRequest}
use Rattle.command_words.specs.declared.request.Request.TheVariants.{Demo as AskedDemo}
use Rattle.sn_probe.specs.Probes.{Meter}
use Rattle.sink_pieces.specs.Pieces.{Ends}
use Rattle.counting_program.specs.Program.{counting_words, counting_image}
use Rattle.script_replay.specs.declared.job.Showing.{Showing}
use Rattle.script_replay.specs.declared.job.ReportKind.TheVariants.{Summary}
use Rattle.script_replay.specs.Shown.{IsReplayed, IsBrokenOff}
use Rattle.generated_runs.specs.Generated.{generated_replay}
use Rattle.call_files.specs.Files.{program_of}
use Rattle.safetynet_main.specs.Call.{generated_job, Follows, Comes}
use Rattle.safetynet_main.specs.Outcome.{Finished}
use Rattle.safetynet_main.proofs.CallLaws.{comes-some}
use Rattle.call_status.specs.declared.status.Status.{Status}
use Rattle.call_status.specs.declared.status.Status.TheVariants.{Done, SinkFault}

program-is : program_of (words_text counting_words) ≡ Ok counting_image
unfolding image_of code_from lines_from hex_word
program-is = refl

abbrev summary_alone : Showing
summary_alone = record { report = Summary; watch = None }

module _ (size : ℕ) (showing : Showing) (probes : List Meter) (was is : ℕ) (before behind : Ends) (alone : showing ≡ record { report = Summary; watch = None }) where
  pub follows-demo : IsReplayed (generated_replay size showing) probes before behind →
      Follows probes (generated_job size (program_of (words_text counting_words))) Done was is before behind
  follows-demo h =
      let r : IsReplayed (generated_replay size summary_alone) probes before behind = subst
      (λ (t : Showing). IsReplayed (generated_replay size t) probes before behind) alone h in
      subst (λ (p : Result ImageData Status). Follows probes (generated_job size p) Done was is before behind) (sym program-is)
      (inl (Finished, (refl, inl (refl, r.put, r.shown))))

  pub follows-demo_broken : IsBrokenOff (generated_replay size showing) probes before behind →
      Follows probes (generated_job size (program_of (words_text counting_words))) SinkFault was is before behind
  follows-demo_broken h =
      let r : IsBrokenOff (generated_replay size summary_alone) probes before behind = subst
      (λ (t : Showing). IsBrokenOff (generated_replay size t) probes before behind) alone h in
      subst (λ (p : Result ImageData Status). Follows probes (generated_job size p) SinkFault was is before behind) (sym program-is)
      (inl (Finished, (refl, inr (refl, r.broken, r.shown))))

-- words that ask for it fetch nothing
pub comes-demo : {S : Type 0} (fetches : S → List ℕ → ℕ → Found → S → Type 0) (probes : List Meter) (ask : Option Request)
    (asked : CodeRequest) (size : ℕ) (status : Status) (old : S) (was is : ℕ) (before behind : Ends) → ask ≡ Some (as_request asked) →
    asked ≡ AskedDemo size → Follows probes (generated_job size (program_of (words_text counting_words))) status was is before behind →
    Comes fetches probes ask status old old was is before behind
comes-demo fetches probes ask asked size status old was is before behind e same follows =
    comes-some fetches probes ask (Demo size) (generated_job size (program_of (words_text counting_words))) status old old was is before behind
    (e ∙ ap (λ r. Some (as_request r)) same) (refl, refl) follows
