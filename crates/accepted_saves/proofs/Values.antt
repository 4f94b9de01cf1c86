-- The records of an execution have values of their types, where memory begins with bytes and bytes are read.
use Rattle.std.proofs.Common.{true≢false, ◌≡◌, ℕ, zero, suc, ◌<◌, ◌^◌, Bool, true, false, List, [], ◌∷◌, ◌++◌, map, length, refl, sym, subst, ◌∙◌, nat_eq, if◌then◌else◌, arith}
use Rattle.std.specs.Prelude.{Option, Some, None, IfSome, option_to_list}
use Rattle.std.specs.List.{All}
use Rattle.std.proofs.lemmas.Bool.Decides.{nat_tests}
use Rattle.std.proofs.lemmas.List.{length-map, length-set, length_push}
use Rattle.std.proofs.lemmas.List.Elements.{All-nil, All-cons, All-head}
use Rattle.sn_base.specs.Image.{ImageData}
use Rattle.sn_base.specs.declared.block.Write.{Write}
use Rattle.sn_base.specs.declared.config.Config.{Config}
use Rattle.sn_base.specs.declared.event.Event.{Event}
use Rattle.rv_core.specs.declared.step.Record.{Record}
use Rattle.rv_core.specs.Execution.{Executes, in_of}
use Rattle.rv_core.specs.Flat.{FlatState, core_at, first_cores, flat_start, flat_step, after_write, next_by}
use Rattle.rv_core.specs.Step.{want_of}
use Rattle.sn_model.specs.Machine.{State}
use Rattle.sn_text.specs.Written.{HasNumbers, IsRecordOf}
use Rattle.save_text.specs.Written.{HasValues}
use Rattle.consistent_cuts.specs.Headline.{IsRun, IsConsistent}
use Rattle.consistent_cuts.specs.Origins.{Origin, MayBegin, reached_from, retirements_from}
use Rattle.consistent_cuts.proofs.Run.{from_consistent}
use Rattle.saved_points.specs.Points.{saved_after}
use Rattle.accepted_saves.specs.Bytes.{BeginsWithBytes, WasGivenBytes}
use Rattle.accepted_saves.proofs.Bytes.{IsByte, AreBytes, first_part, last_part, memory_begins, written, seen_low}
use Rattle.accepted_saves.proofs.Given.{reached_given, node_given, pairs_given}

count_cores : (n entry : ℕ) → length (first_cores n entry) ≡ n
count_cores zero entry = refl
count_cores (suc n) entry = length_push (first_cores n entry) _ ∙ omega (arith, count_cores n entry)

cores_stay : (image : ImageData) (flat : FlatState) (r : Record) → length (flat_step image flat r).cores ≡ length flat.cores
cores_stay image flat r =
    let wrote : Option Write = (next_by image flat r).effect.write in
    length-set (map (after_write wrote) flat.cores) r.core (next_by image flat r).core ∙ length-map flat.cores (after_write wrote)

-- the byte that a record read is one of those that its node's records read
read_byte : (own : Bool) (read : Option ℕ) (rest : List ℕ) → own ≡ true → AreBytes ((if own then option_to_list read else []) ++ rest) → IfSome read IsByte
read_byte true None rest e all = tt
read_byte true (Some byte) rest e all = All-head IsByte byte rest all
read_byte false read rest e all = absurd (true≢false (sym e))

records_have : (image : ImageData) (nodes : ℕ) (flat : FlatState) (records : List Record) → length flat.cores ≡ nodes → AreBytes flat.memory →
    Executes image flat records → ((n : ℕ) → n < nodes → AreBytes (in_of n records)) → All (IsRecordOf nodes) records
records_have image nodes flat [] count memory does reads = All-nil (IsRecordOf nodes)
records_have image nodes flat (r ∷ records) count memory does reads =
    let within : r.core < nodes = omega (arith, does.0.within, count) in
    let own : nat_eq r.core r.core ≡ true = grind (arith, nat_tests) in
    let first : IsRecordOf nodes r = record {
      core = within;
      values = record {
        seen = subst (λ (n : ℕ). n < 2 ^ 32) (sym does.0.seen) (seen_low (want_of image (core_at flat r.core)) flat.memory memory);
        read = read_byte (nat_eq r.core r.core) r.read (in_of r.core records) own (reads r.core within);
      };
    } in
    All-cons (IsRecordOf nodes) r records first
    (records_have image nodes (flat_step image flat r) records (cores_stay image flat r ∙ count)
    (written flat.memory (next_by image flat r).effect.write memory) does.1
    (λ n l. last_part (if nat_eq r.core n then option_to_list r.read else []) (in_of n records) (reads n l)))

module _ (image : ImageData) (config : Config) (origin : Origin) (events : List Event) (may : MayBegin image config origin) (run : IsRun config events) (begins : BeginsWithBytes image) (given : WasGivenBytes origin) (numbers : All HasNumbers events) where
  abbrev s : State
  s = reached_from image config origin events

  consistent : IsConsistent image config.nodes s (retirements_from image config origin events)
  consistent = from_consistent image config origin events may run

  reads : (n : ℕ) → n < config.nodes → AreBytes (in_of n s.committed)
  reads n l =
      let first = consistent.input n l in
      first_part (in_of n s.committed) first.more (subst AreBytes first.is (node_given image config origin events given numbers n))

  pub values : HasValues (saved_after image config origin events)
  values = record {
    bytes = pairs_given 0 s.processors (reached_given image config origin events given numbers);
    records =
        records_have image config.nodes (flat_start image config.nodes) s.committed (count_cores config.nodes image.entry)
        (memory_begins image begins) consistent.execution reads;
  }
