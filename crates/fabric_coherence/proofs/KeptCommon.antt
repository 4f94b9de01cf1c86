-- What every part of the proof that events keep the sentences needs: the losses, what a block sees of an event of another one,
-- and how the fabric goes on where each of its blocks does.
use Rattle.std.proofs.Common.{◌≡◌, ◌≢◌, inl, ℕ, ◌+◌, ◌<◌, Bool, true, false, List, [], ◌∷◌, length, refl, sym, subst, arith, nat_eq}
use Rattle.std.proofs.Common.{nat_lt, if◌then◌else◌, Some}
use Rattle.std.specs.Prelude.{⊤}
use Rattle.std.proofs.lemmas.Bool.Decides.{nat_tests}
use Rattle.sn_base.specs.declared.config.Config.{Config}
use Rattle.sn_base.specs.declared.event.Answer.{Answer}
use Rattle.sn_base.specs.declared.event.Answer.TheVariants.{LogFull, NetFull}
use Rattle.sn_base.specs.declared.log.LogEntry.{LogEntry}
use Rattle.sn_model.specs.declared.cache.Out.{Out}
use Rattle.sn_model.specs.Caches.{block_count}
use Rattle.sn_model.specs.Fabric.{Fabric, FabricStep, step_refused}
use Rattle.sn_model.specs.Net.{net_limit}
use Rattle.sn_model.specs.NetEvents.{fits_in}
use Rattle.sn_coherence.specs.Block.{Block, NoLine, Nothing, Elsewhere, NoPut, PutElsewhere}
use Rattle.sn_coherence.specs.OtherEvents.{lose, begin_miss_elsewhere, end_miss_elsewhere, begin_put_elsewhere, end_put_elsewhere}
use Rattle.sn_coherence.specs.Events.{Event, ForwardWrite, Invalidate, PutGoes, DeliverReady, Lose, NumbersElsewhere, BeginMissElsewhere}
use Rattle.sn_coherence.specs.Events.{EndMissElsewhere, BeginPutElsewhere, EndPutElsewhere, Load, LoadReserved, Store, StoreConditionalDone}
use Rattle.sn_coherence.specs.Events.{StoreConditionalUndone, EvictShared, Edge, Validate, Recover, Allows, after}
use Rattle.sn_coherence.specs.Invariant.{BlockInvariant}
use Rattle.sn_coherence.specs.RecordsInvariant.{RecordsInvariant}
use Rattle.sn_coherence.specs.Records.{Records, records_after_event, MayHappen, unreserves}
use Rattle.sn_coherence.specs.Same.{IsSame}
use Rattle.sn_coherence.proofs.Whole.{event_kept}
use Rattle.sn_coherence.proofs.WholeRecords.{event_recorded}
use Rattle.sn_coherence.proofs.Same.{same_block}
use Rattle.fabric_coherence.specs.View.{GhostState, block_seen}
use Rattle.fabric_coherence.specs.Steps.{losing, elsewhere, IsShaped}
use Rattle.fabric_coherence.specs.Coherent.{FabricInvariant}
use Rattle.fabric_coherence.specs.Recorded.{heard_by}
use Rattle.fabric_coherence.specs.CacheEvents.{told_of}
use Rattle.fabric_coherence.specs.Leads.{Leads, KeepsFrames, Goes, Moves}

-- an event that is allowed leads to the block after it
pub event_leads : (N : ℕ) (b : Block) (e : Event) → Allows N b e → ((r : Records) → MayHappen N b r e) →
    Leads N b (λ r. records_after_event N b r e) (after N b e)
event_leads N b e a m = record { kept = λ k. event_kept N b e k a; records = λ r k v. event_recorded N b r e k v (m r) }

-- an event that leaves the records as they are
abbrev pub IsQuiet : Event → Type 0
IsQuiet (ForwardWrite i) = ⊥
IsQuiet (Invalidate i) = ⊥
IsQuiet (PutGoes i) = ⊥
IsQuiet (DeliverReady i) = ⊥
IsQuiet (Load n) = ⊥
IsQuiet (LoadReserved n) = ⊥
IsQuiet (Store n v) = ⊥
IsQuiet (StoreConditionalDone n v) = ⊥
IsQuiet (StoreConditionalUndone n) = ⊥
IsQuiet (EvictShared n) = ⊥
IsQuiet (Edge n) = ⊥
IsQuiet Validate = ⊥
IsQuiet Recover = ⊥
IsQuiet _ = ⊤

quiet_records : (N : ℕ) (b : Block) (r : Records) (e : Event) → IsQuiet e → RecordsInvariant (after N b e) (records_after_event N b r e) →
    RecordsInvariant (after N b e) r
quiet_records N b r (ForwardWrite i) q v = absurd q
quiet_records N b r (Invalidate i) q v = absurd q
quiet_records N b r (PutGoes i) q v = absurd q
quiet_records N b r (DeliverReady i) q v = absurd q
quiet_records N b r (Load n) q v = absurd q
quiet_records N b r (LoadReserved n) q v = absurd q
quiet_records N b r (Store n c) q v = absurd q
quiet_records N b r (StoreConditionalDone n c) q v = absurd q
quiet_records N b r (StoreConditionalUndone n) q v = absurd q
quiet_records N b r (EvictShared n) q v = absurd q
quiet_records N b r (Edge n) q v = absurd q
quiet_records N b r Validate q v = absurd q
quiet_records N b r Recover q v = absurd q
quiet_records N b r _ q v = v

quiet_happens : (N : ℕ) (b : Block) (r : Records) (e : Event) → IsQuiet e → Allows N b e → MayHappen N b r e
quiet_happens N b r (StoreConditionalDone n c) q a = absurd q
quiet_happens N b r Validate q a = absurd q
quiet_happens N b r _ q a = a

pub quiet_leads : (N : ℕ) (b : Block) (e : Event) → Allows N b e → IsQuiet e → Leads N b (λ r. r) (after N b e)
quiet_leads N b e a q =
    record {
      kept = λ k. event_kept N b e k a;
      records = λ r k v. quiet_records N b r e q (event_recorded N b r e k v (quiet_happens N b r e q a));
    }

-- nothing, and one after the other
pub stays : (N : ℕ) (b : Block) → Leads N b (λ r. r) b
stays N b = record { kept = λ k. k; records = λ r k v. v }

pub leads_then : (N : ℕ) (b c d : Block) (f g : Records → Records) → Leads N b f c → Leads N c g d → Leads N b (λ r. g (f r)) d
leads_then N b c d f g x y = record { kept = λ k. y.kept (x.kept k); records = λ r k v. y.records (f r) (x.kept k) (x.records r k v) }

-- the same records in other words
pub leads_as : (N : ℕ) (b c : Block) (f g : Records → Records) → ((r : Records) → f r ≡ g r) → Leads N b f c → Leads N b g c
leads_as N b c f g e x = record { kept = x.kept; records = λ r k v. subst (RecordsInvariant c) (e r) (x.records r k v) }

-- a loss is an event that may always happen
pub losing_leads : (N : ℕ) (b : Block) (ids : List ℕ) → Leads N b (λ r. r) (losing b ids)
losing_leads N b [] = stays N b
losing_leads N b (i ∷ ids) =
    leads_then N b (lose b i) (losing (lose b i) ids) (λ r. r) (λ r. r) (quiet_leads N b (Lose i) tt tt) (losing_leads N (lose b i) ids)

-- an event of a block, and then the losses
pub then_losing : (N : ℕ) (b c : Block) (f : Records → Records) (ids : List ℕ) → Leads N b f c → Leads N b f (losing c ids)
then_losing N b c f ids x = leads_then N b c (losing c ids) f (λ r. r) x (losing_leads N c ids)

pub quiet_losing : (N : ℕ) (b : Block) (e : Event) (ids : List ℕ) → Allows N b e → IsQuiet e → Leads N b (λ r. r) (losing (after N b e) ids)
quiet_losing N b e ids a q = then_losing N b (after N b e) (λ r. r) ids (quiet_leads N b e a q)

-- another block: a loss and new numbers, and where a miss or put of a node opens or closes
pub then_quiet : (N : ℕ) (b c : Block) (e : Event) → Leads N b (λ r. r) c → Allows N c e → IsQuiet e → Leads N b (λ r. r) (after N c e)
then_quiet N b c e x a q = leads_then N b c (after N c e) (λ r. r) (λ r. r) x (quiet_leads N c e a q)

pub elsewhere_leads : (N : ℕ) (b : Block) (i count : ℕ) → Leads N b (λ r. r) (elsewhere b i count)
elsewhere_leads N b i count = then_quiet N b (lose b i) (NumbersElsewhere count) (quiet_leads N b (Lose i) tt tt) tt tt

pub begin_miss_elsewhere_leads : (N : ℕ) (b : Block) (n : ℕ) → n < N → (b.miss n).want ≡ Nothing →
    Leads N b (λ r. r) (begin_miss_elsewhere b n)
begin_miss_elsewhere_leads N b n l e = quiet_leads N b (BeginMissElsewhere n) (l, e) tt

pub end_miss_elsewhere_leads : (N : ℕ) (b c : Block) (n : ℕ) → Leads N b (λ r. r) c → (c.miss n).want ≡ Elsewhere →
    Leads N b (λ r. r) (end_miss_elsewhere c n)
end_miss_elsewhere_leads N b c n x e = then_quiet N b c (EndMissElsewhere n) x e tt

pub begin_put_elsewhere_leads : (N : ℕ) (b : Block) (n : ℕ) → n < N → b.putting n ≡ NoPut → Leads N b (λ r. r) (begin_put_elsewhere b n)
begin_put_elsewhere_leads N b n l e = quiet_leads N b (BeginPutElsewhere n) (l, e) tt

pub end_put_elsewhere_leads : (N : ℕ) (b c : Block) (n : ℕ) → Leads N b (λ r. r) c → c.putting n ≡ PutElsewhere →
    Leads N b (λ r. r) (end_put_elsewhere c n)
end_put_elsewhere_leads N b c n x e = then_quiet N b c (EndPutElsewhere n) x e tt

-- where the line is not there, there is no reservation to lose
no_reservation : (b : Block) (r : Records) (n : ℕ) → RecordsInvariant b r → b.line n ≡ NoLine → r.reserved n ≡ false
no_reservation b r n v e = of (r.reserved n) refl
  where
    of : (c : Bool) → r.reserved n ≡ c → c ≡ false
    of false q = refl
    of true q = absurd (v.contents.reserved_line n q e)

pub absent_leads : (N : ℕ) (b c : Block) (n : ℕ) → b.line n ≡ NoLine → Leads N b (λ r. unreserves r n) c → Leads N b (λ r. r) c
absent_leads N b c n e x =
    record { kept = x.kept; records = λ r k v. subst (RecordsInvariant c) (as_it_was r (no_reservation b r n v e)) (x.records r k v) }
  where
    same : (r : Records) → r.reserved n ≡ false → (m : ℕ) → (unreserves r n).reserved m ≡ r.reserved m
    same r q m = grind (arith, nat_tests)

    as_it_was : (r : Records) → r.reserved n ≡ false → unreserves r n ≡ r
    as_it_was r q = λ i. record r { reserved = λ m. same r q m i }

-- a lost copy of a block ends the reservation on it, and on no other
pub told_here : (n block : ℕ) (r : Records) → unreserves r n ≡ heard_by (told_of n (Some block)) block r
told_here n block r = by_test (nat_eq block block) same
  where
    same : nat_eq block block ≡ true
    same = grind (arith, nat_tests)

    by_test : (c : Bool) → c ≡ true → unreserves r n ≡ (if c then unreserves r n else r)
    by_test true e = refl
    by_test false e = absurd (cc)

pub told_there : (n block o : ℕ) → o ≢ block → (r : Records) → r ≡ heard_by (told_of n (Some block)) o r
told_there n block o other r = by_test (nat_eq o block) apart
  where
    apart : nat_eq o block ≡ false
    apart = grind (arith, nat_tests)

    by_test : (c : Bool) → c ≡ false → r ≡ (if c then unreserves r n else r)
    by_test true e = absurd (cc)
    by_test false e = refl

-- blocks that are the same at each place
pub leads_seen : (N : ℕ) (b c d : Block) (f : Records → Records) → IsSame d c → Leads N b f c → Leads N b f d
leads_seen N b c d f same x = subst (λ y. Leads N b f y) (sym (same_block d c same)) x

-- where the frames at edges stay
pub frames_stay : (s : Fabric) (t : GhostState) → KeepsFrames s t t
frames_stay s t n j = inl (λ b. refl)

-- the fabric goes on, where each block does
module _ (s : Fabric) (t : GhostState) (f : ℕ → Records → Records) (after : Fabric) (u : GhostState) (count : length after.nodes ≡ length s.nodes) (frames : KeepsFrames s t u) (shape : IsShaped after) where
  pub goes_each : (each : ℕ → Block) → ((o : ℕ) → o < block_count → IsSame (block_seen after u o) (each o)) →
      ((o : ℕ) → o < block_count → Leads (length s.nodes) (block_seen s t o) (f o) (each o)) → Goes s t f after u
  goes_each each sees leads = record {
    shape = shape;
    count = count;
    frames = frames;
    blocks = λ o l. leads_seen (length s.nodes) (block_seen s t o) (each o) (block_seen after u o) (f o) (sees o l) (leads o l);
  }

  -- its own block, and the others
  pub goes_own : (b : ℕ) (own : Block) (others : ℕ → Block) →
      IsSame (block_seen after u b) own → Leads (length s.nodes) (block_seen s t b) (f b) own →
      ((o : ℕ) → o < block_count → o ≢ b → IsSame (block_seen after u o) (others o)) →
      ((o : ℕ) → o < block_count → o ≢ b → Leads (length s.nodes) (block_seen s t o) (f o) (others o)) → Goes s t f after u
  goes_own b own others sees leads sees_others leads_others =
      record { shape = shape; count = count; frames = frames; blocks = λ o l. either o l (nat_eq o b) refl }
    where
      equal : (o : ℕ) → nat_eq o b ≡ true → o ≡ b
      equal o e = grind (arith, nat_tests)

      unequal : (o : ℕ) → nat_eq o b ≡ false → o ≢ b
      unequal o e = grind (arith, nat_tests)

      either : (o : ℕ) → o < block_count → (c : Bool) → nat_eq o b ≡ c →
          Leads (length s.nodes) (block_seen s t o) (f o) (block_seen after u o)
      either o l true e =
          subst (λ x. Leads (length s.nodes) (block_seen s t x) (f x) (block_seen after u x)) (sym (equal o e))
          (leads_seen (length s.nodes) (block_seen s t b) own (block_seen after u b) (f b) sees leads)
      either o l false e =
          leads_seen (length s.nodes) (block_seen s t o) (others o) (block_seen after u o) (f o) (sees_others o l (unequal o e))
          (leads_others o l (unequal o e))

-- an event that changes nothing, and tells nothing
pub as_it_is : (s : Fabric) (t : GhostState) (answer : Answer) → IsShaped s → Moves s t (step_refused s answer)
as_it_is s t answer shape =
    (t, record { shape = shape; count = refl; frames = frames_stay s t; blocks = λ o l. stays (length s.nodes) (block_seen s t o) })

-- a test of the fabric
pub by_test : (s : Fabric) (t : GhostState) (test : Bool) (a b : FabricStep) → (test ≡ true → Moves s t a) → (test ≡ false → Moves s t b) →
    Moves s t (if test then a else b)
by_test s t true a b first second = first refl
by_test s t false a b first second = second refl

-- a row is done, or nothing where the log or the net lacks the room
pub fits_moves : (config : Config) (s : Fabric) (t : GhostState) → IsShaped s → (log : List LogEntry) (sends : List Out) (done : FabricStep) →
    Moves s t done → Moves s t (fits_in config s log sends done)
fits_moves config s t shape log sends done moves =
    by_test s t (nat_lt config.log (length log)) (step_refused s LogFull) _ (λ e. as_it_is s t LogFull shape)
    (λ e. by_test s t (nat_lt (net_limit + 1) (length s.net.flights + length sends)) (step_refused s NetFull) done
    (λ f. as_it_is s t NetFull shape) (λ f. moves))

-- what is kept, where the fabric goes on
pub kept_on : (s : Fabric) (t : GhostState) (f : ℕ → Records → Records) (after : Fabric) (u : GhostState) → FabricInvariant s t → Goes s t f after u →
    FabricInvariant after u
kept_on s t f after u k g =
    record {
      shape = g.shape;
      blocks = λ o l. subst (λ N. BlockInvariant N (block_seen after u o)) (sym g.count) ((g.blocks o l).kept (k.blocks o l));
    }

pub recorded_on : (s : Fabric) (t : GhostState) (f : ℕ → Records → Records) (after : Fabric) (u : GhostState) (r : ℕ → Records) → FabricInvariant s t →
    Goes s t f after u →
    ((o : ℕ) → o < block_count → RecordsInvariant (block_seen s t o) (r o)) → (o : ℕ) → o < block_count →
    RecordsInvariant (block_seen after u o) (f o (r o))
recorded_on s t f after u r k g v o l = (g.blocks o l).records (r o) (k.blocks o l) (v o l)
