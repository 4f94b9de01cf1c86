-- What events would be answered, by what the parts say.
use Rattle.std.proofs.Common.{◌≡◌, ℕ, ◌+◌, ◌<◌, ◌≤◌, ◌^◌, Bool, cond, Option, Some, None, List, length, get_or, take, refl, sym, ap, ◌∙◌}
use Rattle.std.proofs.Common.{subst, arith}
use Rattle.std.specs.Prelude.{nat_le, is_some, slice_get}
use Rattle.std.specs.List.{sum_by}
use Rattle.std.proofs.lemmas.List.Filters.{length-filter_more}
use Rattle.std.proofs.lemmas.List.Sums.{sum_by_more}
use Rattle.std.proofs.lemmas.Option.{get_or_from_slice_get}
use Rattle.std.specs.Option.{option_map}
use Rattle.sn_base.specs.declared.config.Config.{Config}
use Rattle.sn_base.specs.declared.event.Answer.{Answer}
use Rattle.log_buffer.specs.Log.{LogEntry, entries_from}
use Rattle.log_buffer.proofs.Entries.{from_shorter}
use Rattle.switch_net.specs.declared.answers.HopAnswer.{HopAnswer}
use Rattle.switch_net.specs.declared.flight.Flight.{Flight as Carried}
use Rattle.switch_net.specs.Net.{find_flight, hop_answer}
use Rattle.sn_model.specs.Fabric as model
use Rattle.sn_model.specs.Fabric.{Fabric, FabricStep}
use Rattle.sn_model.specs.NetEvents.{step_of_hop, loses, step_of_loss}
use Rattle.sn_fabric.specs.declared.node.NodeUnit.{NodeUnit}
use Rattle.sn_fabric.specs.Nets.{flight_as, hop_as, loss_as}
use Rattle.sn_fabric.specs.Parts.{Parts, fabric_as, no_unit, unit_at, AreParts}
use Rattle.sn_fabric.specs.Recovery.{undone_of}
use Rattle.sn_fabric.proofs.Calls.{rising}
use Rattle.sn_fabric.proofs.Nets.{found-as, hop-is}
use Rattle.sn_fabric.proofs.Parts.{routes-as}

pub hop-foreseen : (config : Config) (p : Parts) (id : ℕ) (found : HopAnswer) (said : Answer) → AreParts config p →
    found ≡ hop_answer p.net (find_flight p.net.flights id) → said ≡ hop_as found → said ≡ (step_of_hop (fabric_as p) id).answer
hop-foreseen config p id found said a e s =
    s ∙ ap hop_as e ∙ sym (ap (λ (m : FabricStep). m.answer) (hop-is p id (routes-as config p a.whole) (rising config p a)))

loses_is : (s : Fabric) (o : Option Carried) → loss_as (is_some o) ≡ (loses s (option_map flight_as o)).answer
loses_is s None = refl
loses_is s (Some f) = refl

pub loss-foreseen : (p : Parts) (id : ℕ) (found : Bool) → found ≡ is_some (find_flight p.net.flights id) →
    loss_as found ≡ (step_of_loss (fabric_as p) id).answer
loss-foreseen p id found e =
    ap loss_as e ∙ loses_is (fabric_as p) (find_flight p.net.flights id)
    ∙ ap (λ (o : Option model.Flight). (loses (fabric_as p) o).answer) (sym (found-as p.net.flights id))

-- how many entries are undone, one entry more and one log more

pub undone-more : (log : List LogEntry) (i k count : ℕ) (e : LogEntry) (t : Bool) → i < length log → slice_get log i ≡ Some e →
    nat_le k e.interval ≡ t → count ≡ length (entries_from k (take i log)) →
    count + cond t 1 0 ≡ length (entries_from k (take (i + 1) log))
undone-more log i k count e t l g h same =
    let r : get_or log i e ≡ e = get_or_from_slice_get log i e e g in
    sym (
    length-filter_more (λ (x : LogEntry). nat_le k x.interval) log i e l
    ∙ ap (λ (x : LogEntry). length (entries_from k (take i log)) + cond (nat_le k x.interval) 1 0) r
    ∙ ap (λ (b : Bool). length (entries_from k (take i log)) + cond b 1 0) h
    ∙ ap (λ (n : ℕ). n + cond t 1 0) (sym same)
    )

pub all-undone-more : (units : List NodeUnit) (i k undone count : ℕ) (x : NodeUnit) → i < length units → x ≡ unit_at units i →
    undone ≡ sum_by (undone_of k) (take i units) → count ≡ undone_of k x →
    undone + count ≡ sum_by (undone_of k) (take (i + 1) units)
all-undone-more units i k undone count x l r same c =
    sym (sum_by_more (undone_of k) units i no_unit l ∙ ap (λ (n : ℕ). n + undone_of k (unit_at units i)) (sym same)
    ∙ ap (λ (y : NodeUnit). undone + undone_of k y) (sym r) ∙ ap (λ (n : ℕ). undone + n) (sym c))

pub few-undone : (units : List NodeUnit) (i k count : ℕ) (x : NodeUnit) → x ≡ unit_at units i → length (unit_at units i).log.entries < 2 ^ 16 →
    count ≡ undone_of k x → count ≤ 2 ^ 16
few-undone units i k count x r few c =
    let s = from_shorter k x.log.entries in
    let f : length x.log.entries < 2 ^ 16 = subst (λ (y : NodeUnit). length y.log.entries < 2 ^ 16) (sym r) few in
    omega arith
