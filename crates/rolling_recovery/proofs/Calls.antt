-- What calls keep, whatever they are.
use Rattle.std.proofs.Common.{◌≡◌, ◌⊎◌, inl, inr, not, ℕ, ◌<◌, ◌≤◌, Bool, true, false, cond, ◌||◌, List, [], ◌∷◌, ◌++◌, length, Option, Some, None}
use Rattle.std.proofs.Common.{refl, sym, ap, ◌∙◌, subst, arith}
use Rattle.std.specs.Prelude.{nat_eq, slice_set}
use Rattle.std.specs.List.{All}
use Rattle.std.proofs.lemmas.Bool.{false≢true, ltb-true, eqb-true, or_cases, false_from_ne_true}
use Rattle.std.proofs.lemmas.List.{length-set, length-replicate, get_or-replicate}
use Rattle.std.proofs.lemmas.List.Elements.{All-nil, All-head, All-tail, All-push, All-filter, All-weaker}
use Rattle.sn_base.specs.Nodes.{has_node}
use Rattle.sn_machine.specs.Machine.{MachineData}
use Rattle.rolling_recovery.specs.declared.controls.Control.{Control}
use Rattle.rolling_recovery.specs.declared.controls.Control.TheVariants as control
use Rattle.rolling_recovery.specs.declared.messages.ControlMessage.{ControlMessage}
use Rattle.rolling_recovery.specs.declared.messages.ControlMessage.TheVariants.{Order, Done}
use Rattle.rolling_recovery.specs.declared.messages.Flight.{Flight}
use Rattle.rolling_recovery.specs.Controls.{control_fits}
use Rattle.rolling_recovery.specs.Messages.{is_full}
use Rattle.rolling_recovery.specs.Rolling.{RollingData, rolling_start, no_nodes, has_part, is_noted, message_of, losing, lost_by, sending, repeated_by}
use Rattle.rolling_recovery.specs.Rolling.{restoring, noting, delivered_by, after_control, after_controls}
use Rattle.rolling_recovery.specs.Recovered.{is_order_to, delivers_order, was_ordered}
use Rattle.rolling_recovery.specs.Invariant.{HasCalls}
use Rattle.rolling_recovery.proofs.Flights.{found}
use Rattle.rolling_recovery.proofs.Marks.{or_false, marked, marked-more, marked-itself, marked-within}

-- one call more

pub after-last : (r : RollingData) (calls : List Control) (call : Control) →
    after_controls r (calls ++ call ∷ []) ≡ after_control (after_controls r calls) call
after-last r [] call = refl
after-last r (first ∷ calls) call = after-last (after_control r first) calls call

-- the machine stays

cond-machine : (b : Bool) (r s : RollingData) → s.machine ≡ r.machine → (cond b r s).machine ≡ r.machine
cond-machine true r s e = refl
cond-machine false r s e = e

lost-machine : (r : RollingData) (id : ℕ) (o : Option ControlMessage) → (lost_by r id o).machine ≡ r.machine
lost-machine r id None = refl
lost-machine r id (Some m) = refl

repeated-machine : (r : RollingData) (o : Option ControlMessage) → (repeated_by r o).machine ≡ r.machine
repeated-machine r None = refl
repeated-machine r (Some m) = cond-machine (is_full r.messages) r (sending r m) refl

delivered-machine : (r : RollingData) (id : ℕ) (o : Option ControlMessage) → (delivered_by r id o).machine ≡ r.machine
delivered-machine r id None = refl
delivered-machine r id (Some (Order n)) = refl
delivered-machine r id (Some (Done n)) = refl

pub call-machine : (r : RollingData) (call : Control) → (after_control r call).machine ≡ r.machine
call-machine r (control.Order n) = cond-machine (is_full r.messages) r (sending r (Order n)) refl
call-machine r (control.Repeat id) = repeated-machine r (message_of r id)
call-machine r (control.Lose id) = lost-machine r id (message_of r id)
call-machine r (control.Deliver id) = delivered-machine r id (message_of r id)
call-machine r control.Finish = refl

pub led-on : (r : RollingData) (calls : List Control) (call : Control) → control_fits r.machine.config.nodes call ≡ true →
    HasCalls r calls → HasCalls (after_control r call) (calls ++ call ∷ [])
led-on r calls call fits h = record {
  fit = subst (λ (m : MachineData). All (λ c. control_fits m.config.nodes c ≡ true) (calls ++ call ∷ [])) (sym (call-machine r call))
      (All-push (λ c. control_fits r.machine.config.nodes c ≡ true) calls call h.fit fits);
  led = ap (λ (x : RollingData). after_control x call) h.led ∙ sym (after-last (rolling_start r.machine) calls call)
      ∙ ap (λ (m : MachineData). after_controls (rolling_start m) (calls ++ call ∷ [])) (sym (call-machine r call));
}

-- an order in flight goes to a node that is there, and one that is done is there and has its part; so has each that is noted

abbrev pub IsMessageOf : ℕ → List Bool → ControlMessage → Type 0
IsMessageOf nodes restored (Order n) = n < nodes
IsMessageOf nodes restored (Done n) = (n < nodes) × (has_node restored n ≡ true)

pub record Follows (nodes : ℕ) (r : RollingData) : Type 0 where
  pub marks : length r.restored ≡ 16
  pub notes : length r.noted ≡ 16
  pub flights : All (λ f. IsMessageOf nodes r.restored f.message) r.messages.flights
  pub noted : (n : ℕ) → is_noted r n ≡ true → has_part r n ≡ true
  pub here : (n : ℕ) → has_part r n ≡ true → n < nodes

pub nobody : (n : ℕ) → has_node no_nodes n ≡ true → ⊥
nobody n e = let l = marked-within no_nodes n e in none n l e
  where
    none : (k : ℕ) → k < length no_nodes → has_node no_nodes k ≡ true → ⊥
    none k l e = false≢true (sym (get_or-replicate 16 k false false (omega (arith, l))) ∙ e)

begun-follows : (m : MachineData) → Follows m.config.nodes (rolling_start m)
begun-follows m = record {
  marks = length-replicate 16 false;
  notes = length-replicate 16 false;
  flights = All-nil (λ (f : Flight). IsMessageOf m.config.nodes no_nodes f.message);
  noted = λ n e. absurd (nobody n e);
  here = λ n e. absurd (nobody n e);
}

module _ (nodes : ℕ) (few : nodes ≤ 16) where
  message-more : (restored : List Bool) (k : ℕ) → k < length restored → (m : ControlMessage) → IsMessageOf nodes restored m →
      IsMessageOf nodes (slice_set restored k true) m
  message-more restored k l (Order n) h = h
  message-more restored k l (Done n) h = (h.0, marked-more restored k n l h.1)

  sending-follows : (r : RollingData) (m : ControlMessage) → IsMessageOf nodes r.restored m → Follows nodes r → Follows nodes (sending r m)
  sending-follows r m h f = record {
    marks = f.marks;
    notes = f.notes;
    flights =
        All-push (λ g. IsMessageOf nodes r.restored g.message) r.messages.flights (record { id = r.messages.next; message = m }) f.flights h;
    noted = f.noted;
    here = f.here;
  }

  losing-follows : (r : RollingData) (id : ℕ) → Follows nodes r → Follows nodes (losing r id)
  losing-follows r id f = record {
    marks = f.marks;
    notes = f.notes;
    flights = All-filter (λ g. not (nat_eq g.id id)) (λ g. IsMessageOf nodes r.restored g.message) r.messages.flights f.flights;
    noted = f.noted;
    here = f.here;
  }

  marked-here : (r : RollingData) (k n : ℕ) → k < nodes → ((has_part r n ≡ true) ⊎ (nat_eq k n ≡ true)) → Follows nodes r → n < nodes
  marked-here r k n l (inl h) f = f.here n h
  marked-here r k n l (inr e) f = let same : k ≡ n = eqb-true k n e in omega (arith, l, same)

  restoring-follows : (r : RollingData) (k : ℕ) → k < nodes → Follows nodes r → Follows nodes (restoring r k)
  restoring-follows r k l f =
      let inside : k < length r.restored = let e = f.marks in omega (arith, e, l, few) in record {
        marks = length-set r.restored k true ∙ f.marks;
        notes = f.notes;
        flights = All-weaker (λ g. IsMessageOf nodes r.restored g.message) (λ g. IsMessageOf nodes (slice_set r.restored k true) g.message)
            (λ g h. message-more r.restored k inside g.message h) r.messages.flights f.flights;
        noted = λ n e. marked-more r.restored k n inside (f.noted n e);
        here = λ n e. marked-here r k n l (or_cases (has_part r n) (nat_eq k n) (sym (marked r.restored k n inside) ∙ e)) f;
      }

  noting-noted : (r : RollingData) (k n : ℕ) → k < length r.noted → has_part r k ≡ true → Follows nodes r → is_noted (noting r k) n ≡ true →
      has_part r n ≡ true
  noting-noted r k n l has f e = go (or_cases (is_noted r n) (nat_eq k n) (sym (marked r.noted k n l) ∙ e))
    where
      go : ((is_noted r n ≡ true) ⊎ (nat_eq k n ≡ true)) → has_part r n ≡ true
      go (inl h) = f.noted n h
      go (inr h) = subst (λ i. has_part r i ≡ true) (eqb-true k n h) has

  noting-follows : (r : RollingData) (k : ℕ) → k < nodes → has_part r k ≡ true → Follows nodes r → Follows nodes (noting r k)
  noting-follows r k l has f =
      let inside : k < length r.noted = let e = f.notes in omega (arith, e, l, few) in record {
        marks = f.marks;
        notes = length-set r.noted k true ∙ f.notes;
        flights = f.flights;
        noted = λ n e. noting-noted r k n inside has f e;
        here = f.here;
      }

  pub known : (r : RollingData) (id : ℕ) (m : ControlMessage) → Follows nodes r → message_of r id ≡ Some m → IsMessageOf nodes r.restored m
  known r id m f e = found (IsMessageOf nodes r.restored) r.messages.flights id m f.flights e

  cond-follows : (b : Bool) (r s : RollingData) → Follows nodes r → Follows nodes s → Follows nodes (cond b r s)
  cond-follows true r s f g = f
  cond-follows false r s f g = g

  lost-follows : (r : RollingData) (id : ℕ) (o : Option ControlMessage) → Follows nodes r → Follows nodes (lost_by r id o)
  lost-follows r id None f = f
  lost-follows r id (Some m) f = losing-follows r id f

  repeated-follows : (r : RollingData) (o : Option ControlMessage) → ((m : ControlMessage) → o ≡ Some m → IsMessageOf nodes r.restored m) →
      Follows nodes r → Follows nodes (repeated_by r o)
  repeated-follows r None h f = f
  repeated-follows r (Some m) h f = cond-follows (is_full r.messages) r (sending r m) f (sending-follows r m (h m refl) f)

  delivered-follows : (r : RollingData) (id : ℕ) (o : Option ControlMessage) →
      ((m : ControlMessage) → o ≡ Some m → IsMessageOf nodes r.restored m) → Follows nodes r → Follows nodes (delivered_by r id o)
  delivered-follows r id None h f = f
  delivered-follows r id (Some (Order n)) h f =
      let l : n < nodes = h (Order n) refl in
      let inside : n < length r.restored = let e = f.marks in omega (arith, e, l, few) in
      sending-follows (restoring (losing r id) n) (Done n) (l, marked-itself r.restored n inside)
      (restoring-follows (losing r id) n l (losing-follows r id f))
  delivered-follows r id (Some (Done n)) h f =
      let d : IsMessageOf nodes r.restored (Done n) = h (Done n) refl in
      noting-follows (losing r id) n d.0 d.1 (losing-follows r id f)

  call-follows : (r : RollingData) (call : Control) → control_fits nodes call ≡ true → Follows nodes r → Follows nodes (after_control r call)
  call-follows r (control.Order n) fits f =
      cond-follows (is_full r.messages) r (sending r (Order n)) f (sending-follows r (Order n) (ltb-true n nodes fits) f)
  call-follows r (control.Repeat id) fits f = repeated-follows r (message_of r id) (λ m e. known r id m f e) f
  call-follows r (control.Lose id) fits f = lost-follows r id (message_of r id) f
  call-follows r (control.Deliver id) fits f = delivered-follows r id (message_of r id) (λ m e. known r id m f e) f
  call-follows r control.Finish fits f = f

  calls-follow : (r : RollingData) (calls : List Control) → All (λ c. control_fits nodes c ≡ true) calls → Follows nodes r →
      Follows nodes (after_controls r calls)
  calls-follow r [] fit f = f
  calls-follow r (call ∷ calls) fit f =
      calls-follow (after_control r call) calls (All-tail (λ c. control_fits nodes c ≡ true) call calls fit)
      (call-follows r call (All-head (λ c. control_fits nodes c ≡ true) call calls fit) f)

  -- who has a part

  cond-part : (b : Bool) (r s : RollingData) (n : ℕ) → s.restored ≡ r.restored → has_part (cond b r s) n ≡ has_part r n || false
  cond-part true r s n e = or_false (has_part r n)
  cond-part false r s n e = ap (λ (marks : List Bool). has_node marks n) e ∙ or_false (has_part r n)

  lost-part : (r : RollingData) (id n : ℕ) (o : Option ControlMessage) → has_part (lost_by r id o) n ≡ has_part r n || false
  lost-part r id n None = or_false (has_part r n)
  lost-part r id n (Some m) = or_false (has_part r n)

  repeated-part : (r : RollingData) (n : ℕ) (o : Option ControlMessage) → has_part (repeated_by r o) n ≡ has_part r n || false
  repeated-part r n None = or_false (has_part r n)
  repeated-part r n (Some m) = cond-part (is_full r.messages) r (sending r m) n refl

  delivered-part : (r : RollingData) (id n : ℕ) (o : Option ControlMessage) →
      ((m : ControlMessage) → o ≡ Some m → IsMessageOf nodes r.restored m) → Follows nodes r →
      has_part (delivered_by r id o) n ≡ has_part r n || is_order_to n o
  delivered-part r id n None h f = or_false (has_part r n)
  delivered-part r id n (Some (Order k)) h f =
      let l : k < nodes = h (Order k) refl in marked r.restored k n (let e = f.marks in omega (arith, e, l, few))
  delivered-part r id n (Some (Done k)) h f = or_false (has_part r n)

  call-part : (r : RollingData) (call : Control) (n : ℕ) → Follows nodes r →
      has_part (after_control r call) n ≡ has_part r n || delivers_order r n call
  call-part r (control.Order k) n f = cond-part (is_full r.messages) r (sending r (Order k)) n refl
  call-part r (control.Repeat id) n f = repeated-part r n (message_of r id)
  call-part r (control.Lose id) n f = lost-part r id n (message_of r id)
  call-part r (control.Deliver id) n f = delivered-part r id n (message_of r id) (λ m e. known r id m f e) f
  call-part r control.Finish n f = or_false (has_part r n)

  or_assoc : (a b c : Bool) → (a || b) || c ≡ a || (b || c)
  or_assoc true b c = refl
  or_assoc false b c = refl

  calls-part : (r : RollingData) (calls : List Control) (n : ℕ) → All (λ c. control_fits nodes c ≡ true) calls → Follows nodes r →
      has_part (after_controls r calls) n ≡ has_part r n || was_ordered r n calls
  calls-part r [] n fit f = or_false (has_part r n)
  calls-part r (call ∷ calls) n fit f =
      calls-part (after_control r call) calls n (All-tail (λ c. control_fits nodes c ≡ true) call calls fit)
      (call-follows r call (All-head (λ c. control_fits nodes c ≡ true) call calls fit) f)
      ∙ ap (λ b. b || was_ordered (after_control r call) n calls) (call-part r call n f)
      ∙ or_assoc (has_part r n) (delivers_order r n call) (was_ordered (after_control r call) n calls)

-- a recovery that calls have led to

module _ (r : RollingData) (calls : List Control) (few : r.machine.config.nodes ≤ 16) (h : HasCalls r calls) where
  pub follows : Follows r.machine.config.nodes r
  follows = subst (Follows r.machine.config.nodes) (sym h.led)
      (calls-follow r.machine.config.nodes few (rolling_start r.machine) calls h.fit (begun-follows r.machine))

  no_part : (n : ℕ) → has_part (rolling_start r.machine) n || was_ordered (rolling_start r.machine) n calls ≡ was_ordered (rolling_start r.machine) n calls
  no_part n = ap (λ b. b || was_ordered (rolling_start r.machine) n calls) (false_from_ne_true (has_part (rolling_start r.machine) n) (λ e. nobody n e))

  pub part-ordered : (n : ℕ) → has_part r n ≡ was_ordered (rolling_start r.machine) n calls
  part-ordered n =
      ap (λ (x : RollingData). has_part x n) h.led
      ∙ calls-part r.machine.config.nodes few (rolling_start r.machine) calls n h.fit (begun-follows r.machine) ∙ no_part n
