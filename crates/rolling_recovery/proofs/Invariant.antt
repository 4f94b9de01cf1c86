-- Each call keeps what a recovery keeps.
use Rattle.std.proofs.Common.{◌≡◌, ℕ, ◌<◌, ◌≤◌, Bool, true, false, cond, List, [], ◌∷◌, ◌++◌, Option, Some, None, IfNone, OnSome}
use Rattle.std.proofs.Common.{refl, sym, ap, ◌∙◌, subst}
use Rattle.std.specs.Prelude.{slice_set}
use Rattle.std.proofs.lemmas.List.Elements.{All-nil}
use Rattle.std.proofs.lemmas.Bool.{lt-ltb}
use Rattle.sn_base.specs.Nodes.{has_node}
use Rattle.sn_machine.specs.Machine.{MachineData}
use Rattle.rolling_recovery.specs.declared.controls.Control.{Control}
use Rattle.rolling_recovery.specs.declared.controls.Control.TheVariants as control
use Rattle.rolling_recovery.specs.declared.messages.ControlMessage.{ControlMessage}
use Rattle.rolling_recovery.specs.declared.messages.ControlMessage.TheVariants.{Order, Done}
use Rattle.rolling_recovery.specs.Controls.{control_fits}
use Rattle.rolling_recovery.specs.Messages.{MessagesData, message_in, without, messages_with, is_full}
use Rattle.rolling_recovery.specs.Rolling.{RollingData, no_nodes, lost_by, sending, repeated_by, delivered_by, after_control}
use Rattle.rolling_recovery.specs.Invariant.{IsRolling}
use Rattle.rolling_recovery.proofs.Calls.{nobody, led-on, call-machine, follows, known}

abbrev rolling : MachineData → MessagesData → List Bool → List Bool → RollingData
rolling m messages restored noted = record { machine = m; messages = messages; restored = restored; noted = noted }

pub start-kept : (m : MachineData) (messages : MessagesData) (restored noted : List Bool) → 1 ≤ m.spare → m.config.nodes ≤ 16 →
    messages ≡ record { flights = []; next = 1 } → restored ≡ no_nodes → noted ≡ no_nodes →
    IsRolling (rolling m messages restored noted)
start-kept m messages restored noted some few quiet empty none = record {
  room = some;
  few = few;
  calls = [];
  led = record {
    fit = All-nil (λ call. control_fits m.config.nodes call ≡ true);
    led =
        ap (λ x. rolling m x restored noted) quiet
        ∙ ap (λ (x : List Bool). rolling m (record { flights = []; next = 1 }) x noted) empty
        ∙ ap (λ (x : List Bool). rolling m (record { flights = []; next = 1 }) no_nodes x) none;
  };
}

-- one more call
kept-on : (r : RollingData) (call : Control) → control_fits r.machine.config.nodes call ≡ true → IsRolling r →
    IsRolling (after_control r call)
kept-on r call fits k = record {
  room = subst (λ (m : MachineData). 1 ≤ m.spare) (sym (call-machine r call)) k.room;
  few = subst (λ (m : MachineData). m.config.nodes ≤ 16) (sym (call-machine r call)) k.few;
  calls = k.calls ++ call ∷ [];
  led = led-on r k.calls call fits k.led;
}

module _ (m : MachineData) (messages : MessagesData) (restored noted : List Bool) (k : IsRolling (rolling m messages restored noted)) where
  pub order-kept : (n : ℕ) (full : Bool) (later : MessagesData) → n < m.config.nodes → full ≡ is_full messages → full ≡ false →
      later ≡ messages_with messages (Order n) → IsRolling (rolling m later restored noted)
  order-kept n full later l f e s =
      rw s (subst (λ b. IsRolling (cond b (rolling m messages restored noted) (sending (rolling m messages restored noted) (Order n))))
      (sym f ∙ e)
      (kept-on (rolling m messages restored noted) (control.Order n) (lt-ltb n m.config.nodes l) k))

  pub repeat-kept : (id : ℕ) (message : ControlMessage) (full : Bool) (later : MessagesData) →
      Some message ≡ message_in messages.flights id → full ≡ is_full messages → full ≡ false →
      later ≡ messages_with messages message → IsRolling (rolling m later restored noted)
  repeat-kept id message full later o f e s =
      rw s (subst (λ b. IsRolling (cond b (rolling m messages restored noted) (sending (rolling m messages restored noted) message)))
      (sym f ∙ e)
      (subst (λ x. IsRolling (repeated_by (rolling m messages restored noted) x)) (sym o)
      (kept-on (rolling m messages restored noted) (control.Repeat id) refl k)))

  pub lose-kept : (id : ℕ) (o : Option ControlMessage) (later : MessagesData) → o ≡ message_in messages.flights id →
      OnSome o (later ≡ record messages { flights = without messages.flights id }) → IfNone o (later ≡ messages) →
      IsRolling (rolling m later restored noted)
  lose-kept id None later e some none = rw none k
  lose-kept id (Some message) later e some none =
      rw some (subst (λ x. IsRolling (lost_by (rolling m messages restored noted) id x)) (sym e)
      (kept-on (rolling m messages restored noted) (control.Lose id) refl k))

  pub there : (id n : ℕ) → Some (Order n) ≡ message_in messages.flights id → n < m.config.nodes
  there id n e =
      known m.config.nodes k.few (rolling m messages restored noted) id (Order n)
      (follows (rolling m messages restored noted) k.calls k.few k.led) (sym e)

  pub has-its-node : (n : ℕ) → has_node restored n ≡ true → n < m.config.nodes
  has-its-node n e = (follows (rolling m messages restored noted) k.calls k.few k.led).here n e

  pub obey-kept : (id n : ℕ) (marks : List Bool) (taken later : MessagesData) → Some (Order n) ≡ message_in messages.flights id →
      taken ≡ record messages { flights = without messages.flights id } → later ≡ messages_with taken (Done n) →
      marks ≡ slice_set restored n true → IsRolling (rolling m later marks noted)
  obey-kept id n marks taken later e t s is =
      rw (s, t) (subst
      (λ (x : List Bool). IsRolling (rolling m (messages_with (record messages { flights = without messages.flights id }) (Done n)) x noted))
      (sym is)
      (subst (λ x. IsRolling (delivered_by (rolling m messages restored noted) id x)) (sym e)
      (kept-on (rolling m messages restored noted) (control.Deliver id) refl k)))

  pub note-kept : (id n place : ℕ) (taken : MessagesData) → Some (Done n) ≡ message_in messages.flights id →
      taken ≡ record messages { flights = without messages.flights id } → place ≡ n →
      IsRolling (rolling m taken restored (slice_set noted place true))
  note-kept id n place taken e t i =
      rw (t, i) (subst (λ x. IsRolling (delivered_by (rolling m messages restored noted) id x)) (sym e)
      (kept-on (rolling m messages restored noted) (control.Deliver id) refl k))
