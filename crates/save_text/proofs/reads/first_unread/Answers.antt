use Rattle.std.proofs.Common.{◌≡◌, ℕ, List, ◌∙◌, false, not, sym, ap, arith}
use Rattle.std.specs.Prelude.{Some}
use Rattle.rv_core.specs.declared.step.Record.{Record}
use Rattle.rv_core.specs.Execution.{in_of}
use Rattle.sn_saved.specs.Saved.{Saved, given_to, begins_with}
use Rattle.save_text.proofs.Walked.{first-found, none-found}
use Rattle.save_text.proofs.reads.first_unread.Goals as goal

pub returns-then-not-has_read_given : goal.returns-then-not-has_read_given
returns-then-not-has_read_given c =
    let v : c.saved.inside.config.nodes ≡ c.args.saved.now.config.nodes = ap (λ (s : Saved). s.config.nodes) c.saved.view_is in
    let a : c.as_slice.result.now ≡ c.args.saved.now.given = c.as_slice.ensures.value ∙ ap (λ (s : Saved). s.given) c.saved.view_is in
    let b : c.as_slice-in-nodes.result.now ≡ c.args.saved.now.committed =
    c.as_slice-in-nodes.ensures.value ∙ ap (λ (s : Saved). s.committed) c.saved.view_is in
    let h : begins_with (given_to c.args.saved.now.given c.nodes.number) (in_of c.nodes.number c.args.saved.now.committed) ≡ false =
    ap (λ (xs : List (ℕ × ℕ)). begins_with (given_to xs c.nodes.number) (in_of c.nodes.number c.args.saved.now.committed)) (sym a)
    ∙ (ap (λ (rs : List Record). begins_with (given_to c.as_slice.result.now c.nodes.number) (in_of c.nodes.number rs)) (sym b)
    ∙ (ap (λ (n : ℕ). begins_with (given_to c.as_slice.result.now n) (in_of n c.as_slice-in-nodes.result.now)) (sym c.numbered-node.ensures)
    ∙ (sym c.has_read_given.ensures ∙ c.if-not-has_read_given.true))) in
    ap (λ (n : ℕ). Some n) c.numbered-node.ensures
    ∙ sym (first-found (λ n. not (begins_with (given_to c.args.saved.now.given n) (in_of n c.args.saved.now.committed))) 0
    c.args.saved.now.config.nodes c.nodes.number (omega arith) (omega (arith, v)) (λ n lo hi. ap not (c.nodes.invariant n hi)) (ap not h))

pub returns : goal.returns
returns c =
    let v : c.saved.inside.config.nodes ≡ c.args.saved.now.config.nodes = ap (λ (s : Saved). s.config.nodes) c.saved.view_is in
    sym (none-found (λ n. not (begins_with (given_to c.args.saved.now.given n) (in_of n c.args.saved.now.committed))) 0
    c.args.saved.now.config.nodes (λ n lo hi. ap not (c.nodes.invariant n (omega (arith, v, hi)))))
