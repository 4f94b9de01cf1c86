use Rattle.std.proofs.Common.{◌≡◌, ℕ, ap, Bool, true, ◌&&◌, sym, ◌∙◌, subst, length, rules}
use Rattle.std.specs.Prelude.{nat_le}
use Rattle.save_text.specs.declared.part.Part.TheVariants.{Given}
use Rattle.save_text.specs.Reading.{least_of, may_add}
use Rattle.save_text.proofs.reading.Reading.may_give.Goals as goal

pub returns-then-is_in_order : goal.returns-then-is_in_order
returns-then-is_in_order c =
    let t : nat_le (least_of c.args.self.now Given) c.args.node ≡ true = sym c.is_in_order.ensures ∙ c.if-is_in_order.true in
    let k : c.len.result ≡ length c.args.self.now.saved.given = search rules in
    subst (λ (b : Bool). c.may_add.result ≡ b && may_add c.args.self.now (length c.args.self.now.saved.given)) (sym t)
    (c.may_add.ensures ∙ ap (λ (n : ℕ). may_add c.args.self.now n) k)
