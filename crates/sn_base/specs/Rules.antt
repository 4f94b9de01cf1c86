-- The rules that a run may have.
use Rattle.std.specs.Prelude.{ℕ, ◌*◌, ◌<◌, ◌≤◌, Bool, true, ◌&&◌, nat_le, nat_lt, Option, IfSome}
use Rattle.std.specs.Option.{option_map_or}
use Rattle.sn_base.specs.declared.rules.Rules.{Rules}

-- rules that so many nodes can keep
pub record AreRules (rules : Rules) (nodes : ℕ) : Type 0 where
  pub some : 1 ≤ nodes
  pub few : nodes ≤ 16
  pub interval : 1 ≤ rules.interval
  pub wait : 1 ≤ rules.wait
  pub kill : IfSome rules.kill (λ rule. rule.0 < 2 * nodes)

-- whether a switch that dies is one of so many nodes
abbrev pub kill_fits : ℕ → Option (ℕ × ℕ) → Bool
kill_fits nodes kill = option_map_or (λ k. nat_lt k.0 (2 * nodes)) kill true

-- whether rules lie in their ranges for so many nodes
abbrev pub rules_fit : ℕ → Rules → Bool
rules_fit nodes r = nat_le 1 r.interval && nat_le 1 r.wait && kill_fits nodes r.kill
