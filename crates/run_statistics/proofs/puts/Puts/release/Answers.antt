use Rattle.std.proofs.Common.{◌≡◌, filter, rules}
use Rattle.std.proofs.lemmas.Fn.{filter_same}
use Rattle.run_statistics.specs.Puts.{is_from}
use Rattle.run_statistics.proofs.puts.Puts.release.Goals as goal

pub returns : goal.returns
returns c =
    let e : c.retain.new.self.items ≡ filter (is_from c.args.k) c.self.inside.puts.items =
    filter_same _ _ _ (λ x b f' k. search rules) _ _ c.retain.ensures.filtered in
    rw (← c.self.view_is, e)
