use Rattle.std.proofs.Common.{rules, ◌≡◌, None}
use Rattle.std.specs.Prelude.{All}
use Rattle.std.specs.FinMap as map
use Rattle.session_rows.proofs.Announced.{announced_changes}
use Rattle.session_rows.proofs.calls.put.Goals as goal

pub offer-requires-clause-changes : goal.offer-requires-clause-changes
offer-requires-clause-changes c =
    let free : All (λ p. map.get c.args.session.now.session.adj_rib_out p ≡ None) c.args.update.nlri = search rules in
    announced_changes c.args.session.now.session.adj_rib_out c.args.update _ c.requires.one_way c.requires.announces free
