use Rattle.std.proofs.Common.{◌≡◌, ◌-◌, length, ap, ◌∙◌, option_copied, string_bytes, arith}
use Rattle.std.specs.Prelude.{slice_get}
use Rattle.std.proofs.lemmas.Result.{on_ok_weaker}
use Rattle.show_view.proofs.Pieces.{worded}
use Rattle.show_view.proofs.Waited.{named_so}
use Rattle.show_view.proofs.waiting.push_actor.Goals as goal

pub returns : goal.returns
returns c =
    let input = c.args.input.now in
    let far : c.saturating_sub-far.result ≡ c.args.actor - length input.routers =
    omega (arith, c.saturating_sub-far.ensures, c.len.ensures, c.from-actor.ensures) in
    on_ok_weaker c.push_name.result
    (worded (string_bytes c.args.text.now) (named_so input c.args.actor (option_copied c.router_at-router.result) (option_copied c.peering_at.result)
    (c.router_at-router.ensures ∙ ap (slice_get input.routers) c.from-actor.ensures)
    (c.peering_at.ensures ∙ ap (slice_get input.peerings) far))) c.push_name.ensures
