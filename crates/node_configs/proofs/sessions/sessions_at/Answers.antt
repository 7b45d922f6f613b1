use Rattle.std.proofs.Common.{◌≡◌, ◌<◌, ◌++◌, length, ap, sym, ◌∙◌, arith, List}
use Rattle.std.specs.Prelude.{slice_index_or}
use Rattle.lab_tables.specs.declared.input.PeeringInput.{PeeringInput}
use Rattle.lab_input.proofs.Numbered.{flat_map_numbered}
use Rattle.session_value.specs.declared.config.SessionConfig.{SessionConfig}
use Rattle.node_configs.specs.Tables.{session_if}
use Rattle.node_configs.proofs.sessions.sessions_at.Goals as goal

-- the session of one peering more
pub loop-i-preserved : goal.loop-i-preserved
loop-i-preserved c =
    let ps : List PeeringInput = c.args.input.now.peerings in
    let same : c.deref-peering-items.result.now ≡ ps = c.deref-peering-items.ensures in
    let many : length c.deref-peering-items.result.now ≡ length ps = ap length same in
    let below : c.loop-i.i < length ps = omega (arith, c.loop-i-test.true, many) in
    let is : c.peering-item.result ≡ slice_index_or ps c.loop-i.i c.peering-item.result
    = c.peering-item.is ∙ ap (λ (xs : List PeeringInput). slice_index_or xs c.loop-i.i c.peering-item.result) same in
    c.in_ok-push_if.ensures
    ∙ ap (λ (xs : List SessionConfig). xs ++ session_if c.args.input.now c.args.router.0 (c.loop-i.i, c.peering-item.result)) c.loop-i.invariant
    ∙ sym (flat_map_numbered (session_if c.args.input.now c.args.router.0) ps c.loop-i.i c.peering-item.result below is)
