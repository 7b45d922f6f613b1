use Rattle.std.proofs.Common.{◌≡◌, ◌<◌, ◌∙◌, Bool, not, [], take, length, sym, ap, arith}
use Rattle.std.specs.List.{list_any}
use Rattle.bgp_types.specs.Prefixes.{PrefixValue, same_prefix}
use Rattle.bgp_types.specs.Texts.{prefix_text}
use Rattle.lab_input.specs.Names.{each_after, network_again, repeated_if}
use Rattle.lab_input.proofs.Afters.{plain_goes_on, plain_stops, any_here, again_is}
use Rattle.lab_input.proofs.names.networks_again.Goals as goal

pub returns-in-Some : goal.returns-in-Some
returns-in-Some c =
    let p : PrefixValue = c.network-item.result in
    let ns = c.args.networks.now in
    let i = c.loop-network.network-index in
    let again : not c.in_ok-is_new.is_new ≡ list_any (λ q. same_prefix q p) (take i ns) =
    again_is _ _ _ c.in_ok-is_new.ensures.added (c.loop-network.invariant.seen p) in
    plain_stops network_again ns i p (omega arith) c.network-item.is c.in-Some.bad (each_after network_again [] ns) c.loop-network.invariant.walk
    (sym c.in-Some.is ∙ c.in_ok-found.ensures ∙ ap (λ (t : Bool). repeated_if t (prefix_text p)) again)

pub loop-network-preserved : goal.loop-network-preserved
loop-network-preserved c =
    let p : PrefixValue = c.network-item.result in
    let ns = c.args.networks.now in
    let i = c.loop-network.network-index in
    let within : i < length ns = omega arith in
    let again : not c.in_ok-is_new.is_new ≡ list_any (λ q. same_prefix q p) (take i ns) =
    again_is _ _ _ c.in_ok-is_new.ensures.added (c.loop-network.invariant.seen p) in
    record {
      seen = λ q. any_here (λ r. same_prefix r q) ns i p within c.network-item.is _ _ (c.in_ok-is_new.ensures.updates.0 q) (c.loop-network.invariant.seen q);
      walk = plain_goes_on network_again ns i p within c.network-item.is (each_after network_again [] ns) c.loop-network.invariant.walk
          (sym c.in-None.is ∙ c.in_ok-found.ensures ∙ ap (λ (t : Bool). repeated_if t (prefix_text p)) again);
    }
