use Rattle.std.proofs.Common.{◌≡◌, ◌<◌, ◌≤◌, ◌∙◌, ap, arith, length, map, List}
use Rattle.std.specs.Prelude.{slice_index_or}
use Rattle.bgp_types.specs.Prefixes.{PrefixValue}
use Rattle.lab_tables.specs.declared.input.RouterInput.{RouterInput}
use Rattle.lab_answers.specs.Noted.{own_med}
use Rattle.lab_answers.proofs.Adding.{flat_step, flat_all, adds_same}
use Rattle.lab_answers.proofs.Meant.{own_over}
use Rattle.lab_answers.proofs.evenness.note_routers.Goals as goal

pub loop-router-preserved : goal.loop-router-preserved
loop-router-preserved c =
    let rs : List RouterInput = c.args.input.now.routers in
    let same : c.deref-router-items.result.now ≡ rs = c.deref-router-items.ensures in
    let count : length c.deref-router-items.result.now ≡ length rs = ap length same in
    let below : c.loop-router.router-index < length rs = omega (arith, c.loop-router-test.true, count) in
    let is : c.router-item.result ≡ slice_index_or rs c.loop-router.router-index c.router-item.result
    = c.router-item.is ∙ ap (λ (xs : List RouterInput). slice_index_or xs c.loop-router.router-index c.router-item.result) same in
    flat_step (λ (router : RouterInput). map (own_med c.args.input.now.home_as) router.networks)
    rs c.loop-router.router-index c.router-item.result _ _ _ below is
    c.loop-router.invariant
    (adds_same _ _ _ _ (ap (λ (l : List PrefixValue). map (own_med c.args.input.now.home_as) l) c.deref.ensures) c.in_ok-note_networks.ensures)

pub returns : goal.returns
returns c =
    let rs : List RouterInput = c.args.input.now.routers in
    let count : length c.deref-router-items.result.now ≡ length rs = ap length c.deref-router-items.ensures in
    let past : length rs ≤ c.loop-router.router-index = omega (arith, c.loop-router-test.false, count) in
    adds_same _ _ _ _ (own_over c.args.input.now)
    (flat_all (λ (router : RouterInput). map (own_med c.args.input.now.home_as) router.networks) rs c.loop-router.router-index _ _ past c.loop-router.invariant)
