use Rattle.route_policy.specs.Candidates.{router_candidate}
use Rattle.why_view.proofs.Further.{filter_mapped_more}
use Rattle.why_view.proofs.candidates.push_routers.Goals as goal

-- the candidate of one router more, if it gives one
pub loop-router-preserved : goal.loop-router-preserved
loop-router-preserved c =
    filter_mapped_more (λ teller. router_candidate c.args.home_as teller teller.told) c.args.routers.now c.loop-router.router-index c.router-item.result
    c.args.candidates.now c.loop-router.candidates c.push_if.new.candidates c.in_ok-of_router.field-0 c.loop-router-test.true c.router-item.is
    c.loop-router.invariant c.in_ok-of_router.ensures c.in_ok-push_if.ensures
