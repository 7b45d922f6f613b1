use Rattle.graft_actors.proofs.Welcome.{router_segment, router_order, router_told, router_moved, router_back, router_asked, router_answered, router_done}
use Rattle.graft_actors.proofs.laws.routers_take_what_comes.Goals as goal

-- src/laws.rt
pub returns-clause-segment : goal.returns-clause-segment
returns-clause-segment g c session setup r n part = router_segment session setup n r part

pub returns-clause-order : goal.returns-clause-order
returns-clause-order g c session setup r n k = router_order session setup n r k

pub returns-clause-told : goal.returns-clause-told
returns-clause-told g c session setup r n part = router_told session setup n r part

pub returns-clause-moved : goal.returns-clause-moved
returns-clause-moved g c session setup r n k = router_moved session setup n r k

pub returns-clause-back : goal.returns-clause-back
returns-clause-back g c session setup r n k = router_back session setup n r k

pub returns-clause-done : goal.returns-clause-done
returns-clause-done g c session setup r n k = router_done session setup n r k

pub returns-clause-asked : goal.returns-clause-asked
returns-clause-asked g c session setup r n k = router_asked session setup n r k

pub returns-clause-answered : goal.returns-clause-answered
returns-clause-answered g c session setup r n k = router_answered session setup n r k
