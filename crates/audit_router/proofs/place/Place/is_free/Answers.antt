use Rattle.audit_router.proofs.AtSource.{free_with}
use Rattle.audit_router.proofs.place.Place.is_free.Goals as goal

pub returns-in-Live : goal.returns-in-Live
returns-in-Live c = free_with c.args.self.now c.in-Live.session c.in-Live.errand c.in-Live.is c.is_none.result c.is_none.ensures
