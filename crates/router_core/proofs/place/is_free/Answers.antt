use Rattle.std.proofs.Common.{Some, option_copied, sym, ap, ◌∙◌}
use Rattle.router_core.proofs.PlaceTests.{free_test}
use Rattle.router_core.specs.Places.{place_at}
use Rattle.router_core.proofs.place.is_free.Goals as goal

pub returns-in-Some-Live : goal.returns-in-Some-Live
returns-in-Some-Live c = free_test c.is_none.result (place_at c.args.places.now.places c.args.n) c.in-Some-Live.field-0-0 c.in-Some-Live.errand
    (sym c.get.ensures ∙ ap option_copied c.in-Some-Live.is ∙ ap Some c.in-Some-Live.field-0-is) c.is_none.ensures
