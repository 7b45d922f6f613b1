use Rattle.std.proofs.Common.{◌≡◌, None, replicate, rules}
use Rattle.session_places.proofs.Calls.{values_of-vacant, AreSoundKeys-vacant}
use Rattle.session_places.proofs.Places.new.Given.{Over}
use Rattle.session_places.proofs.Places.new.Goals as goal

vacant : (g : Over) (c : goal.In_ok-with_capacity g) → c.in_ok-vec.field-0.items ≡ replicate c.args.count None
vacant g c = c.in_ok-vec.ensures.items_if_clones_equal (λ y clone. search rules)

pub invariant_of-result : goal.invariant_of-result
invariant_of-result g c =
    let made = c.in_ok-with_capacity in
    AreSoundKeys-vacant made.field-0 c.in_ok-vec.field-0.items c.args.count c.args.room made.ensures.empty (vacant g c) made.ensures.capacity

pub returns-clause-places : goal.returns-clause-places
returns-clause-places g c = values_of-vacant c.in_ok-with_capacity.field-0 c.in_ok-vec.field-0.items c.args.count (vacant g c)
