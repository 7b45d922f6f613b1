use Rattle.session_places.proofs.Calls.{HasRoomFor-one, AreSoundKeys-put, place_list-put}
use Rattle.session_places.proofs.Places.put.Goals as goal

pub insert_reserved-requires : goal.insert_reserved-requires
insert_reserved-requires g c =
    let fields = c.self.inside in
    HasRoomFor-one fields.values fields.keys.items fields.room c.self.invariant (rw (← c.self.view_is) at c.requires.room)

pub invariant_of-self : goal.invariant_of-self
invariant_of-self g c =
    let fields = c.self.inside in
    let put = c.insert_reserved.ensures in
    AreSoundKeys-put fields.values c.insert_reserved.new.self fields.keys.items c.args.n c.insert_reserved.result fields.room c.self.invariant
    (rw (← c.self.view_is) at c.requires.vacant) put.was_vacant c.args.value put.updates
    (rw (← c.self.view_is) at c.requires.there) (rw (← c.self.view_is) at c.requires.room) put.len put.capacity

pub returns : goal.returns
returns g c =
    let fields = c.self.inside in
    let put = c.insert_reserved.ensures in
    let vacant = rw (← c.self.view_is) at c.requires.vacant in
    rw (← c.self.view_is) (place_list-put fields.values c.insert_reserved.new.self fields.keys.items c.args.n
    c.insert_reserved.result fields.room c.self.invariant vacant put.was_vacant c.args.value put.updates)
