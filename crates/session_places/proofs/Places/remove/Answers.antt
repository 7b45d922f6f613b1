use Rattle.std.proofs.Common.{None, is_some, sym, ap, ◌∙◌}
use Rattle.std.specs.Option.{IsSome}
use Rattle.std.proofs.lemmas.List.{get_or_read, map-set}
use Rattle.session_places.specs.Keys.{HasKey, value_under}
use Rattle.session_places.proofs.Calls.{OnSome-then, AreSoundKeys-removed, place_list-removed}
use Rattle.session_places.proofs.Places.remove.Given.{Over}
use Rattle.session_places.proofs.Places.remove.Goals as goal

pub returns-in_err-key-clause-vacant : goal.returns-in_err-key-clause-vacant
returns-in_err-key-clause-vacant g c =
    let fields = c.self.inside in
    rw (c.take.ensures.after, ← c.self.view_is)
    (λ i. record { places = map-set (value_under fields.values) fields.keys.items c.args.n None i; room = fields.room })

has_key : (g : Over) (c : goal.After-try_remove g) → HasKey c.self.inside.keys.items c.args.n c.in_ok-key.key
has_key g c =
    let found = c.in_ok-get_mut in
    sym (get_or_read c.self.inside.keys.items c.args.n found.field-0.now found.ensures.item.3.0 found.ensures.value None) ∙ sym c.in_ok-key.ensures.value

pub invariant_of-self-2 : goal.invariant_of-self-2
invariant_of-self-2 g c =
    let fields = c.self.inside in
    let out = c.try_remove.ensures in
    let taken : IsSome c.try_remove.result = ap is_some out.value ∙ c.self.invariant.named c.args.n c.in_ok-key.key (has_key g c) in
    rw c.take.ensures.after (AreSoundKeys-removed fields.values c.try_remove.new.self fields.keys.items c.args.n c.in_ok-key.key
    fields.room c.self.invariant (has_key g c) out.updates (OnSome-then c.try_remove.result _ taken out.len) out.capacity)

pub returns-clause-vacant : goal.returns-clause-vacant
returns-clause-vacant g c =
    let fields = c.self.inside in
    rw (c.take.ensures.after, ← c.self.view_is) (place_list-removed fields.values c.try_remove.new.self fields.keys.items
    c.args.n c.in_ok-key.key fields.room c.self.invariant (has_key g c) c.try_remove.ensures.updates)
