use Rattle.std.proofs.Common.{sym, ap, ◌∙◌}
use Rattle.std.specs.Option.{ghost_name_of}
use borrow.Follows.Closed.{read_of}
use Rattle.session_places.specs.Keys.{HasKey, value_under, place_list}
use Rattle.session_places.proofs.Calls.{place_list-written}
use Rattle.session_places.proofs.KeyLemmas.{get_or-values_of}
use Rattle.session_places.proofs.Places.get_mut.Goals as goal

pub returns : goal.returns
returns g c =
    let fields = c.self.inside in
    let keys = fields.keys.items in
    let n = c.args.n in
    let key = c.in_ok-key.key in
    let has : HasKey keys n key = cc (c.in_ok-key.ensures, c.deref.ensures.value) in
    rw (← c.self.view_is) (
      λ t. read_of (ghost_name_of c.get_mut.result) (λ (w : g.row.V.Denot).
          place_list-written fields.values keys n key fields.room c.self.invariant has w t) (place_list fields.values keys fields.room),
      record { writes_back = tt; value = c.get_mut.ensures.value ∙ sym (get_or-values_of fields.values keys n ∙ ap (value_under fields.values) has) },
    )
