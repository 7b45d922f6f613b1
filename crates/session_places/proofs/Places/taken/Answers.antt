use Rattle.std.proofs.Common.{sym, ◌∙◌}
use Rattle.session_places.proofs.KeyLemmas.{count-values_of}
use Rattle.session_places.proofs.Places.taken.Goals as goal

pub returns-clause-count : goal.returns-clause-count
returns-clause-count g c =
    let fields = c.self.inside in
    let sound = c.self.invariant in
    rw (← c.self.view_is) (c.len.ensures ∙ sound.counted ∙ sym (count-values_of fields.values fields.keys.items sound.named))
