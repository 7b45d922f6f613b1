use Rattle.std.proofs.Common.{ℕ, ◌∙◌, sym, ap, map}
use Rattle.std.specs.Prelude.{Option}
use Rattle.toml.specs.Data.{Data}
use Rattle.toml.specs.View.{view}
use Rattle.lab_keys.specs.declared.flaw.Flaw.{Flaw}
use Rattle.lab_keys.specs.Spots.{KeySpot, spot_of, member_of}
use Rattle.lab_keys.specs.Kinds.{kind_flaw, bounded_array_flaw}
use Rattle.lab_keys.specs.Keys.{value_flaw}
use Rattle.lab_keys.proofs.Walks.{array_seen}
use Rattle.lab_keys.proofs.keys.value_flaw.Goals as goal

pub returns : goal.returns
returns c =
    let at : KeySpot = spot_of c.args.at c.args.key.now in
    let flaw : ℕ → Data → Option Flaw = λ i. kind_flaw c.args.kind (member_of at i) in
    let low = c.in-Some.counts.low in
    let high = c.in-Some.counts.high in
    c.array_flaw.ensures ∙ ap (λ vs. bounded_array_flaw at low high flaw (map view vs)) c.as_slice.ensures.value
    ∙ array_seen at low high flaw (view c.args.value.now) c.in-Some-as_array.array.now.items c.in-Some-as_array.ensures
    ∙ ap (λ counts. value_flaw counts c.args.kind at (view c.args.value.now)) (sym c.in-Some.is)
