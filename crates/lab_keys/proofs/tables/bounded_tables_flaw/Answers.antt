use Rattle.std.proofs.Common.{ℕ, ◌∙◌, ap, map, length}
use Rattle.std.specs.Prelude.{Option}
use Rattle.toml.specs.Data.{Data}
use Rattle.toml.specs.View.{view}
use Rattle.lab_keys.specs.declared.flaw.Flaw.{Flaw}
use Rattle.lab_keys.specs.Spots.{KeySpot, spot_of, member_of}
use Rattle.lab_keys.specs.Kinds.{beyond, each_from, array_flaw, table_flaw}
use Rattle.lab_keys.specs.Keys.{present}
use Rattle.lab_keys.proofs.Walks.{array_seen, counted_stops, counted_goes_on}
use Rattle.lab_keys.proofs.tables.bounded_tables_flaw.Goals as goal

pub returns-in-Some-beyond : goal.returns-in-Some-beyond
returns-in-Some-beyond g c =
    let at : KeySpot = spot_of c.args.at.table c.args.key.now in
    let flaw : ℕ → Data → Option Flaw = λ i. table_flaw (member_of at i) (g.K.TableKind.flaw_of c.args.kind.now i) in
    let low = c.args.at.low in
    let high = c.args.at.high in
    let values = c.in-Some-as_array.array.now.items in
    counted_stops at low high flaw view values c.in-Some-beyond.flaw
    (c.in-Some-beyond.ensures ∙ ap (λ p. beyond p low high (length c.as_slice-values.result.now)) c.of-spot.ensures
    ∙ ap (λ vs. beyond at low high (length vs)) c.as_slice-values.ensures.value)
    ∙ array_seen at low high flaw (view c.in-Some.value.now) values c.in-Some-as_array.ensures
    ∙ ap (present at c.args.at.needed (array_flaw at low high flaw)) c.in-Some.ensures

pub returns : goal.returns
returns g c =
    let at : KeySpot = spot_of c.args.at.table c.args.key.now in
    let flaw : ℕ → Data → Option Flaw = λ i. table_flaw (member_of at i) (g.K.TableKind.flaw_of c.args.kind.now i) in
    let low = c.args.at.low in
    let high = c.args.at.high in
    let values = c.in-Some-as_array.array.now.items in
    c.items_flaw.ensures ∙ ap (λ vs. each_from flaw 0 (map view vs)) c.as_slice-values.ensures.value
    ∙ counted_goes_on at low high flaw view values (c.in_default-beyond.ensures ∙ ap (λ p. beyond p low high (length c.as_slice-values.result.now))
    c.of-spot.ensures ∙ ap (λ vs. beyond at low high (length vs)) c.as_slice-values.ensures.value)
    ∙ array_seen at low high flaw (view c.in-Some.value.now) values c.in-Some-as_array.ensures
    ∙ ap (present at c.args.at.needed (array_flaw at low high flaw)) c.in-Some.ensures
