use Rattle.std.proofs.Common.{◌≡◌, ℕ, ◌∙◌, false, ap, map, length, List}
use Rattle.std.specs.Prelude.{Option, codes}
use Rattle.toml.specs.Data.{Data, get_member}
use Rattle.toml.specs.View.{view, table_view}
use Rattle.lab_keys.specs.declared.flaw.Flaw.{Flaw}
use Rattle.lab_keys.specs.declared.table_at.TableAt.TheVariants.{Top}
use Rattle.lab_keys.specs.Spots.{KeySpot, spot_of, member_of}
use Rattle.lab_keys.specs.Kinds.{beyond, each_from, array_flaw, table_flaw}
use Rattle.lab_keys.specs.Keys.{present, tables_flaw}
use Rattle.lab_keys.specs.Values.{items_at}
use Rattle.lab_keys.proofs.Walks.{array_seen, counted_stops, counted_goes_on, items_seen}
use Rattle.lab_tables.specs.Scripts.{step_flaw}
use Rattle.lab_tables.proofs.scripts.steps_flaw.Goals as goal

abbrev flaw_in : List Data → ℕ → Data → Option Flaw
flaw_in ds i = table_flaw (member_of (spot_of Top (codes "step")) i) (step_flaw ds i)

pub returns-in-Some-beyond : goal.returns-in-Some-beyond
returns-in-Some-beyond c =
    let at : KeySpot = spot_of Top (codes "step") in
    let doc = table_view c.args.doc.now in
    let values = c.in-Some.array.now.items in
    let flaw : ℕ → Data → Option Flaw = flaw_in (items_at (codes "step") doc) in
    counted_stops at 0 4096 flaw view values c.in-Some-beyond.flaw
    (c.in-Some-beyond.ensures ∙ ap (λ p. beyond p 0 4096 (length c.as_slice-steps.result.now)) c.of-2.ensures
    ∙ ap (λ vs. beyond at 0 4096 (length vs)) c.as_slice-steps.ensures.value)
    ∙ array_seen at 0 4096 flaw (view c.in_ok-value.value.now) values c.in-Some.ensures
    ∙ ap (present at false (array_flaw at 0 4096 flaw)) c.in_ok-value.ensures

pub returns : goal.returns
returns c =
    let at : KeySpot = spot_of Top (codes "step") in
    let doc = table_view c.args.doc.now in
    let values = c.in-Some.array.now.items in
    let flaw : ℕ → Data → Option Flaw = flaw_in (map view values) in
    let items : map view values ≡ items_at (codes "step") doc =
    items_seen (view c.in_ok-value.value.now) values (get_member (codes "step") doc) c.in-Some.ensures c.in_ok-value.ensures in
    c.items_flaw.ensures ∙ ap (λ vs. each_from (flaw_in (map view vs)) 0 (map view vs)) c.as_slice-steps.ensures.value
    ∙ counted_goes_on at 0 4096 flaw view values
    (c.in_default-beyond.ensures ∙ ap (λ p. beyond p 0 4096 (length c.as_slice-steps.result.now)) c.of-2.ensures
    ∙ ap (λ vs. beyond at 0 4096 (length vs)) c.as_slice-steps.ensures.value)
    ∙ array_seen at 0 4096 flaw (view c.in_ok-value.value.now) values c.in-Some.ensures
    ∙ ap (present at false (array_flaw at 0 4096 flaw)) c.in_ok-value.ensures
    ∙ ap (λ ds. tables_flaw Top (codes "step") false 0 4096 (step_flaw ds) doc) items
