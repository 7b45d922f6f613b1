use Rattle.std.proofs.Common.{◌≡◌, ◌<◌, ◌∙◌, Bool, not, cond, true, [], ◌∷◌, map, take, length, sym, ap, arith}
use Rattle.std.specs.Prelude.{codes}
use Rattle.std.specs.HashSet.{contains}
use Rattle.std.specs.List.{list_any}
use Rattle.toml.specs.View.{table_view}
use Rattle.lab_keys.specs.Kinds.{first_of}
use Rattle.lab_keys.specs.Values.{text_at}
use Rattle.lab_tables.specs.Peerings.{fault_of}
use Rattle.lab_input.specs.declared.faults.SegmentKey.{SegmentKey}
use Rattle.lab_input.specs.contracts.faults.SegmentKeyPartialEq.TheImpl as key_eq
use Rattle.lab_input.specs.Names.{each_after, fault_named, unknown, repeated_if}
use Rattle.lab_input.proofs.Afters.{after_goes_on, after_stops, any_next, again_is}
use Rattle.lab_input.proofs.Keys.{segment_key, has_segment, same_key}
use Rattle.lab_input.proofs.faults.faults_named.Goals as goal

pub returns-in-Some : goal.returns-in-Some
returns-in-Some c =
    let peerings = c.args.peerings.now in
    let t = table_view c.table-item.result.now in
    let text = text_at (codes "peering") t in
    let tables = c.args.tables.now in
    let i = c.loop-table.table-index in
    let key : SegmentKey = segment_key (fault_of peerings t) in
    let is : c.segment_of.result ≡ key = c.segment_of.ensures ∙ ap segment_key c.fault_of-fault.ensures in
    let had : contains (key_eq.ghosts).eq c.loop-table.seen c.segment_of.result
    ≡ list_any (has_segment peerings key) (map (λ u. table_view u.now) (take i tables)) =
    ap (contains (key_eq.ghosts).eq c.loop-table.seen) is ∙ c.loop-table.invariant.seen key in
    let again : not c.in_ok-is_new.is_new ≡ list_any (has_segment peerings key) (map (λ u. table_view u.now) (take i tables)) =
    again_is _ _ _ c.in_ok-is_new.ensures.added had in
    after_stops (fault_named peerings) (λ u. table_view u.now) tables i c.table-item.result (omega arith) c.table-item.is c.in-Some.bad
    (each_after (fault_named peerings) [] (map (λ u. table_view u.now) tables)) c.loop-table.invariant.walk
    (sym c.in-Some.is ∙ c.in_ok-found.ensures ∙ ap (λ (a : Bool). first_of (unknown peerings text ∷ repeated_if a text ∷ [])) again)

pub loop-table-preserved : goal.loop-table-preserved
loop-table-preserved c =
    let peerings = c.args.peerings.now in
    let t = table_view c.table-item.result.now in
    let text = text_at (codes "peering") t in
    let tables = c.args.tables.now in
    let i = c.loop-table.table-index in
    let within : i < length tables = omega arith in
    let key : SegmentKey = segment_key (fault_of peerings t) in
    let is : c.segment_of.result ≡ key = c.segment_of.ensures ∙ ap segment_key c.fault_of-fault.ensures in
    let had : contains (key_eq.ghosts).eq c.loop-table.seen c.segment_of.result
    ≡ list_any (has_segment peerings key) (map (λ u. table_view u.now) (take i tables)) =
    ap (contains (key_eq.ghosts).eq c.loop-table.seen) is ∙ c.loop-table.invariant.seen key in
    let again : not c.in_ok-is_new.is_new ≡ list_any (has_segment peerings key) (map (λ u. table_view u.now) (take i tables)) =
    again_is _ _ _ c.in_ok-is_new.ensures.added had in
    record {
      seen = λ other. any_next (has_segment peerings other) (λ u. table_view u.now) tables i c.table-item.result within c.table-item.is _ _
          (c.in_ok-is_new.ensures.updates.0 other
          ∙ ap (λ (k : SegmentKey). cond ((key_eq.ghosts).eq k other) true (contains (key_eq.ghosts).eq c.loop-table.seen other)) is
          ∙ ap (λ (b : Bool). cond b true (contains (key_eq.ghosts).eq c.loop-table.seen other)) (same_key (fault_of peerings t) other))
          (c.loop-table.invariant.seen other);
      walk = after_goes_on (fault_named peerings) (λ u. table_view u.now) tables i c.table-item.result within c.table-item.is
          (each_after (fault_named peerings) [] (map (λ u. table_view u.now) tables)) c.loop-table.invariant.walk
          (sym c.in-None.is ∙ c.in_ok-found.ensures ∙ ap (λ (a : Bool). first_of (unknown peerings text ∷ repeated_if a text ∷ [])) again);
    }
