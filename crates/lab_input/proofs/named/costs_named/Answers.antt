use Rattle.std.proofs.Common.{◌≡◌, ◌<◌, ◌∙◌, Bool, not, cond, true, [], ◌∷◌, map, take, length, sym, ap, arith}
use Rattle.std.specs.Prelude.{codes}
use Rattle.std.specs.HashSet.{contains}
use Rattle.std.specs.List.{list_any}
use Rattle.toml.specs.View.{table_view}
use Rattle.lab_keys.specs.Kinds.{first_of}
use Rattle.lab_keys.specs.Values.{text_at}
use Rattle.lab_input.specs.declared.named.Ends.{Ends}
use Rattle.lab_input.specs.contracts.named.EndsPartialEq.TheImpl as ends_eq
use Rattle.lab_input.specs.Names.{each_after, cost_named, unknown, repeated_if}
use Rattle.lab_input.proofs.Afters.{after_goes_on, after_stops, any_next, again_is}
use Rattle.lab_input.proofs.Keys.{ends_key, has_ends}
use Rattle.lab_input.proofs.named.costs_named.Goals as goal

pub returns-in-Some : goal.returns-in-Some
returns-in-Some c =
    let routers = c.args.routers.now in
    let t = table_view c.table-item.result.now in
    let text = text_at (codes "to") t in
    let tables = c.args.tables.now in
    let i = c.loop-table.table-index in
    let key : Ends = ends_key routers t in
    let had : contains (ends_eq.ghosts).eq c.loop-table.seen c.ends_of.result ≡ list_any (has_ends routers key) (map (λ u. table_view u.now) (take i tables)) =
    ap (contains (ends_eq.ghosts).eq c.loop-table.seen) c.ends_of.ensures ∙ c.loop-table.invariant.seen key in
    let again : not c.in_ok-is_new.is_new ≡ list_any (has_ends routers key) (map (λ u. table_view u.now) (take i tables)) =
    again_is _ _ _ c.in_ok-is_new.ensures.added had in
    after_stops (cost_named routers) (λ u. table_view u.now) tables i c.table-item.result (omega arith) c.table-item.is c.in-Some.bad
    (each_after (cost_named routers) [] (map (λ u. table_view u.now) tables)) c.loop-table.invariant.walk
    (sym c.in-Some.is ∙ c.in_ok-found.ensures
    ∙ ap (λ (a : Bool). first_of (unknown routers (text_at (codes "from") t) ∷ unknown routers text ∷ repeated_if a text ∷ [])) again)

pub loop-table-preserved : goal.loop-table-preserved
loop-table-preserved c =
    let routers = c.args.routers.now in
    let t = table_view c.table-item.result.now in
    let text = text_at (codes "to") t in
    let tables = c.args.tables.now in
    let i = c.loop-table.table-index in
    let within : i < length tables = omega arith in
    let key : Ends = ends_key routers t in
    let had : contains (ends_eq.ghosts).eq c.loop-table.seen c.ends_of.result ≡ list_any (has_ends routers key) (map (λ u. table_view u.now) (take i tables)) =
    ap (contains (ends_eq.ghosts).eq c.loop-table.seen) c.ends_of.ensures ∙ c.loop-table.invariant.seen key in
    let again : not c.in_ok-is_new.is_new ≡ list_any (has_ends routers key) (map (λ u. table_view u.now) (take i tables)) =
    again_is _ _ _ c.in_ok-is_new.ensures.added had in
    record {
      seen = λ ends. any_next (has_ends routers ends) (λ u. table_view u.now) tables i c.table-item.result within c.table-item.is _ _
          (c.in_ok-is_new.ensures.updates.0 ends
          ∙ ap (λ (k : Ends). cond ((ends_eq.ghosts).eq k ends) true (contains (ends_eq.ghosts).eq c.loop-table.seen ends)) c.ends_of.ensures)
          (c.loop-table.invariant.seen ends);
      walk = after_goes_on (cost_named routers) (λ u. table_view u.now) tables i c.table-item.result within c.table-item.is
          (each_after (cost_named routers) [] (map (λ u. table_view u.now) tables)) c.loop-table.invariant.walk
          (sym c.in-None.is ∙ c.in_ok-found.ensures
          ∙ ap (λ (a : Bool). first_of (unknown routers (text_at (codes "from") t) ∷ unknown routers text ∷ repeated_if a text ∷ [])) again);
    }
