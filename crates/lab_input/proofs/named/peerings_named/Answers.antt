use Rattle.std.proofs.Common.{◌≡◌, ◌==◌, ◌<◌, ◌∙◌, ℕ, List, Bool, not, cond, true, [], map, take, length, nat_eq, sym, ap, arith}
use Rattle.std.specs.Prelude.{codes}
use Rattle.std.specs.HashSet.{contains, contains_by}
use Rattle.std.specs.List.{list_any}
use Rattle.std.specs.Str.{bytes_eq}
use Rattle.toml.specs.View.{table_view}
use Rattle.lab_keys.specs.Values.{text_at}
use Rattle.lab_input.specs.Names.{each_after, peering_named, peering_fault, remote_address_of}
use Rattle.lab_input.proofs.Afters.{after_goes_on, after_stops, any_next, again_is}
use Rattle.lab_input.proofs.named.peerings_named.Goals as goal

pub returns-in-Some : goal.returns-in-Some
returns-in-Some c =
    let routers = c.args.routers.now in
    let t = table_view c.table-item.result.now in
    let tables = c.args.tables.now in
    let i = c.loop-table.table-index in
    let before = map (λ u. table_view u.now) (take i tables) in
    let called : not c.in_ok-new_name.new_name ≡ list_any (λ u. bytes_eq (text_at (codes "name") u) (text_at (codes "name") t)) before =
    again_is _ _ _ c.in_ok-new_name.ensures.added (c.loop-table.invariant.called c.text_at.result
    ∙ ap (λ (x : List ℕ). list_any (λ u. bytes_eq (text_at (codes "name") u) x) before) c.text_at.ensures) in
    let remote : not c.in_ok-new_remote.new_remote ≡ list_any (λ u. remote_address_of u == remote_address_of t) before =
    again_is _ _ _ c.in_ok-new_remote.ensures.added
    (c.loop-table.invariant.remotes c.remote_of.result ∙ ap (λ (x : ℕ). list_any (λ u. remote_address_of u == x) before) c.remote_of.ensures) in
    after_stops (peering_named routers) (λ u. table_view u.now) tables i c.table-item.result (omega arith) c.table-item.is c.in-Some.bad
    (each_after (peering_named routers) [] (map (λ u. table_view u.now) tables)) c.loop-table.invariant.walk
    (sym c.in-Some.is ∙ c.in_ok-found.ensures
    ∙ ap (λ (a : Bool). peering_fault routers a (not c.in_ok-new_remote.new_remote) t) called
    ∙ ap (λ (a : Bool). peering_fault routers (list_any (λ u. bytes_eq (text_at (codes "name") u) (text_at (codes "name") t)) before) a t) remote)

pub loop-table-preserved : goal.loop-table-preserved
loop-table-preserved c =
    let routers = c.args.routers.now in
    let t = table_view c.table-item.result.now in
    let tables = c.args.tables.now in
    let i = c.loop-table.table-index in
    let within : i < length tables = omega arith in
    let before = map (λ u. table_view u.now) (take i tables) in
    let called : not c.in_ok-new_name.new_name ≡ list_any (λ u. bytes_eq (text_at (codes "name") u) (text_at (codes "name") t)) before =
    again_is _ _ _ c.in_ok-new_name.ensures.added (c.loop-table.invariant.called c.text_at.result
    ∙ ap (λ (x : List ℕ). list_any (λ u. bytes_eq (text_at (codes "name") u) x) before) c.text_at.ensures) in
    let remote : not c.in_ok-new_remote.new_remote ≡ list_any (λ u. remote_address_of u == remote_address_of t) before =
    again_is _ _ _ c.in_ok-new_remote.ensures.added
    (c.loop-table.invariant.remotes c.remote_of.result ∙ ap (λ (x : ℕ). list_any (λ u. remote_address_of u == x) before) c.remote_of.ensures) in
    record {
      called = λ text. any_next (λ u. bytes_eq (text_at (codes "name") u) text.now)
          (λ u. table_view u.now) tables i c.table-item.result within c.table-item.is _ _
          (c.in_ok-new_name.ensures.updates.0 text
          ∙ ap (λ (x : List ℕ). cond (bytes_eq x text.now) true (contains_by (λ k. bytes_eq text.now k.now) c.loop-table.called)) c.text_at.ensures)
          (c.loop-table.invariant.called text);
      remotes = λ address. any_next (λ u. remote_address_of u == address) (λ u. table_view u.now) tables i c.table-item.result within c.table-item.is _ _
          (c.in_ok-new_remote.ensures.updates.0 address
          ∙ ap (λ (x : ℕ). cond (x == address) true (contains nat_eq c.loop-table.remotes address)) c.remote_of.ensures)
          (c.loop-table.invariant.remotes address);
      walk = after_goes_on (peering_named routers) (λ u. table_view u.now) tables i c.table-item.result within c.table-item.is
          (each_after (peering_named routers) [] (map (λ u. table_view u.now) tables)) c.loop-table.invariant.walk
          (sym c.in-None.is ∙ c.in_ok-found.ensures
          ∙ ap (λ (a : Bool). peering_fault routers a (not c.in_ok-new_remote.new_remote) t) called
          ∙ ap (λ (a : Bool). peering_fault routers (list_any (λ u. bytes_eq (text_at (codes "name") u) (text_at (codes "name") t)) before) a t) remote);
    }
