use Rattle.std.proofs.Common.{◌≡◌, ◌++◌, ◌∷◌, [], ℕ, List, Option, Some, None, map, append-nil, sym, ap, ◌∙◌}
use Rattle.std.specs.Prelude.{slice_get}
use Rattle.std.specs.FinMap as table
use Rattle.std.specs.List.{flat_map, range_with_len}
use Rattle.std.specs.Option.{option_copied}
use Rattle.session_value.specs.Sets.{BestRoutes, Tellings}
use Rattle.graft_model.specs.Parts.{RouterPart}
use Rattle.graft_model.specs.Setups.{Setup, routers_in}
use Rattle.router_core.specs.declared.router as router_types
use Rattle.router_core.specs.Routers.{part_of_router}
use Rattle.lab_report.specs.declared.lab.BestEntry.{BestEntry}
use Rattle.lab_report.specs.declared.lab.RouterTable.{RouterTable}
use Rattle.lab_report.specs.declared.lab.ToldEntry.{ToldEntry}
use Rattle.lab_seen.specs.Found.{router_in, router_tables_of}
use Rattle.lab_seen.specs.Seen.{best_entry, told_entry, router_table_of}
use Rattle.lab_seen.proofs.Ranges.{one_number_more}
use Rattle.lab_seen.proofs.seen.tables_of.Goals.{in-Some+in_ok-table_of+in_ok-push, in_default}
use Rattle.lab_seen.proofs.seen.tables_of.Goals as goal

-- a table that is made of what a router's routes are is the router's
same_table : (setup : Setup) (part : RouterPart) (routers : ℕ) (seen : RouterTable) (best : BestRoutes) (tellings : ℕ → Tellings)
    → routers_in setup ≡ routers → best ≡ part.best → tellings ≡ part.tellings
    → seen.best ≡ map best_entry (table.entries best)
    → seen.heard ≡ flat_map (λ q. map (told_entry q) (table.entries (tellings q))) (range_with_len 0 routers) → seen ≡ router_table_of setup part
same_table setup part routers seen best tellings many same_best same_tellings best_is heard_is =
    let all : List BestEntry = map best_entry (table.entries part.best) in
    let told : (ℕ → Tellings) → ℕ → List ToldEntry = λ t q. map (told_entry q) (table.entries (t q)) in
    ap (λ (b : List BestEntry). record { best = b; heard = seen.heard }) (best_is ∙ ap (λ (b : BestRoutes). map best_entry (table.entries b)) same_best)
    ∙ ap (λ (h : List ToldEntry). record { best = all; heard = h }) (heard_is ∙ ap (λ (t : ℕ → Tellings). flat_map (told t) (range_with_len 0 routers))
    same_tellings ∙ ap (λ n. flat_map (told part.tellings) (range_with_len 0 n)) (sym many))

pub loop-number-preserved : goal.loop-number-preserved
loop-number-preserved c = λ setup many.
    let at = c.loop-number in
    let tables : ℕ → List RouterTable = λ r. router_tables_of setup (router_in (slice_get c.args.actors.now r)) in
    let so_far = flat_map tables (range_with_len 0 at.number) in
    elim c.match-router_at.branch [
      | in-Some+in_ok-table_of+in_ok-push w ↦
          let router = w.in-Some.router.now in
          let found : router_in (slice_get c.args.actors.now at.number) ≡ Some router = sym c.router_at.ensures ∙ ap option_copied w.in-Some.is in
          let seen = w.in_ok-table_of.field-0 in
          let same : seen ≡ router_table_of setup (part_of_router router) =
          same_table setup (part_of_router router) c.args.routers seen w.rib.result.now.best _ many w.rib.ensures.best
          w.rib.ensures.tellings w.in_ok-table_of.ensures.best w.in_ok-table_of.ensures.heard in
          w.tables-is
          ∙ w.in_ok-push.ensures.ok
          ∙ ap (λ (t : RouterTable). at.tables ++ t ∷ []) same
          ∙ ap (λ (ts : List RouterTable). ts ++ router_table_of setup (part_of_router router) ∷ []) (at.invariant setup many)
          ∙ ap (λ (o : Option router_types.Router.Router). so_far ++ router_tables_of setup o) (sym found)
          ∙ sym (one_number_more tables at.number)
      | in_default w ↦
          let none : router_in (slice_get c.args.actors.now at.number) ≡ None = sym c.router_at.ensures ∙ ap option_copied w.in_default.is in
          w.tables-is
          ∙ at.invariant setup many
          ∙ sym (append-nil so_far)
          ∙ ap (λ (o : Option router_types.Router.Router). so_far ++ router_tables_of setup o) (sym none)
          ∙ sym (one_number_more tables at.number)
    ]
