-- No path that was told on a session has the AS of its remote.
use Rattle.std.proofs.Common.{◌≡◌, ℕ, ◌<◌, false, sym, ◌∙◌, subst}
use Rattle.std.specs.Prelude.{◌≢◌, fold}
use Rattle.std.specs.FinMap as map
use Rattle.bgp_types.specs.declared.attrs.Attrs.{Attrs}
use Rattle.route_policy.specs.Rules.{holds_as}
use Rattle.route_policy.proofs.Avoiding.{told_avoids}
use Rattle.session_value.specs.Sessions.{SessionValue}
use Rattle.graft_model.specs.Decisions.{out_side}
use Rattle.graft_model.specs.Setups.{Setup, IsSetup, peerings_in}
use Rattle.graft_model.specs.Parts.{World}
use Rattle.graft_laws.specs.Avoiding.{AvoidsRemote}
use Rattle.graft_laws.specs.Keeps.{Reached, IsInvariant, Has}
use Rattle.graft_laws.specs.Life.{Acts, Change, Puts, Gets, Ticks}
use Rattle.graft_laws.specs.Phases.{Phase}
use Rattle.graft_laws.proofs.AllRoutes.{AllRoutes, all_of_none, removes, announces, unclosed}
use Rattle.graft_laws.proofs.Runs.{always_has}

-- these attributes have a path without the AS
abbrev Avoids : ℕ → Attrs → Type 0
Avoids remote_as attrs = holds_as attrs.path remote_as ≡ false

abbrev AllAvoid : Setup → SessionValue → Type 0
AllAvoid setup session = setup.home_as ≢ session.config.remote_as → AllRoutes (Avoids session.config.remote_as) session.adj_rib_out

avoids_then : {setup : Setup} {w v : World} {p : ℕ} {phase next : Phase} {s t : SessionValue} → Change setup w v p phase s next t
    → AllAvoid setup s → AllAvoid setup t
avoids_then {setup = setup} {w = w} {s = s} (Acts r errand there (Puts update puts told line entries)) all =
    subst (AllAvoid setup) (sym puts.effect) (λ differ.
    let P : Attrs → Type 0 = Avoids s.config.remote_as in
    announces P update.attrs
    (λ attrs e. told_avoids setup.home_as (out_side setup r s.config) told.prefix (map.get (w.router r).best told.prefix) attrs differ
    (sym told.attrs ∙ e))
    update.nlri (fold map.remove s.adj_rib_out update.withdrawn) (removes P update.withdrawn s.adj_rib_out (all differ)))
avoids_then {setup = setup} {s = s} (Acts r errand there (Gets bytes gets line entries)) all =
    subst (AllAvoid setup) (sym gets.effect) (λ differ. unclosed (Avoids s.config.remote_as) gets.next s.adj_rib_out (all differ))
avoids_then {setup = setup} {s = s} (Acts r errand there (Ticks round passes line entries)) all =
    subst (AllAvoid setup) (sym passes.effect) (λ differ. unclosed (Avoids s.config.remote_as) passes.next s.adj_rib_out (all differ))
avoids_then _ all = all

keeps_avoiding : (setup : Setup) → IsInvariant setup (AvoidsRemote setup)
keeps_avoiding setup = record {
  first = λ p config is. record { avoids = λ differ. all_of_none (Avoids config.remote_as) };
  step = λ before after p phase next s t reached l stands then change is. record { avoids = avoids_then change is.avoids };
}

pub always_avoids : (setup : Setup) (w : World) (p : ℕ) → IsSetup setup → Reached setup w → p < peerings_in setup → Has setup (AvoidsRemote setup) w p
always_avoids setup w p ok reached below = always_has setup (AvoidsRemote setup) ok (keeps_avoiding setup) w reached p below
