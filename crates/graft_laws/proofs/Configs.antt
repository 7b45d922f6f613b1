-- No event changes what a session began with.
use Rattle.std.proofs.Common.{◌≡◌, ℕ, ◌<◌, Some, refl, sym, ap, ◌∙◌}
use Rattle.session_value.specs.Sessions.{SessionValue}
use Rattle.session_value.specs.declared.config.SessionConfig.{SessionConfig}
use Rattle.graft_model.specs.Setups.{Setup, IsSetup, peerings_in}
use Rattle.graft_model.specs.Parts.{World}
use Rattle.graft_laws.specs.Phases.{Phase}
use Rattle.graft_laws.specs.Life.{Acts, Change, Puts, Gets, Ticks}
use Rattle.graft_laws.specs.Configs.{HasOwnConfig}
use Rattle.graft_laws.specs.Keeps.{Reached, IsInvariant, Has}
use Rattle.graft_laws.proofs.Runs.{always_has}

-- A worked example of a further invariant: what each change does to it, and one call for all runs.
pub same_config : {setup : Setup} {w v : World} {p : ℕ} {phase next : Phase} {s t : SessionValue} → Change setup w v p phase s next t → t.config ≡ s.config
same_config (Acts r errand there (Puts update puts told line entries)) = ap (λ (x : SessionValue). x.config) puts.effect
same_config (Acts r errand there (Gets bytes gets line entries)) = ap (λ (x : SessionValue). x.config) gets.effect
same_config (Acts r errand there (Ticks round passes line entries)) = ap (λ (x : SessionValue). x.config) passes.effect
same_config _ = refl

keeps_own : (setup : Setup) → IsInvariant setup (HasOwnConfig setup)
keeps_own setup = record {
  first = λ p config is. record { config = is };
  step = λ before after p phase next s t reached l stands then change own.
      record { config = own.config ∙ ap (λ (c : SessionConfig). Some c) (sym (same_config change)) };
}

pub always_own : (setup : Setup) → IsSetup setup → (w : World) → Reached setup w → (p : ℕ) → p < peerings_in setup → Has setup (HasOwnConfig setup) w p
always_own setup ok = always_has setup (HasOwnConfig setup) ok (keeps_own setup)
