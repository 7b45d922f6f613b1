-- A peering stands as it stood where an event is another's, and where its session changes by itself.
use Rattle.std.proofs.Common.{◌≡◌, ◌==◌, ℕ, List, Option, sym, ap, ◌∙◌, subst}
use Rattle.session_value.specs.Sessions.{SessionValue}
use Rattle.graft_model.specs.Setups.{Setup}
use Rattle.graft_model.specs.Parts.{Errand, Live, RouterPart, OperatorPart, World}
use Rattle.graft_model.specs.RouterRows.{RouterTaken, RouterSent}
use Rattle.graft_laws.specs.Phases.{Phase, place_by}
use Rattle.graft_laws.specs.Log.{is_graft_on, LogSays}
use Rattle.graft_laws.specs.Owned.{is_on, Stands}
use Rattle.graft_laws.specs.Moves.{mesh_taken, orders_taken, mesh_sent, reports_sent, RouterMoves}
use Rattle.graft_laws.specs.Life.{SameLine, SameEntries, Rests}
use Rattle.graft_laws.proofs.Phases.{place_for, mesh_for}
use Rattle.graft_laws.proofs.Others.{Untouched, AreOthers, Apart, untouched_by_router, still_in, still_taken, still_sent}
use Rattle.graft_laws.proofs.Logs.{log_still}
use Rattle.graft_laws.proofs.Following.{Followed, places_step, line_by_router, same_entries}

pub stands_still : (setup : Setup) (w v : World) (p : ℕ) (phase : Phase) (s : SessionValue) → Untouched setup p w v → Stands setup w p phase s
    → Stands setup v p phase s
stands_still setup w v p phase s same b = record {
  places = λ r. same.places r ∙ b.places r;
  mesh = λ i j. same.mesh i j ∙ b.mesh i j;
  orders = λ r. same.orders r ∙ b.orders r;
  reports = λ r. same.reports r ∙ b.reports r;
  log = log_still setup p w.operator v.operator phase same.log b.log;
  bounds = b.bounds;
}

pub rests : (setup : Setup) (w v : World) (p : ℕ) (phase : Phase) (s : SessionValue) → Untouched setup p w v → SameLine p w v → SameEntries p w v
    → Stands setup w p phase s → Followed setup w v p phase s
rests setup w v p phase s same line entries b =
    record { next = phase; session = s; stands = stands_still setup w v p phase s same b; change = Rests line entries }

pub rests_by_router : (setup : Setup) (w v : World) (p r : ℕ) (taken : Option RouterTaken)
    (sent : List RouterSent) (part : RouterPart) (phase : Phase) (s : SessionValue)
    → RouterMoves r taken sent part w v → Apart setup p r taken sent (w.router r) part → Stands setup w p phase s → Followed setup w v p phase s
rests_by_router setup w v p r taken sent part phase s m apart = rests setup w v p phase s (untouched_by_router setup p r taken sent part w v m apart)
    (line_by_router w v p r taken sent part m apart.outward_sent apart.inward_taken) (same_entries w v p r part m.router apart.entries)

-- the session is another one, at the same place
pub changed : (setup : Setup) (w v : World) (p r : ℕ) (taken : Option RouterTaken)
    (sent : List RouterSent) (part : RouterPart) (phase : Phase) (s t : SessionValue) (o : Option Errand)
    → RouterMoves r taken sent part w v → AreOthers setup p r taken sent → place_by phase s r ≡ Live s o → part.places p ≡ Live t o
    → Stands setup w p phase s → Stands setup v p phase t
changed setup w v p r taken sent part phase s t o m items there place b = record {
  places = λ x. ap (λ (f : ℕ → RouterPart). (f x).places p) m.router
      ∙ (places_step (x == r) part (w.router x) p (Live t o) (place_by phase s x) place (b.places x) ∙ place_for phase s t o r x there);
  mesh = λ i j. still_in (is_on p) (mesh_taken r taken i j) (v.mesh i j) (w.mesh i j)
      (mesh_sent r sent i j) (m.mesh i j) (items.mesh_taken i j) (items.mesh_sent i j)
      ∙ (b.mesh i j ∙ mesh_for phase s t o r p i j there);
  orders = λ x. still_taken (λ y. y.peering == p) (orders_taken r taken x) (v.orders x) (w.orders x) (m.orders x) (items.orders_taken x) ∙ b.orders x;
  reports = λ x. still_sent (λ y. is_graft_on setup p y.graft) (v.reports x) (w.reports x) (reports_sent r sent x) (m.reports x) (items.reports_sent x)
      ∙ b.reports x;
  log = subst (λ (y : OperatorPart). LogSays setup y p phase) (sym m.operator) b.log;
  bounds = b.bounds;
}
