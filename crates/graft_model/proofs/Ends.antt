-- What is due on a peering whose session closes, or is established.
use Rattle.std.proofs.Common.{◌≡◌, ℕ, ◌==◌, Bool, true, false, Option, sym, ap, ◌∙◌, subst, cond, arith}
use Rattle.std.specs.Prelude.{is_some}
use Rattle.std.proofs.lemmas.Bool.Decides.{nat_tests}
use Rattle.std.specs.FinMap as map
use Rattle.bgp_types.specs.declared.message.SessionState.{SessionState}
use Rattle.bgp_types.specs.declared.message.SessionState.TheVariants.{OpenSent, OpenConfirm, Established, Closed}
use Rattle.bgp_types.specs.Prefixes.{PrefixValue}
use Rattle.session_value.specs.Sessions.{SessionValue, state}
use Rattle.session_value.specs.Sets.{BestRoutes, Prefixes, has}
use Rattle.graft_model.specs.Points.{at}
use Rattle.graft_model.specs.Setups.{Setup}
use Rattle.graft_model.specs.Parts.{Errand, Live, RouterPart}
use Rattle.graft_model.specs.RouterRows.{DueThen, Follows}
use Rattle.graft_model.proofs.Same.{same_session}

closed_due : (from : SessionState) (best : BestRoutes) (before after : Prefixes) (x : PrefixValue) → DueThen from Closed best before after → has after x ≡ false
closed_due OpenSent best before after x due = due x
closed_due OpenConfirm best before after x due = due x
closed_due Established best before after x due = due x
closed_due Closed best before after x due = due x

here : {A : Type 0} (f : ℕ → A) (p : ℕ) (v : A) → at f p v p ≡ v
here f p v = let e : (p == p) ≡ true = grind (arith, nat_tests) in ap (λ (t : Bool). cond t v (f p)) e

module _ (setup : Setup) (r p : ℕ) (before after : RouterPart) (session next : SessionValue)
    (order : Option Errand) (follows : Follows setup r p before session next order after) where
  live_then : (other : SessionValue) (stored : Option Errand) → after.places p ≡ Live other stored → next ≡ other
  live_then other stored is =
      same_session next other order stored (sym (ap (λ (v : RouterPart). v.places p) follows.effect ∙ here before.places p (Live next order)) ∙ is)

  pub due_once_closed : (other : SessionValue) (stored : Option Errand) (x : PrefixValue) → after.places p ≡ Live other stored → state other ≡ Closed
      → has (after.due_out p) x ≡ false
  due_once_closed other stored x is closed =
      closed_due (state session) before.best (before.due_out p) (after.due_out p) x
      (subst (λ (to : SessionState). DueThen (state session) to before.best (before.due_out p) (after.due_out p))
      (ap state (live_then other stored is) ∙ closed) follows.due)

  pub due_once_established : (other : SessionValue) (stored : Option Errand) (x : PrefixValue) → state session ≡ OpenConfirm
      → after.places p ≡ Live other stored → state other ≡ Established
      → has (after.due_out p) x ≡ is_some (map.get before.best x)
  due_once_established other stored x confirmed is up =
      subst (λ (from : SessionState). DueThen from Established before.best (before.due_out p) (after.due_out p)) confirmed
      (subst (λ (to : SessionState). DueThen (state session) to before.best (before.due_out p) (after.due_out p))
      (ap state (live_then other stored is) ∙ up) follows.due) x
