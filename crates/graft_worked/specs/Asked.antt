-- Three routers, of which the target of a graft asks the third whether it has heard what was told.
use Rattle.std.specs.Prelude.{ℕ, [], ◌∷◌, Some, None}
use Rattle.graft_model.specs.Points.{at}
use Rattle.graft_model.specs.Setups.{Setup}
use Rattle.graft_model.specs.Parts.{Vacant, Live, Word, Owing, Asking, Errand, RouterPart}
use Rattle.graft_worked.specs.Base.{router_a, router_b, base}
use Rattle.graft_worked.specs.Places.{idle_router}
use Rattle.graft_worked.specs.Graft.{session}

-- the session goes from router 0 to router 1, and router 2 is neither
abbrev pub three : Setup
three = record base { routers = router_a ∷ router_b ∷ router_b ∷ [] }

-- the target, with this errand of the session that has landed there
abbrev pub target_with : Errand → RouterPart
target_with errand = record idle_router { places = at (λ p. Vacant) 0 (Live session (Some errand)) }

abbrev pub word_to : ℕ → Word
word_to next = record { graft = 1; source = 0; next = next }

abbrev pub landed : RouterPart
landed = target_with (Owing (word_to 0))

abbrev pub asking : RouterPart
asking = target_with (Asking (word_to 2))

abbrev pub b_asked : RouterPart
b_asked = target_with (Owing (word_to 3))

abbrev pub confirmed : RouterPart
confirmed = record idle_router { places = at (λ p. Vacant) 0 (Live session None) }
