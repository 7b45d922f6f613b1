-- What is sent for a session that has landed: the other routers are asked, one after another, and then the source is told.
use Rattle.std.specs.Prelude.{ℕ, ◌≡◌, ◌⊎◌, ◌+◌, Option, Some, None}
use Rattle.graft_steps.specs.Landings.{Landing, IsNextToAsk, AreAllAsked}
use Rattle.bgp_session.specs.Running.{RunningSession}
use Rattle.router_core.specs.declared.place.Errand.TheVariants.{Leaving, Owing, Asking}
use Rattle.router_core.specs.declared.place.Place.{Place}
use Rattle.router_core.specs.declared.place.Place.TheVariants.{Live, Shadow}
use Rattle.router_core.specs.declared.stages.confirm.Word.{Word}
use Rattle.router_core.specs.declared.stages.confirm.Word.TheVariants.{Ask, Confirm}

-- The next of `routers` routers is to be asked, and the session then waits for its answer.
abbrev pub AsksNext : (routers : ℕ) → RunningSession → Landing → Option Word → Option Place → Type 0
AsksNext routers s landing answer new = (q : ℕ) × IsNextToAsk landing.ids.source.0 landing.ids.target.0 routers landing.next q
    × (answer ≡ Some (Ask landing.ids q)) × (new ≡ Some (Live s (Some (Asking (record landing { next = q })))))

-- No router is left to ask: the source is to be told, and then the session has no errand.
abbrev pub TellsSource : (routers : ℕ) → RunningSession → Landing → Option Word → Option Place → Type 0
TellsSource routers s landing answer new = AreAllAsked landing.ids.source.0 landing.ids.target.0 routers landing.next
    × (answer ≡ Some (Confirm landing.ids)) × (new ≡ Some (Live s None))

-- What is to be sent is taken from a place. Where nothing is to be sent, the place stays the same.
abbrev pub TakesWord : (routers : ℕ) → Option Place → Option Word → Option Place → Type 0
TakesWord routers None answer new = (answer ≡ None) × (new ≡ None)
TakesWord routers (Some (Live s None)) answer new = (answer ≡ None) × (new ≡ Some (Live s None))
TakesWord routers (Some (Live s (Some (Leaving ids)))) answer new = (answer ≡ None) × (new ≡ Some (Live s (Some (Leaving ids))))
TakesWord routers (Some (Live s (Some (Owing landing)))) answer new = AsksNext routers s landing answer new ⊎ TellsSource routers s landing answer new
TakesWord routers (Some (Live s (Some (Asking landing)))) answer new = (answer ≡ None) × (new ≡ Some (Live s (Some (Asking landing))))
TakesWord routers (Some (Shadow away)) answer new = (answer ≡ None) × (new ≡ Some (Shadow away))

-- ---- answers

-- The answer of this router in this graft is pending.
abbrev pub IsAwaited : Landing → (k q : ℕ) → Type 0
IsAwaited landing k q = (landing.ids.graft ≡ k) × (landing.next ≡ q)

-- A router has answered in a graft. If that answer is pending, the next router may be asked. All else stays the same.
abbrev pub HearsAnswer : (k q : ℕ) → Option Place → Option Place → Type 0
HearsAnswer k q None new = new ≡ None
HearsAnswer k q (Some (Live s None)) new = new ≡ Some (Live s None)
HearsAnswer k q (Some (Live s (Some (Leaving ids)))) new = new ≡ Some (Live s (Some (Leaving ids)))
HearsAnswer k q (Some (Live s (Some (Owing landing)))) new = new ≡ Some (Live s (Some (Owing landing)))
HearsAnswer k q (Some (Live s (Some (Asking landing)))) new =
    (IsAwaited landing k q × (new ≡ Some (Live s (Some (Owing (record landing { next = landing.next + 1 }))))))
    ⊎ ((¬ IsAwaited landing k q) × (new ≡ Some (Live s (Some (Asking landing)))))
HearsAnswer k q (Some (Shadow away)) new = new ≡ Some (Shadow away)
