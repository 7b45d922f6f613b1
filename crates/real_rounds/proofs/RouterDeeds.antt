-- What the deeds of a router's call tell of its events: what is taken is welcome, and in a turn nobody lands.
use Rattle.std.proofs.Common.{◌≡◌, ◌≢◌, ℕ, List, [], ◌∷◌, refl, sym, subst, ◌∙◌, inl, inr, arith}
use Rattle.std.specs.Prelude.{Option, Some, None, option_map}
use Rattle.std.specs.List.{AllByRecursion}
use Rattle.std.proofs.Math.Path.{subst⁻¹}
use Rattle.ring_net.specs.declared.entry.JournalEntry.{JournalEntry}
use Rattle.ring_net.specs.Deeds.{Deed, Replay, TakesNone, TakesFirst}
use Rattle.graft_model.specs.Setups.{Setup}
use Rattle.graft_model.specs.Parts.{RouterPart}
use Rattle.graft_model.specs.RouterRows.{RouterTaken, RouterSent}
use Rattle.graft_model.specs.declared.event.RouterEvent.{RouterEvent}
use Rattle.graft_model.specs.declared.event.RouterEvent.TheVariants.{Land, Return}
use Rattle.graft_model.specs.Steps.{router_row}
use Rattle.graft_actors.specs.Actors.{ActorPart, RouterIs, FarIs, OperatorIs, Thing, ActorName, Router, FarSide, Operator}
use Rattle.graft_actors.specs.Makes.{makes_as, AreDeeds}
use Rattle.graft_actors.specs.Acts.{OwnPart, ActsAs, IsWelcome, acts, things}
use Rattle.bgp_session.specs.Running.{carried}
use Rattle.world_nodes.specs.Nodes.{Mail}
use Rattle.real_rounds.proofs.RouterRows.{IsNoLanding, LandsNobody}
use Rattle.graft_model.specs.Codes.{router_code}

-- ---- nothing was dropped

-- the deed isn't that of an item that is dropped
abbrev pub IsKept : Deed Mail → Type 0
IsKept deed = deed.entry.kind ≢ 0

pub welcome_of : (before after : OwnPart) (entry : JournalEntry) (from : ℕ) (item : Mail) (sent : List (ℕ × Mail))
    → ActsAs carried before entry (Some (from, item)) sent after → entry.kind ≢ 0 → IsWelcome carried before from item
welcome_of before after entry from item sent act seen = elim act.does [
  | inl makes ↦ makes.welcome
  | inr drops ↦ absurd (seen drops.kind)
]

-- the item of a take
pub took_welcome : (n : ℕ) (p q : OwnPart) (from : ℕ) (item : Mail) (ds : List (Deed Mail)) → TakesFirst from item ds
    → Replay (acts carried) n p ds q → AllByRecursion IsKept ds → IsWelcome carried p from item
took_welcome n p q from item [] first replay all = absurd first
took_welcome n p q from item (d ∷ ds) first replay all =
    welcome_of p replay.0 d.entry from item d.sent (subst (λ (o : Option (ℕ × Mail)). ActsAs carried p d.entry o d.sent replay.0) first.0 replay.1) all.0

-- ---- what takes nothing lands nobody

untaken_row : (setup : Setup) (r : ℕ) (event : RouterEvent) (a b : RouterPart) (taken : Option RouterTaken) (sent : List RouterSent)
    → router_row setup r event a taken sent b → taken ≡ None → LandsNobody event
untaken_row setup r (Land q) a b taken sent row none = absurd (let h = sym none ∙ row.comes.takes in cc)
untaken_row setup r (Return q) a b taken sent row none = absurd (let h = sym none ∙ row.takes in cc)
untaken_row setup r _ a b taken sent row none = record { land = λ e. absurd (omega (arith, e)); return = λ e. absurd (omega (arith, e)) }

none_mapped : {A B : Type 0} (f : A → B) (o : Option A) → None ≡ option_map f o → o ≡ None
none_mapped f None e = refl
none_mapped f (Some x) e = absurd cc

no_far_side : (p r : ℕ) → FarSide p ≢ Router r
no_far_side p r e = absurd cc

no_operator : (r : ℕ) → Operator ≢ Router r
no_operator r e = absurd cc

row_untaken : (r : ℕ) (setup : Setup) (name : ActorName) (p q : ActorPart) (entry : JournalEntry) (sent : List (ℕ × Thing)) → name ≡ Router r
    → makes_as setup (Some name) p entry None sent q → IsNoLanding entry.kind
row_untaken r setup (Router s) (RouterIs p) (RouterIs q) entry sent is row =
    subst⁻¹ IsNoLanding row.coded.kind (untaken_row setup s row.event p q row.took row.gave row.holds (none_mapped _ row.took row.is_taken))
row_untaken r setup (Router s) (RouterIs p) (FarIs q) entry sent is row = absurd row
row_untaken r setup (Router s) (RouterIs p) (OperatorIs q) entry sent is row = absurd row
row_untaken r setup (Router s) (FarIs p) q entry sent is row = absurd row
row_untaken r setup (Router s) (OperatorIs p) q entry sent is row = absurd row
row_untaken r setup (FarSide n) p q entry sent is row = absurd (no_far_side n r is)
row_untaken r setup Operator p q entry sent is row = absurd (no_operator r is)

untaken_act : (r : ℕ) (before after : OwnPart) (entry : JournalEntry) (sent : List (ℕ × Mail)) → before.name ≡ Router r
    → ActsAs carried before entry None sent after → IsNoLanding entry.kind
untaken_act r before after entry sent name act = elim act.does [
  | inl makes ↦ row_untaken r before.setup before.name before.part after.part entry (things carried before.setup sent) name makes.row
  | inr drops ↦ absurd (let h = drops.takes in cc)
]

-- the events of a router's call that takes nothing
pub nobody_lands : (r n : ℕ) (p q : OwnPart) (es : List RouterEvent) (ds : List (Deed Mail)) → p.name ≡ Router r → AreDeeds router_code es ds
    → Replay (acts carried) n p ds q → AllByRecursion TakesNone ds → AllByRecursion LandsNobody es
nobody_lands r n p q [] [] name coded replay none = tt
nobody_lands r n p q [] (d ∷ ds) name coded replay none = absurd coded
nobody_lands r n p q (e ∷ es) [] name coded replay none = absurd coded
nobody_lands r n p q (e ∷ es) (d ∷ ds) name coded replay none = (
  subst IsNoLanding coded.0.kind
      (untaken_act r p replay.0 d.entry d.sent name (subst (λ (o : Option (ℕ × Mail)). ActsAs carried p d.entry o d.sent replay.0) none.0 replay.1)),
  nobody_lands r n replay.0 q es ds (replay.1.name ∙ name) coded.1 replay.2 none.1,
)
