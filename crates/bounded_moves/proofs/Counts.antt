-- What entries say of a channel between routers, event by event.
use Rattle.std.proofs.Common.{◌≡◌, ◌==◌, ◌+◌, ◌≤◌, ◌<◌, ℕ, Bool, true, false, List, [], ◌∷◌, ◌++◌, length, Option, Some, None, if◌then◌else◌, refl, sym, ap}
use Rattle.std.proofs.Common.{◌∙◌, subst, inl, inr, arith, append-nil}
use Rattle.std.specs.Prelude.{◌≢◌, ◌⊎◌}
use Rattle.std.proofs.lemmas.Bool.Decides.{nat_tests}
use Rattle.std.proofs.lemmas.List.Sums.{sum_by-cons}
use Rattle.ring_net.specs.declared.entry.JournalEntry.{JournalEntry}
use Rattle.journal_merge.specs.Merges.{entries_by}
use Rattle.graft_model.specs.Codes.{router_code}
use Rattle.graft_model.specs.Setups.{Setup, routers_in}
use Rattle.graft_model.specs.Parts.{Mesh, Told, Moved, Back, Asked, Answered, Done, RouterPart, World}
use Rattle.graft_model.specs.RouterRows.{RouterTaken, OrderIn, SegmentIn, MeshIn, RouterSent, MeshTo, OutwardTo, ReportOut}
use Rattle.graft_model.specs.Steps.{Event, ByRouter, ByFar, ByOperator, Step, router_row}
use Rattle.graft_model.specs.declared.event.RouterEvent.{RouterEvent}
use Rattle.graft_model.specs.declared.event.RouterEvent.TheVariants.{Hear, Land, TurnBack, Return, Clear, Answer, Collect}
use Rattle.graft_laws.specs.Moves.{mesh_taken, mesh_sent}
use Rattle.graft_laws.proofs.Moves.{router_moves, far_moves, operator_moves}
use Rattle.graft_laws.proofs.Heads.{only2_here}
use Rattle.graft_actors.specs.Actors.{ActorName, Router}
use Rattle.graft_actors.specs.Makes.{HasCode}
use Rattle.graft_actors.specs.Laws.{IsEntryOf}
use Rattle.real_rounds.specs.Entries.{is_same_name, sender_of, count_taken_from}

-- ---- entries

-- how many of the entries took an item from the channel between two routers
abbrev pub taken_between : ℕ → ℕ → List JournalEntry → ℕ
taken_between a b entries = count_taken_from (Router a) (entries_by b entries)

-- whether this one did
abbrev pub one_between : ℕ → ℕ → JournalEntry → ℕ
one_between a b entry = if entry.actor == b then (if is_same_name (Router a) (sender_of entry) then 1 else 0) else 0

pub taken_next : (a b : ℕ) (entry : JournalEntry) (entries : List JournalEntry)
    → taken_between a b (entry ∷ entries) ≡ one_between a b entry + taken_between a b entries
taken_next a b entry entries = by_test (entry.actor == b)
  where
    rest : List JournalEntry
    rest = entries_by b entries

    one : ℕ
    one = if is_same_name (Router a) (sender_of entry) then 1 else 0

    nothing : (n : ℕ) → n ≡ 0 + n
    nothing n = omega arith

    by_test : (t : Bool) → count_taken_from (Router a) (if t then entry ∷ rest else rest) ≡ (if t then one else 0) + count_taken_from (Router a) rest
    by_test true = sum_by-cons (λ (e : JournalEntry). if is_same_name (Router a) (sender_of e) then 1 else 0) entry rest
    by_test false = nothing (count_taken_from (Router a) rest)

-- ---- a router's event

abbrev sender_at : ℕ → ℕ → Option ActorName
sender_at kind a = sender_of (record { clock = 0; actor = 0; kind = kind; a = a; b = 0; c = 0 })

pub tells : (m n : ℕ) → (m == n) ≡ true → m ≡ n
tells m n e = grind (arith, nat_tests)

no : false ≡ true → ⊥
no e = cc

item_of : (a q : ℕ) (taken : Option RouterTaken) (item : Mesh) → taken ≡ Some (MeshIn q item) → (a == q) ≡ true → (m : Mesh) × (taken ≡ Some (MeshIn a m))
item_of a q taken item is e = (item, is ∙ ap (λ n. Some (MeshIn n item)) (sym (tells a q e)))

-- An event whose entry names the router a as the sender took an item that a sent.
heard : (setup : Setup) (r a : ℕ) (event : RouterEvent) (before after : RouterPart) (taken : Option RouterTaken) (sent : List RouterSent)
    → router_row setup r event before taken sent after → is_same_name (Router a) (sender_at (router_code event).kind (router_code event).a) ≡ true
    → (item : Mesh) × (taken ≡ Some (MeshIn a item))
heard setup r a (Hear q) before after taken sent row e = item_of a q taken (Told row.prefix row.route) row.takes e
heard setup r a (Land q) before after taken sent row e = item_of a q taken (Moved row.comes.graft row.comes.peering row.comes.session) row.comes.takes e
heard setup r a (TurnBack q) before after taken sent row e = item_of a q taken (Moved row.comes.graft row.comes.peering row.comes.session) row.comes.takes e
heard setup r a (Return q) before after taken sent row e = item_of a q taken (Back row.graft row.peering row.session row.refusal) row.takes e
heard setup r a (Clear q) before after taken sent row e = item_of a q taken (Done row.graft row.peering) row.takes e
heard setup r a (Answer q) before after taken sent row e = item_of a q taken (Asked row.graft row.peering) row.takes e
heard setup r a (Collect q) before after taken sent (inl row) e = item_of a q taken (Answered row.graft row.peering) row.takes e
heard setup r a (Collect q) before after taken sent (inr row) e = item_of a q taken (Answered row.graft row.peering) row.takes e
heard setup r a _ before after taken sent row e = absurd (no e)

-- ---- what a step does to a channel

-- What an event took from the channel between two routers and what is left of it are what was there and what it sent. It took what its entry says, and
-- one item at most; where it took one, it sent none.
pub record Passes (a b : ℕ) (w v : World) (entry : JournalEntry) : Type 0 where
  pub taken : List Mesh
  pub sent : List Mesh
  pub is : taken ++ v.mesh a b ≡ w.mesh a b ++ sent
  pub few : length taken ≤ 1
  pub counted : one_between a b entry ≤ length taken
  pub one_way : (taken ≡ []) ⊎ (sent ≡ [])

few_taken : (x : ℕ) (taken : Option RouterTaken) (a b : ℕ) → length (mesh_taken x taken a b) ≤ 1
few_taken x None a b = omega arith
few_taken x (Some (OrderIn order)) a b = omega arith
few_taken x (Some (SegmentIn p segment)) a b = omega arith
few_taken x (Some (MeshIn q item)) a b = by_tests (a == q) (b == x)
  where
    by_tests : (s t : Bool) → length (if s then (if t then item ∷ [] else []) else []) ≤ 1
    by_tests true true = omega arith
    by_tests true false = omega arith
    by_tests false t = omega arith

-- a router takes from the channels that lead to it, and sends into those that lead from it
none_taken : (x : ℕ) (taken : Option RouterTaken) (a b : ℕ) → (b == x) ≡ false → mesh_taken x taken a b ≡ []
none_taken x None a b e = refl
none_taken x (Some (OrderIn order)) a b e = refl
none_taken x (Some (SegmentIn p segment)) a b e = refl
none_taken x (Some (MeshIn q item)) a b e = by_test (a == q)
  where
    by_test : (s : Bool) → (if s then (if b == x then item ∷ [] else []) else []) ≡ []
    by_test true = ap (λ t. if t then item ∷ [] else []) e
    by_test false = refl

none_sent : (x : ℕ) (sent : List RouterSent) (a b : ℕ) → (a == x) ≡ false → mesh_sent x sent a b ≡ []
none_sent x [] a b e = refl
none_sent x (MeshTo q item ∷ sent) a b e = ap (λ t. (if t then (if b == q then item ∷ [] else []) else []) ++ mesh_sent x sent a b) e
    ∙ none_sent x sent a b e
none_sent x (OutwardTo q item ∷ sent) a b e = none_sent x sent a b e
none_sent x (ReportOut report ∷ sent) a b e = none_sent x sent a b e

differs : (m n : ℕ) → m ≢ n → (m == n) ≡ false
differs m n ne = grind (arith, nat_tests)

-- an entry of another actor takes nothing there
other_actor : (a b : ℕ) (entry : JournalEntry) → entry.actor ≢ b → one_between a b entry ≡ 0
other_actor a b entry ne = ap (λ t. if t then (if is_same_name (Router a) (sender_of entry) then 1 else 0) else 0) (differs entry.actor b ne)

none_counted : (n : ℕ) → n ≡ 0 → n ≤ 0
none_counted n e = omega (arith, e)

unequal : (m n : ℕ) → m ≡ n → (m == n) ≡ false → ⊥
unequal m n e f = grind (arith, nat_tests)

past : (m n b : ℕ) → b < m → m + n ≢ b
past m n b l e = omega (arith, l, e)

module _ (setup : Setup) (a b : ℕ) (apart : a ≢ b) (known : b < routers_in setup) where
  same_channel : (w v : World) (entry : JournalEntry) → v.mesh a b ≡ w.mesh a b → one_between a b entry ≡ 0 → Passes a b w v entry
  same_channel w v entry e none = record {
    taken = [];
    sent = [];
    is = e ∙ sym (append-nil (w.mesh a b));
    few = omega arith;
    counted = none_counted (one_between a b entry) none;
    one_way = inl refl;
  }

  -- what b takes is counted
  counts : (event : RouterEvent) (before after : RouterPart) (taken : Option RouterTaken) (sent : List RouterSent) (entry : JournalEntry)
      → router_row setup b event before taken sent after → HasCode (router_code event) entry
      → one_between a b entry ≤ length (mesh_taken b taken a b)
  counts event before after taken sent entry row coded = by_test (entry.actor == b) (is_same_name (Router a) (sender_of entry)) refl
    where
      by_test : (s t : Bool) → is_same_name (Router a) (sender_of entry) ≡ t → (if s then (if t then 1 else 0) else 0) ≤ length (mesh_taken b taken a b)
      by_test false t e = omega arith
      by_test true false e = omega arith
      by_test true true e =
          let h = heard setup b a event before after taken sent row ((λ i. is_same_name (Router a) (sender_at (sym coded.kind i) (sym coded.a i))) ∙ e) in
          let is : mesh_taken b taken a b ≡ h.0 ∷ [] = ap (λ t. mesh_taken b t a b) h.1 ∙ only2_here a b h.0 in
          subst (λ (items : List Mesh). 1 ≤ length items) (sym is) (omega arith)

  pub passes : (event : Event) (entry : JournalEntry) (w v : World) → IsEntryOf setup event entry → Step setup event w v → Passes a b w v entry
  passes (ByRouter x event) entry w v is step = by_test (b == x) refl
    where
      counted : b ≡ x → one_between a b entry ≤ length (mesh_taken x step.taken a b)
      counted same = subst (λ (n : ℕ). one_between a b entry ≤ length (mesh_taken n step.taken a b)) same
          (counts event (w.router x) step.part step.taken step.sent entry
          (subst (λ (n : ℕ). router_row setup n event (w.router x) step.taken step.sent step.part) (sym same) step.row) is.coded)

      by_test : (t : Bool) → (b == x) ≡ t → Passes a b w v entry
      by_test true e = record {
        taken = mesh_taken x step.taken a b;
        sent = mesh_sent x step.sent a b;
        is = (router_moves setup x event w v step).mesh a b;
        few = few_taken x step.taken a b;
        counted = counted (tells b x e);
        one_way = inr (none_sent x step.sent a b (differs a x (λ f. apart (f ∙ sym (tells b x e)))));
      }
      by_test false e = record {
        taken = [];
        sent = mesh_sent x step.sent a b;
        is = ap (λ (items : List Mesh). items ++ v.mesh a b) (sym (none_taken x step.taken a b e)) ∙ (router_moves setup x event w v step).mesh a b;
        few = omega arith;
        counted = none_counted (one_between a b entry) (other_actor a b entry (λ f. unequal b x (sym f ∙ is.maker) e));
        one_way = inl refl;
      }
  passes (ByFar p event) entry w v is step =
      same_channel w v entry (ap (λ (f : ℕ → ℕ → List Mesh). f a b) (far_moves setup p event w v step).mesh)
      (other_actor a b entry (λ f. past (routers_in setup) p b known (sym is.maker ∙ f)))
  passes (ByOperator event) entry w v is step =
      same_channel w v entry (ap (λ (f : ℕ → ℕ → List Mesh). f a b) (operator_moves setup event w v step).mesh)
      (other_actor a b entry (λ f. past (routers_in setup) _ b known (sym is.maker ∙ f)))
