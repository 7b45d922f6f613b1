-- Two rounds take all that stood in a channel, and so the item of a graft.
use Rattle.std.proofs.Common.{◌≡◌, ◌==◌, ◌+◌, ◌≤◌, ◌<◌, ℕ, suc, Bool, true, false, List, [], ◌∷◌, ◌++◌, length, if◌then◌else◌, refl, sym, ap, ◌∙◌, subst}
use Rattle.std.proofs.Common.{inl, inr, arith, append-nil}
use Rattle.std.specs.Prelude.{◌≢◌, ◌⊎◌, min}
use Rattle.std.proofs.lemmas.List.{length-map}
use Rattle.ring_net.specs.declared.entry.JournalEntry.{JournalEntry}
use Rattle.journal_merge.specs.Merges.{Interleaves}
use Rattle.session_value.specs.Sessions.{SessionValue}
use Rattle.graft_model.specs.Setups.{Setup, IsSetup, routers_in, peerings_in}
use Rattle.graft_model.specs.Parts.{Mesh, World}
use Rattle.graft_model.specs.Steps.{Event, Step, Run}
use Rattle.graft_laws.specs.Phases.{Moving, Confirmed, Returning, Phase, Busy, mesh_by}
use Rattle.graft_laws.specs.Owned.{is_on, mesh_items_on, Owned}
use Rattle.graft_laws.specs.Keeps.{Reached}
use Rattle.graft_laws.proofs.Runs.{reached_more, reached_run, always_owned}
use Rattle.graft_actors.specs.Actors.{Router, MeshItem}
use Rattle.graft_actors.specs.Laws.{IsEntryOf, AreEntriesOf}
use Rattle.real_rounds.specs.Entries.{count_taken_from}
use Rattle.real_rounds.specs.Whole.{Slices, RoundGoes, Drains}
use Rattle.bounded_moves.proofs.Ranks.{IsOn, stays, goes_on}
use Rattle.bounded_moves.proofs.Counts.{taken_between, one_between, taken_next, Passes, passes}

-- ---- an item of a peering in a channel

-- how many items stand before the first one of the peering
abbrev ahead : ℕ → List Mesh → ℕ
ahead p [] = 0
ahead p (item ∷ items) = if is_on p item then 0 else suc (ahead p items)

none_is_some : {A : Type 0} (x : A) (xs : List A) → [] ≡ x ∷ xs → ⊥
none_is_some x xs e = cc

below_step : (t : Bool) (item x : Mesh) (own rest : List Mesh) (n m : ℕ) → (if t then item ∷ own else own) ≡ x ∷ rest → (own ≡ x ∷ rest → n < m)
    → (if t then 0 else suc n) < suc m
below_step true item x own rest n m e f = omega arith
below_step false item x own rest n m e f = let l = f e in omega (arith, l)

ahead_below : (p : ℕ) (items rest : List Mesh) (x : Mesh) → mesh_items_on p items ≡ x ∷ rest → ahead p items < length items
ahead_below p [] rest x e = absurd (none_is_some x rest e)
ahead_below p (item ∷ items) rest x e = below_step (is_on p item) item x (mesh_items_on p items) rest (ahead p items) (length items) e
    (λ f. ahead_below p items rest x f)

more_step : (t : Bool) (item x : Mesh) (own rest : List Mesh) (n m : ℕ) → (if t then item ∷ own else own) ≡ x ∷ rest → (own ≡ x ∷ rest → n ≡ m)
    → ◌≡◌ {A = ℕ} (if t then 0 else suc n) (if t then 0 else suc m)
more_step true item x own rest n m e f = refl
more_step false item x own rest n m e f = ap suc (f e)

-- what is sent stands behind
ahead_more : (p : ℕ) (items sent rest : List Mesh) (x : Mesh) → mesh_items_on p items ≡ x ∷ rest → ahead p (items ++ sent) ≡ ahead p items
ahead_more p [] sent rest x e = absurd (none_is_some x rest e)
ahead_more p (item ∷ items) sent rest x e = more_step (is_on p item) item x (mesh_items_on p items) rest (ahead p (items ++ sent)) (ahead p items) e
    (λ f. ahead_more p items sent rest x f)

none_left : (xs : List Mesh) → suc (length xs) ≤ 1 → xs ≡ []
none_left [] l = refl
none_left (x ∷ xs) l = absurd (omega (arith, l))

-- where a channel has one item of the peering at most, none is left when that is taken
ahead_less : (p : ℕ) (item : Mesh) (items : List Mesh) → length (mesh_items_on p (item ∷ items)) ≤ 1
    → (mesh_items_on p items ≡ []) ⊎ (1 + ahead p items ≡ ahead p (item ∷ items))
ahead_less p item items few = by_test (is_on p item) few
  where
    by_test : (t : Bool) → length (if t then item ∷ mesh_items_on p items else mesh_items_on p items) ≤ 1
        → (mesh_items_on p items ≡ []) ⊎ (1 + ahead p items ≡ (if t then 0 else suc (ahead p items)))
    by_test true l = inl (none_left (mesh_items_on p items) l)
    by_test false l = inr (omega arith)

-- An event that takes one item at most, and sends none then, finds or leaves nothing of the peering there, or what it takes stands before its first item.
goes_ahead : (p : ℕ) (taken sent before after : List Mesh) → taken ++ after ≡ before ++ sent → length taken ≤ 1 → (taken ≡ []) ⊎ (sent ≡ [])
    → length (mesh_items_on p before) ≤ 1
    → (mesh_items_on p before ≡ []) ⊎ ((mesh_items_on p after ≡ []) ⊎ (length taken + ahead p after ≡ ahead p before))
goes_ahead p [] sent before after e few one_way single = by_list (mesh_items_on p before) refl
  where
    nothing : (n m : ℕ) → n ≡ m → 0 + n ≡ m
    nothing n m f = omega (arith, f)

    by_list : (own : List Mesh) → mesh_items_on p before ≡ own
        → (mesh_items_on p before ≡ []) ⊎ ((mesh_items_on p after ≡ []) ⊎ (0 + ahead p after ≡ ahead p before))
    by_list [] f = inl f
    by_list (x ∷ rest) f = inr (inr (nothing (ahead p after) (ahead p before) (ap (ahead p) e ∙ ahead_more p before sent rest x f)))
goes_ahead p (x ∷ []) sent before after e few (inl none) single = absurd (none_is_some x [] (sym none))
goes_ahead p (x ∷ []) sent before after e few (inr none) single =
    let is : x ∷ after ≡ before = e ∙ (ap (λ (items : List Mesh). before ++ items) none ∙ append-nil before) in
    inr (subst (λ (items : List Mesh). (mesh_items_on p after ≡ []) ⊎ (1 + ahead p after ≡ ahead p items)) is
    (ahead_less p x after (subst (λ (items : List Mesh). length (mesh_items_on p items) ≤ 1) (sym is) single)))
goes_ahead p (x ∷ (y ∷ taken)) sent before after e few one_way single = absurd (omega (arith, few))

-- a phase has one item of its peering at most in a channel
one_item : (phase : Phase) (p : ℕ) (s : SessionValue) (a b : ℕ) → length (mesh_by phase p s a b) ≤ 1
one_item (Busy q k t Moving) p s a b = by_tests _ (a == q) (b == t)
  where
    by_tests : (item : Mesh) (u v : Bool) → length (if u then (if v then item ∷ [] else []) else []) ≤ 1
    by_tests item true true = omega arith
    by_tests item true false = omega arith
    by_tests item false v = omega arith
one_item (Busy q k t Confirmed) p s a b = by_tests _ (a == t) (b == q)
  where
    by_tests : (item : Mesh) (u v : Bool) → length (if u then (if v then item ∷ [] else []) else []) ≤ 1
    by_tests item true true = omega arith
    by_tests item true false = omega arith
    by_tests item false v = omega arith
one_item (Busy q k t (Returning refusal)) p s a b = by_tests _ (a == t) (b == q)
  where
    by_tests : (item : Mesh) (u v : Bool) → length (if u then (if v then item ∷ [] else []) else []) ≤ 1
    by_tests item true true = omega arith
    by_tests item true false = omega arith
    by_tests item false v = omega arith
one_item _ p s a b = omega arith

pub one_of : (setup : Setup) (w : World) (p a b : ℕ) → Owned setup w → p < peerings_in setup → length (mesh_items_on p (w.mesh a b)) ≤ 1
one_of setup w p a b owned below = let held = owned.peerings p below in subst (λ (items : List Mesh). length items ≤ 1) (sym (held.stands.mesh a b))
    (one_item held.phase p held.session a b)

-- ---- rounds

stood_before : (one size now later : ℕ) → one ≤ size → size + later ≡ now → one + later ≤ now
stood_before one size now later l e = omega (arith, l, e)

both : (all one rest now mid later : ℕ) → all ≡ one + rest → one + mid ≤ now → rest + later ≤ mid → all + later ≤ now
both all one rest now mid later e l m = omega (arith, e, l, m)

-- fewer stood before the item than were there, and more were taken than stood before it
too_many : (size now mid later first second : ℕ) → size ≤ 256 → min 256 size ≤ first + second → now < size → first + mid ≤ now → second + later ≤ mid → ⊥
too_many size now mid later first second few drains l m n = omega (arith, few, drains, l, m, n)

-- A graft goes further where the channel from a to b holds nothing of its peering.
module _ (setup : Setup) (sound : IsSetup setup) (k p q t least more a b : ℕ) (below : p < peerings_in setup) (apart : a ≢ b) (from : a < routers_in setup)
    (to : b < routers_in setup)
    (emptied : (w : World) → Reached setup w → IsOn setup k p q t least w → mesh_items_on p (w.mesh a b) ≡ [] → IsOn setup k p q t more w) where
  abbrev On : ℕ → World → Type 0
  On n w = IsOn setup k p q t n w

  -- it has gone further, or what was taken stood before its item
  abbrev Waited : World → List JournalEntry → World → Type 0
  Waited w entries v = On more v ⊎ (On least v × (taken_between a b entries + ahead p (v.mesh a b) ≤ ahead p (w.mesh a b)))

  step_waits : (event : Event) (entry : JournalEntry) (w v : World) → Reached setup w → IsEntryOf setup event entry → Step setup event w v → On least w
      → On more v ⊎ (one_between a b entry + ahead p (v.mesh a b) ≤ ahead p (w.mesh a b))
  step_waits event entry w v reached is step on =
      let x : Passes a b w v entry = passes setup a b apart to event entry w v is step in
      elim (goes_ahead p x.taken x.sent (w.mesh a b) (v.mesh a b) x.is x.few x.one_way (one_of setup w p a b (always_owned setup sound w reached) below)) [
        | inl none ↦ inl (further (emptied w reached on none))
        | inr (inl none) ↦ inl (emptied v (reached_more setup event w v reached step) (stays setup sound k p q t least event w v reached step on) none)
        | inr (inr e) ↦ inr (stood_before (one_between a b entry) (length x.taken) (ahead p (w.mesh a b)) (ahead p (v.mesh a b)) x.counted e)
      ]
    where
      further : On more w → On more v
      further gone = stays setup sound k p q t more event w v reached step gone

  run_waits : (events : List Event) (entries : List JournalEntry) (w v : World) → Reached setup w → AreEntriesOf setup events entries
      → Run setup w events v → On least w → Waited w entries v
  run_waits [] [] w v reached are is on = inr
      (subst (On least) (sym is) on, subst (λ (x : World). 0 + ahead p (x.mesh a b) ≤ ahead p (w.mesh a b)) (sym is) (itself (ahead p (w.mesh a b))))
    where
      itself : (n : ℕ) → 0 + n ≤ n
      itself n = omega arith
  run_waits [] (entry ∷ entries) w v reached are is on = absurd are
  run_waits (event ∷ events) [] w v reached are run on = absurd are
  run_waits (event ∷ events) (entry ∷ entries) w v reached are (u, step, run) on =
      let then_reached : Reached setup u = reached_more setup event w u reached step in
      elim (step_waits event entry w u reached are.0 step on) [
        | inl gone ↦ inl (goes_on setup sound k p q t more events u v then_reached run gone)
        | inr l ↦ joined (run_waits events entries u v then_reached are.1 run (stays setup sound k p q t least event w u reached step on)) l
      ]
    where
      joined : Waited u entries v → one_between a b entry + ahead p (u.mesh a b) ≤ ahead p (w.mesh a b) → Waited w (entry ∷ entries) v
      joined (inl gone) l = inl gone
      joined (inr (still, m)) l = inr (
        still,
        both (taken_between a b (entry ∷ entries)) (one_between a b entry) (taken_between a b entries) (ahead p (w.mesh a b)) (ahead p (u.mesh a b))
            (ahead p (v.mesh a b)) (taken_next a b entry entries) l m,
      )

  -- what is taken between a and b, by the entries of b
  taken_by : (slices : Slices) (entries : List JournalEntry) → Interleaves slices entries → count_taken_from (Router a) (slices b) ≡ taken_between a b entries
  taken_by slices entries merged = ap (count_taken_from (Router a)) (sym (merged.each b))

  pub two_rounds : (one other : List Event) (first second : Slices) (w u v : World) → Reached setup w → RoundGoes setup w first one u
      → RoundGoes setup u second other v → Drains setup w first second
      → length (w.mesh a b) ≤ 256 → On least w → On more v
  two_rounds one other first second w u v reached x y drains few on = by_list (mesh_items_on p (w.mesh a b)) refl
    where
      mid : Reached setup u
      mid = reached_run setup one w u reached x.run

      end_of : On more u → On more v
      end_of gone = goes_on setup sound k p q t more other u v mid y.run gone

      taken : min 256 (length (w.mesh a b)) ≤ taken_between a b x.entries + taken_between a b y.entries
      taken = subst (λ (n : ℕ). min 256 (length (w.mesh a b)) ≤ taken_between a b x.entries + n) (taken_by second y.entries y.merged)
          (subst (λ (n : ℕ). min 256 (length (w.mesh a b)) ≤ n + count_taken_from (Router a) (second b)) (taken_by first x.entries x.merged)
          (subst (λ (n : ℕ). min 256 n ≤ count_taken_from (Router a) (first b) + count_taken_from (Router a) (second b)) (length-map (w.mesh a b) MeshItem)
          (drains (Router a) (Router b) from to)))

      by_list : (own : List Mesh) → mesh_items_on p (w.mesh a b) ≡ own → On more v
      by_list [] none = end_of (goes_on setup sound k p q t more one w u reached x.run (emptied w reached on none))
      by_list (item ∷ rest) some = elim (run_waits one x.entries w u reached x.entries_of x.run on) [
        | inl gone ↦ end_of gone
        | inr (still, l) ↦ elim (run_waits other y.entries u v mid y.entries_of y.run still) [
          | inl gone ↦ gone
          | inr (again, m) ↦ absurd
              (too_many (length (w.mesh a b)) (ahead p (w.mesh a b)) (ahead p (u.mesh a b)) (ahead p (v.mesh a b)) (taken_between a b x.entries)
              (taken_between a b y.entries)
              few taken (ahead_below p (w.mesh a b) rest item some) l m)
        ]
      ]
