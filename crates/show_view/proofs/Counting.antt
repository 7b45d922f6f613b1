-- The segments of a journal's entries, one entry further.
use Rattle.std.proofs.Common.{◌≡◌, ◌≢◌, ℕ, ◌+◌, ◌-◌, ◌^◌, ◌<◌, ◌==◌, Bool, true, false, cond, ◌&&◌, List, [], ◌∷◌, ◌++◌, drop, length, get_or, replicate, set}
use Rattle.std.proofs.Common.{take, Option, Some, None, refl, sym, ap, subst, ◌∙◌, arith}
use Rattle.std.specs.Prelude.{nat_le, nat_lt}
use Rattle.std.proofs.lemmas.Option.{same_Some}
use Rattle.std.proofs.lemmas.List.{get_or_default, get_or-replicate, get_or-set_same, get_or-set_other, length-replicate, length-set, take_more}
use Rattle.std.proofs.Math.Seq.{take-append_seam}
use Rattle.std.proofs.lemmas.List.Sums.{count_by-le-length, sum_by_push}
use Rattle.ring_net.specs.declared.entry.JournalEntry.{JournalEntry}
use Rattle.tcp_seq.specs.declared.segment.Way.{Way}
use Rattle.tcp_seq.specs.declared.segment.Way.TheVariants.{Home, Remote}
use Rattle.show_view.specs.declared.links.Segments.{Segments}
use Rattle.show_view.specs.Links.{AreCounted, HaveRoom, enters, no_segments, peering_at, segments_of, segments_on, with_event}

-- ---- one peering

abbrev counted : (home remote : ℕ) → Segments
counted home remote = record { home = home; remote = remote }

-- an event of an actor: of the far side or not, and which
by_event : (home remote : ℕ) (here sent taken : Bool) → (sent ≡ true → taken ≡ false)
    → counted (home + cond (here && sent) 1 0) (remote + cond (here && taken) 1 0)
    ≡ cond here (cond sent (counted (home + 1) remote) (cond taken (counted home (remote + 1)) (counted home remote))) (counted home remote)
by_event home remote false sent taken other = both (nothing home) (nothing remote) where
  nothing : (n : ℕ) → n + 0 ≡ n
  nothing n = omega arith

  both : (home + 0 ≡ home) → (remote + 0 ≡ remote) → counted (home + 0) (remote + 0) ≡ counted home remote
  both h r = ap (λ n. counted n (remote + 0)) h ∙ ap (counted home) r
by_event home remote true true true other = absurd (let no : true ≡ false = other refl in cc)
by_event home remote true true false other = ap (counted (home + 1)) (let none : remote + 0 ≡ remote = omega arith in none)
by_event home remote true false true other = ap (λ n. counted n (remote + 1)) (let none : home + 0 ≡ home = omega arith in none)
by_event home remote true false false other =
    ap (λ n. counted n (remote + 0)) (let none : home + 0 ≡ home = omega arith in none)
    ∙ ap (counted home) (let none : remote + 0 ≡ remote = omega arith in none)

module _ (routers : ℕ) (journal : List JournalEntry) (e : JournalEntry) (p : ℕ) where
  on_way : (way : Way) → segments_on routers (journal ++ e ∷ []) p way ≡ segments_on routers journal p way + cond (enters (routers + p) way e) 1 0
  on_way way = sum_by_push (λ x. cond (enters (routers + p) way x) 1 0) journal e

  not_both : (e.kind == 18) ≡ true → (e.kind == 19) ≡ false
  not_both sent = grind (arith, sent)

  -- one entry further, the event is counted where it is the far side's
  pub segments_more : segments_of routers (journal ++ e ∷ []) p
      ≡ cond (e.actor == routers + p) (with_event (segments_of routers journal p) e.kind) (segments_of routers journal p)
  segments_more =
      ap (λ n. counted n (segments_on routers (journal ++ e ∷ []) p Remote)) (on_way Home)
      ∙ ap (counted (segments_on routers journal p Home + cond (enters (routers + p) Home e) 1 0)) (on_way Remote)
      ∙ by_event (segments_on routers journal p Home) (segments_on routers journal p Remote) (e.actor == routers + p) (e.kind == 18) (e.kind == 19) not_both

  pub segments_here : e.actor ≡ routers + p → segments_of routers (journal ++ e ∷ []) p ≡ with_event (segments_of routers journal p) e.kind
  segments_here here =
      segments_more
      ∙ ap (λ b. cond b (with_event (segments_of routers journal p) e.kind) (segments_of routers journal p))
      (let same : (e.actor == routers + p) ≡ true = grind (arith, here) in same)

  pub segments_elsewhere : e.actor ≢ routers + p → segments_of routers (journal ++ e ∷ []) p ≡ segments_of routers journal p
  segments_elsewhere elsewhere =
      segments_more
      ∙ ap (λ b. cond b (with_event (segments_of routers journal p) e.kind) (segments_of routers journal p))
      (let other : (e.actor == routers + p) ≡ false = grind (arith, elsewhere) in other)

-- ---- the peering of an actor

pub there_at : (routers actor q : ℕ) → peering_at routers actor ≡ Some q → (q < 256) × (actor ≡ routers + q)
there_at routers actor q is = by_test (nat_le routers actor) (nat_lt (actor - routers) 256) refl refl where
  by_test : (from below : Bool) → nat_le routers actor ≡ from → nat_lt (actor - routers) 256 ≡ below → (q < 256) × (actor ≡ routers + q)
  by_test true true le lt =
      let here : actor - routers ≡ q = same_Some (actor - routers) q (sym (ap (λ b. cond (b && nat_lt (actor - routers) 256) (Some (actor - routers)) None) le
      ∙ ap (λ b. cond b (Some (actor - routers)) None) lt) ∙ is) in
      (grind (arith, here, lt), grind (arith, here, le))
  by_test true false le lt =
      let none : ◌≡◌ {A = Option ℕ} None (Some q) = sym (ap (λ b. cond (b && nat_lt (actor - routers) 256) (Some (actor - routers)) None) le
      ∙ ap (λ b. cond b (Some (actor - routers)) None) lt) ∙ is in absurd cc
  by_test false below le lt =
      let none : ◌≡◌ {A = Option ℕ} None (Some q) =
      sym (ap (λ b. cond (b && nat_lt (actor - routers) 256) (Some (actor - routers)) None) le) ∙ is in absurd cc

pub elsewhere_at : (routers actor : ℕ) → peering_at routers actor ≡ None → (p : ℕ) → p < 256 → actor ≢ routers + p
elsewhere_at routers actor is p lt here =
    let from : nat_le routers actor ≡ true = grind (arith, here) in
    let below : nat_lt (actor - routers) 256 ≡ true = grind (arith, here, lt) in
    let some : ◌≡◌ {A = Option ℕ} (Some (actor - routers)) None =
    sym (ap (λ b. cond (b && nat_lt (actor - routers) 256) (Some (actor - routers)) None) from
    ∙ ap (λ b. cond b (Some (actor - routers)) None) below) ∙ is in absurd cc

-- ---- all peerings

-- no entry has passed yet
pub none_counted : (routers : ℕ) (all : List Segments) → all ≡ replicate 256 no_segments → AreCounted routers [] all
none_counted routers all is = record {
  places = ap length is ∙ length-replicate 256 no_segments;
  counted = λ p below. ap (λ l. get_or l p no_segments) is ∙ get_or-replicate 256 p no_segments no_segments below;
}

-- the event of a far side is counted at its peering
at_peering : (routers : ℕ) (journal : List JournalEntry) (e : JournalEntry) (all : List Segments) (q : ℕ) → q < 256 → e.actor ≡ routers + q
    → AreCounted routers journal all → AreCounted routers (journal ++ e ∷ []) (set all q (with_event (get_or all q no_segments) e.kind))
at_peering routers journal e all q lt here are = record { places = same_length; counted = each } where
  same_length : length (set all q (with_event (get_or all q no_segments) e.kind)) ≡ 256
  same_length = length-set all q (with_event (get_or all q no_segments) e.kind) ∙ are.places

  within : q < length all
  within = omega (arith, are.places, lt)

  each : (p : ℕ) → p < 256 → get_or (set all q (with_event (get_or all q no_segments) e.kind)) p no_segments ≡ segments_of routers (journal ++ e ∷ []) p
  each p below = by_test (p == q) refl where
    by_test : (b : Bool) → (p == q) ≡ b
        → get_or (set all q (with_event (get_or all q no_segments) e.kind)) p no_segments ≡ segments_of routers (journal ++ e ∷ []) p
    by_test true same =
        let is : p ≡ q = grind (arith, same) in
        ap (λ k. get_or (set all q (with_event (get_or all q no_segments) e.kind)) k no_segments) is
        ∙ get_or-set_same all q (with_event (get_or all q no_segments) e.kind) no_segments within
        ∙ ap (λ s. with_event s e.kind) (are.counted q lt) ∙ sym (segments_here routers journal e q here)
        ∙ ap (segments_of routers (journal ++ e ∷ [])) (sym is)
    by_test false other =
        let isnt : p ≢ q = grind (arith, other) in
        get_or-set_other all q p (with_event (get_or all q no_segments) e.kind) no_segments isnt
        ∙ are.counted p below ∙ sym (segments_elsewhere routers journal e p (λ there. isnt (omega (arith, there, here))))

pub counted_there : (routers : ℕ) (journal : List JournalEntry) (e : JournalEntry) (all : List Segments) (q : ℕ) (d : Segments) → q < 256
    → e.actor ≡ routers + q → AreCounted routers journal all → AreCounted routers (journal ++ e ∷ []) (set all q (with_event (get_or all q d) e.kind))
counted_there routers journal e all q d lt here are =
    subst (λ (s : Segments). AreCounted routers (journal ++ e ∷ []) (set all q (with_event s e.kind)))
    (get_or_default all q no_segments d (omega (arith, are.places, lt))) (at_peering routers journal e all q lt here are)

-- an event of another actor isn't counted
pub counted_elsewhere : (routers : ℕ) (journal : List JournalEntry) (e : JournalEntry) (all : List Segments)
    → ((p : ℕ) → p < 256 → e.actor ≢ routers + p) → AreCounted routers journal all → AreCounted routers (journal ++ e ∷ []) all
counted_elsewhere routers journal e all elsewhere are = record {
  places = are.places;
  counted = λ p below. are.counted p below ∙ sym (segments_elsewhere routers journal e p (elsewhere p below));
}

-- there is room for one more while the entries are fewer than 2^64 - 1
pub room_left : (routers : ℕ) (journal : List JournalEntry) (all : List Segments) → length journal < 2 ^ 64 - 1 → AreCounted routers journal all → HaveRoom all
room_left routers journal all short are p below =
    let home : (get_or all p no_segments).home ≡ segments_on routers journal p Home = ap (λ s. s.home) (are.counted p below) in
    let remote : (get_or all p no_segments).remote ≡ segments_on routers journal p Remote = ap (λ s. s.remote) (are.counted p below) in (
      omega (arith, home, short, count_by-le-length (enters (routers + p) Home) journal),
      omega (arith, remote, short, count_by-le-length (enters (routers + p) Remote) journal),
    )

-- one entry further, with the counts written back into their list
pub written : (routers : ℕ) (journal : List JournalEntry) (i : ℕ) (d : JournalEntry) (new items : List Segments) (len : ℕ) → i < length journal
    → len ≡ length new → AreCounted routers (take i journal ++ get_or journal i d ∷ []) new
    → AreCounted routers (take (i + 1) journal) (take len (new ++ drop (length new) items))
written routers journal i d new items len lt is are =
    subst (λ (j : List JournalEntry). AreCounted routers j (take len (new ++ drop (length new) items))) (sym (take_more journal i d lt))
    (subst (λ (l : List Segments). AreCounted routers (take i journal ++ get_or journal i d ∷ []) l)
    (sym (ap (λ n. take n (new ++ drop (length new) items)) is ∙ take-append_seam new (drop (length new) items))) are)
