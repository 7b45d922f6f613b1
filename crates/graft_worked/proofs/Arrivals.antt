-- The segments of the worked run arrive.
use Rattle.std.proofs.Common.{◌≡◌, ℕ, suc, ◌+◌, ◌-◌, ◌<◌, ◌≤◌, ◌==◌, ◌&&◌, nat_lt, nat_le, Bool, true, false, cond, List}
use Rattle.std.proofs.Common.{[], ◌∷◌, length, Some, None, refl, sym, ap, ◌∙◌, inl, inr, lit<, lit≤, arith}
use Rattle.std.specs.Prelude.{slice_get, T}
use Rattle.std.specs.Cmp.{unsigned_tied}
use Rattle.std.specs.FinMap as map
use Rattle.std.specs.List.{enumerate_from}
use Rattle.std.specs.Option.{option_or}
use Rattle.std.specs.Ordering.{nat_cmp}
use Rattle.std.proofs.lemmas.Bool.Decides.{nat_tests}
use Rattle.tcp_seq.specs.Endpoint.{Endpoint, Bytes, TakesSegment, bytes_in_order, received, byte_from, byte_brought}
use Rattle.tcp_seq.specs.Rules.{AcceptableOffset}
use Rattle.tcp_seq.proofs.Lookups.{or_none}
use Rattle.tcp_seq.proofs.ByteFrom.{byte_below, byte_there, byte_past}
use Rattle.graft_model.specs.Parts.{Live, Vacant}
use Rattle.graft_model.specs.RouterRows.{SegmentIn, Arrives}
use Rattle.graft_model.specs.FarRows.{Reaches}
use Rattle.graft_worked.specs.First.{session_first, a_first}
use Rattle.graft_worked.specs.Graft.{put_all, said_all, from_zero, session}
use Rattle.graft_worked.specs.Start.{said_segment, put_segment, ack_segment, far_taken, far_reached, session_arrived, session_emitted, a_with, a_got}
use Rattle.graft_worked.proofs.Points.{at-at}
use Rattle.graft_worked.proofs.StartRows.{none_yet, received_none, received_said}

module _ (n x : ℕ) (xs : List ℕ) (k : ℕ) where
  apart_from : (t : Bool) → (k == n) ≡ false → nat_lt k n ≡ t → byte_from (n + 1) xs k ≡ byte_from n (x ∷ xs) k
  apart_from true e l = let below : k < n = grind (arith, nat_tests) in byte_below (n + 1) xs k (omega arith) ∙ sym (byte_below n (x ∷ xs) k below)
  apart_from false e l =
      let above : n < k = grind (arith, nat_tests) in
      let next : k - n ≡ suc (k - (n + 1)) = omega arith in
      byte_there (n + 1) xs k (omega arith) ∙ sym (byte_there n (x ∷ xs) k (omega arith) ∙ ap (slice_get (x ∷ xs)) next)

  one_more : (t : Bool) → (k == n) ≡ t → cond t (Some x) (byte_from (n + 1) xs k) ≡ byte_from n (x ∷ xs) k
  one_more true e =
      let same : k ≡ n = grind (arith, nat_tests) in
      let none : k - n ≡ 0 = omega arith in
      sym (byte_there n (x ∷ xs) k (omega arith) ∙ ap (slice_get (x ∷ xs)) none)
  one_more false e = apart_from (nat_lt k n) e refl

same_cond : {A : Type 0} (t : Bool) (a : A) → cond t a a ≡ a
same_cond true a = refl
same_cond false a = refl

-- the bytes from an offset on, found by their offsets
found : (n : ℕ) (bytes : List ℕ) (k : ℕ) → map.find nat_cmp k (enumerate_from n bytes) ≡ byte_from n bytes k
found n [] k = sym (same_cond (nat_lt k n) None)
found n (x ∷ xs) k = (λ i. cond (unsigned_tied k n i) (Some x) (found (n + 1) xs k i)) ∙ one_more n x xs k (k == n) refl

got_byte : (bytes : List ℕ) → T (map.is_sorted nat_cmp (enumerate_from 0 bytes)) → (k : ℕ) → map.get (from_zero bytes) k ≡ byte_from 0 bytes k
got_byte bytes sorted k = map.get-from_sorted nat_cmp (enumerate_from 0 bytes) k sorted ∙ found 0 bytes k

in_window : (bytes : List ℕ) (n k : ℕ) (t : Bool) → n ≡ 0 → length bytes ≤ 16384 → (nat_le n k && nat_lt k (n + 16384)) ≡ t
    → byte_from 0 bytes k ≡ cond t (byte_from 0 bytes k) None
in_window bytes n k true z short e = refl
in_window bytes n k false z short e = let far : 16384 ≤ k = grind (arith, nat_tests) in byte_past 0 bytes k (omega arith)

-- a segment with all bytes of a stream brings them to where nothing was
brings_all : (e : Endpoint) (bytes : List ℕ) (ack : ℕ) → e.arrived ≡ none_yet → T (map.is_sorted nat_cmp (enumerate_from 0 bytes)) → length bytes ≤ 16384
    → (k : ℕ) → map.get (from_zero bytes) k ≡ option_or (map.get e.arrived k) (byte_brought e (record { offset = 0; bytes = bytes; ack = ack }) k)
brings_all e bytes ack is sorted short k =
    got_byte bytes sorted k
    ∙ (in_window bytes (received e) k (nat_le (received e) k && nat_lt k (received e + 16384))
    (ap (λ m. length (bytes_in_order m)) is ∙ ap length received_none) short refl
    ∙ ap (λ o. option_or o (byte_brought e (record { offset = 0; bytes = bytes; ack = ack }) k))
    (sym (ap (λ (m : Bytes). map.get m k) is ∙ map.get-empty nat_cmp k)))

brings_nothing : (e : Endpoint) (offset ack k : ℕ)
    → map.get e.arrived k ≡ option_or (map.get e.arrived k) (byte_brought e (record { offset = offset; bytes = []; ack = ack }) k)
brings_nothing e offset ack k = sym (ap (option_or (map.get e.arrived k)) (ap (λ o. cond (nat_le (received e) k && nat_lt k (received e + 16384)) o None)
    (same_cond (nat_lt k offset) None) ∙ same_cond (nat_le (received e) k && nat_lt k (received e + 16384)) None) ∙ or_none (map.get e.arrived k))

-- at a received length of n
in_front : (n len : ℕ) → n ≡ 0 → 0 < len → AcceptableOffset n 16384 0 len
in_front n len e some = inr (inr (some, lit< tt, inl (omega arith, omega arith)))

at_end : (n offset : ℕ) → n ≡ offset → AcceptableOffset n 16384 offset 0
at_end n offset e = inr (inl (refl, lit< tt, (omega arith, omega arith)))

said_arrives : TakesSegment session_first.end said_segment session_arrived.end
said_arrives = inr (record {
  acceptable = in_front (received session_first.end) 91 (ap length received_none) (lit< tt);
  within = λ l. absurd (omega arith);
  arrived = brings_all session_first.end said_all 0 refl tt (lit≤ tt);
  changed = refl;
})

put_reaches : TakesSegment far_taken.end put_segment far_reached.end
put_reaches = inr (record {
  acceptable = in_front (received far_taken.end) 48 (ap length received_none) (lit< tt);
  within = λ l. absurd (omega arith);
  arrived = brings_all far_taken.end put_all 91 refl tt (lit≤ tt);
  changed = refl;
})

ack_arrives : TakesSegment session_emitted.end ack_segment session.end
ack_arrives = inr (record {
  acceptable = at_end (received session_emitted.end) 91 (ap length received_said);
  within = λ l. absurd (omega arith);
  arrived = brings_nothing session_emitted.end 91 48;
  changed = refl;
})

pub all_arrives : Arrives 0 a_first (Some (SegmentIn 0 said_segment)) [] (a_with session_arrived)
all_arrives = record {
  session = session_first;
  errand = None;
  live = record { is = refl };
  segment = said_segment;
  takes = refl;
  sends = refl;
  end = session_arrived.end;
  arrives = said_arrives;
  effect = λ i. record (a_with session_arrived) { places = sym (at-at (λ p. Vacant) 0 (Live session_first None) (Live session_arrived None)) i };
}

pub all_reaches : Reaches 0 false far_taken None [] far_reached
all_reaches = record { segment = put_segment; there = refl; end = far_reached.end; arrives = put_reaches; takes = refl; sends = refl; effect = refl }

pub acknowledged : Arrives 0 (a_got session_emitted) (Some (SegmentIn 0 ack_segment)) [] (a_got session)
acknowledged = record {
  session = session_emitted;
  errand = None;
  live = record { is = refl };
  segment = ack_segment;
  takes = refl;
  sends = refl;
  end = session.end;
  arrives = ack_arrives;
  effect = λ i. record (a_got session) { places = sym (at-at (λ p. Vacant) 0 (Live session_emitted None) (Live session None)) i };
}
