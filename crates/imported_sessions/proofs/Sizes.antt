-- How long openings and steps are.
use Rattle.std.proofs.Common.{◌≡◌, ℕ, zero, suc, ◌+◌, ◌-◌, ◌*◌, ◌/◌, ◌<◌, ◌≤◌, min, max, Bool, true, false, cond, eqb, leb, List, [], ◌∷◌, ◌++◌, length}
use Rattle.std.proofs.Common.{map, take, drop, Option, Some, None, refl, sym, ap, ◌∙◌, subst, length-append, length-take, length-drop, arith}
use Rattle.std.specs.Prelude.{slice_get, All}
use Rattle.std.specs.List.{flat_map, filter, filter_map, cons_option, enumerate_from, range_with_len}
use Rattle.std.specs.Fork.{slice_chunk}
use Rattle.std.proofs.lemmas.Bool.{and_parts, leb-true}
use Rattle.std.proofs.lemmas.List.{append-nil, take_at, drop_at}
use Rattle.std.proofs.lemmas.List.Elements.{All-nil, All-cons, All-head, All-append, All-take, All-drop, All-map, All-filter, All-weaker, All-from_recursion}
use Rattle.tcp_seq.specs.declared.segment.Way.TheVariants.{Home}
use Rattle.bgp_types.specs.Header.{frame_at, kind_in}
use Rattle.bgp_types.specs.Many.{many}
use Rattle.bgp_types.proofs.FrameLaws.{IsFrame}
use Rattle.captured_streams.specs.declared.streams.Flow.{Flow}
use Rattle.captured_streams.specs.declared.streams.Streams.{Streams}
use Rattle.imported_sessions.specs.declared.imported.Imported.{Imported}
use Rattle.imported_sessions.specs.declared.imported.ImportedPeering.{ImportedPeering}
use Rattle.imported_sessions.specs.declared.imported.Said.{Said}
use Rattle.imported_sessions.specs.Imports.{AreSmall, IsImport, peering_at}
use Rattle.imported_sessions.specs.Messages.{messages, opening, opening_len, stream, unfinished, ended_at, ended_by, told}
use Rattle.imported_sessions.specs.Opens.{is_external}
use Rattle.imported_sessions.specs.Steps.{IsStep, last_of, octets_in, pieces}
use Rattle.imported_sessions.proofs.Behind.{joins}
use Rattle.imported_sessions.proofs.Feeding.{IsSized, parts, sized}
use Rattle.imported_sessions.specs.Heard.{said_by}
use Rattle.imported_sessions.proofs.Telling.{peering_tells}

-- ---- each element

module _ {X Y : Type 0} (P : Y → Type 0) where
  all_flat : (f : X → List Y) → ((x : X) → All P (f x)) → (xs : List X) → All P (flat_map f xs)
  all_flat f each [] = All-nil P
  all_flat f each (x ∷ xs) = All-append P (f x) (flat_map f xs) (each x) (all_flat f each xs)

  all_found : (f : X → Option Y) → ((x : X) (y : Y) → f x ≡ Some y → P y) → (xs : List X) → All P (filter_map f xs)
  all_found f each [] = All-nil P
  all_found f each (x ∷ xs) = by_front (all_found f each xs) (f x) refl where
    by_front : All P (filter_map f xs) → (o : Option Y) → f x ≡ o → All P (cons_option o (filter_map f xs))
    by_front rest None e = rest
    by_front rest (Some y) e = All-cons P y (filter_map f xs) (each x y e) rest

all_in_range : (P : ℕ → Type 0) (a n : ℕ) → ((k : ℕ) → k < a + n → P k) → All P (range_with_len a n)
all_in_range P a zero each = All-nil P
all_in_range P a (suc n) each =
    All-cons P a (range_with_len (a + 1) n) (each a (omega arith)) (all_in_range P (a + 1) n (λ k low. each k (omega (arith, low))))

-- ---- messages

messages_sized : (k : ℕ) (flows : List Flow) → All IsSized (messages k flows)
messages_sized k flows =
    let all = (many frame_at (stream Home k flows)).0 in
    All-weaker IsFrame IsSized sized all (All-from_recursion IsFrame all (parts (stream Home k flows)).frames)

abbrev IsSizedSaid : Said → Type 0
IsSizedSaid said = IsSized said.octets

ended_sized : (flows : List Flow) (n : ℕ) (o : Option Flow) → All IsSizedSaid (ended_by flows n o)
ended_sized flows n None = All-nil IsSizedSaid
ended_sized flows n (Some flow) =
    let all = messages flow.peer (take (suc n) flows) in
    let from = max (opening_len all) (length (messages flow.peer (take n flows))) in
    All-map IsSizedSaid (said_by flow.peer) (drop from all) (All-drop IsSized from all (messages_sized flow.peer (take (suc n) flows)))

-- all messages behind openings have 19 to 4,096 octets
pub ended_all_sized : (flows : List Flow) (n : ℕ) → All IsSizedSaid (flat_map (ended_at flows) (range_with_len 0 n))
ended_all_sized flows n = all_flat IsSizedSaid (ended_at flows) (λ j. ended_sized flows j (slice_get flows j)) (range_with_len 0 n)

-- ---- openings

opening_short : (all : List (List ℕ)) → All IsSized all → length (opening all) ≤ 4096
opening_short [] sound = omega arith
opening_short (a ∷ []) sound =
    let short = (All-head IsSized a [] sound).short in let same : length (a ++ []) ≡ length a = ap length (append-nil a) in omega arith
opening_short (a ∷ b ∷ all) sound = by_test (joins a b) refl where
  by_test : (t : Bool) → (joins a b) ≡ t
      → length (flat_map (λ (m : List ℕ). m) (take (cond t 2 1) (a ∷ b ∷ all))) ≤ 4096
  by_test true e =
      let fits = leb-true (length a + length b) 4096 (and_parts (eqb (kind_in b) 4) (leb (length a + length b) 4096) e).1 in
      let size : length (a ++ (b ++ [])) ≡ length a + length b = length-append a (b ++ []) ∙ ap (λ (xs : List ℕ). length a + length xs) (append-nil b) in
      omega arith
  by_test false e =
      let short = (All-head IsSized a (b ∷ all) sound).short in let same : length (a ++ []) ≡ length a = ap length (append-nil a) in omega arith

-- ---- steps

abbrev IsSmallStep : Said → Type 0
IsSmallStep step = (1 ≤ length step.octets) × (length step.octets ≤ 4096)

some_octets : (part : List Said) → 1 ≤ length part → All IsSizedSaid part → 1 ≤ length (octets_in part)
some_octets [] some sound = absurd (omega (arith, some))
some_octets (said ∷ part) some sound =
    let long = (All-head IsSizedSaid said part sound).long in omega (arith, length-append said.octets (octets_in part), long)

steps_small : (parts : List (List Said)) (steps : List Said) → length parts ≡ length steps
    → ((n : ℕ) (part : List Said) (step : Said) → slice_get parts n ≡ Some part → slice_get steps n ≡ Some step → IsStep part step)
    → All IsSizedSaid (flat_map (λ part. part) parts) → All IsSmallStep steps
steps_small [] [] count each sound = All-nil IsSmallStep
steps_small [] (step ∷ steps) count each sound = absurd (omega (arith, count))
steps_small (part ∷ parts) [] count each sound = absurd (omega (arith, count))
steps_small (part ∷ parts) (step ∷ steps) count each sound =
    let s = each 0 part step refl refl in
    let rest = flat_map (λ (part : List Said). part) parts in
    let front : All IsSizedSaid part =
    subst (All IsSizedSaid) (take_at part rest (length part) refl) (All-take IsSizedSaid (length part) (part ++ rest) sound) in
    let behind : All IsSizedSaid rest =
    subst (All IsSizedSaid) (drop_at part rest (length part) refl) (All-drop IsSizedSaid (length part) (part ++ rest) sound) in
    let some : 1 ≤ length step.octets = omega (arith, ap length s.octets, some_octets part s.some front) in
    All-cons IsSmallStep step steps (some, s.short)
    (steps_small parts steps (omega (arith, count)) (λ n part step at there. each (suc n) part step at there) behind)

pieces_small : (k : ℕ) (octets : List ℕ) → All IsSmallStep (map (said_by k) (pieces octets))
pieces_small k octets =
    let count = (length octets + 4095) / 4096 in
    All-map IsSmallStep (said_by k) (pieces octets)
    (All-map (λ (piece : List ℕ). (1 ≤ length piece) × (length piece ≤ 4096)) (slice_chunk octets 4096) (range_with_len 0 count)
    (all_in_range (λ n. (1 ≤ length (slice_chunk octets 4096 n)) × (length (slice_chunk octets 4096 n) ≤ 4096)) 0 count (λ n low.
    let size : length (slice_chunk octets 4096 n) ≡ min 4096 (length octets - n * 4096) =
    length-take 4096 (drop (n * 4096) octets) ∙ ap (min 4096) (length-drop (n * 4096) octets) in
    let inside : n * 4096 < length octets = omega (arith, low) in
    (omega (arith, size, inside), omega (arith, size)))))

pub are_small : (s : Streams) (i : Imported) → IsImport s i → AreSmall i
are_small s i imported =
    let keeps = is_external s i.home_as in
    let ended = flat_map (ended_at s.flows) (range_with_len 0 (length s.flows)) in
    let said : All IsSizedSaid (told keeps s.flows) = All-filter (λ said. keeps said.peer) IsSizedSaid ended (ended_all_sized s.flows (length s.flows)) in
    let p = imported.steps.packed in
    let whole = imported.steps.whole in
    let lasts = filter keeps (range_with_len 0 (length s.peers)) in
    let first : All IsSmallStep whole = steps_small p.parts whole p.count p.each (subst (All IsSizedSaid) (sym p.all_are) said) in
    let last : All IsSmallStep (flat_map (last_of s.flows) lasts) =
    all_flat IsSmallStep (last_of s.flows) (λ k. pieces_small k (unfinished k s.flows)) lasts in
    let short : (x : ℕ × _) (p : ImportedPeering) → peering_at s i.home_as x ≡ Some p → length p.opening ≤ 4096 =
    λ x p e.
    let t = peering_tells s i.home_as x.0 x.1 p e in
    subst (λ (xs : List ℕ). length xs ≤ 4096) (sym t.opening_is) (opening_short (messages p.peer s.flows) (messages_sized p.peer s.flows)) in
    record {
      openings = subst (All (λ p. length p.opening ≤ 4096)) (sym imported.peerings_are)
          (all_found (λ p. length p.opening ≤ 4096) (peering_at s i.home_as) short (enumerate_from 0 s.peers));
      steps = subst (All IsSmallStep) (sym imported.steps.steps_are)
          (All-append IsSmallStep whole (flat_map (last_of s.flows) lasts) first last);
    }
