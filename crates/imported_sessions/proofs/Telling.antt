-- What remotes say in openings and steps is all that they say.
use Rattle.std.proofs.Common.{◌≡◌, ℕ, zero, suc, ◌+◌, ◌*◌, ◌/◌, ◌<◌, ◌≤◌, max, Bool, true, false, cond, eqb, ltb, List, [], ◌∷◌, ◌++◌, length}
use Rattle.std.proofs.Common.{map, take, drop, Option, Some, None, refl, sym, ap, ◌∙◌, subst, inl, inr, append_assoc, arith}
use Rattle.std.specs.Prelude.{slice_get, filter, All}
use Rattle.std.specs.List.{flat_map, filter_map, cons_option, enumerate_from, range_with_len}
use Rattle.std.specs.Option.{option_map}
use Rattle.std.specs.Fork.{slice_chunk}
use Rattle.std.proofs.lemmas.Bool.{cond-true, cond-false, cases_eq, eq-eqb, ne_eqb, and_parts, false≢true, and_right, ltb-true}
use Rattle.std.proofs.lemmas.List.{append-nil, take-append-drop, take-take, take_all, drop-take}
use Rattle.std.proofs.lemmas.List.Concat.{flat_map-append}
use Rattle.std.proofs.lemmas.List.Elements.{All-head, All-tail}
use Rattle.std.proofs.lemmas.List.Folds.{flat_map-map}
use Rattle.std.proofs.lemmas.Option.{none-some, same_Some, slice_get_within, get_or_from_slice_get}
use Rattle.tcp_seq.specs.declared.segment.Way.TheVariants.{Home}
use Rattle.bgp_types.specs.declared.message.OpenMsg.{OpenMsg}
use Rattle.bgp_types.specs.Header.{frame_at}
use Rattle.bgp_types.specs.Many.{many}
use Rattle.bgp_types.proofs.ManyLaws.{many_none}
use Rattle.captured_streams.specs.declared.directed.Peer.{Peer}
use Rattle.captured_streams.specs.declared.streams.Flow.{Flow}
use Rattle.captured_streams.specs.declared.streams.Streams.{Streams}
use Rattle.imported_sessions.specs.declared.imported.Imported.{Imported}
use Rattle.imported_sessions.specs.declared.imported.ImportedPeering.{ImportedPeering}
use Rattle.imported_sessions.specs.declared.imported.Said.{Said}
use Rattle.imported_sessions.specs.Imports.{IsImport, SayAll, octets_by, peering_at, peering_with}
use Rattle.imported_sessions.specs.Messages.{messages, opening, opening_len, stream, unfinished, octets_of, goes, ended_at, ended_by, told}
use Rattle.imported_sessions.specs.Opens.{home_open, is_external, remote_open}
use Rattle.imported_sessions.specs.Steps.{ArePacked, IsStep, last_of, octets_in, pieces}
use Rattle.imported_sessions.proofs.Behind.{behind_more}
use Rattle.imported_sessions.proofs.Feeding.{fed, parts}
use Rattle.imported_sessions.proofs.Fronts.{no_front}
use Rattle.imported_sessions.specs.Heard.{said_by}
use Rattle.imported_sessions.proofs.Hearing.{flows_more, silent, stream_more}
use Rattle.imported_sessions.proofs.Openings.{not_past}
use Rattle.imported_sessions.proofs.Ranges.{one_number_more}

abbrev joined : List (List ℕ) → List ℕ
joined all = flat_map (λ message. message) all

-- ---- flat maps

flat_map-flat_map : {X Y Z : Type 0} (g : Y → List Z) (f : X → List Y) (xs : List X) → flat_map g (flat_map f xs) ≡ flat_map (λ x. flat_map g (f x)) xs
flat_map-flat_map g f [] = refl
flat_map-flat_map g f (x ∷ xs) = flat_map-append g (f x) (flat_map f xs) ∙ ap (λ zs. flat_map g (f x) ++ zs) (flat_map-flat_map g f xs)

-- a number that occurs once among those that are kept
module _ (keeps : ℕ → Bool) (k : ℕ) (kept : keeps k ≡ true) (h : ℕ → List ℕ) (others : (j : ℕ) → (j ≡ k → ⊥) → h j ≡ []) where
  none_there : (a n : ℕ) → k < a → flat_map h (filter keeps (range_with_len a n)) ≡ []
  none_there a zero past = refl
  none_there a (suc n) past =
      let none : h a ≡ [] = others a (λ e. omega (arith, past, e)) in
      let rest = none_there (a + 1) n (omega (arith, past)) in
      by_test (keeps a) none rest
    where
      by_test : (t : Bool) → h a ≡ [] → flat_map h (filter keeps (range_with_len (a + 1) n)) ≡ []
          → flat_map h (cond t (a ∷ filter keeps (range_with_len (a + 1) n)) (filter keeps (range_with_len (a + 1) n))) ≡ []
      by_test true none rest = ap (λ xs. xs ++ flat_map h (filter keeps (range_with_len (a + 1) n))) none ∙ rest
      by_test false none rest = rest

  once : (a n : ℕ) → a ≤ k → k < a + n → flat_map h (filter keeps (range_with_len a n)) ≡ h k
  once a zero low high = absurd (omega (arith, low, high))
  once a (suc n) low high = elim (cases_eq a k) [
    | inl e ↦
        let here : keeps a ≡ true = ap keeps e ∙ kept in
        ap (flat_map h) (cond-true (keeps a) (a ∷ filter keeps (range_with_len (a + 1) n)) (filter keeps (range_with_len (a + 1) n)) here)
        ∙ ap (λ xs. h a ++ xs) (none_there (a + 1) n (omega (arith, e))) ∙ append-nil (h a) ∙ ap h e
    | inr ne ↦
        let rest = once (a + 1) n (omega (arith, low, ne)) (omega (arith, high)) in
        by_test (keeps a) (others a ne) rest
  ]
    where
      by_test : (t : Bool) → h a ≡ [] → flat_map h (filter keeps (range_with_len (a + 1) n)) ≡ h k
          → flat_map h (cond t (a ∷ filter keeps (range_with_len (a + 1) n)) (filter keeps (range_with_len (a + 1) n))) ≡ h k
      by_test true none rest = ap (λ xs. xs ++ flat_map h (filter keeps (range_with_len (a + 1) n))) none ∙ rest
      by_test false none rest = rest

-- ---- the octets of one remote

module _ (k : ℕ) where
  by_it : (messages : List (List ℕ)) → flat_map (octets_by k) (map (said_by k) messages) ≡ joined messages
  by_it [] = refl
  by_it (m ∷ ms) =
      ap (λ (xs : List ℕ). xs ++ flat_map (octets_by k) (map (said_by k) ms)) (cond-true (eqb k k) m [] (eq-eqb k k refl))
      ∙ ap (λ (xs : List ℕ). m ++ xs) (by_it ms)

  by_other : (peer : ℕ) → (peer ≡ k → ⊥) → (messages : List (List ℕ)) → flat_map (octets_by k) (map (said_by peer) messages) ≡ []
  by_other peer ne [] = refl
  by_other peer ne (m ∷ ms) =
      ap (λ (xs : List ℕ). xs ++ flat_map (octets_by k) (map (said_by peer) ms)) (cond-false (eqb peer k) m [] (ne_eqb peer k ne))
      ∙ by_other peer ne ms

  by_kept : (keeps : ℕ → Bool) → keeps k ≡ true → (all : List Said)
      → flat_map (octets_by k) (filter (λ said. keeps said.peer) all) ≡ flat_map (octets_by k) all
  by_kept keeps kept [] = refl
  by_kept keeps kept (said ∷ all) = by_test (by_kept keeps kept all) (keeps said.peer) refl where
    by_test : flat_map (octets_by k) (filter (λ said. keeps said.peer) all) ≡ flat_map (octets_by k) all → (t : Bool) → keeps said.peer ≡ t
        → flat_map (octets_by k) (cond t (said ∷ filter (λ said. keeps said.peer) all) (filter (λ said. keeps said.peer) all))
        ≡ octets_by k said ++ flat_map (octets_by k) all
    by_test rest true e = ap (λ (xs : List ℕ). octets_by k said ++ xs) rest
    by_test rest false e =
        let ne : said.peer ≡ k → ⊥ = λ same. false≢true (sym e ∙ ap keeps same ∙ kept) in
        rest ∙ ap (λ (xs : List ℕ). xs ++ flat_map (octets_by k) all) (sym (cond-false (eqb said.peer k) said.octets [] (ne_eqb said.peer k ne)))

  -- ---- in steps

  by_part : (peer : ℕ) (part : List Said) → All (λ said. said.peer ≡ peer) part → flat_map (octets_by k) part ≡ cond (eqb peer k) (octets_in part) []
  by_part peer [] one = both (eqb peer k) where
    both : (t : Bool) → ◌≡◌ {A = List ℕ} [] (cond t [] [])
    both true = refl
    both false = refl
  by_part peer (said ∷ part) one =
      let here = All-head (λ said. said.peer ≡ peer) said part one in
      let rest = by_part peer part (All-tail (λ said. said.peer ≡ peer) said part one) in
      ap (λ (p : ℕ). cond (eqb p k) said.octets [] ++ flat_map (octets_by k) part) here
      ∙ ap (λ (xs : List ℕ). cond (eqb peer k) said.octets [] ++ xs) rest ∙ both (eqb peer k)
    where
      both : (t : Bool) → cond t said.octets [] ++ cond t (octets_in part) [] ≡ cond t (said.octets ++ octets_in part) []
      both true = refl
      both false = refl

  by_parts : (parts : List (List Said)) (steps : List Said) → length parts ≡ length steps
      → ((n : ℕ) (part : List Said) (step : Said) → slice_get parts n ≡ Some part → slice_get steps n ≡ Some step → IsStep part step)
      → flat_map (octets_by k) (flat_map (λ part. part) parts) ≡ flat_map (octets_by k) steps
  by_parts [] [] count each = refl
  by_parts [] (step ∷ steps) count each = absurd (omega (arith, count))
  by_parts (part ∷ parts) [] count each = absurd (omega (arith, count))
  by_parts (part ∷ parts) (step ∷ steps) count each =
      let s = each 0 part step refl refl in
      flat_map-append (octets_by k) part (flat_map (λ (part : List Said). part) parts)
      ∙ ap (λ (xs : List ℕ). xs ++ flat_map (octets_by k) (flat_map (λ (part : List Said). part) parts))
      (by_part step.peer part s.one ∙ ap (λ (xs : List ℕ). cond (eqb step.peer k) xs []) (sym s.octets))
      ∙ ap (λ (xs : List ℕ). octets_by k step ++ xs)
      (by_parts parts steps (omega (arith, count)) (λ n part step at there. each (suc n) part step at there))

  by_steps : (all steps : List Said) → ArePacked all steps → flat_map (octets_by k) steps ≡ flat_map (octets_by k) all
  by_steps all steps p = sym (by_parts p.parts steps p.count p.each) ∙ ap (flat_map (octets_by k)) p.all_are

  -- ---- in the order of the capture

  module _ (flows : List Flow) where
    abbrev so_far : ℕ → List (List ℕ)
    so_far n = messages k (take n flows)

    abbrev told_so_far : ℕ → List ℕ
    told_so_far n = joined (drop (opening_len (so_far n)) (so_far n))

    none_first : told_so_far 0 ≡ []
    none_first = ap (λ (m : List (List ℕ) × List ℕ). joined (drop (opening_len m.0) m.0)) (many_none frame_at [] no_front)

    more_at : (n : ℕ) (flow : Flow) → slice_get flows n ≡ Some flow → take (n + 1) flows ≡ take n flows ++ flow ∷ []
    more_at n flow at = flows_more flows n flow (slice_get_within flows n flow at) (sym (get_or_from_slice_get flows n flow flow at))

    ended_one : (n : ℕ) (o : Option Flow) → slice_get flows n ≡ o → n < length flows
        → told_so_far n ++ flat_map (octets_by k) (ended_by flows n o) ≡ told_so_far (n + 1)
    ended_one n None at low = absurd (not_past flows n low at)
    ended_one n (Some flow) at low = elim (cases_eq flow.peer k) [
      | inl e ↦
          let before = so_far n in
          let all = so_far (n + 1) in
          let next : suc n ≡ n + 1 = omega arith in
          let shown : flat_map (octets_by k) (ended_by flows n (Some flow)) ≡ joined (drop (max (opening_len all) (length before)) all) =
          ap (λ (p : ℕ). flat_map (octets_by k) (map (said_by p)
          (drop (max (opening_len (messages p (take (suc n) flows))) (length (messages p (take n flows)))) (messages p (take (suc n) flows))))) e
          ∙ by_it (drop (max (opening_len (so_far (suc n))) (length before)) (so_far (suc n)))
          ∙ ap (λ j. joined (drop (max (opening_len (so_far j)) (length before)) (so_far j))) next in
          let parts : all ≡ before ++ (many frame_at (unfinished k (take n flows) ++ octets_of Home k flow)).0 =
          ap (λ (fs : List Flow). messages k fs) (more_at n flow at) ∙ ap (λ (xs : List ℕ). (many frame_at xs).0) (stream_more (take n flows) flow Home k)
          ∙ ap (λ (m : List (List ℕ) × List ℕ). m.0) (fed (stream Home k (take n flows)) (octets_of Home k flow)) in
          let more = (many frame_at (unfinished k (take n flows) ++ octets_of Home k flow)).0 in
          ap (λ (xs : List ℕ). told_so_far n ++ xs) (shown ∙ ap (λ (xs : List (List ℕ)). joined (drop (max (opening_len xs) (length before)) xs)) parts)
          ∙ sym (flat_map-append (λ (m : List ℕ). m) (drop (opening_len before) before)
          (drop (max (opening_len (before ++ more)) (length before)) (before ++ more)))
          ∙ ap joined (sym (behind_more before more))
          ∙ ap (λ (xs : List (List ℕ)). joined (drop (opening_len xs) xs)) (sym parts)
      | inr ne ↦
          let same : messages k (take n flows) ≡ messages k (take (n + 1) flows) =
          let quiet = and_right (goes Home flow.way) (eqb flow.peer k) (ne_eqb flow.peer k ne) in
          ap (λ (xs : List ℕ). (many frame_at xs).0) (sym (silent (take n flows) flow Home k quiet))
          ∙ ap (λ (fs : List Flow). messages k fs) (sym (more_at n flow at)) in
          let all = messages flow.peer (take (suc n) flows) in
          ap (λ (xs : List ℕ). told_so_far n ++ xs)
          (by_other flow.peer ne (drop (max (opening_len all) (length (messages flow.peer (take n flows)))) all))
          ∙ append-nil (told_so_far n) ∙ ap (λ (xs : List (List ℕ)). joined (drop (opening_len xs) xs)) same
    ]

    ended_all : (n : ℕ) → n ≤ length flows → flat_map (octets_by k) (flat_map (ended_at flows) (range_with_len 0 n)) ≡ told_so_far n
    ended_all zero low = sym none_first
    ended_all (suc n) low =
        let next : suc n ≡ n + 1 = omega arith in
        let sofar = flat_map (ended_at flows) (range_with_len 0 n) in
        ap (λ j. flat_map (octets_by k) (flat_map (ended_at flows) (range_with_len 0 j))) next
        ∙ ap (flat_map (octets_by k)) (one_number_more (ended_at flows) n) ∙ flat_map-append (octets_by k) sofar (ended_at flows n)
        ∙ ap (λ (xs : List ℕ). xs ++ flat_map (octets_by k) (ended_at flows n)) (ended_all n (omega (arith, low)))
        ∙ ended_one n (slice_get flows n) refl (omega (arith, low)) ∙ ap told_so_far (sym next)

    by_told : (keeps : ℕ → Bool) → keeps k ≡ true
        → flat_map (octets_by k) (told keeps flows) ≡ joined (drop (opening_len (messages k flows)) (messages k flows))
    by_told keeps kept =
        by_kept keeps kept (flat_map (ended_at flows) (range_with_len 0 (length flows)))
        ∙ ended_all (length flows) (omega arith)
        ∙ ap (λ (fs : List Flow). joined (drop (opening_len (messages k fs)) (messages k fs))) (take_all (length flows) flows (omega arith))

-- ---- what is behind the last message

take_add : {X : Type 0} (a b : ℕ) (xs : List X) → take a xs ++ take b (drop a xs) ≡ take (a + b) xs
take_add a b xs =
    ap (λ ys. ys ++ take b (drop a xs)) (sym (take-take a (a + b) xs (omega arith)))
    ∙ ap (λ ys. take a (take (a + b) xs) ++ ys) (sym (drop-take a b xs)) ∙ take-append-drop a (take (a + b) xs)

front_pieces : (xs : List ℕ) (n : ℕ) → flat_map (slice_chunk xs 4096) (range_with_len 0 n) ≡ take (n * 4096) xs
front_pieces xs zero = refl
front_pieces xs (suc n) =
    let next : suc n ≡ n + 1 = omega arith in
    let size : n * 4096 + 4096 ≡ suc n * 4096 = omega arith in
    ap (λ j. flat_map (slice_chunk xs 4096) (range_with_len 0 j)) next ∙ one_number_more (slice_chunk xs 4096) n
    ∙ ap (λ (ys : List ℕ). ys ++ slice_chunk xs 4096 n) (front_pieces xs n) ∙ take_add (n * 4096) 4096 xs ∙ ap (λ j. take j xs) size

joined_pieces : (xs : List ℕ) → joined (pieces xs) ≡ xs
joined_pieces xs =
    let count = (length xs + 4095) / 4096 in
    flat_map-map (λ (piece : List ℕ). piece) (slice_chunk xs 4096) (range_with_len 0 count) ∙ front_pieces xs count
    ∙ take_all (count * 4096) xs (omega arith)

-- ---- a peering

pub record Tells (s : Streams) (home_as : ℕ) (p : ImportedPeering) : Type 0 where
  pub external : is_external s home_as p.peer ≡ true
  pub opening_is : p.opening ≡ opening (messages p.peer s.flows)

pub peering_tells : (s : Streams) (home_as k : ℕ) (peer : Peer) (p : ImportedPeering) → peering_at s home_as (k, peer) ≡ Some p → Tells s home_as p
peering_tells s home_as k peer p e = by_test (is_external s home_as k) refl (remote_open s k) e where
  by_test : (t : Bool) → is_external s home_as k ≡ t → (o : Option OpenMsg)
      → cond t (option_map (λ remote. peering_with s k peer remote (home_open s k)) o) None ≡ Some p → Tells s home_as p
  by_test false f o e = absurd (none-some p e)
  by_test true f None e = absurd (none-some p e)
  by_test true f (Some remote) e =
      subst (Tells s home_as) (same_Some (peering_with s k peer remote (home_open s k)) p e) (record { external = f; opening_is = refl })

found : {X Y : Type 0} (f : X → Option Y) (xs : List X) (n : ℕ) (y : Y) → slice_get (filter_map f xs) n ≡ Some y → (x : X) × (f x ≡ Some y)
found f [] n y e = absurd (none-some y e)
found {X} {Y} f (x ∷ xs) n y e = by_front (λ m e. found f xs m y e) (f x) refl n e where
  by_front : ((m : ℕ) → slice_get (filter_map f xs) m ≡ Some y → (x : X) × (f x ≡ Some y)) → (o : Option Y) → f x ≡ o → (n : ℕ)
      → slice_get (cons_option o (filter_map f xs)) n ≡ Some y → (x : X) × (f x ≡ Some y)
  by_front rest None is n e = rest n e
  by_front rest (Some z) is zero e = (x, is ∙ e)
  by_front rest (Some z) is (suc n) e = rest n e

pub says_all : (s : Streams) (i : Imported) → IsImport s i → SayAll s i
says_all s i imported n p at =
    let f = found (peering_at s i.home_as) (enumerate_from 0 s.peers) n p
    (ap (λ (ps : List ImportedPeering). slice_get ps n) (sym imported.peerings_are) ∙ at) in
    let t = peering_tells s i.home_as f.0.0 f.0.1 p f.1 in
    let k = p.peer in
    let keeps = is_external s i.home_as in
    let kept : keeps k ≡ true = t.external in
    let low : k < length s.peers = ltb-true k (length s.peers) (and_parts (ltb k (length s.peers)) _ t.external).0 in
    let whole = imported.steps.whole in
    let count = length s.peers in
    let all = messages k s.flows in
    let rest = unfinished k s.flows in
    let behind : flat_map (octets_by k) (flat_map (last_of s.flows) (filter keeps (range_with_len 0 count))) ≡ rest =
    flat_map-flat_map (octets_by k) (last_of s.flows) (filter keeps (range_with_len 0 count))
    ∙ once keeps k kept (λ j. flat_map (octets_by k) (last_of s.flows j)) (λ j ne. by_other k j ne (pieces (unfinished j s.flows))) 0 count
    (omega arith) (omega (arith, low))
    ∙ by_it k (pieces rest) ∙ joined_pieces rest in
    let steps : flat_map (octets_by k) i.steps ≡ joined (drop (opening_len all) all) ++ rest =
    ap (flat_map (octets_by k)) imported.steps.steps_are
    ∙ flat_map-append (octets_by k) whole (flat_map (last_of s.flows) (filter keeps (range_with_len 0 count)))
    ∙ ap (λ (xs : List ℕ). xs ++ flat_map (octets_by k) (flat_map (last_of s.flows) (filter keeps (range_with_len 0 count))))
    (by_steps k (told keeps s.flows) whole imported.steps.packed ∙ by_told k s.flows keeps kept)
    ∙ ap (λ (xs : List ℕ). joined (drop (opening_len all) all) ++ xs) behind in
    ap (λ (xs : List ℕ). xs ++ flat_map (octets_by k) i.steps) t.opening_is
    ∙ ap (λ (xs : List ℕ). opening all ++ xs) steps
    ∙ sym (append_assoc (opening all) (joined (drop (opening_len all) all)) rest)
    ∙ ap (λ (xs : List ℕ). xs ++ rest) (sym (flat_map-append (λ (m : List ℕ). m) (take (opening_len all) all) (drop (opening_len all) all))
    ∙ ap joined (take-append-drop (opening_len all) all))
    ∙ (parts (stream Home k s.flows)).joined
