-- Messages that are packed into steps.
use Rattle.std.proofs.Common.{◌≡◌, ℕ, zero, suc, ◌+◌, ◌-◌, ◌<◌, ◌≤◌, Bool, true, false, cond, eqb, leb, List, [], ◌∷◌, ◌++◌, length, take, get_or, set}
use Rattle.std.proofs.Common.{Option, Some, None, ◌⊎◌, refl, sym, ap, ◌∙◌, subst, inl, inr, append_assoc, length-append, arith}
use Rattle.std.specs.Prelude.{◌&&◌, All, slice_get}
use Rattle.std.specs.List.{filter, flat_map}
use Rattle.std.proofs.lemmas.Bool.{and_cases, and_left, and_parts, cases_lt, cond-false, cond-true, eq-eqb, le-leb, lt-leb, ne_eqb, eqb-true}
use Rattle.std.proofs.lemmas.Bool.{eqb-false, leb-true, leb-false, false≢true}
use Rattle.std.proofs.lemmas.List.{append-nil, length_push, set_split, drop_all, take_more, take_all}
use Rattle.std.proofs.lemmas.List.Concat.{flat_map-append}
use Rattle.std.proofs.lemmas.List.Elements.{All-nil, All-cons, All-push, filter-append}
use Rattle.std.proofs.lemmas.Option.{same_Some, none-some, get_or_from_slice_get, slice_get_within}
use Rattle.tcp_seq.proofs.Lookups.{get-append_left, get-append_right}
use Rattle.imported_sessions.specs.declared.imported.Said.{Said}
use Rattle.imported_sessions.specs.declared.opened.Opened.{Opened}
use Rattle.imported_sessions.specs.Opened.{is_external_in}
use Rattle.imported_sessions.specs.Packed.{AreMoreStepsOf, AreStepsOf, has_room}
use Rattle.imported_sessions.specs.Steps.{ArePacked, IsFull, IsStep, octets_in}

-- ---- the last element

module _ {X : Type 0} where
  -- an element of a list that is one longer than another one is in that, or is the last one
  pub in_more : (xs : List X) (x : X) (n : ℕ) (y : X) → slice_get (xs ++ x ∷ []) n ≡ Some y
      → ((n < length xs) × (slice_get xs n ≡ Some y)) ⊎ ((n ≡ length xs) × (x ≡ y))
  in_more [] x zero y at = inr (refl, same_Some x y at)
  in_more [] x (suc n) y at = absurd (none-some y at)
  in_more (z ∷ xs) x zero y at = inl (omega arith, at)
  in_more (z ∷ xs) x (suc n) y at = elim (in_more xs x n y at) [ inl w ↦ inl (omega (arith, w.0), w.1) | inr w ↦ inr (ap suc w.0, w.1) ]

  -- the last element
  abbrev pub last_of : List X → Option X
  last_of xs = slice_get xs (length xs - 1)

  last_at : (xs : List X) (n : ℕ) (x : X) → slice_get xs n ≡ Some x → suc n ≡ length xs → last_of xs ≡ Some x
  last_at xs n x at e = let same : length xs - 1 ≡ n = omega (arith, e) in ap (slice_get xs) same ∙ at

  -- a list with an element is others and that one
  pub record IsLast (xs : List X) : Type 0 where
    pub front : List X
    pub last : X
    pub is : xs ≡ front ++ last ∷ []

  has_last : (xs : List X) (n : ℕ) → length xs ≡ suc n → IsLast xs
  has_last [] n e = absurd (omega (arith, e))
  has_last (x ∷ xs) n e = record {
    front = take n (x ∷ xs);
    last = get_or (x ∷ xs) n x;
    is = sym (take_all (n + 1) (x ∷ xs) (omega (arith, e))) ∙ take_more (x ∷ xs) n x (omega (arith, e));
  }

-- ---- a message that begins a step

all_of_one : {X : Type 0} (P : X → Type 0) (x : X) → P x → All P (x ∷ [])
all_of_one P x p = All-cons P x [] p (All-nil P)

full_step : (step message : Said) → has_room (Some step) message ≡ false → IsFull step message
full_step step message full = λ same. elim (and_cases (eqb step.peer message.peer) (leb (length step.octets + length message.octets) 4096) full) [
  | inl ne ↦ absurd (eqb-false step.peer message.peer ne same)
  | inr far ↦ leb-false (length step.octets + length message.octets) 4096 far
]

module _ (all steps : List Said) (p : ArePacked all steps) (message : Said) where
  abbrev parts' : List (List Said)
  parts' = p.parts ++ (message ∷ []) ∷ []

  pub begins_step : has_room (last_of steps) message ≡ false → length message.octets ≤ 4096 → ArePacked (all ++ message ∷ []) (steps ++ message ∷ [])
  begins_step full short = record {
    parts = parts';
    all_are = flat_map-append (λ (part : List Said). part) p.parts ((message ∷ []) ∷ []) ∙ ap (λ (xs : List Said). xs ++ message ∷ []) p.all_are;
    count = length_push p.parts (message ∷ []) ∙ ap (λ n. n + 1) p.count ∙ sym (length_push steps message);
    each = λ n part step at there. elim (in_more p.parts (message ∷ []) n part at) [
      | inl w ↦
          let low : n < length steps = omega (arith, w.0, p.count) in
          p.each n part step w.1 (sym (get-append_left steps (message ∷ []) n low) ∙ there)
      | inr w ↦
          let last : n ≡ length steps + 0 = omega (arith, w.0, p.count) in
          let is : message ≡ step = same_Some message step (sym (get-append_right steps (message ∷ []) n 0 last) ∙ there) in
          subst (λ (xs : List Said). IsStep xs step) w.1 (subst (IsStep (message ∷ [])) is (record {
            some = omega arith;
            one = all_of_one (λ said. said.peer ≡ message.peer) message refl;
            octets = sym (append-nil message.octets);
            short = short;
          }))
    ];
    full = λ n step next part there at. elim (in_more p.parts (message ∷ []) (suc n) (next ∷ part) at) [
      | inl w ↦
          let low : n < length steps = omega (arith, w.0, p.count) in
          p.full n step next part (sym (get-append_left steps (message ∷ []) n low) ∙ there) w.1
      | inr w ↦
          let low : n < length steps = omega (arith, w.0, p.count) in
          let at_old : slice_get steps n ≡ Some step = sym (get-append_left steps (message ∷ []) n low) ∙ there in
          let end : suc n ≡ length steps = omega (arith, w.0, p.count) in
          let is : message ≡ next = cc (w.1) in
          subst (IsFull step) is (full_step step message (ap (λ (o : Option Said). has_room o message) (sym (last_at steps n step at_old end)) ∙ full))
    ];
  }

-- ---- a message that joins the last step

joined_octets : (part : List Said) (message : Said) → octets_in (part ++ message ∷ []) ≡ octets_in part ++ message.octets
joined_octets part message =
    flat_map-append (λ (said : Said). said.octets) part (message ∷ []) ∙ ap (λ (xs : List ℕ). octets_in part ++ xs) (append-nil message.octets)

first_stays : (part more rest : List Said) (next : Said) → 1 ≤ length part → part ++ more ≡ next ∷ rest → (behind : List Said) × (part ≡ next ∷ behind)
first_stays [] more rest next some e = absurd (omega (arith, some))
first_stays (x ∷ part) more rest next some e = (part, ap (λ (y : Said). y ∷ part) (cc (e)))

module _ (front : List Said) (step : Said) (message : Said) (one : step.peer ≡ message.peer) (room : length step.octets + length message.octets ≤ 4096) where
  abbrev longer : Said
  longer = record step { octets = step.octets ++ message.octets }

  longer_step : (part : List Said) → IsStep part step → IsStep (part ++ message ∷ []) longer
  longer_step part s = record {
    some = let l = length_push part message in omega arith;
    one = All-push (λ said. said.peer ≡ step.peer) part message s.one (sym one);
    octets = ap (λ (xs : List ℕ). xs ++ message.octets) s.octets ∙ sym (joined_octets part message);
    short = omega (arith, length-append step.octets message.octets, room);
  }

  longer_last : (all : List Said) (p : ArePacked all (front ++ step ∷ [])) → IsLast p.parts → ArePacked (all ++ message ∷ []) (front ++ longer ∷ [])
  longer_last all p l =
      let len : length p.parts ≡ length l.front + 1 = ap length l.is ∙ length_push l.front l.last in
      let size : length (front ++ step ∷ []) ≡ length front + 1 = length_push front step in
      let same : length l.front ≡ length front = omega (arith, len, size, p.count) in
      let part_at : slice_get p.parts (length l.front) ≡ Some l.last =
      ap (λ (xs : List (List Said)). slice_get xs (length l.front)) l.is ∙ get-append_right l.front (l.last ∷ []) (length l.front) 0 (omega arith) in
      let step_at : slice_get (front ++ step ∷ []) (length l.front) ≡ Some step =
      get-append_right front (step ∷ []) (length l.front) 0 (omega (arith, same)) in
      let s : IsStep l.last step = p.each (length l.front) l.last step part_at step_at in
      let old_part : (n : ℕ) (part : List Said) → n < length l.front → slice_get l.front n ≡ Some part → slice_get p.parts n ≡ Some part =
      λ n part low at. ap (λ (xs : List (List Said)). slice_get xs n) l.is ∙ get-append_left l.front (l.last ∷ []) n low ∙ at in
      let old_step : (n : ℕ) (other : Said) → n < length front → slice_get (front ++ longer ∷ []) n ≡ Some other
      → slice_get (front ++ step ∷ []) n ≡ Some other =
      λ n other low at. get-append_left front (step ∷ []) n low ∙ sym (get-append_left front (longer ∷ []) n low) ∙ at in
      record {
        parts = l.front ++ (l.last ++ message ∷ []) ∷ [];
        all_are = flat_map-append (λ (part : List Said). part) l.front ((l.last ++ message ∷ []) ∷ [])
            ∙ ap (λ (xs : List Said). flat_map (λ (part : List Said). part) l.front ++ xs) (append-nil (l.last ++ message ∷ []))
            ∙ sym (append_assoc (flat_map (λ (part : List Said). part) l.front) l.last (message ∷ []))
            ∙ ap (λ (xs : List Said). xs ++ message ∷ []) (sym (ap (λ (xs : List (List Said)). flat_map (λ (part : List Said). part) xs) l.is
            ∙ flat_map-append (λ (part : List Said). part) l.front (l.last ∷ [])
            ∙ ap (λ (xs : List Said). flat_map (λ (part : List Said). part) l.front ++ xs) (append-nil l.last)) ∙ p.all_are);
        count = length_push l.front (l.last ++ message ∷ []) ∙ ap (λ n. n + 1) same ∙ sym (length_push front longer);
        each = λ n part other at there. elim (in_more l.front (l.last ++ message ∷ []) n part at) [
          | inl w ↦ p.each n part other (old_part n part w.0 w.1) (old_step n other (omega (arith, w.0, same)) there)
          | inr w ↦
              let is : longer ≡ other =
              same_Some longer other (sym (get-append_right front (longer ∷ []) n 0 (omega (arith, w.0, same))) ∙ there) in
              subst (λ (xs : List Said). IsStep xs other) w.1 (subst (IsStep (l.last ++ message ∷ [])) is (longer_step l.last s))
        ];
        full = λ n other next part there at. elim (in_more l.front (l.last ++ message ∷ []) (suc n) (next ∷ part) at) [
          | inl w ↦ p.full n other next part (old_step n other (omega (arith, w.0, same)) there) (old_part (suc n) (next ∷ part) w.0 w.1)
          | inr w ↦
              let low : n < length front = omega (arith, w.0, same) in
              let was = first_stays l.last (message ∷ []) part next s.some w.1 in
              let at_old : slice_get p.parts (suc n) ≡ Some (next ∷ was.0) =
              ap (slice_get p.parts) w.0 ∙ part_at ∙ ap (λ (xs : List Said). Some xs) was.1 in
              p.full n other next was.0 (old_step n other low there) at_old
        ];
      }

  pub joins_step : (all : List Said) → ArePacked all (front ++ step ∷ []) → ArePacked (all ++ message ∷ []) (front ++ longer ∷ [])
  joins_step all p = longer_last all p (has_last p.parts (length front) (let c = p.count in let l = length_push front step in omega arith))

-- ---- the last step in its list

pub last_split : {X : Type 0} (xs : List X) (x : X) → last_of xs ≡ Some x → (0 < length xs) × (xs ≡ take (length xs - 1) xs ++ x ∷ [])
last_split xs x at =
    let low = slice_get_within xs (length xs - 1) x at in (
      omega (arith, low),
      sym (take_all (length xs - 1 + 1) xs (omega (arith, low))) ∙ take_more xs (length xs - 1) x low
          ∙ ap (λ y. take (length xs - 1) xs ++ y ∷ []) (get_or_from_slice_get xs (length xs - 1) x x at),
    )

pub last_set : {X : Type 0} (xs : List X) (y : X) → 0 < length xs → set xs (length xs - 1) y ≡ take (length xs - 1) xs ++ y ∷ []
last_set xs y some =
    set_split xs (length xs - 1) y (omega (arith, some))
    ∙ ap (λ ys. take (length xs - 1) xs ++ y ∷ ys) (drop_all (suc (length xs - 1)) xs (omega (arith, some)))

pub room_is : (step : Option Said) (message : Said) → has_room step message ≡ true
    → (last : Said) × (step ≡ Some last) × (last.peer ≡ message.peer) × (length last.octets + length message.octets ≤ 4096)
room_is None message e = absurd (false≢true e)
room_is (Some last) message e =
    let h = and_parts (eqb last.peer message.peer) (leb (length last.octets + length message.octets) 4096) e in
    (last, refl, eqb-true last.peer message.peer h.0, leb-true (length last.octets + length message.octets) 4096 h.1)

-- ---- whether there is room

same_leb : (m n most : ℕ) → (m ≤ most → n ≤ most) → (n ≤ most → m ≤ most) → leb m most ≡ leb n most
same_leb m n most there back = elim (cases_lt most n) [
  | inl past ↦ lt-leb m most (elim (cases_lt most m) [ inl over ↦ over | inr within ↦ absurd (omega (arith, past, there within)) ]) ∙ sym (lt-leb n most past)
  | inr within ↦ le-leb m most (back within) ∙ sym (le-leb n most within)
]

module _ (step : Option Said) (last message : Said) (is : Some last ≡ step) where
  pub room_told : (sum : ℕ) → last.peer ≡ message.peer → (sum ≤ 4096 → length last.octets + length message.octets ≤ 4096)
      → (length last.octets + length message.octets ≤ 4096 → sum ≤ 4096) → leb sum 4096 ≡ has_room step message
  room_told sum same there back =
      same_leb sum (length last.octets + length message.octets) 4096 there back
      ∙ ap (λ (b : Bool). b && leb (length last.octets + length message.octets) 4096) (sym (eq-eqb last.peer message.peer same))
      ∙ ap (λ (o : Option Said). has_room o message) is

  pub others_told : (last.peer ≡ message.peer → ⊥) → eqb last.peer message.peer ≡ has_room step message
  others_told ne =
      ne_eqb last.peer message.peer ne
      ∙ sym (and_left (eqb last.peer message.peer) (leb (length last.octets + length message.octets) 4096) (ne_eqb last.peer message.peer ne))
      ∙ ap (λ (o : Option Said). has_room o message) is

-- the last step with the octets of a message that has room in it
pub joined_last : (steps : List Said) (message : Said) → has_room (last_of steps) message ≡ true → (i : ℕ) → i ≡ length steps - 1 → (old : Said)
    → old ≡ get_or steps i old → (octets : List ℕ) → octets ≡ old.octets ++ message.octets → (all : List Said) → ArePacked all steps
    → ArePacked (all ++ message ∷ []) (set steps i (record old { octets = octets }))
joined_last steps message room i at old is octets joined all p =
    let r = room_is (last_of steps) message room in
    let split = last_split steps r.0 r.1 in
    let front = take (length steps - 1) steps in
    let same : old ≡ r.0 = is ∙ ap (λ j. get_or steps j old) at ∙ get_or_from_slice_get steps (length steps - 1) r.0 old r.1 in
    let peer : old.peer ≡ message.peer = ap (λ (s : Said). s.peer) same ∙ r.2 in
    let fits : length old.octets + length message.octets ≤ 4096 =
    subst (λ (s : Said). length s.octets + length message.octets ≤ 4096) (sym same) r.3 in
    let parts : steps ≡ front ++ old ∷ [] = split.1 ∙ ap (λ (s : Said). front ++ s ∷ []) (sym same) in
    let whole : ArePacked (all ++ message ∷ []) (front ++ record old { octets = octets } ∷ []) =
    subst (λ (xs : List ℕ). ArePacked (all ++ message ∷ []) (front ++ record old { octets = xs } ∷ [])) (sym joined)
    (joins_step front old message peer fits all (subst (ArePacked all) parts p)) in
    subst (ArePacked (all ++ message ∷ []))
    (sym (ap (λ j. set steps j (record old { octets = octets })) at ∙ last_set steps (record old { octets = octets }) split.0)) whole

-- ---- messages that are kept

module _ {X : Type 0} (p : X → Bool) (xs : List X) (x : X) where
  pub kept_more : p x ≡ true → filter p (xs ++ x ∷ []) ≡ filter p xs ++ x ∷ []
  kept_more e = filter-append p xs (x ∷ []) ∙ ap (λ ys. filter p xs ++ ys) (cond-true (p x) (x ∷ []) [] e)

  pub left_more : p x ≡ false → filter p (xs ++ x ∷ []) ≡ filter p xs
  left_more e = filter-append p xs (x ∷ []) ∙ ap (λ ys. filter p xs ++ ys) (cond-false (p x) (x ∷ []) [] e) ∙ append-nil (filter p xs)

pub filter_both : {X : Type 0} (p q : X → Bool) → ((x : X) → p x ≡ true → q x ≡ true) → (xs : List X) → filter p (filter q xs) ≡ filter p xs
filter_both p q within [] = refl
filter_both p q within (x ∷ xs) = by_test (filter_both p q within xs) (q x) refl (p x) refl where
  by_test : filter p (filter q xs) ≡ filter p xs → (t : Bool) → q x ≡ t → (u : Bool) → p x ≡ u
      → filter p (cond t (x ∷ filter q xs) (filter q xs)) ≡ cond u (x ∷ filter p xs) (filter p xs)
  by_test rest true e true f = cond-true (p x) (x ∷ filter p (filter q xs)) (filter p (filter q xs)) f ∙ ap (λ ys. x ∷ ys) rest
  by_test rest true e false f = cond-false (p x) (x ∷ filter p (filter q xs)) (filter p (filter q xs)) f ∙ rest
  by_test rest false e true f = absurd (false≢true (sym e ∙ within x f))
  by_test rest false e false f = rest

-- ---- the steps of the remotes that are kept

module _ (opened : List Opened) (home_as : ℕ) where
  abbrev is_kept : Said → Bool
  is_kept message = is_external_in opened home_as message.peer

  pub none_more : (more steps : List Said) → more ≡ [] → AreMoreStepsOf opened home_as more steps steps
  none_more more steps none = λ told p.
      subst (λ (ms : List Said). AreStepsOf opened home_as ms steps) (sym (ap (λ (ms : List Said). told ++ ms) none ∙ append-nil told)) p

  pub one_left : (message : Said) (steps : List Said) → is_kept message ≡ false → AreMoreStepsOf opened home_as (message ∷ []) steps steps
  one_left message steps e = λ told p. subst (λ (ms : List Said). ArePacked ms steps) (sym (left_more is_kept told message e)) p

  pub one_kept : (message : Said) (old new : List Said) → is_kept message ≡ true → length message.octets ≤ 4096
      → ((all : List Said) → ArePacked all old → length message.octets ≤ 4096 → ArePacked (all ++ message ∷ []) new)
      → AreMoreStepsOf opened home_as (message ∷ []) old new
  one_kept message old new e short pushed = λ told p.
      subst (λ (ms : List Said). ArePacked ms new) (sym (kept_more is_kept told message e)) (pushed (filter is_kept told) p short)

  -- more messages, and then more of them
  pub more_again : (one two old mid new : List Said) → AreMoreStepsOf opened home_as one old mid → AreMoreStepsOf opened home_as two mid new
      → AreMoreStepsOf opened home_as (one ++ two) old new
  more_again one two old mid new first then_more = λ told p.
      subst (λ (ms : List Said). AreStepsOf opened home_as ms new) (append_assoc told one two) (then_more (told ++ one) (first told p))
