-- The reading of all octets, from those of the first field and of the rest.
use Rattle.std.proofs.Common.{◌≡◌, ◌≢◌, ℕ, true, false, List, [], ◌∷◌, ◌++◌, length, take, refl, sym, ap, ◌∙◌, subst, arith, length-append, zero-add}
use Rattle.std.specs.Prelude.{◌==◌, Result, Ok, Err, IsErrAnd}
use Rattle.std.specs.Str.{bytes_eq}
use Rattle.std.proofs.lemmas.Bool.{false≢true, eqb-true}
use Rattle.std.proofs.lemmas.Bool.Decides.{not_from_Decides}
use Rattle.std.proofs.lemmas.Slice.Eq.{bytes_eq-Decides}
use Rattle.std.proofs.lemmas.List.{append-nil, nil_from_length}
use Rattle.std.proofs.Math.Seq.{take-append_seam}
use Rattle.tcp_seq.specs.declared.segment.Way.TheVariants.{Remote}
use Rattle.capsule_bytes.specs.declared.parts.CapsuleParts.{CapsuleParts}
use Rattle.capsule_bytes.specs.declared.stop.CapsuleStop.{CapsuleStop}
use Rattle.capsule_bytes.specs.declared.stop.CapsuleStop.TheVariants as stops
use Rattle.capsule_bytes.specs.Fields.{Field, octets_where, spelled}
use Rattle.capsule_bytes.specs.Capsules.{magic, magic_field, body_fields, fields, IsCapsuleOf}
use Rattle.capsule_bytes.specs.Stops.{Unread, Passes, StopsAt, Stops, HasOtherMagic, GoesOn, Answers, all_unread}
use Rattle.capsule_bytes.specs.Worked.{worked}
use Rattle.capsule_bytes.proofs.Readings.{Passes-append, Passes-none, behind}

-- fewer than four octets
first_stops : (bytes : List ℕ) (stop : CapsuleStop) → StopsAt (octets_where (λ _. true) magic) (all_unread bytes) stop → Answers bytes (Err stop)
first_stops bytes stops.Magic h = absurd h
first_stops bytes (stops.Cut n) h = record {
  value = worked;
  before = [];
  field = magic_field;
  after = body_fields worked;
  fields_are = refl;
  next = all_unread bytes;
  passes = Passes-none (all_unread bytes);
  stops = h;
}
first_stops bytes (stops.Value n) h = absurd (false≢true (sym h.1.wrong))
first_stops bytes (stops.Rest n) h = absurd h
first_stops bytes stops.NoMemory h = tt

pub first_answer : (bytes : List ℕ) (start : Unread) → start ≡ all_unread bytes → (r : Result CapsuleParts CapsuleStop) (stop : CapsuleStop)
    → IsErrAnd r (λ x. x ≡ stop) → StopsAt (octets_where (λ _. true) magic) start stop → Answers bytes r
first_answer bytes start is (Ok p) stop err h = absurd err
first_answer bytes start is (Err x) stop err h =
    first_stops bytes x (subst (λ y. StopsAt (octets_where (λ _. true) magic) (all_unread bytes) y) (sym err)
    (subst (λ u. StopsAt (octets_where (λ _. true) magic) u stop) is h))

-- four other octets
pub other_first : (bytes first : List ℕ) (start m : Unread) → start ≡ all_unread bytes → length first ≡ 4
    → Passes (octets_where (λ _. true) first ∷ []) start m → first ≢ magic → HasOtherMagic bytes
other_first bytes first start m at long passed other =
    let p = subst (λ u. Passes (octets_where (λ _. true) first ∷ []) u m) at passed in
    let is : bytes ≡ first ++ m.octets = p.octets_are ∙ ap (λ (o : List ℕ). o ++ m.octets) (append-nil first) in
    let front : take 4 bytes ≡ first =
    ap (λ (o : List ℕ). take 4 o) is ∙ ap (λ (n : ℕ). take n (first ++ m.octets)) (sym long) ∙ take-append_seam first m.octets in
    record {
      there = omega (arith, ap (λ (o : List ℕ). length o) is, length-append first m.octets, long);
      other = λ e. other (sym front ∙ e);
    }

pub right_first : (bytes first : List ℕ) (start m : Unread) → start ≡ all_unread bytes → Passes (octets_where (λ _. true) first ∷ []) start m
    → first ≡ magic → Passes (magic_field ∷ []) (all_unread bytes) m
right_first bytes first start m at passed same = let p = subst (λ u. Passes (octets_where (λ _. true) first ∷ []) u m) at passed in record {
  right = ((refl, refl), tt);
  octets_are = p.octets_are ∙ ap (λ (o : List ℕ). (o ++ []) ++ m.octets) same;
  place_is = omega (arith, p.place_is, ap (λ (o : List ℕ). length (o ++ [])) same);
}

-- what follows the first four octets stops the reading
body_stops : (bytes : List ℕ) (m : Unread) → Passes (magic_field ∷ []) (all_unread bytes) m → (stop : CapsuleStop) → Stops body_fields m stop
    → Answers bytes (Err stop)
body_stops bytes m p stop h =
    by stop h (behind body_fields fields ((magic_field ∷ []) ∷ []) (λ q. record {
      value = q;
      after = [];
      is = ap (λ (fs : List Field). magic_field ∷ fs) (sym (append-nil (body_fields q)));
    }) (all_unread bytes) m (m, p, refl) stop h)
  where
    by : (stop : CapsuleStop) → Stops body_fields m stop → Stops fields (all_unread bytes) stop → Answers bytes (Err stop)
    by stops.Magic h all = absurd h
    by (stops.Cut n) h all = all
    by (stops.Value n) h all = (omega (arith, h.stops.0, h.passes.place_is, p.place_is), all)
    by (stops.Rest n) h all = absurd h
    by stops.NoMemory h all = tt

-- a capsule was read
passes_all : (bytes : List ℕ) (m e : Unread) (q : CapsuleParts) → Passes (magic_field ∷ []) (all_unread bytes) m → Passes (body_fields q) m e
    → Passes (fields q) (all_unread bytes) e
passes_all bytes m e q p r = Passes-append (magic_field ∷ []) (body_fields q) (all_unread bytes) m e p r

pub whole_capsule : (bytes : List ℕ) (m e : Unread) (q : CapsuleParts) → Passes (magic_field ∷ []) (all_unread bytes) m → Passes (body_fields q) m e
    → q.end.peering ≡ q.peering → q.end.way ≡ Remote → e.octets ≡ [] → IsCapsuleOf bytes q
whole_capsule bytes m e q p r peering way none =
    let all = passes_all bytes m e q p r in
    record {
      capsule = record { right = all.right; peering = peering; way = way };
      bytes_are = all.octets_are ∙ ap (λ (o : List ℕ). spelled (fields q) ++ o) none ∙ append-nil (spelled (fields q));
    }

pub more_follows : (bytes : List ℕ) (m e : Unread) (q : CapsuleParts) → Passes (magic_field ∷ []) (all_unread bytes) m → Passes (body_fields q) m e
    → q.end.peering ≡ q.peering → q.end.way ≡ Remote → e.octets ≢ [] → GoesOn bytes e.place
more_follows bytes m e q p r peering way some =
    let all = passes_all bytes m e q p r in
    record {
      parts = q;
      capsule = record { right = all.right; peering = peering; way = way };
      rest = e.octets;
      bytes_are = all.octets_are;
      some = some;
      place_is = all.place_is ∙ zero-add (length (spelled (fields q)));
    }

pub body_answer : (bytes : List ℕ) (m : Unread) → Passes (magic_field ∷ []) (all_unread bytes) m → (r : Result CapsuleParts CapsuleStop)
    (stop : CapsuleStop)
    → IsErrAnd r (λ x. x ≡ stop) → Stops body_fields m stop → Answers bytes r
body_answer bytes m p (Ok q) stop err h = absurd err
body_answer bytes m p (Err x) stop err h = body_stops bytes m p x (subst (λ y. Stops body_fields m y) (sym err) h)

-- ---- octets that are compared

pub bytes_same : (xs ys : List ℕ) → bytes_eq xs ys ≡ true → xs ≡ ys
bytes_same xs ys e = (bytes_eq-Decides xs ys).0 e

pub bytes_differ : (xs ys : List ℕ) → bytes_eq xs ys ≡ false → xs ≢ ys
bytes_differ xs ys e = not_from_Decides (bytes_eq xs ys) (bytes_eq-Decides xs ys) e

pub nothing_left : (xs : List ℕ) → (length xs == 0) ≡ true → xs ≡ []
nothing_left xs e = nil_from_length xs (eqb-true (length xs) 0 e)
