-- How the readings of parts make up that of a whole.
use Rattle.std.proofs.Common.{◌≡◌, Bool, true, ℕ, List, [], ◌∷◌, ◌++◌, length, refl, sym, ap, ◌∙◌, subst, arith, append_assoc, length-append}
use Rattle.std.specs.Prelude.{Result, Ok, Err, IsErrAnd}
use Rattle.std.proofs.lemmas.Grind.{flat_map-append}
use Rattle.capsule_bytes.specs.declared.stop.CapsuleStop.{CapsuleStop}
use Rattle.capsule_bytes.specs.declared.stop.CapsuleStop.TheVariants as stops
use Rattle.capsule_bytes.specs.Fields.{Field, AreRight, spelled, octets_where}
use Rattle.capsule_bytes.specs.Stops.{Unread, Passes, StopsAt, StopsIn, Stops, Reads}

-- ---- lists of fields, one behind the other

pub AreRight-append : (xs ys : List Field) → AreRight xs → AreRight ys → AreRight (xs ++ ys)
AreRight-append [] ys a b = b
AreRight-append (x ∷ xs) ys a b = (a.0, AreRight-append xs ys a.1 b)

pub right_front : (xs ys : List Field) → AreRight (xs ++ ys) → AreRight xs
right_front [] ys a = tt
right_front (x ∷ xs) ys a = (a.0, right_front xs ys a.1)

pub right_back : (xs ys : List Field) → AreRight (xs ++ ys) → AreRight ys
right_back [] ys a = a
right_back (x ∷ xs) ys a = right_back xs ys a.1

pub spelled-append : (xs ys : List Field) → spelled (xs ++ ys) ≡ spelled xs ++ spelled ys
spelled-append xs ys = flat_map-append (λ (f : Field). f.octets) xs ys

-- the fields of the lists, and then others
abbrev pub joined : List (List Field) → List Field → List Field
joined [] last = last
joined (fields ∷ more) last = fields ++ joined more last

joined-append : (fronts : List (List Field)) (xs ys : List Field) → joined fronts (xs ++ ys) ≡ joined fronts xs ++ ys
joined-append [] xs ys = refl
joined-append (f ∷ fs) xs ys = ap (λ (r : List Field). f ++ r) (joined-append fs xs ys) ∙ sym (append_assoc f (joined fs xs) ys)

-- ---- reading them

pub Passes-append : (xs ys : List Field) (s m e : Unread) → Passes xs s m → Passes ys m e → Passes (xs ++ ys) s e
Passes-append xs ys s m e p q = record {
  right = AreRight-append xs ys p.right q.right;
  octets_are = p.octets_are ∙ ap (λ (r : List ℕ). spelled xs ++ r) q.octets_are ∙ sym (append_assoc (spelled xs) (spelled ys) e.octets)
      ∙ ap (λ (o : List ℕ). o ++ e.octets) (sym (spelled-append xs ys));
  place_is = omega (
    arith,
    p.place_is,
    q.place_is,
    ap (λ (o : List ℕ). length o) (spelled-append xs ys),
    length-append (spelled xs) (spelled ys),
  );
}

pub Passes-none : (s : Unread) → Passes [] s s
Passes-none s = record { right = tt; octets_are = refl; place_is = omega arith }

-- each of the lists is read, from the first to the last
abbrev pub Goes : List (List Field) → Unread → Unread → Type 0
Goes [] old new = old ≡ new
Goes (fields ∷ more) old new = (m : Unread) × Passes fields old m × Goes more m new

pub passes_joined : (fronts : List (List Field)) (last : List Field) (s m e : Unread) → Goes fronts s m → Passes last m e → Passes (joined fronts last) s e
passes_joined [] last s m e goes p = subst (λ (u : Unread). Passes last u e) (sym goes) p
passes_joined (f ∷ fs) last s m e goes p =
    Passes-append f (joined fs last) s goes.0 e goes.1 (passes_joined fs last goes.0 m e goes.2 p)

-- ---- where it stops

-- A form has a value whose fields begin with those of the lists, and then these.
pub record Extends {B : Type 0} (form : B → List Field) (fronts : List (List Field)) (fields : List Field) : Type 0 where
  pub value : B
  pub after : List Field
  pub is : form value ≡ joined fronts (fields ++ after)

-- Where the reading of a part stops, that of the whole does.
stops_behind : {A B : Type 0} (f : A → List Field) (g : B → List Field) (fronts : List (List Field)) → ((a : A) → Extends g fronts (f a))
    → (s m : Unread) → Goes fronts s m → (stop : CapsuleStop) → StopsIn f m stop → StopsIn g s stop
stops_behind f g fronts embed s m goes stop h =
    let x = embed h.value in
    let split : (h.before ++ h.field ∷ h.after) ++ x.after ≡ h.before ++ (h.field ∷ (h.after ++ x.after)) =
    append_assoc h.before (h.field ∷ h.after) x.after in
    record {
      value = x.value;
      before = joined fronts h.before;
      field = h.field;
      after = h.after ++ x.after;
      fields_are = x.is ∙ ap (λ (fs : List Field). joined fronts fs) (ap (λ (fs : List Field). fs ++ x.after) h.fields_are ∙ split)
          ∙ joined-append fronts h.before (h.field ∷ (h.after ++ x.after));
      next = h.next;
      passes = passes_joined fronts h.before s m h.next goes h.passes;
      stops = h.stops;
    }

pub behind : {A B : Type 0} (f : A → List Field) (g : B → List Field) (fronts : List (List Field)) → ((a : A) → Extends g fronts (f a))
    → (s m : Unread) → Goes fronts s m → (stop : CapsuleStop) → Stops f m stop → Stops g s stop
behind f g fronts embed s m goes stops.Magic h = absurd h
behind f g fronts embed s m goes (stops.Cut n) h = stops_behind f g fronts embed s m goes (stops.Cut n) h
behind f g fronts embed s m goes (stops.Value n) h = stops_behind f g fronts embed s m goes (stops.Value n) h
behind f g fronts embed s m goes (stops.Rest n) h = absurd h
behind f g fronts embed s m goes stops.NoMemory h = tt

-- The field behind those that are read stops.
field_stops : {B : Type 0} (g : B → List Field) (fronts : List (List Field)) (value : B) (field : Field) (after : List Field)
    → g value ≡ joined fronts (field ∷ after) → (s m : Unread) → Goes fronts s m → (stop : CapsuleStop) → StopsAt field m stop → StopsIn g s stop
field_stops g fronts value field after is s m goes stop h = record {
  value = value;
  before = joined fronts [];
  field = field;
  after = after;
  fields_are = is ∙ joined-append fronts [] (field ∷ after);
  next = m;
  passes = passes_joined fronts [] s m m goes (Passes-none m);
  stops = h;
}

pub field_behind : {B : Type 0} (g : B → List Field) (fronts : List (List Field)) (value : B) (field : Field) (after : List Field)
    → g value ≡ joined fronts (field ∷ after) → (s m : Unread) → Goes fronts s m → (stop : CapsuleStop) → StopsAt field m stop → Stops g s stop
field_behind g fronts value field after is s m goes stops.Magic h = absurd h
field_behind g fronts value field after is s m goes (stops.Cut n) h = field_stops g fronts value field after is s m goes (stops.Cut n) h
field_behind g fronts value field after is s m goes (stops.Value n) h = field_stops g fronts value field after is s m goes (stops.Value n) h
field_behind g fronts value field after is s m goes (stops.Rest n) h = absurd h
field_behind g fronts value field after is s m goes stops.NoMemory h = tt

-- octets that were read, and are allowed
pub named : {allowed : List ℕ → Bool} (octets : List ℕ) (m e : Unread) → Passes (octets_where (λ _. true) octets ∷ []) m e → allowed octets ≡ true
    → Passes (octets_where allowed octets ∷ []) m e
named octets m e p ok = record { right = ((refl, ok), tt); octets_are = p.octets_are; place_is = p.place_is }

-- what a `?` answers where a part stops
pub exit : {A : Type 0} (form : A → List Field) (r : Result A CapsuleStop) (stop : CapsuleStop) (s e : Unread) → IsErrAnd r (λ x. x ≡ stop)
    → Stops form s stop → Reads form r s e
exit form (Ok x) stop s e is h = absurd is
exit form (Err x) stop s e is h = subst (λ y. Stops form s y) (sym is) h
