-- Where octets cease to be a capsule: the first fault from the left.
use Rattle.std.specs.Prelude.{ℕ, ◌≡◌, ◌≢◌, ◌+◌, ◌<◌, ◌≤◌, false, List, [], ◌∷◌, ◌++◌, length, take, Result, Ok, Err}
use Rattle.capsule_bytes.specs.declared.parts.CapsuleParts.{CapsuleParts}
use Rattle.capsule_bytes.specs.declared.stop.CapsuleStop.{CapsuleStop}
use Rattle.capsule_bytes.specs.declared.stop.CapsuleStop.TheVariants as stops
use Rattle.capsule_bytes.specs.Fields.{Field, AreRight, spelled}
use Rattle.capsule_bytes.specs.Capsules.{magic, fields, spell_capsule, IsCapsule, IsCapsuleOf}

-- the octets that aren't read yet, and the place where they begin
pub record Unread : Type 0 where
  pub octets : List ℕ
  pub place : ℕ

abbrev pub all_unread : List ℕ → Unread
all_unread bytes = record { octets = bytes; place = 0 }

-- The octets begin with these fields, all of them right, and the others are left.
pub record Passes (fields : List Field) (old new : Unread) : Type 0 where
  pub right : AreRight fields
  pub octets_are : old.octets ≡ spelled fields ++ new.octets
  pub place_is : new.place ≡ old.place + length (spelled fields)

-- As many octets are there as the field has, one at least, and they may not stand there.
pub record IsWrong (field : Field) (octets : List ℕ) : Type 0 where
  pub found : List ℕ
  pub rest : List ℕ
  pub octets_are : octets ≡ found ++ rest
  pub some : 0 < length found
  pub whole : length found ≡ length field.octets
  pub wrong : field.allowed found ≡ false

-- The field that begins here is cut off, or it is wrong.
abbrev pub StopsAt : Field → Unread → CapsuleStop → Type 0
StopsAt field unread stops.Magic = ⊥
StopsAt field unread (stops.Cut place) = (place ≡ unread.place) × (length unread.octets < length field.octets)
StopsAt field unread (stops.Value place) = (place ≡ unread.place) × IsWrong field unread.octets
StopsAt field unread (stops.Rest place) = ⊥
StopsAt field unread stops.NoMemory = Unit {0}

-- In some spelling the first fields are right and stand here, and the field that comes next there stops. What that spelling has behind this field
-- doesn't matter.
pub record StopsIn {A : Type 0} (form : A → List Field) (unread : Unread) (stop : CapsuleStop) : Type 0 where
  pub value : A
  pub before : List Field
  pub field : Field
  pub after : List Field
  pub fields_are : form value ≡ before ++ field ∷ after
  pub next : Unread
  pub passes : Passes before unread next
  pub stops : StopsAt field next stop

-- ---- the faults of octets

-- Four octets are there, and the first four aren't those of a capsule.
pub record HasOtherMagic (bytes : List ℕ) : Type 0 where
  pub there : 4 ≤ length bytes
  pub other : take 4 bytes ≢ magic

-- The octets end inside the field at this place.
abbrev pub IsCut : List ℕ → ℕ → Type 0
IsCut bytes place = StopsIn fields (all_unread bytes) (stops.Cut place)

-- The field at this place is wrong. Where it is the first, the fault is `HasOtherMagic`.
abbrev pub HasWrongValue : List ℕ → ℕ → Type 0
HasWrongValue bytes place = (0 < place) × StopsIn fields (all_unread bytes) (stops.Value place)

-- The octets are a capsule and more, from this place on.
pub record GoesOn (bytes : List ℕ) (place : ℕ) : Type 0 where
  pub parts : CapsuleParts
  pub capsule : IsCapsule parts
  pub rest : List ℕ
  pub bytes_are : bytes ≡ spell_capsule parts ++ rest
  pub some : rest ≢ []
  pub place_is : place ≡ length (spell_capsule parts)

abbrev pub HasFault : List ℕ → CapsuleStop → Type 0
HasFault bytes stops.Magic = HasOtherMagic bytes
HasFault bytes (stops.Cut place) = IsCut bytes place
HasFault bytes (stops.Value place) = HasWrongValue bytes place
HasFault bytes (stops.Rest place) = GoesOn bytes place
HasFault bytes stops.NoMemory = ⊥

-- ---- a part of a capsule

-- Reading a value of this form stops there, or memory runs out.
abbrev pub Stops : {A : Type 0} → (A → List Field) → Unread → CapsuleStop → Type 0
Stops form unread stops.Magic = ⊥
Stops form unread (stops.Cut place) = StopsIn form unread (stops.Cut place)
Stops form unread (stops.Value place) = StopsIn form unread (stops.Value place)
Stops form unread (stops.Rest place) = ⊥
Stops form unread stops.NoMemory = Unit {0}

-- A value of this form was read, or the first fault was found.
abbrev pub Reads : {A : Type 0} → (A → List Field) → Result A CapsuleStop → Unread → Unread → Type 0
Reads form (Ok value) old new = Passes (form value) old new
Reads form (Err stop) old new = Stops form old stop

-- The octets are read as a capsule, or their first fault is found, or memory runs out.
abbrev pub Answers : List ℕ → Result CapsuleParts CapsuleStop → Type 0
Answers bytes (Ok parts) = IsCapsuleOf bytes parts
Answers bytes (Err stops.Magic) = HasOtherMagic bytes
Answers bytes (Err (stops.Cut place)) = IsCut bytes place
Answers bytes (Err (stops.Value place)) = HasWrongValue bytes place
Answers bytes (Err (stops.Rest place)) = GoesOn bytes place
Answers bytes (Err stops.NoMemory) = Unit {0}
