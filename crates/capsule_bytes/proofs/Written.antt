-- What is written piece by piece.
use Rattle.std.proofs.Common.{◌≡◌, ℕ, zero, suc, ◌+◌, ◌<◌, get_or, List, [], ◌∷◌, ◌++◌, length, take, sym, ap, ◌∙◌, subst, arith, append_assoc}
use Rattle.std.specs.Prelude.{Option, None, Some}
use Rattle.std.specs.Int.{w32}
use Rattle.std.specs.List.{last_or}
use Rattle.std.proofs.lemmas.List.{take_more}
use Rattle.capsule_bytes.specs.declared.parts.CapsuleParts.{CapsuleParts}
use Rattle.capsule_bytes.specs.Fields.{Field, AreRight, spelled, members, counted, text}
use Rattle.capsule_bytes.specs.Capsules.{name_fields, end_fields, line_fields, change_fields, IsCapsule}
use Rattle.capsule_bytes.proofs.Readings.{joined, spelled-append, right_front, right_back}
use Rattle.capsule_bytes.proofs.MemberLists.{members-append, one_member}

-- The fields of each list were added, from the first to the last.
abbrev pub Writes : List (List Field) → List ℕ → List ℕ → Type 0
Writes [] old new = new ≡ old
Writes (fields ∷ more) old new = (m : List ℕ) × (m ≡ old ++ spelled fields) × Writes more m new

pub written : (parts : List (List Field)) (last : List Field) (old m new : List ℕ) → Writes parts old m → new ≡ m ++ spelled last
    → new ≡ old ++ spelled (joined parts last)
written [] last old m new w e = e ∙ ap (λ (o : List ℕ). o ++ spelled last) w
written (f ∷ fs) last old m new w e =
    written fs last w.0 m new w.2 e ∙ ap (λ (o : List ℕ). o ++ spelled (joined fs last)) w.1
    ∙ append_assoc old (spelled f) (spelled (joined fs last)) ∙ ap (λ (r : List ℕ). old ++ r) (sym (spelled-append f (joined fs last)))

-- one member more is taken
take_one : {A : Type 0} (xs : List A) (i : ℕ) (x : A) → i < length xs → x ≡ get_or xs i x → take (i + 1) xs ≡ take i xs ++ x ∷ []
take_one xs i x within is = take_more xs i x within ∙ ap (λ y. take i xs ++ y ∷ []) (sym is)

module _ {A : Type 0} (form : Option A → A → List Field) where
  -- one member more
  pub written_member : (xs : List A) (x : A) (start old new : List ℕ) → old ≡ start ++ spelled (members form None xs)
      → new ≡ old ++ spelled (form (last_or None xs) x) → new ≡ start ++ spelled (members form None (xs ++ x ∷ []))
  written_member xs x start old new before here =
      here ∙ ap (λ (o : List ℕ). o ++ spelled (form (last_or None xs) x)) before
      ∙ append_assoc start (spelled (members form None xs)) (spelled (form (last_or None xs) x))
      ∙ ap (λ (r : List ℕ). start ++ r) (sym (spelled-append (members form None xs) (form (last_or None xs) x)))
      ∙ ap (λ (fs : List Field). start ++ spelled fs) (sym (members-append form None xs (x ∷ [])
      ∙ ap (λ (r : List Field). members form None xs ++ r) (one_member form (last_or None xs) x)))

  -- each member is right behind some one
  pub right_member : (before : Option A) (xs : List A) (i : ℕ) (x : A) → i < length xs → x ≡ get_or xs i x → AreRight (members form before xs)
      → (b : Option A) × AreRight (form b x)
  right_member before [] i x within is right = absurd (omega (arith, within))
  right_member before (y ∷ ys) zero x within is right =
      (before, subst (λ z. AreRight (form before z)) (sym is) (right_front (form before y) (members form (Some y) ys) right))
  right_member before (y ∷ ys) (suc i) x within is right =
      right_member (Some y) ys i x (omega (arith, within)) is (right_back (form before y) (members form (Some y) ys) right)

  -- a turn of a loop over the members
  pub written_turn : (xs : List A) (i : ℕ) (x : A) → i < length xs → x ≡ get_or xs i x → (start old new : List ℕ)
      → old ≡ start ++ spelled (members form None (take i xs)) → new ≡ old ++ spelled (form (last_or None (take i xs)) x)
      → new ≡ start ++ spelled (members form None (take (i + 1) xs))
  written_turn xs i x within is start old new before here =
      written_member (take i xs) x start old new before here
      ∙ ap (λ (ys : List A). start ++ spelled (members form None ys)) (sym (take_one xs i x within is))

-- the parts of a capsule that are right
pub record RightParts (p : CapsuleParts) : Type 0 where
  pub import : AreRight (name_fields p.import)
  pub export : AreRight (name_fields p.export)
  pub end : AreRight (end_fields p.end)
  pub held : AreRight (text w32 p.held)
  pub story : AreRight (counted line_fields p.story)
  pub late : AreRight (counted change_fields p.late)

pub parts_right : (p : CapsuleParts) → IsCapsule p → RightParts p
parts_right p sound =
    let lists = counted line_fields p.story ++ counted change_fields p.late in
    let behind_end = text w32 p.held ++ lists in
    let behind_export = end_fields p.end ++ behind_end in
    let behind_import = name_fields p.export ++ behind_export in
    let names = sound.right.1.1.1.1.1.1.1.1.1 in
    let export = right_back (name_fields p.import) behind_import names in
    let end = right_back (name_fields p.export) behind_export export in
    let held = right_back (end_fields p.end) behind_end end in
    let story = right_back (text w32 p.held) lists held in
    record {
      import = right_front (name_fields p.import) behind_import names;
      export = right_front (name_fields p.export) behind_export export;
      end = right_front (end_fields p.end) behind_end end;
      held = right_front (text w32 p.held) lists held;
      story = right_front (counted line_fields p.story) (counted change_fields p.late) story;
      late = right_back (counted line_fields p.story) (counted change_fields p.late) story;
    }
