-- Lists that are read and written member by member.
use Rattle.std.proofs.Common.{◌≡◌, ℕ, suc, ◌-◌, ◌<◌, List, [], ◌∷◌, ◌++◌, length, refl, sym, ap, ◌∙◌, subst, arith, append_assoc, length-append}
use Rattle.std.specs.Prelude.{Option, None, Some, replicate}
use Rattle.std.specs.Int.{w32}
use Rattle.std.specs.List.{last_or, slice_get}
use Rattle.std.proofs.lemmas.List.{append-nil, length-replicate}
use Rattle.capsule_bytes.specs.declared.stop.CapsuleStop.{CapsuleStop}
use Rattle.capsule_bytes.specs.Fields.{Field, any_number, members, counted}
use Rattle.capsule_bytes.specs.Stops.{Unread, Passes, StopsAt, Stops}
use Rattle.capsule_bytes.proofs.Readings.{Extends, Passes-append, behind, field_behind}

-- the last member of a list
pub last_is : {A : Type 0} (xs : List A) → slice_get xs (length xs - 1) ≡ last_or None xs
last_is [] = refl
last_is (x ∷ []) = refl
last_is (x ∷ (y ∷ ys)) =
    let last : length (x ∷ (y ∷ ys)) - 1 ≡ suc (length (y ∷ ys) - 1) = omega arith in
    ap (λ (i : ℕ). slice_get (x ∷ (y ∷ ys)) i) last ∙ last_is (y ∷ ys)

module _ {A : Type 0} (form : Option A → A → List Field) where
  pub members-append : (before : Option A) (xs ys : List A) → members form before (xs ++ ys) ≡ members form before xs ++ members form (last_or before xs) ys
  members-append before [] ys = refl
  members-append before (x ∷ xs) ys =
      ap (λ (r : List Field). form before x ++ r) (members-append (Some x) xs ys)
      ∙ sym (append_assoc (form before x) (members form (Some x) xs) (members form (last_or (Some x) xs) ys))

  pub one_member : (before : Option A) (x : A) → members form before (x ∷ []) ≡ form before x
  one_member before x = append-nil (form before x)

  -- one more member
  pub Passes-push : (xs : List A) (x : A) (s m e : Unread) → Passes (members form None xs) s m → Passes (form (last_or None xs) x) m e
      → Passes (members form None (xs ++ x ∷ [])) s e
  Passes-push xs x s m e p q =
      let P : List Field → Type 0 = λ fs. Passes fs s e in
      subst P (sym (members-append None xs (x ∷ []) ∙ ap (λ (r : List Field). members form None xs ++ r) (one_member (last_or None xs) x)))
      (Passes-append (members form None xs) (form (last_or None xs) x) s m e p q)

  -- all are read
  pub Passes-counted : (count : ℕ) (xs : List A) (s m e : Unread) → length xs ≡ count → Passes (any_number w32 count ∷ []) s m
      → Passes (members form None xs) m e → Passes (counted form xs) s e
  Passes-counted count xs s m e same p q =
      let P : ℕ → Type 0 = λ n. Passes (any_number w32 n ∷ []) s m in
      Passes-append (any_number w32 (length xs) ∷ []) (members form None xs) s m e (subst P (sym same) p) q

  -- their number is cut off
  pub count_stops : (s : Unread) (stop : CapsuleStop) → StopsAt (any_number w32 0) s stop → Stops (counted form) s stop
  count_stops s stop h = field_behind (counted form) [] [] (any_number w32 0) [] refl s s refl stop h

  long_enough : (x : A) (xs : List A) (count : ℕ) → length xs < count → length (xs ++ x ∷ replicate (count - length xs - 1) x) ≡ count
  long_enough x xs count h =
      omega (arith, h, length-append xs (x ∷ replicate (count - length xs - 1) x), length-replicate (count - length xs - 1) x)

  -- a member stops the reading
  pub member_stops : (count : ℕ) (xs : List A) (s m e : Unread) → length xs < count → Passes (any_number w32 count ∷ []) s m
      → Passes (members form None xs) m e → (stop : CapsuleStop) → Stops (form (last_or None xs)) e stop → Stops (counted form) s stop
  member_stops count xs s m e fewer p q stop h =
      behind (form (last_or None xs)) (counted form) ((any_number w32 count ∷ []) ∷ members form None xs ∷ []) embed s e (m, p, (e, q, refl)) stop h
    where
      embed : (x : A) → Extends (counted form) ((any_number w32 count ∷ []) ∷ members form None xs ∷ []) (form (last_or None xs) x)
      embed x = record {
        value = xs ++ x ∷ replicate (count - length xs - 1) x;
        after = members form (Some x) (replicate (count - length xs - 1) x);
        is = ap (λ (n : ℕ). any_number w32 n ∷ members form None (xs ++ x ∷ replicate (count - length xs - 1) x)) (long_enough x xs count fewer)
            ∙ ap (λ (fs : List Field). any_number w32 count ∷ fs) (members-append None xs (x ∷ replicate (count - length xs - 1) x));
      }
