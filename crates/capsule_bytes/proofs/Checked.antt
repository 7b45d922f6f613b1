-- A number that is read, and then tested.
use Rattle.std.proofs.Common.{◌≡◌, ℕ, ◌<◌, ◌≤◌, ◌^◌, Bool, true, false, List, [], ◌∷◌, ◌++◌, length, refl, sym, ap, ◌∙◌, subst, arith}
use Rattle.std.specs.Prelude.{IsTrue, nat_lt, nat_le, ◌&&◌, replicate, Result, Ok, Err, IfOk, IfErr, Option, None, Some, MatchOption}
use Rattle.std.specs.Int.{Width, byte_len, w8, to_be_bytes, is_in_range}
use Rattle.std.proofs.lemmas.Bool.{ltb-true, lt-leb, leb-true}
use Rattle.std.proofs.lemmas.List.{append-nil, length-replicate}
use Rattle.capsule_bytes.specs.declared.stop.CapsuleStop.{CapsuleStop}
use Rattle.capsule_bytes.specs.Fields.{Field, number, any_number, flag, octets_where, text}
use Rattle.capsule_bytes.specs.Stops.{Unread, Passes, IsWrong, StopsAt, Stops, Reads}
use Rattle.capsule_bytes.proofs.Readings.{field_behind, Passes-append}
use Rattle.capsule_bytes.proofs.Names.{both}
use Rattle.capsule_bytes.proofs.Numbers.{ReadsBack, back_8}

pub fits_below : (n m : ℕ) → IsTrue (nat_lt n m) → n < m
fits_below n m h = ltb-true n m h

pub passes_checked : (w : Width) → ReadsBack w → (allowed : ℕ → Bool) (n : ℕ) (s e : Unread) → Passes (any_number w n ∷ []) s e → IsTrue (allowed n)
    → Passes (number w allowed n ∷ []) s e
passes_checked w back allowed n s e p ok = record {
  right = ((p.right.0.0, subst (λ (m : ℕ). IsTrue (allowed m)) (sym (back n (fits_below n (256 ^ byte_len w) p.right.0.0))) ok), tt);
  octets_are = p.octets_are;
  place_is = p.place_is;
}

pub wrong_checked : (w : Width) → ReadsBack w → 0 < byte_len w → ((n : ℕ) → length (to_be_bytes w n) ≡ byte_len w) → (allowed : ℕ → Bool) (n m : ℕ)
    (s e : Unread) → Passes (any_number w n ∷ []) s e → allowed n ≡ false → IsWrong (number w allowed m) s.octets
wrong_checked w back wide long allowed n m s e p unfit = record {
  found = to_be_bytes w n;
  rest = e.octets;
  octets_are = p.octets_are ∙ ap (λ (o : List ℕ). o ++ e.octets) (append-nil (to_be_bytes w n));
  some = omega (arith, wide, long n);
  whole = long n ∙ sym (long m);
  wrong = ap allowed (back n (fits_below n (256 ^ byte_len w) p.right.0.0)) ∙ unfit;
}

-- the same field by another name
pub Passes-number : (w : Width) (allowed : ℕ → Bool) (n m : ℕ) → n ≡ m → (s e : Unread) → Passes (number w allowed n ∷ []) s e
    → Passes (number w allowed m ∷ []) s e
Passes-number w allowed n m same s e p = subst (λ k. Passes (number w allowed k ∷ []) s e) same p

pub Passes-flag : (a b : Bool) → a ≡ b → (s e : Unread) → Passes (flag a ∷ []) s e → Passes (flag b ∷ []) s e
Passes-flag a b same s e p = subst (λ k. Passes (flag k ∷ []) s e) same p

-- ---- octets behind their number

pub text_short : (w : Width) (n : ℕ) (s m : Unread) → Passes (any_number w n ∷ []) s m → (stop : CapsuleStop)
    → StopsAt (octets_where (λ _. true) (replicate n 0)) m stop → Stops (text w) s stop
text_short w n s m p stop h =
    field_behind (text w) ((any_number w n ∷ []) ∷ []) (replicate n 0) (octets_where (λ _. true) (replicate n 0)) []
    (ap (λ (k : ℕ). any_number w k ∷ octets_where (λ _. true) (replicate n 0) ∷ []) (length-replicate n 0)) s m (m, p, refl) stop h

pub Passes-text : (w : Width) (n : ℕ) (octets : List ℕ) (s m e : Unread) → Passes (any_number w n ∷ []) s m → length octets ≡ n
    → Passes (octets_where (λ _. true) octets ∷ []) m e → Passes (text w octets) s e
Passes-text w n octets s m e p long q =
    let P : ℕ → Type 0 = λ k. Passes (any_number w k ∷ []) s m in
    Passes-append (any_number w (length octets) ∷ []) (octets_where (λ _. true) octets ∷ []) s m e (subst P (sym long) p) q

-- a number and octets that are read together
pub text_reads : (w : Width) (k n : ℕ) → n ≡ k → (s m e : Unread) → Passes (any_number w k ∷ []) s m → (result : Result (List ℕ) CapsuleStop)
    → IfOk result (λ octets. length octets ≡ n) → IfOk result (λ octets. Passes (octets_where (λ _. true) octets ∷ []) m e)
    → ((field : Field) → length field.octets ≡ n → IfErr result (λ stop. StopsAt field m stop)) → Reads (text w) result s e
text_reads w k n same s m e p (Ok octets) long passed stops = Passes-text w k octets s m e p (long ∙ same) passed
text_reads w k n same s m e p (Err stop) long passed stops =
    text_short w k s m p stop (stops (octets_where (λ _. true) (replicate k 0)) (length-replicate k 0 ∙ sym same))

-- ---- the bounds of an octet

pub below_least : (lo hi n : ℕ) → n < lo → is_in_range lo hi n ≡ false
below_least lo hi n h = rw (lt-leb lo n h) refl

pub above_most : (lo hi n : ℕ) → hi < n → is_in_range lo hi n ≡ false
above_most lo hi n h = by (nat_le lo n)
  where
    by : (b : Bool) → (b && nat_le n hi) ≡ false
    by true = lt-leb n hi h
    by false = refl

-- an octet that was read within bounds is within them
pub within_range : (lo hi n : ℕ) (s e : Unread) → Passes (number w8 (is_in_range lo hi) n ∷ []) s e → (lo ≤ n) × (n ≤ hi)
within_range lo hi n s e p =
    let h = both (nat_le lo n) (nat_le n hi)
    (ap (is_in_range lo hi) (sym (back_8 n (fits_below n 256 p.right.0.0))) ∙ p.right.0.1) in
    (leb-true lo n h.0, leb-true n hi h.1)

-- what holds where an option has no value
pub none_left : {A : Type 0} {P : Type 0} (Q : A → Type 0) (r : Option A) → r ≡ None → MatchOption r P Q → P
none_left Q None is h = h
none_left Q (Some x) is h = absurd (let e : Some x ≡ None = is in cc)
