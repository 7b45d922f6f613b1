-- What a list of puts leaves is a function of the offsets that it covers.
use Rattle.std.proofs.Common.{◌≡◌, ℕ, suc, ◌<◌, Bool, List, [], ◌∷◌, ◌++◌, length, Option, Some, None, refl, sym, ap, ◌∙◌, arith, inl, inr, get_or}
use Rattle.std.specs.Prelude.{◌||◌, is_some, if◌then◌else◌}
use Rattle.std.proofs.lemmas.Bool.{cases_order}
use Rattle.std.proofs.lemmas.Option.{slice_get-get_or, none-some, same_Some}
use Rattle.std.specs.List.{slice_get}
use Rattle.std.specs.Option.{option_or}
use Rattle.tcp_reasm.specs.Reassembly.{Reassembly, Put, PutsInOrder, AreOfStream, is_brought, brought, nothing_from, byte_ahead, TakesReady}
use Rattle.tcp_seq.proofs.Lookups.{or_assoc, or_none}

-- one byte more or none, of a stream that has x there
one_more : (o : Option ℕ) (x : ℕ) (c : Bool) → ((byte : ℕ) → o ≡ Some byte → byte ≡ x)
    → option_or o (if c then Some x else None) ≡ (if is_some o || c then Some x else None)
one_more None x c same = refl
one_more (Some byte) x c same = ap Some (same byte refl)

ahead_from : (stream : ℕ → ℕ) (next : ℕ) (puts : List Put) (before after : Reassembly) → before.next ≡ next → PutsInOrder before puts after
    → AreOfStream stream next puts → (k : ℕ)
    → byte_ahead after k ≡ option_or (byte_ahead before k) (if is_brought next puts k then Some (stream k) else None)
ahead_from stream next [] before after is steps all k = ap (λ (r : Reassembly). byte_ahead r k) steps ∙ sym (or_none (byte_ahead before k))
ahead_from stream next (p ∷ ps) before after is (between, step, rest) all k =
    let here : byte_ahead between k ≡ option_or (byte_ahead before k) (brought next p.seq p.bytes k) =
    step.ahead k ∙ ap (λ n. option_or (byte_ahead before k) (brought n p.seq p.bytes k)) is in
    ahead_from stream next ps between after (step.next ∙ is) rest all.1 k
    ∙ ap (λ o. option_or o (if is_brought next ps k then Some (stream k) else None)) here
    ∙ or_assoc (byte_ahead before k) (brought next p.seq p.bytes k) (if is_brought next ps k then Some (stream k) else None)
    ∙ ap (option_or (byte_ahead before k)) (one_more (brought next p.seq p.bytes k) (stream k) (is_brought next ps k) (λ byte e. all.0 k byte e))

pub ahead : (stream : ℕ → ℕ) (next : ℕ) (puts : List Put) (after : Reassembly) → PutsInOrder (nothing_from next) puts after
    → AreOfStream stream next puts → (k : ℕ) → byte_ahead after k ≡ (if is_brought next puts k then Some (stream k) else None)
ahead stream next puts after steps all k = ahead_from stream next puts (nothing_from next) after refl steps all k

same_lists : (xs ys : List ℕ) → length xs ≡ length ys → ((k : ℕ) → k < length xs → slice_get xs k ≡ slice_get ys k) → xs ≡ ys
same_lists [] [] e same = refl
same_lists [] (y ∷ ys) e same = absurd (omega (arith, e))
same_lists (x ∷ xs) [] e same = absurd (omega (arith, e))
same_lists (x ∷ xs) (y ∷ ys) e same =
    let head : x ≡ y = same_Some x y (same 0 (omega arith)) in
    let tail : xs ≡ ys = same_lists xs ys (omega (arith, e)) (λ k below. same (suc k) (omega (arith, below))) in
    rw (head, tail) refl

-- what is given doesn't end where the other has a byte
no_less : (a b a' b' : Reassembly) (out x y : List ℕ) (m n : ℕ) → ((k : ℕ) → byte_ahead a k ≡ byte_ahead b k) → TakesReady a a' out x m
    → TakesReady b b' out y n → ¬ (m < n)
no_less a b a' b' out x y m n same first second below =
    none-some (get_or second.given m 0)
    (sym first.ends ∙ same m ∙ second.each m below ∙ slice_get-get_or second.given m 0 (omega (arith, below, second.counted)))

pub given_same : (a b a' b' : Reassembly) (out x y : List ℕ) (m n : ℕ) → ((k : ℕ) → byte_ahead a k ≡ byte_ahead b k) → TakesReady a a' out x m
    → TakesReady b b' out y n → x ≡ y
given_same a b a' b' out x y m n same first second =
    let counts : m ≡ n = elim (cases_order m n) [
      | inl is ↦ is
      | inr apart ↦ elim apart [
        | inl below ↦ absurd (no_less a b a' b' out x y m n same first second below)
        | inr above ↦ absurd (no_less b a b' a' out y x n m (λ k. sym (same k)) second first above)
      ]
    ] in
    let given : first.given ≡ second.given = same_lists first.given second.given (omega (arith, first.counted, second.counted, counts))
    (λ k below. sym (first.each k (omega (arith, below, first.counted))) ∙ same k ∙ second.each k (omega (arith, below, first.counted, counts))) in
    first.appended ∙ ap (λ zs. out ++ zs) given ∙ sym second.appended
