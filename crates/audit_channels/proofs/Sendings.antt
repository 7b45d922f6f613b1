-- One item more in one channel.
use Rattle.std.proofs.Common.{◌≡◌, ℕ, zero, suc, ◌<◌, ◌==◌, Bool, true, false, List, [], ◌∷◌, ◌++◌, length, refl, sym, ap, ◌∙◌, subst, arith}
use Rattle.std.proofs.Common.{Option, Some, option_map, slice_get, get_or, set}
use Rattle.std.proofs.lemmas.Option.{slice_get-get_or}
use Rattle.std.proofs.lemmas.Bool.{eqb-true}
use Rattle.std.proofs.lemmas.Bool.Decides.{nat_tests}
use Rattle.std.proofs.lemmas.List.Elements.{All-from_recursion, All-get_or}
use Rattle.std.specs.Prelude.{if◌then◌else◌, unwrap_or}
use Rattle.graft_model.specs.Points.{at, at2}
use Rattle.audit_channels.specs.Channels.{IsSquare}
use Rattle.audit_channels.specs.declared.channel.Channel.{Channel}
use Rattle.audit_channels.specs.declared.inboxes.Inbox.{Inbox}

not_zero : (k : ℕ) → (suc k == 0) ≡ false
not_zero k = grind (arith, nat_tests)

zero_not : (n : ℕ) → (0 == suc n) ≡ false
zero_not n = grind (arith, nat_tests)

both_suc : (k n : ℕ) → (k == n) ≡ (suc k == suc n)
both_suc k n = grind (arith, nat_tests)

-- ---- what is seen of a list's elements, by their numbers

module _ {X A : Type 0} (seen : X → List A) where
  abbrev seen_at : List X → ℕ → List A
  seen_at xs n = unwrap_or (option_map seen (slice_get xs n)) []

  one_set : (xs : List X) (n k : ℕ) (x : X) → n < length xs → seen_at (set xs n x) k ≡ (if k == n then seen x else seen_at xs k)
  one_set [] n k x h = absurd (omega (arith, h))
  one_set (y ∷ xs) zero zero x h = refl
  one_set (y ∷ xs) zero (suc k) x h = ap (λ (b : Bool). let s : List A = if b then seen x else seen_at xs k in s) (sym (not_zero k))
  one_set (y ∷ xs) (suc n) zero x h = ap (λ (b : Bool). let s : List A = if b then seen x else seen y in s) (sym (zero_not n))
  one_set (y ∷ xs) (suc n) (suc k) x h =
      one_set xs n k x (omega (arith, h)) ∙ ap (λ (b : Bool). let s : List A = if b then seen x else seen_at xs k in s) (both_suc k n)

  seen_there : (xs : List X) (n : ℕ) (x : X) → n < length xs → x ≡ get_or xs n x → seen_at xs n ≡ seen x
  seen_there xs n x h is = ap (λ (o : Option X). unwrap_or (option_map seen o) []) (slice_get-get_or xs n x h ∙ ap Some (sym is))

itself : {A : Type 0} (f : ℕ → A) (n k : ℕ) → at f n (f n) k ≡ f k
itself f n k = by_test (k == n) refl where
  by_test : (t : Bool) → (k == n) ≡ t → (if t then f n else f k) ≡ f k
  by_test true e = ap f (sym (eqb-true k n e))
  by_test false e = refl

-- ---- one item more behind those of a channel

module _ {A : Type 0} (seen : Channel → List A) (inboxes : List Inbox) (from to : ℕ) (inbox inbox_after : Inbox) (channel channel_after : Channel) (item : A)
    (square : IsSquare (length inboxes) inboxes) (from_there : from < length inboxes) (to_there : to < length inboxes)
    (inbox_is : inbox ≡ get_or inboxes to inbox) (channel_is : channel ≡ get_or inbox.channels.items from channel)
    (after : inbox_after.channels.items ≡ set inbox.channels.items from channel_after)
    (put : seen channel_after ≡ seen channel ++ item ∷ []) where
  wide : from < length inbox.channels.items
  wide =
      let as_many : length inbox.channels.items ≡ length inboxes = subst (λ (x : Inbox). length x.channels.items ≡ length inboxes) (sym inbox_is)
      (All-get_or (λ x. length x.channels.items ≡ length inboxes) inboxes to inbox to_there (All-from_recursion (λ x. length x.channels.items ≡ length inboxes) inboxes square.each)) in
      omega (arith, as_many, from_there)

  abbrev in_inbox : ℕ → Inbox → List A
  in_inbox a x = seen_at seen x.channels.items a

  -- from one actor to another
  abbrev pub between : List Inbox → ℕ → ℕ → List A
  between xs a b = seen_at (in_inbox a) xs b

  abbrev more : List A
  more = between inboxes from to ++ item ∷ []

  was : (a : ℕ) → between inboxes a to ≡ in_inbox a inbox
  was a = seen_there (in_inbox a) inboxes to inbox to_there inbox_is

  put_is : seen channel_after ≡ more
  put_is = put ∙ ap (λ (xs : List A). xs ++ item ∷ []) (sym (was from ∙ seen_there seen inbox.channels.items from channel wide channel_is))

  now_in : (a : ℕ) → in_inbox a inbox_after ≡ (if a == from then more else in_inbox a inbox)
  now_in a = ap (λ (xs : List Channel). seen_at seen xs a) after ∙ one_set seen inbox.channels.items from a channel_after wide
      ∙ ap (λ (xs : List A). let s : List A = if a == from then xs else in_inbox a inbox in s) put_is

  by_sender : (a b : ℕ) (t : Bool) → (a == from) ≡ t
      → at (between inboxes a) to (if t then more else in_inbox a inbox) b ≡ (if t then at (between inboxes from) to more else between inboxes a) b
  by_sender a b true e = ap (λ (n : ℕ). at (between inboxes n) to more b) (eqb-true a from e)
  by_sender a b false e = ap (λ (xs : List A). at (between inboxes a) to xs b) (sym (was a)) ∙ itself (between inboxes a) to b

  one_sent : (a b : ℕ) → between (set inboxes to inbox_after) a b ≡ at2 (between inboxes) from to more a b
  one_sent a b = one_set (in_inbox a) inboxes to b inbox_after to_there
      ∙ ap (λ (xs : List A). at (between inboxes a) to xs b) (now_in a) ∙ by_sender a b (a == from) refl

  pub sent : between (set inboxes to inbox_after) ≡ at2 (between inboxes) from to more
  sent = λ i a b. one_sent a b i
