-- Inboxes in which one channel has changed.
use Rattle.std.proofs.Common.{◌≡◌, ℕ, zero, suc, ◌<◌, ◌==◌, Bool, true, false, List, [], ◌∷◌, length, refl, sym, ap, ◌∙◌, subst, arith}
use Rattle.std.proofs.Common.{Option, Some, None, option_map, slice_get, get_or, set, drop}
use Rattle.std.proofs.lemmas.Option.{slice_get-get_or}
use Rattle.std.proofs.lemmas.Bool.{eqb-true}
use Rattle.std.proofs.lemmas.Bool.Decides.{nat_tests}
use Rattle.std.proofs.lemmas.List.Elements.{All-get_or}
use Rattle.std.specs.Prelude.{if◌then◌else◌, unwrap_or, IfSome, IfNone}
use Rattle.std.specs.Vec.{with_item}
use Rattle.item_channels.specs.Channels.{items_in, items_at, items_between, with_items, IsSquare}
use Rattle.item_channels.specs.declared.channel.Channel.{Channel}
use Rattle.item_channels.specs.declared.inboxes.Inbox.{Inbox}

not_zero : (k : ℕ) → (suc k == 0) ≡ false
not_zero k = grind (arith, nat_tests)

zero_not : (n : ℕ) → (0 == suc n) ≡ false
zero_not n = grind (arith, nat_tests)

both_suc : (k n : ℕ) → (k == n) ≡ (suc k == suc n)
both_suc k n = grind (arith, nat_tests)

-- ---- what is seen of a list's elements, by their numbers

module _ {X A : Type 0} (seen : X → List A) where
  abbrev seen_at : List X → ℕ → List A
  seen_at xs n = unwrap_or (option_map seen (slice_get xs n)) []

  one_set : (xs : List X) (n k : ℕ) (x : X) → n < length xs → seen_at (set xs n x) k ≡ (if k == n then seen x else seen_at xs k)
  one_set [] n k x h = absurd (omega (arith, h))
  one_set (y ∷ xs) zero zero x h = refl
  one_set (y ∷ xs) zero (suc k) x h = ap (λ (b : Bool). let s : List A = if b then seen x else seen_at xs k in s) (sym (not_zero k))
  one_set (y ∷ xs) (suc n) zero x h = ap (λ (b : Bool). let s : List A = if b then seen x else seen y in s) (sym (zero_not n))
  one_set (y ∷ xs) (suc n) (suc k) x h =
      one_set xs n k x (omega (arith, h)) ∙ ap (λ (b : Bool). let s : List A = if b then seen x else seen_at xs k in s) (both_suc k n)

  seen_there : (xs : List X) (n : ℕ) (x : X) → n < length xs → x ≡ get_or xs n x → seen_at xs n ≡ seen x
  seen_there xs n x h is = ap (λ (o : Option X). unwrap_or (option_map seen o) []) (slice_get-get_or xs n x h ∙ ap Some (sym is))

-- ---- the channel from one actor to another

module _ {T : Type 0} (inboxes : List (Inbox T)) (from to : ℕ) (inbox : Inbox T) (channel : Channel T) (square : IsSquare (length inboxes) inboxes)
    (from_there : from < length inboxes) (to_there : to < length inboxes) (inbox_is : inbox ≡ get_or inboxes to inbox)
    (channel_is : channel ≡ get_or inbox.channels.items from channel) where
  wide : from < length inbox.channels.items
  wide =
      let as_many : length inbox.channels.items ≡ length inboxes = subst (λ (x : Inbox T). length x.channels.items ≡ length inboxes) (sym inbox_is)
      (All-get_or (λ x. length x.channels.items ≡ length inboxes) inboxes to inbox to_there square.each) in
      omega (arith, as_many, from_there)

  pub was : items_between inboxes from to ≡ items_in channel
  was = seen_there (λ x. items_at x.channels.items from) inboxes to inbox to_there inbox_is
      ∙ seen_there items_in inbox.channels.items from channel wide channel_is

  -- it has these items then
  module _ (channel_after : Channel T) (items : List T) (now : items_in channel_after ≡ items) where
    abbrev inbox_after : Inbox T
    inbox_after = record { channels = with_item inbox.channels from channel_after }

    now_in : (a : ℕ) → items_at inbox_after.channels.items a ≡ (if a == from then items else items_between inboxes a to)
    now_in a = one_set items_in inbox.channels.items from a channel_after wide
        ∙ (λ i. let s : List T = if a == from then now i else sym (seen_there (λ x. items_at x.channels.items a) inboxes to inbox to_there inbox_is) i in s)

    by_receiver : (a b : ℕ) (t : Bool) → (b == to) ≡ t → (if t then items_between inboxes a to else items_between inboxes a b) ≡ items_between inboxes a b
    by_receiver a b true e = ap (items_between inboxes a) (sym (eqb-true b to e))
    by_receiver a b false e = refl

    abbrev by_channel : Bool → ℕ → ℕ → List T
    by_channel s a = if s then (λ b. if b == to then items else items_between inboxes from b) else items_between inboxes a

    by_sender : (a b : ℕ) (s : Bool) → (a == from) ≡ s
        → (if b == to then (if s then items else items_between inboxes a to) else items_between inboxes a b) ≡ by_channel s a b
    by_sender a b true e = ap (λ (n : ℕ). let s : List T = if b == to then items else items_between inboxes n b in s) (eqb-true a from e)
    by_sender a b false e = by_receiver a b (b == to) refl

    one_changed : (a b : ℕ) → items_between (set inboxes to inbox_after) a b ≡ with_items (items_between inboxes) from to items a b
    one_changed a b = one_set (λ x. items_at x.channels.items a) inboxes to b inbox_after to_there
        ∙ ap (λ (xs : List T). let s : List T = if b == to then xs else items_between inboxes a b in s) (now_in a) ∙ by_sender a b (a == from) refl

    pub changed : items_between (set inboxes to inbox_after) ≡ with_items (items_between inboxes) from to items
    changed = λ i a b. one_changed a b i

-- what is left where the first was taken, if there was one
pub left : {T : Type 0} (taken : Option T) (before after : List T) → IfSome taken (λ item. before ≡ item ∷ after) → IfNone taken ((before ≡ []) × (after ≡ []))
    → after ≡ drop 1 before
left None before after some none = cc
left (Some item) before after some none = cc
