-- Channels with nothing on its way.
use Rattle.std.proofs.Common.{◌≡◌, ℕ, zero, suc, ◌+◌, ◌<◌, ◌≤◌, ◌==◌, Bool, true, false, List, [], ◌∷◌, ◌++◌, length, refl, sym, ap, ◌∙◌, subst, arith}
use Rattle.std.proofs.Common.{Option, Some, option_map, slice_index_or, nat_lt}
use Rattle.std.proofs.lemmas.Bool.Decides.{nat_tests}
use Rattle.std.specs.Prelude.{unwrap_or}
use Rattle.std.proofs.lemmas.Option.{slice_get-get_or, slice_get_past}
use Rattle.std.proofs.lemmas.List.{length-append}
use Rattle.std.specs.List.{AllByRecursion}
use Rattle.item_channels.specs.Channels.{items_in, items_at, items_between}
use Rattle.item_channels.specs.declared.channel.Channel.{Channel}
use Rattle.item_channels.specs.declared.inboxes.Inbox.{Inbox}

abbrev pub IsEmpty : {T : Type 0} → Channel T → Type 0
IsEmpty channel = items_in channel ≡ []

-- an inbox of so many channels, with nothing on its way
pub record IsEmptyInbox {T : Type 0} (count : ℕ) (inbox : Inbox T) : Type 0 where
  pub all : length inbox.channels.items ≡ count
  pub none : (n : ℕ) → items_at inbox.channels.items n ≡ []

pub none_at : {T : Type 0} (channels : List (Channel T)) → AllByRecursion IsEmpty channels → (n : ℕ) → items_at channels n ≡ []
none_at [] all n = refl
none_at (channel ∷ channels) all zero = all.0
none_at (channel ∷ channels) all (suc n) = none_at channels all.1 n

pub none_between : {T : Type 0} (count : ℕ) (inboxes : List (Inbox T)) → AllByRecursion (IsEmptyInbox count) inboxes → (a b : ℕ)
    → items_between inboxes a b ≡ []
none_between count [] all a b = refl
none_between count (inbox ∷ inboxes) all a zero = all.0.none a
none_between count (inbox ∷ inboxes) all a (suc b) = none_between count inboxes all.1 a b

pub as_many : {T : Type 0} (count : ℕ) (inboxes : List (Inbox T)) → AllByRecursion (IsEmptyInbox count) inboxes
    → AllByRecursion (λ inbox. length inbox.channels.items ≡ count) inboxes
as_many count [] all = all
as_many count (inbox ∷ inboxes) all = (all.0.all, as_many count inboxes all.1)

pub one_more : {A : Type 0} (P : A → Type 0) (xs : List A) (x : A) → AllByRecursion P xs → P x → AllByRecursion P (xs ++ x ∷ [])
one_more P [] x all is = (is, tt)
one_more P (y ∷ xs) x all is = (all.0, one_more P xs x all.1 is)

-- one more was put at the end of so many
pub pushed : {A : Type 0} (P : A → Type 0) (xs ys : List A) (x : A) (n : ℕ) → ys ≡ xs ++ x ∷ [] → (length xs ≡ n) × AllByRecursion P xs → P x
    → (length ys ≡ n + 1) × AllByRecursion P ys
pushed {A} P xs ys x n is all here = (
  ap (λ (zs : List A). length zs) is ∙ length-append xs (x ∷ []) ∙ ap (λ (k : ℕ). k + 1) all.0,
  subst (AllByRecursion P) (sym is) (one_more P xs x all.1 here),
)

-- nothing is on its way to the first actors, and neither to the next one
pub up_to : {T : Type 0} (inboxes : List (Inbox T)) (to : ℕ) → ((a b : ℕ) → b < to → items_between inboxes a b ≡ [])
    → ((a : ℕ) → items_between inboxes a to ≡ []) → (a b : ℕ) → b < to + 1 → items_between inboxes a b ≡ []
up_to inboxes to below here a b less = by_test (b == to) refl where
  same : (b == to) ≡ true → b ≡ to
  same e = grind (arith, nat_tests)

  other : (b == to) ≡ false → b < to
  other e = grind (arith, nat_tests)

  by_test : (t : Bool) → (b == to) ≡ t → items_between inboxes a b ≡ []
  by_test true e = subst (λ (n : ℕ). items_between inboxes a n ≡ []) (sym (same e)) (here a)
  by_test false e = below a b (other e)

-- what is on its way to an actor is in its inbox
pub at_index : {T : Type 0} (inboxes : List (Inbox T)) (b : ℕ) (inbox : Inbox T) → b < length inboxes → inbox ≡ slice_index_or inboxes b inbox → (a : ℕ)
    → items_between inboxes a b ≡ items_at inbox.channels.items a
at_index {T} inboxes b inbox there is a = ap (λ (o : Option (Inbox T)). unwrap_or (option_map (λ x. items_at x.channels.items a) o) [])
    (slice_get-get_or inboxes b inbox there ∙ ap Some (sym is))

-- nothing is on its way to anybody
pub everywhere : {T : Type 0} (inboxes : List (Inbox T)) (to : ℕ) → length inboxes ≤ to → ((a b : ℕ) → b < to → items_between inboxes a b ≡ [])
    → (a b : ℕ) → items_between inboxes a b ≡ []
everywhere {T} inboxes to all below a b = by_test (nat_lt b to) refl where
  under : nat_lt b to ≡ true → b < to
  under e = grind (arith, nat_tests)

  over : nat_lt b to ≡ false → length inboxes ≤ b
  over e = grind (arith, nat_tests)

  by_test : (t : Bool) → nat_lt b to ≡ t → items_between inboxes a b ≡ []
  by_test true e = below a b (under e)
  by_test false e =
      ap (λ (o : Option (Inbox T)). unwrap_or (option_map (λ x. items_at x.channels.items a) o) []) (slice_get_past inboxes b (over e))
