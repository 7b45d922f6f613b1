-- The items on their way, by the numbers of sender and receiver.
use Rattle.std.specs.Prelude.{ℕ, ◌≡◌, ◌==◌, if◌then◌else◌, List, [], length, unwrap_or, option_map, slice_get}
use Rattle.std.specs.List.{All}
use Rattle.item_channels.specs.declared.channel.Channel.{Channel}
use Rattle.item_channels.specs.declared.inboxes.Inbox.{Inbox}

-- the items of a channel, the next one first
abbrev pub items_in : {T : Type 0} → Channel T → List T
items_in channel = channel.queue.items

-- those of the channel from an actor of this number, in an inbox
abbrev pub items_at : {T : Type 0} → List (Channel T) → ℕ → List T
items_at channels from = unwrap_or (option_map items_in (slice_get channels from)) []

-- those from one actor to another
abbrev pub items_between : {T : Type 0} → List (Inbox T) → ℕ → ℕ → List T
items_between inboxes from to = unwrap_or (option_map (λ inbox. items_at inbox.channels.items from) (slice_get inboxes to)) []

-- items by sender and receiver, but that these are those from one actor to another
abbrev pub with_items : {T : Type 0} → (ℕ → ℕ → List T) → (from to : ℕ) → List T → ℕ → ℕ → List T
with_items all from to items a = if a == from then (λ b. if b == to then items else all from b) else all a

-- each of so many actors has an inbox with a channel from each of them
pub record IsSquare {T : Type 0} (count : ℕ) (inboxes : List (Inbox T)) : Type 0 where
  pub all : length inboxes ≡ count
  pub each : All (λ inbox. length inbox.channels.items ≡ count) inboxes
