-- The items on their way, and their stamps, by the numbers of sender and receiver.
use Rattle.std.specs.Prelude.{ℕ, ◌≡◌, List, [], length, map, unwrap_or, option_map, slice_get}
use Rattle.std.specs.List.{AllByRecursion}
use Rattle.graft_steps.specs.declared.item.Item.{Item}
use Rattle.bgp_session.specs.Running.{RunningSession}
use Rattle.ring_net.specs.declared.entry.Stamp.{Stamp}
use Rattle.audit_channels.specs.declared.channel.Channel.{Channel}
use Rattle.audit_channels.specs.declared.inboxes.Inbox.{Inbox}

-- the items of a channel, and their stamps, the next one first
abbrev pub parcels_in : Channel → List (Item RunningSession)
parcels_in channel = map (λ x. x.item) channel.queue.items

abbrev pub stamps_in : Channel → List Stamp
stamps_in channel = map (λ x. x.stamp) channel.queue.items

-- those of the channel from an actor of this number, in an inbox
abbrev pub parcels_at : List Channel → ℕ → List (Item RunningSession)
parcels_at channels from = unwrap_or (option_map parcels_in (slice_get channels from)) []

abbrev pub stamps_at : List Channel → ℕ → List Stamp
stamps_at channels from = unwrap_or (option_map stamps_in (slice_get channels from)) []

-- those from one actor to another
abbrev pub parcels : List Inbox → ℕ → ℕ → List (Item RunningSession)
parcels inboxes from to = unwrap_or (option_map (λ inbox. parcels_at inbox.channels.items from) (slice_get inboxes to)) []

abbrev pub stamps : List Inbox → ℕ → ℕ → List Stamp
stamps inboxes from to = unwrap_or (option_map (λ inbox. stamps_at inbox.channels.items from) (slice_get inboxes to)) []

-- each of so many actors has an inbox with a channel from each of them
pub record IsSquare (count : ℕ) (inboxes : List Inbox) : Type 0 where
  pub all : length inboxes ≡ count
  pub each : AllByRecursion (λ inbox. length inbox.channels.items ≡ count) inboxes
