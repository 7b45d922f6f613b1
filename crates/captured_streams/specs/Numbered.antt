-- The numbers of connections by the addresses of their remotes.
use Rattle.std.specs.Prelude.{ℕ, ◌≡◌, List, Some, slice_get}
use Rattle.std.specs.BTreeMap.{BTreeMap, get}
use Rattle.std.specs.Ordering.{nat_cmp}
use Rattle.captured_streams.specs.declared.directed.Peer.{Peer}

-- Each address has the number of its connection, and no other address has one.
pub record IsNumbered (list : List Peer) (numbers : BTreeMap ℕ ℕ) : Type 0 where
  pub each : (k : ℕ) (peer : Peer) → slice_get list k ≡ Some peer → get nat_cmp numbers peer.remote.address ≡ Some k
  pub only : (address k : ℕ) → get nat_cmp numbers address ≡ Some k → (peer : Peer) × (slice_get list k ≡ Some peer) × (peer.remote.address ≡ address)
