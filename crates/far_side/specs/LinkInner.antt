-- The value of a link, and the invariant of its fields.
use Rattle.std.specs.Prelude.{◌≡◌, ◌<◌, ◌^◌, length, map, All}
use Rattle.tcp_seq.specs.Placed.{placed}
use Rattle.far_side.specs.Links.{LinkValue, IsOn}
use Rattle.far_side.specs.declared.link.Link.TheInside.{Inside}

abbrev pub link_of : Inside → LinkValue
link_of l = record {
  way = l.way;
  peering = l.peering.0;
  seq_first = l.seq_first.0;
  ack_first = l.ack_first.0;
  segments = map (placed l.seq_first.0 l.ack_first.0) l.bag;
  plans = l.plans.items;
  put = l.put;
}

-- each segment is one of the link, and has a plan
pub record LinkInvariant (l : Inside) : Type 0 where
  pub own : All (IsOn (link_of l)) l.bag
  pub planned : length l.plans.items ≡ length l.bag
  pub few : length l.bag < 2 ^ 32
