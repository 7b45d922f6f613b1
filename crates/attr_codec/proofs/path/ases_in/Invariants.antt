use Rattle.std.proofs.Common.{◌≡◌, ◌*◌, ◌-◌, ◌≤◌, ◌++◌, length}
use Rattle.std.specs.Int.{byte_len}
use Rattle.bgp_types.specs.PathOctets.{as_width, numbers}
use Rattle.attr_codec.proofs.path.ases_in.Given as goal

abbrev pub invariant-loop : goal.invariant-loop
invariant-loop l = record {
  room : (l.count - l.counter) * byte_len (as_width l.wide) ≤ length l.rest;
  so_far : l.ases.items ++ numbers (as_width l.wide) (l.count - l.counter) l.rest ≡ numbers (as_width l.wide) l.count l.octets;
}
