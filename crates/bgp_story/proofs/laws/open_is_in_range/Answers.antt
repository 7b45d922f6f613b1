use Rattle.bgp_story.proofs.Ranges.{peering_of, hold_range, identifier_range, field_range, said_range}
use Rattle.bgp_story.proofs.laws.open_is_in_range.Goals as goal

pub returns : goal.returns
returns c = record {
  home = λ p lines state l. (peering_of p lines state l).home;
  hold = λ p lines state l. hold_range p.first (peering_of p lines state l).home;
  identifier = λ p lines state l. identifier_range p.first (peering_of p lines state l).home;
  home_as = λ p lines state l. field_range p.first (peering_of p lines state l).home;
  wide_as = λ p lines state as_number l. said_range p.first (peering_of p lines state l).home as_number;
  remote_as = λ p lines state l. let a = (peering_of p lines state l).remote_as in (a.some, a.fits);
}
