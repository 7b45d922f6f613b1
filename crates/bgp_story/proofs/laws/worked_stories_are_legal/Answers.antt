use Rattle.std.proofs.Common.{refl, lit<}
use Rattle.bgp_story.proofs.WorkedStories.{peering_is, heard_all, heard_routes, told_all, told_routes, withdrawn_all, none_told, beaten}
use Rattle.bgp_story.proofs.WorkedStories.{expired, wide_all, wide_puts, offered_in_vain, stays_narrow, lesser_hold, unicast_all}
use Rattle.bgp_story.proofs.WorkedStories.{unicast_puts, unicast_stays_narrow, both_all, both_puts, both_is_wide}
use Rattle.bgp_story.proofs.laws.worked_stories_are_legal.Goals as goal

pub returns : goal.returns
returns c = record {
  heard = heard_all 0 (peering_is 0 (lit< tt) refl);
  heard_routes = heard_routes 0;
  told = told_all 0 (peering_is 0 (lit< tt) refl);
  told_routes = told_routes;
  withdrawn = withdrawn_all 0 (peering_is 0 (lit< tt) refl);
  none_told = none_told;
  beaten = beaten;
  expired = expired;
  wide = wide_all;
  wide_octets = wide_puts;
  offered = offered_in_vain;
  narrow = stays_narrow;
  hold = lesser_hold;
  unicast = unicast_all;
  unicast_octets = unicast_puts;
  unicast_narrow = unicast_stays_narrow;
  both = both_all;
  both_octets = both_puts;
  both_wide = both_is_wide;
}
