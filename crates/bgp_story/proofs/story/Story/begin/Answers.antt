-- The one line is a legal story.
use Rattle.std.proofs.Common.{[], refl}
use Rattle.bgp_types.specs.declared.message.SessionState.TheVariants.{OpenSent}
use Rattle.bgp_story.specs.Legal.{opened}
use Rattle.bgp_story.proofs.story.Story.begin.Goals as goal

pub invariant_of-result : goal.invariant_of-result
invariant_of-result c = rw (c.in_ok-push.ensures.items, c.new-lines.ensures.items) (
  refl,
  record {
    peering = record { first = c.args.first; remote_as = c.args.remote_as };
    remote = refl;
    rest = [];
    state = OpenSent;
    legal = opened _ c.requires refl;
  },
)
