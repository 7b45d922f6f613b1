use Rattle.std.proofs.Common.{◌<◌, List, length, Option, refl, sym, subst}
use Rattle.ring_net.proofs.TakesEach.{same_edges_self, same_edges_then}
use Rattle.tcp_seq.specs.declared.segment.Segment.{Segment}
use Rattle.router_core.specs.Sending.{AtPlace, SentNext}
use Rattle.router_core.specs.declared.place.Place.{Place}
use Rattle.router_core.specs.Places.{place_at}
use Rattle.router_core.proofs.PlaceLists.{listed}
use Rattle.router_core.proofs.EachPlace.{still_there, slice_last, slice_less, slice_next, slices_none}
use Rattle.router_core.proofs.SendSteps.{short_next}
use Rattle.router_core.proofs.stages.emit.send_new_at.Goals as goal

pub loop-segment-init : goal.loop-segment-init
loop-segment-init c =
    (slices_none c.args.router.now c.args.post.now c.args.n c.requires.keeps c.requires.place, same_edges_self c.args.post.now, c.requires.place)

pub send-requires : goal.send-requires
send-requires c = short_next (place_at c.loop-segment.router.places.places c.args.n) c.in_ok-segment.ensures.place c.in-Some.segment
    (subst (λ (o : Option Segment). AtPlace SentNext (place_at c.loop-segment.router.places.places c.args.n) o c.in_ok-segment.ensures.place)
    c.in-Some.is c.in_ok-segment.ensures.goes)

pub loop-segment-preserved : goal.loop-segment-preserved
loop-segment-preserved c = (
  slice_next c.args.router.now c.loop-segment.router (record c.loop-segment.router { places = c.next.new.places })
      c.args.post.now c.loop-segment.post c.send.new.post c.args.n (place_at c.loop-segment.router.places.places c.args.n)
      c.in_ok-segment.ensures.place c.loop-segment.invariant.0 c.requires.keeps c.requires.place refl c.in_ok-segment.ensures.stays refl
      c.outlet_of-outlet.result c.outlet_of-outlet.ensures c.in-Some.segment c.in_ok-send.ensures.sent
      (subst (λ (o : Option Segment). AtPlace SentNext (place_at c.loop-segment.router.places.places c.args.n) o c.in_ok-segment.ensures.place)
      c.in-Some.is c.in_ok-segment.ensures.goes),
  same_edges_then c.args.post.now c.loop-segment.post c.send.new.post c.loop-segment.invariant.1 c.send.ensures.edges,
  subst (λ (xs : List (Option Place)). c.args.n < length xs) (sym (listed c.in_ok-segment.ensures.stays))
      (still_there c.args.n c.loop-segment.router.places.places c.in_ok-segment.ensures.place c.loop-segment.invariant.2),
)

pub loop-segment-smaller : goal.loop-segment-smaller
loop-segment-smaller c = slice_less c.args.router.now c.loop-segment.router (record c.loop-segment.router { places = c.next.new.places })
    c.args.post.now c.loop-segment.post c.send.new.post c.args.n (place_at c.loop-segment.router.places.places c.args.n)
    c.in_ok-segment.ensures.place c.loop-segment.invariant.0 c.requires.keeps c.requires.place refl c.in_ok-segment.ensures.stays refl
    c.in-Some.segment (subst (λ (o : Option Segment). AtPlace SentNext
    (place_at c.loop-segment.router.places.places c.args.n) o c.in_ok-segment.ensures.place) c.in-Some.is c.in_ok-segment.ensures.goes)

pub returns-in_default-clause-edges : goal.returns-in_default-clause-edges
returns-in_default-clause-edges c = c.loop-segment.invariant.1

pub returns-in_default-clause-sent : goal.returns-in_default-clause-sent
returns-in_default-clause-sent c = slice_last c.args.router.now c.loop-segment.router (record c.loop-segment.router { places = c.next.new.places })
    c.args.post.now c.loop-segment.post c.loop-segment.post c.args.n (place_at c.loop-segment.router.places.places c.args.n)
    c.in_ok-segment.ensures.place c.loop-segment.invariant.0 c.requires.keeps c.requires.place refl c.in_ok-segment.ensures.stays refl
    (subst (λ (o : Option Segment). AtPlace SentNext (place_at c.loop-segment.router.places.places c.args.n) o c.in_ok-segment.ensures.place)
    c.in_default.is c.in_ok-segment.ensures.goes)

pub returns-in_err-segment-clause-edges : goal.returns-in_err-segment-clause-edges
returns-in_err-segment-clause-edges c = c.loop-segment.invariant.1

pub returns-in_err-send-clause-edges : goal.returns-in_err-send-clause-edges
returns-in_err-send-clause-edges c = same_edges_then c.args.post.now c.loop-segment.post c.send.new.post c.loop-segment.invariant.1 c.send.ensures.edges
