use Rattle.std.proofs.Common.{◌≡◌, ◌<◌, ◌++◌, ◌∷◌, [], length, map, not, true, false, Some, refl, sym, ap, ◌∙◌, append_assoc, arith}
use Rattle.std.specs.Prelude.{slice_get}
use Rattle.std.specs.Vec.Iter.{into_iter_items}
use Rattle.std.proofs.lemmas.Bool.{eq-eqb, ne_eqb}
use Rattle.std.proofs.lemmas.List.{length_push}
use Rattle.std.proofs.lemmas.List.FromFn.{length-map-range_with_len}
use Rattle.std.proofs.lemmas.Option.{get_or_from_slice_get, slice_get_within}
use Rattle.imported_sessions.specs.Heard.{said_by, session_at}
use Rattle.imported_sessions.specs.Messages.{unfinished}
use Rattle.imported_sessions.specs.Opens.{is_external}
use Rattle.imported_sessions.specs.Steps.{pieces}
use Rattle.imported_sessions.proofs.Keeping.{external_here, kept, left_out, next_at, same_kept, some_at}
use Rattle.imported_sessions.proofs.peerings.keep.Goals as goal

pub loop-session-preserved-then-session-home_as : goal.loop-session-preserved-then-session-home_as
loop-session-preserved-then-session-home_as c =
    let s = c.args.streams.now in
    let home_as = c.args.home_as in
    let opened = c.args.opened in
    let at = c.loop-session in
    let session = c.in-Some.session in
    let rest = into_iter_items c.next.new.self in
    let k = length at.yielded in
    let parts : at.yielded ++ session ∷ rest ≡ opened = ap (λ xs. at.yielded ++ xs) (sym c.in-Some.ensures.steps.0) ∙ at.invariant.left in
    let there = next_at opened at.yielded rest session parts in
    let low : k < length s.peers = omega (arith, slice_get_within opened k session there, c.requires.opened.count) in
    let peer = some_at s.peers k low in
    let inside : is_external s home_as k ≡ false =
    external_here s opened c.requires.opened home_as k session there ∙ ap not (eq-eqb session.remote_as home_as c.if-session-home_as.true) in
    let next = left_out s home_as k c.args.steps.now.items at.kept.peerings at.kept.internal at.steps.items at.invariant.kept peer.0 low peer.1 inside in
    record {
      left = append_assoc at.yielded (session ∷ []) rest ∙ parts;
      kept = same_kept s home_as _ _ c.args.steps.now.items _ _ _ _ _ next (length_push at.yielded session) refl refl;
    }

pub ends-requires : goal.ends-requires
ends-requires c =
    let opened = c.args.opened in
    let at = c.loop-session in
    let session = c.in-Some.session in
    let rest = into_iter_items c.next.new.self in
    let parts : at.yielded ++ session ∷ rest ≡ opened = ap (λ xs. at.yielded ++ xs) (sym c.in-Some.ensures.steps.0) ∙ at.invariant.left in
    let there = next_at opened at.yielded rest session parts in
    let number = (c.requires.opened.each (length at.yielded) session there).number in
    omega (arith, number, slice_get_within opened (length at.yielded) session there, c.requires.opened.count, ap length c.deref.ensures)

pub rest_of-requires : goal.rest_of-requires
rest_of-requires c =
    let opened = c.args.opened in
    let at = c.loop-session in
    let session = c.in-Some.session in
    let rest = into_iter_items c.next.new.self in
    let parts : at.yielded ++ session ∷ rest ≡ opened = ap (λ xs. at.yielded ++ xs) (sym c.in-Some.ensures.steps.0) ∙ at.invariant.left in
    let there = next_at opened at.yielded rest session parts in
    let number = (c.requires.opened.each (length at.yielded) session there).number in
    let size = ap length c.requires.sessions ∙ length-map-range_with_len (session_at c.args.streams.now.flows) 0 (length c.args.streams.now.peers) in
    omega (arith, number, slice_get_within opened (length at.yielded) session there, c.requires.opened.count, size)

pub loop-session-preserved : goal.loop-session-preserved
loop-session-preserved c =
    let s = c.args.streams.now in
    let home_as = c.args.home_as in
    let opened = c.args.opened in
    let at = c.loop-session in
    let session = c.in-Some.session in
    let rest = into_iter_items c.next.new.self in
    let k = length at.yielded in
    let parts : at.yielded ++ session ∷ rest ≡ opened = ap (λ xs. at.yielded ++ xs) (sym c.in-Some.ensures.steps.0) ∙ at.invariant.left in
    let there = next_at opened at.yielded rest session parts in
    let low : k < length s.peers = omega (arith, slice_get_within opened k session there, c.requires.opened.count) in
    let o = c.requires.opened.each k session there in
    let outside : is_external s home_as k ≡ true =
    external_here s opened c.requires.opened home_as k session there ∙ ap not (ne_eqb session.remote_as home_as c.if-session-home_as.false) in
    let ends_at : slice_get s.peers k ≡ Some c.ends.result =
    ap (slice_get s.peers) (sym o.number) ∙ ap (λ ps. slice_get ps session.peer) (sym c.deref.ensures) ∙ c.ends.ensures in
    let ends_are = sym (get_or_from_slice_get s.peers k c.ends.result c.ends.result ends_at) in
    let next = kept s home_as k c.args.steps.now.items at.kept.peerings at.kept.internal at.steps.items at.invariant.kept c.ends.result low ends_are
    c.peering.result session.remote outside o.begins (c.peering.ensures s k o) in
    let steps = c.in_ok-push_octets.ensures ∙ ap (λ p. at.steps.items ++ map (said_by p) (pieces c.rest_of.result.now)) o.number
    ∙ ap (λ xs. at.steps.items ++ map (said_by k) (pieces xs))
    (c.rest_of.ensures s.flows (length s.peers) c.requires.sessions ∙ ap (λ p. unfinished p s.flows) o.number) in
    record {
      left = append_assoc at.yielded (session ∷ []) rest ∙ parts;
      kept = same_kept s home_as _ _ c.args.steps.now.items _ _ _ _ _ next (length_push at.yielded session) c.in_ok-push.ensures.ok steps;
    }
