use Rattle.std.proofs.Common.{◌≡◌, ℕ, [], ◌++◌, List, take, map, refl, sym, ap, ◌∙◌, subst, rules}
use Rattle.std.specs.Prelude.{None, option_to_list}
use Rattle.bgp_types.specs.Header.{frame_at}
use Rattle.bgp_types.proofs.FrameLaws.{front_frame}
use Rattle.imported_sessions.specs.declared.heard.Session.{Session}
use Rattle.imported_sessions.specs.declared.imported.Said.{Said}
use Rattle.imported_sessions.specs.Heard.{IsMessageAt, said_by}
use Rattle.imported_sessions.specs.Packed.{AreMoreStepsOf}
use Rattle.imported_sessions.proofs.Feeding.{at_front, sized}
use Rattle.imported_sessions.proofs.Hearing.{begins, takes, ends, short_if_some}
use Rattle.imported_sessions.proofs.Packing.{more_again, none_more}
use Rattle.imported_sessions.proofs.heard.take_octets.Goals as goal

pub loop-front-init : goal.loop-front-init
loop-front-init c = λ stream home is.
    let old = c.args.session.now in
    record {
      said = [];
      taking = begins old.peer stream home c.args.octets.now old (record old { rest = c.extend.new.self }) is
          (ap (λ (rest : List ℕ). record old { rest = rest }) c.in_ok-extend.ensures.ok);
      more = none_more c.args.opened.now c.args.home_as [] c.args.steps.now.items refl;
    }

pub push_external-requires : goal.push_external-requires
push_external-requires c =
    let session = c.loop-front.session in
    let message = c.in_ok-message.message in
    let front = c.in-Some.front in
    let there = subst (λ o. IsMessageAt o c.as_slice.result.now) c.in-Some.is c.front_message.ensures in
    let cut : message ≡ take front.len session.rest = search rules in
    let f = at_front c.as_slice.result.now session.rest message c.drop_front.new.self front there c.as_slice.ensures cut c.drop_front.ensures in
    short_if_some c.in_ok-message-2.message message c.in_ok-message-2.ensures.same
    (sized message (front_frame session.rest (message, c.drop_front.new.self) f.0).1).short

pub loop-front-preserved : goal.loop-front-preserved
loop-front-preserved c = λ stream home is.
    let opened = c.args.opened.now in
    let home_as = c.args.home_as in
    let peer = c.args.session.now.peer in
    let session = c.loop-front.session in
    let told = c.loop-front.invariant stream home is in
    let t = told.taking in
    let message = c.in_ok-message.message in
    let front = c.in-Some.front in
    let there = subst (λ o. IsMessageAt o c.as_slice.result.now) c.in-Some.is c.front_message.ensures in
    let cut : message ≡ take front.len session.rest = search rules in
    let f = at_front c.as_slice.result.now session.rest message c.drop_front.new.self front there c.as_slice.ensures cut c.drop_front.ensures in
    let after = c.in_ok-message-2.message in
    let taken = c.in_ok-message-2.ensures.taken t.all (ap (λ (s : Session). s.opening) t.is) f.1 in
    let number : session.peer ≡ peer = ap (λ (s : Session). s.peer) t.is in
    let more = map (said_by peer) (option_to_list after) in
    let new = record session { opening = c.take_message.new.opening; rest = c.drop_front.new.self } in
    record {
      said = told.said ++ more;
      taking = takes peer stream home c.args.octets.now session new told.said message c.drop_front.new.self (option_to_list after) t f.0 taken refl;
      more = more_again opened home_as told.said more c.args.steps.now.items c.loop-front.steps.items c.push_external.new.steps.items told.more
          (subst (λ (p : ℕ). AreMoreStepsOf opened home_as (map (said_by p) (option_to_list after)) c.loop-front.steps.items c.push_external.new.steps.items)
          number c.in_ok-push_external.ensures);
    }

pub returns : goal.returns
returns c = λ stream home is.
    let session = c.loop-front.session in
    let told = c.loop-front.invariant stream home is in
    let none : frame_at session.rest ≡ None =
    ap frame_at (sym c.as_slice.ensures) ∙ subst (λ o. IsMessageAt o c.as_slice.result.now) c.in_default.is c.front_message.ensures in
    let end = ends c.args.session.now.peer stream home c.args.octets.now session told.said told.taking none in (
      end.0,
      subst (λ (more : List Said). AreMoreStepsOf c.args.opened.now c.args.home_as more c.args.steps.now.items c.loop-front.steps.items) end.1 told.more,
    )
