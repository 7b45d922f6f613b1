use Rattle.std.proofs.Common.{◌≡◌, ◌+◌, ◌++◌, ◌∷◌, [], length, refl, sym, ap, ◌∙◌, subst, append_assoc, arith}
use Rattle.std.specs.Prelude.{slice_get}
use Rattle.std.specs.Vec.Iter.{into_iter_items}
use Rattle.std.proofs.lemmas.List.{length_push}
use Rattle.std.proofs.lemmas.List.FromFn.{length-map-range_with_len}
use Rattle.imported_sessions.specs.declared.opened.Opened.{Opened}
use Rattle.imported_sessions.specs.Heard.{session_at}
use Rattle.imported_sessions.specs.Opened.{AreOpened, IsOpened}
use Rattle.imported_sessions.specs.Opens.{first_open}
use Rattle.imported_sessions.proofs.Openings.{each_opens, next_heard, opened_here, opened_more}
use Rattle.imported_sessions.proofs.Ranges.{all_counted}
use Rattle.imported_sessions.proofs.opened.open_all.Goals as goal

pub ends-requires : goal.ends-requires
ends-requires c =
    let at = c.loop-session in
    let rest = into_iter_items c.next.new.self in
    let parts : at.yielded ++ c.in-Some.session ∷ rest ≡ c.args.sessions.items =
    ap (λ xs. at.yielded ++ xs) (sym c.in-Some.ensures.steps.0) ∙ at.invariant.left in
    let next = next_heard c.args.streams.now c.args.sessions.items at.yielded rest c.in-Some.session c.requires parts in
    omega (arith, next.0, next.1.number, ap length c.deref-in_default.ensures)

pub returns-in_default-clause-stop : goal.returns-in_default-clause-stop
returns-in_default-clause-stop c = λ remote e.
    let s = c.args.streams.now in
    let at = c.loop-session in
    let session = c.in-Some.session in
    let rest = into_iter_items c.next.new.self in
    let parts : at.yielded ++ session ∷ rest ≡ c.args.sessions.items = ap (λ xs. at.yielded ++ xs) (sym c.in-Some.ensures.steps.0) ∙ at.invariant.left in
    let next = next_heard s c.args.sessions.items at.yielded rest session c.requires parts in
    record {
      k = length at.yielded;
      peer = c.ends.result;
      at = ap (slice_get s.peers) (sym next.1.number) ∙ ap (λ ps. slice_get ps session.peer) (sym c.deref-in_default.ensures) ∙ c.ends.ensures;
      is = cc;
      none = sym next.1.remote ∙ ap first_open (sym c.deref.ensures) ∙ sym c.in_ok-remote.ensures ∙ c.in_default.is;
      first = λ j low. each_opens s at.all at.invariant.each j (omega (arith, low, at.invariant.count));
    }

pub loop-session-preserved : goal.loop-session-preserved
loop-session-preserved c =
    let s = c.args.streams.now in
    let at = c.loop-session in
    let session = c.in-Some.session in
    let rest = into_iter_items c.next.new.self in
    let parts : at.yielded ++ session ∷ rest ≡ c.args.sessions.items = ap (λ xs. at.yielded ++ xs) (sym c.in-Some.ensures.steps.0) ∙ at.invariant.left in
    let next = next_heard s c.args.sessions.items at.yielded rest session c.requires parts in
    let opened : Opened = record {
      peer = session.peer;
      remote_as = c.as_of.result;
      remote = c.in-Some-2.remote;
      home = c.in_ok-read_open.field-0;
      opening = session.opening.octets;
    } in
    let is = opened_here s (length at.yielded) session opened next.1 refl (sym c.in-Some-2.is ∙ c.in_ok-remote.ensures ∙ ap first_open c.deref.ensures)
    c.as_of.ensures (c.in_ok-read_open.ensures ∙ ap first_open c.deref-in-loop-session.ensures) refl in
    let pushed : c.push.new.self ≡ at.all ++ opened ∷ [] = c.in_ok-push.ensures.ok in
    record {
      left = append_assoc at.yielded (session ∷ []) rest ∙ parts;
      count = ap length pushed ∙ length_push at.all opened ∙ ap (λ n. n + 1) at.invariant.count ∙ sym (length_push at.yielded session);
      each = subst (AreOpened s) (sym pushed)
          (opened_more s at.all opened at.invariant.each (subst (λ k. IsOpened s k opened) (sym at.invariant.count) is));
    }

pub returns-clause-opened : goal.returns-clause-opened
returns-clause-opened c =
    let s = c.args.streams.now in
    let at = c.loop-session in
    let none = sym at.session-iterator.rest.ok.0 ∙ c.in-None.ensures.steps.0 in
    record {
      count = at.invariant.count ∙ all_counted c.args.sessions.items at.yielded (into_iter_items at.session-iterator) at.invariant.left none
          ∙ ap length c.requires ∙ length-map-range_with_len (session_at s.flows) 0 (length s.peers);
      each = at.invariant.each;
    }
