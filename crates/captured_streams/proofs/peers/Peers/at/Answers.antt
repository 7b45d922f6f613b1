use Rattle.std.proofs.Common.{◌≡◌, ◌≤◌, List, length, get_or, Some, None, sym, ap, ◌∙◌, rules, arith}
use Rattle.std.specs.BTreeMap.{get}
use Rattle.std.specs.List.{slice_get}
use Rattle.std.specs.Ordering.{nat_cmp}
use Rattle.std.proofs.lemmas.Option.{slice_get-get_or}
use Rattle.captured_streams.specs.declared.directed.Peer.{Peer}
use Rattle.captured_streams.proofs.Numbering.{at_none, at_some, within}
use Rattle.captured_streams.proofs.peers.Peers.at.Goals as goal

pub returns-in_err-number : goal.returns-in_err-number
returns-in_err-number c =
    let self = c.args.self.now in
    let s = c.args.segment.now in
    let none : get nat_cmp self.numbers s.peer.remote.address ≡ None =
    cc (c.in_err-number.ensures.value) in
    let is = at_none self.list self.numbers c.requires s none in
    cc

pub returns-in_err-known : goal.returns-in_err-known
returns-in_err-known c =
    let self = c.args.self.now in
    let s = c.args.segment.now in
    let k = c.in_ok-number.field-0.now in
    let got : get nat_cmp self.numbers s.peer.remote.address ≡ Some k =
    cc (c.in_ok-number.ensures.value) in
    let past : length c.deref.result.now ≤ k = search rules in
    absurd (omega (arith, past, within self.list self.numbers c.requires s k got, ap (λ (l : List Peer). length l) c.deref.ensures))

pub returns : goal.returns
returns c =
    let self = c.args.self.now in
    let s = c.args.segment.now in
    let k = c.in_ok-number.field-0.now in
    let p = c.in_ok-known.known.now in
    let got : get nat_cmp self.numbers s.peer.remote.address ≡ Some k =
    cc (c.in_ok-number.ensures.value) in
    let read : p ≡ get_or c.deref.result.now k p = search rules in
    let there : slice_get self.list k ≡ Some p =
    slice_get-get_or self.list k p (within self.list self.numbers c.requires s k got)
    ∙ ap (λ (q : Peer). Some q) (sym (read ∙ ap (λ (l : List Peer). get_or l k p) c.deref.ensures)) in
    let is = at_some self.list self.numbers c.requires s k p got there in
    cc (c.then_some.ensures, c.eq.ensures, is)
