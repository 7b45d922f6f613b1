use Rattle.std.proofs.Common.{◌≡◌, ℕ, List, drop, true, false, subst, sym, ap, length-drop, rules, arith}
use Rattle.attr_codec.specs.Decoding.{Stops, Decodes}
use Rattle.bgp_types.specs.FirstFault.{is_in_state, body_of}
use Rattle.bgp_types.specs.Header.{kind_in}
use Rattle.bgp_types.specs.Faults.{fault_in}
use Rattle.bgp_wire.proofs.FrameLaws.{sound_is}
use Rattle.bgp_wire.proofs.ReadLaws.{not_taken, taken}
use Rattle.bgp_wire.proofs.read.read_message.Goals as goal

pub bounds-bytes-18 : goal.bounds-bytes-18
bounds-bytes-18 c = let s = (sound_is c.args.bytes.now c.requires).long in omega arith

pub split_at-requires : goal.split_at-requires
split_at-requires c = let s = (sound_is c.args.bytes.now c.requires).long in omega arith

pub returns-then-not-is_in_state : goal.returns-then-not-is_in_state
returns-then-not-is_in_state c =
    let t : is_in_state c.args.expected.now.state (kind_in c.args.bytes.now) ≡ false = search rules in
    subst (Stops c.fault.result)
    (sym (ap fault_in (not_taken c.args.expected.now c.args.bytes.now (sound_is c.args.bytes.now c.requires).header t))) c.fault.ensures

pub read_body-requires-clause-open_long : goal.read_body-requires-clause-open_long
read_body-requires-clause-open_long c =
    λ kind.
    let s = (sound_is c.args.bytes.now c.requires).open_long kind in
    let b : c.split_at.result.1.now ≡ drop 19 c.args.bytes.now = c.split_at.ensures.back in
    rw (b, length-drop 19 c.args.bytes.now) (omega arith)

pub read_body-requires-clause-notice_long : goal.read_body-requires-clause-notice_long
read_body-requires-clause-notice_long c =
    λ kind.
    let s = (sound_is c.args.bytes.now c.requires).notice_long kind in
    let b : c.split_at.result.1.now ≡ drop 19 c.args.bytes.now = c.split_at.ensures.back in
    rw (b, length-drop 19 c.args.bytes.now) (omega arith)

pub returns : goal.returns
returns c =
    let t : is_in_state c.args.expected.now.state (kind_in c.args.bytes.now) ≡ true = search rules in
    let b : c.split_at.result.1.now ≡ drop 19 c.args.bytes.now = c.split_at.ensures.back in
    subst (Decodes c.read_body.result) (sym (taken c.args.expected.now c.args.bytes.now (sound_is c.args.bytes.now c.requires).header t))
    (subst (λ (body : List ℕ). Decodes c.read_body.result (body_of c.args.expected.now (kind_in c.args.bytes.now) body)) b c.read_body.ensures)
