-- What a frame with a sound header reads as.
use Rattle.std.proofs.Common.{◌≡◌, ℕ, List, drop, Bool, true, false, cond, Option, None, Result, Err, ap, ◌∙◌}
use Rattle.bgp_types.specs.declared.fault.Expected.{Expected}
use Rattle.bgp_types.specs.declared.fault.HeaderFault.{HeaderFault}
use Rattle.bgp_types.specs.declared.message.Message.{Message}
use Rattle.bgp_types.specs.declared.message.Notice.{Notice}
use Rattle.bgp_types.specs.FirstFault.{is_in_state, body_of, state_fault, with_header, message_of}
use Rattle.bgp_types.specs.Header.{header_fault, kind_in}

of_state : (expected : Expected) (frame : List ℕ) (taken : Bool) → header_fault frame ≡ None → is_in_state expected.state (kind_in frame) ≡ taken
    → message_of expected frame ≡ cond taken (body_of expected (kind_in frame) (drop 19 frame)) (Err state_fault)
unfolding message_of
of_state expected frame taken sound t =
    ap (λ (o : Option HeaderFault). with_header o expected frame) sound
    ∙ ap (λ (b : Bool). (let r : Result Message Notice = cond b (body_of expected (kind_in frame) (drop 19 frame)) (Err state_fault) in r)) t

pub not_taken : (expected : Expected) (frame : List ℕ) → header_fault frame ≡ None → is_in_state expected.state (kind_in frame) ≡ false
    → message_of expected frame ≡ Err state_fault
not_taken expected frame sound t = of_state expected frame false sound t

pub taken : (expected : Expected) (frame : List ℕ) → header_fault frame ≡ None → is_in_state expected.state (kind_in frame) ≡ true
    → message_of expected frame ≡ body_of expected (kind_in frame) (drop 19 frame)
taken expected frame sound t = of_state expected frame true sound t
