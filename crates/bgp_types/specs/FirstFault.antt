-- The message that a frame is, or its first fault: in the header, then by the state of the session,
-- then in the body (RFC 4271, section 6, in this project's order).
use Rattle.std.specs.Prelude.{ℕ, ◌==◌, List, [], drop, get_or, Option, Some, None, Result, Ok, Err, Bool, true, if◌then◌else◌}
use Rattle.bgp_types.specs.declared.fault.Expected.{Expected}
use Rattle.bgp_types.specs.declared.fault.HeaderFault.{HeaderFault}
use Rattle.bgp_types.specs.declared.message.Message.{Message}
use Rattle.bgp_types.specs.declared.message.Message.TheVariants as messages
use Rattle.bgp_types.specs.declared.message.Notice.{Notice}
use Rattle.bgp_types.specs.declared.message.OpenMsg.{OpenMsg}
use Rattle.bgp_types.specs.declared.message.SessionState.{SessionState}
use Rattle.bgp_types.specs.declared.message.SessionState.TheVariants.{OpenSent, OpenConfirm, Established, Closed}
use Rattle.bgp_types.specs.declared.message.Update.{Update}
use Rattle.bgp_types.specs.Faults.{fault_in}
use Rattle.bgp_types.specs.Header.{header_fault, header_notice, kind_in}
use Rattle.bgp_types.specs.OpenBody.{open_of}
use Rattle.bgp_types.specs.UpdateBody.{update_of}

-- OPEN in OpenSent, KEEPALIVE in OpenConfirm and Established, UPDATE in Established, NOTIFICATION in each state
abbrev pub is_in_state : SessionState → ℕ → Bool
is_in_state OpenSent kind = if kind == 1 then true else kind == 3
is_in_state OpenConfirm kind = if kind == 4 then true else kind == 3
is_in_state Established kind = if kind == 4 then true else if kind == 2 then true else kind == 3
is_in_state Closed kind = kind == 3

abbrev pub open_message : Result OpenMsg Notice → Result Message Notice
open_message (Err n) = Err n
open_message (Ok o) = Ok (messages.OpenMsg o)

abbrev pub update_message : Result Update Notice → Result Message Notice
update_message (Err n) = Err n
update_message (Ok u) = Ok (messages.UpdateMsg u)

-- code, subcode and data
abbrev pub notice_of : List ℕ → Notice
notice_of body = record { code = get_or body 0 0; subcode = get_or body 1 0; info = drop 2 body }

-- the message of a type with this body, or the first fault of the body
unfoldable pub body_of : Expected → ℕ → List ℕ → Result Message Notice
body_of expected kind body =
    if kind == 1 then open_message (open_of expected body)
    else if kind == 2 then update_message (update_of expected.wide body)
    else if kind == 3 then Ok (messages.NoticeMsg (notice_of body))
    else Ok messages.KeepaliveMsg

-- the fault of a type that the state doesn't accept
abbrev pub state_fault : Notice
state_fault = record { code = 5; subcode = 0; info = [] }

abbrev pub with_header : Option HeaderFault → Expected → List ℕ → Result Message Notice
with_header (Some fault) expected frame = Err (header_notice fault)
with_header None expected frame = if is_in_state expected.state (kind_in frame) then body_of expected (kind_in frame) (drop 19 frame) else Err state_fault

-- the message of a whole frame, or its first fault
unfoldable pub message_of : Expected → List ℕ → Result Message Notice
message_of expected frame = with_header (header_fault frame) expected frame

abbrev pub first_fault : List ℕ → Expected → Option Notice
first_fault frame expected = fault_in (message_of expected frame)
