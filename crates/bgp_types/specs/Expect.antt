-- What a session accepts: the type of a message in its state, and the AS of the remote.
use Rattle.std.specs.Prelude.{◌≡◌, ℕ, List, Bool, true, if◌then◌else◌}
use Rattle.bgp_types.specs.declared.fault.Expected.{Expected}
use Rattle.bgp_types.specs.declared.message.Cap.{Cap}
use Rattle.bgp_types.specs.declared.message.Message.{Message}
use Rattle.bgp_types.specs.declared.message.Message.TheVariants.{OpenMsg, UpdateMsg, NoticeMsg, KeepaliveMsg}
use Rattle.bgp_types.specs.FirstFault.{is_in_state}
use Rattle.bgp_types.specs.OpenBody.{as_said, is_said, is_field}
use Rattle.bgp_types.specs.Spelling.{kind_of}

-- Where four-octet AS numbers are offered, a capability may give the AS; else the field has it.
abbrev pub is_remote_as : Expected → ℕ → List Cap → Bool
is_remote_as expected field caps = if expected.offered then is_said expected.remote_as field (as_said caps) else is_field expected.remote_as field

abbrev pub is_from : Expected → Message → Bool
is_from expected (OpenMsg o) = is_remote_as expected o.as_number o.caps
is_from expected (UpdateMsg _) = true
is_from expected (NoticeMsg _) = true
is_from expected KeepaliveMsg = true

pub record IsExpected (expected : Expected) (m : Message) : Type 0 where
  pub state : is_in_state expected.state (kind_of m) ≡ true
  pub from : is_from expected m ≡ true
