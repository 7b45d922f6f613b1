-- What is required of the parts of a message that is written.
use Rattle.std.specs.Prelude.{ℕ, ◌^◌, ◌<◌, length, Option, Some, None, Bool}
use Rattle.attr_codec.specs.Fields.{FitsField}
use Rattle.bgp_types.specs.declared.attrs.Attrs.{Attrs}
use Rattle.bgp_types.specs.declared.message.Message.{Message}
use Rattle.bgp_types.specs.declared.message.Message.TheVariants.{OpenMsg, UpdateMsg, NoticeMsg, KeepaliveMsg}
use Rattle.bgp_types.specs.declared.message.Update.{Update}
use Rattle.bgp_types.specs.Spelling.{spell_prefixes, spell_some_attrs}
use Rattle.bgp_types.specs.Writable.{IsWritableOpen}

abbrev pub FitsSome : Option Attrs → Bool → Type 0
FitsSome None wide = Unit {0}
FitsSome (Some a) wide = FitsField a wide

-- the lengths of the fields fit in two octets
pub record FitsUpdate (u : Update) (wide : Bool) : Type 0 where
  pub withdrawn : length (spell_prefixes u.withdrawn) < 2 ^ 16
  pub attrs : length (spell_some_attrs wide u.attrs) < 2 ^ 16
  pub each : FitsSome u.attrs wide

abbrev pub FitsBody : Message → Bool → Type 0
FitsBody (OpenMsg o) wide = IsWritableOpen o
FitsBody (UpdateMsg u) wide = FitsUpdate u wide
FitsBody (NoticeMsg n) wide = Unit {0}
FitsBody KeepaliveMsg wide = Unit {0}

-- How many octets a message may be written in. An OPEN has 29 without its parameters, which have at most 255.
abbrev pub written_limit : Message → ℕ
written_limit (OpenMsg o) = 284
written_limit (UpdateMsg u) = 4096
written_limit (NoticeMsg n) = 4096
written_limit KeepaliveMsg = 4096
