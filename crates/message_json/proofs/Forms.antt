-- The values of messages have no floats.
use Rattle.std.proofs.Common.{ℕ, List, Option, Some, None, Result, Ok, Err, refl}
use Rattle.serde_json.specs.Data.{string}
use Rattle.bgp_types.specs.Prefixes.{PrefixValue}
use Rattle.bgp_types.specs.OpenBody.{as_said}
use Rattle.bgp_types.specs.Texts.{prefix_text}
use Rattle.bgp_types.specs.declared.attrs.Attrs.{Attrs}
use Rattle.bgp_types.specs.declared.message.Message.{Message}
use Rattle.bgp_types.specs.declared.message.Message.TheVariants.{OpenMsg, UpdateMsg, NoticeMsg, KeepaliveMsg}
use Rattle.bgp_types.specs.declared.message.Notice.{Notice}
use Rattle.bgp_types.specs.declared.message.OpenMsg as open_type
use Rattle.bgp_types.specs.declared.message.Update.{Update}
use Rattle.message_words.specs.Names.{fault_name}
use Rattle.message_words.specs.Notices.{communication}
use Rattle.report_json.specs.Values.{count}
use Rattle.report_json.proofs.NoFloats.{Whole, with, number_whole, text_whole, mapped_whole}
use Rattle.report_json.proofs.Forms.{path_whole}
use Rattle.message_json.specs.Messages.{prefixes_json, open_json, some_path_json, update_json, notice_json, message_json, answer_json}

pub prefixes_whole : (prefixes : List PrefixValue) → Whole (prefixes_json prefixes)
prefixes_whole prefixes = mapped_whole (λ p. string (prefix_text p)) (λ p. refl) prefixes

open_whole : (o : open_type.OpenMsg) → Whole (open_json o)
open_whole o = with (number_whole (as_said o.caps)) (with (mapped_whole (λ c. count c.code) (λ c. refl) o.caps) refl)

some_path_whole : (attrs : Option Attrs) → Whole (some_path_json attrs)
some_path_whole None = refl
some_path_whole (Some a) = path_whole a.path

update_whole : (u : Update) → Whole (update_json u)
update_whole u = with (prefixes_whole u.nlri) (with (some_path_whole u.attrs) (with (prefixes_whole u.withdrawn) refl))

notice_whole : (n : Notice) → Whole (notice_json n)
notice_whole n = with (text_whole (fault_name n.code n.subcode)) (with (text_whole (communication n)) refl)

pub message_whole : (message : Message) → Whole (message_json message)
message_whole (OpenMsg o) = open_whole o
message_whole (UpdateMsg u) = update_whole u
message_whole (NoticeMsg n) = with (notice_whole n) refl
message_whole KeepaliveMsg = refl

pub answer_whole : (bytes : List ℕ) (answer : Result Message Notice) → Whole (answer_json bytes answer)
answer_whole bytes (Ok message) = message_whole message
answer_whole bytes (Err n) = with (notice_whole n) refl
