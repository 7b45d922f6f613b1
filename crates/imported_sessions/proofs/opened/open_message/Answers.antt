use Rattle.std.proofs.Common.{◌≡◌, drop, ◌∙◌, subst, rules}
use Rattle.attr_codec.specs.Decoding.{Stops}
use Rattle.bgp_types.specs.Faults.{fault_in}
use Rattle.bgp_types.specs.FirstFault.{message_of}
use Rattle.imported_sessions.specs.Opens.{any_as}
use Rattle.imported_sessions.proofs.Openings.{open_reads, open_faulty}
use Rattle.imported_sessions.proofs.opened.open_message.Goals as goal

pub returns-in-Ok : goal.returns-in-Ok
returns-in-Ok c =
    let frame = c.args.frame.now in
    let expected : c.any_as.result ≡ any_as (drop 19 frame) = search rules in
    c.into_open.ensures ∙ open_reads frame c.requires.whole c.requires.kind c.any_as.result expected c.in-Ok.message c.in-Ok.ensures

pub returns-in-Err-Wire : goal.returns-in-Err-Wire
returns-in-Err-Wire c =
    let frame = c.args.frame.now in
    let expected : c.any_as.result ≡ any_as (drop 19 frame) = search rules in
    let stops = subst (λ stop. Stops stop (fault_in (message_of c.any_as.result frame))) c.in-Err-Wire.field-0-is c.in-Err-Wire.ensures in
    open_faulty frame c.requires.whole c.requires.kind c.any_as.result expected c.in-Err-Wire.field-0-0 stops
