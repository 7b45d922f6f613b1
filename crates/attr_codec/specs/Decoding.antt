-- What a call that reads bytes answers, compared with what there is to read.
use Rattle.std.specs.Prelude.{◌≡◌, Option, Some, None, Result, Ok, Err}
use Rattle.bgp_types.specs.declared.message.Notice.{Notice}
use Rattle.bgp_types.specs.Faults.{fault_in}
use Rattle.attr_codec.specs.declared.fault.CodecFault.{CodecFault}
use Rattle.attr_codec.specs.declared.fault.CodecFault.TheVariants as stops

-- It stops with the fault, or because memory ran out, which says nothing of a fault.
abbrev pub Stops : CodecFault → Option Notice → Type 0
Stops stops.NoMemory fault = Unit {0}
Stops (stops.Wire n) fault = fault ≡ Some n

-- It passes if and only if there is no fault, unless memory runs out.
abbrev pub PassesOrStops : {A : Type 0} → Result A CodecFault → Option Notice → Type 0
PassesOrStops (Ok x) fault = fault ≡ None
PassesOrStops (Err stop) fault = Stops stop fault

-- It gives the value that is read, or stops with the fault, unless memory runs out.
abbrev pub Decodes : {A : Type 0} → Result A CodecFault → Result A Notice → Type 0
Decodes (Ok x) read = read ≡ Ok x
Decodes (Err stop) read = Stops stop (fault_in read)
