-- Faults by their codes.
use Rattle.std.specs.Prelude.{ℕ, List}
use Rattle.bgp_types.specs.declared.message.Notice.{Notice}

abbrev pub notice : ℕ → ℕ → List ℕ → Notice
notice code subcode info = record { code = code; subcode = subcode; info = info }
