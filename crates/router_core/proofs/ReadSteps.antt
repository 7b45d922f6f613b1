-- What a session brings in at a router.
use Rattle.std.proofs.Common.{◌≡◌, ℕ}
use Rattle.bgp_types.specs.Prefixes.{PrefixValue}
use Rattle.session_value.specs.Sessions.{SessionValue}
use Rattle.graft_model.specs.Decisions.{entry_of}
use Rattle.router_tables.specs.Entering.{entry_here}
use Rattle.router_core.specs.Parts.{KeepsWith}
use Rattle.router_core.specs.declared.fields.Fields.{Fields}
use Rattle.router_tables.proofs.EnterSteps.{entry_at}

pub entry_is : {Each : ℕ → Type 0} (f : Fields) (s : SessionValue) (x : PrefixValue) → KeepsWith Each f
    → entry_here f.home_as f.policies s x ≡ entry_of f.known.setup f.number.0 s x
entry_is f s x k = entry_at f.known.setup f.number.0 f.home_as f.policies s x k.home_as k.policies
