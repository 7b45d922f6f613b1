-- Which inputs the program can run.
use Rattle.std.specs.Prelude.{Bool, not}
use Rattle.std.specs.List.{list_all}
use Rattle.lab_tables.specs.declared.input.LabInput.{LabInput}
use Rattle.lab_tables.specs.declared.input.RouterInput.{RouterInput}

-- capsules go to the router as they are
abbrev pub takes_capsules : RouterInput → Bool
takes_capsules router = not router.by_bytes

-- All inputs but those of which capsules go to a router as bytes.
abbrev pub is_built : LabInput → Bool
is_built input = list_all takes_capsules input.routers
