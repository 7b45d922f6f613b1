-- The names of what a NOTIFICATION tells.
use Rattle.std.specs.Prelude.{ℕ, ◌==◌, List, [], ◌∷◌, Option, codes, ◌&&◌}
use Rattle.std.specs.Map.{lookup}
use Rattle.std.specs.Option.{option_or}

-- error codes (RFC 4271, section 4.5)
abbrev pub code_names : List (ℕ × List ℕ)
code_names = (1, codes "Message Header Error")
    ∷ (2, codes "OPEN Message Error")
    ∷ (3, codes "UPDATE Message Error")
    ∷ (4, codes "Hold Timer Expired")
    ∷ (5, codes "Finite State Machine Error")
    ∷ (6, codes "Cease")
    ∷ []

-- subcodes of the codes 1 to 3 (RFC 4271, sections 4.5 and 6; (2, 7) of RFC 5492, section 5) and 6 (RFC 4486, section 3); those that RFC 4271
-- deprecates have no name
abbrev pub subcode_names : List ((ℕ × ℕ) × List ℕ)
subcode_names = ((1, 1), codes "Connection Not Synchronized")
    ∷ ((1, 2), codes "Bad Message Length")
    ∷ ((1, 3), codes "Bad Message Type")
    ∷ ((2, 1), codes "Unsupported Version Number")
    ∷ ((2, 2), codes "Bad Peer AS")
    ∷ ((2, 3), codes "Bad BGP Identifier")
    ∷ ((2, 4), codes "Unsupported Optional Parameter")
    ∷ ((2, 6), codes "Unacceptable Hold Time")
    ∷ ((2, 7), codes "Unsupported Capability")
    ∷ ((3, 1), codes "Malformed Attribute List")
    ∷ ((3, 2), codes "Unrecognized Well-known Attribute")
    ∷ ((3, 3), codes "Missing Well-known Attribute")
    ∷ ((3, 4), codes "Attribute Flags Error")
    ∷ ((3, 5), codes "Attribute Length Error")
    ∷ ((3, 6), codes "Invalid ORIGIN Attribute")
    ∷ ((3, 8), codes "Invalid NEXT_HOP Attribute")
    ∷ ((3, 9), codes "Optional Attribute Error")
    ∷ ((3, 10), codes "Invalid Network Field")
    ∷ ((3, 11), codes "Malformed AS_PATH")
    ∷ ((6, 1), codes "Maximum Number of Prefixes Reached")
    ∷ ((6, 2), codes "Administrative Shutdown")
    ∷ ((6, 3), codes "Peer De-configured")
    ∷ ((6, 4), codes "Administrative Reset")
    ∷ ((6, 5), codes "Connection Rejected")
    ∷ ((6, 6), codes "Other Configuration Change")
    ∷ ((6, 7), codes "Connection Collision Resolution")
    ∷ ((6, 8), codes "Out of Resources")
    ∷ []

-- the name of the subcode, else that of the code
abbrev pub fault_name : (code subcode : ℕ) → Option (List ℕ)
fault_name code subcode = option_or (lookup (λ k. (code == k.0) && (subcode == k.1)) subcode_names) (lookup (λ k. code == k) code_names)
