-- The texts by which an input says what it expects of a run, each as a report writes it: the state of a session, how a graft ends, and where a best
-- route comes from.
use Rattle.std.specs.Prelude.{ℕ, ◌+◌, ◌==◌, nat_le, Bool, false, ◌&&◌, ◌||◌, not, List, [], ◌∷◌, length, slice_index, Option, Some, None}
use Rattle.std.specs.Prelude.{is_some, codes, if◌then◌else◌}
use Rattle.std.specs.List.{list_all, position_or_len, before_first, after_first}
use Rattle.std.specs.Str.{bytes_eq}
use Rattle.bgp_types.specs.declared.message.SessionState.{SessionState}
use Rattle.bgp_types.specs.declared.message.SessionState.TheVariants.{OpenSent, OpenConfirm, Established, Closed}
use Rattle.lab_keys.specs.Texts.{is_name}
use Rattle.lab_keys.specs.Words.{word_in}

-- the state of a session (RFC 4271, section 8.2.2)
abbrev pub state_words : List (List ℕ × SessionState)
state_words =
    (codes "OpenSent", OpenSent) ∷ (codes "OpenConfirm", OpenConfirm) ∷ (codes "Established", Established) ∷ (codes "Closed", Closed) ∷ []

abbrev pub state_in : List ℕ → Option SessionState
state_in text = word_in state_words text

-- ---- parts of a text

-- what stands before the first character of its kind, and behind it; where there is none, that is all of the text, and nothing
abbrev pub before : (mark : ℕ) → List ℕ → List ℕ
before mark text = before_first (λ c. c == mark) text

abbrev pub behind : (mark : ℕ) → List ℕ → List ℕ
behind mark text = after_first (λ c. c == mark) text

abbrev pub first_word : List ℕ → List ℕ
first_word text = before 32 text

abbrev pub further_words : List ℕ → List ℕ
further_words text = behind 32 text

-- what the first closing bracket ends, if that is the last character
abbrev pub bracketed : List ℕ → Option (List ℕ)
bracketed text = if position_or_len (λ c. c == 41) text + 1 == length text then Some (before 41 text) else None

abbrev pub is_digit : ℕ → Bool
is_digit c = nat_le 48 c && nat_le c 57

-- a decimal number of one or two digits, as the hold times and the rooms of refusals are
abbrev pub is_small_number : List ℕ → Bool
is_small_number text = nat_le 1 (length text) && nat_le (length text) 2 && list_all is_digit text && (length text == 1 || not (slice_index text 0 == 48))

-- ---- how a graft ends

-- the reasons that have a detail in brackets: a state, a number of seconds or of places, or the name of a policy
abbrev pub is_detailed : (reason : List ℕ) → (detail : Option (List ℕ)) → Bool
is_detailed reason None = false
is_detailed reason (Some detail) =
    if bytes_eq reason (codes "NotEstablished") then is_some (state_in detail)
    else if bytes_eq reason (codes "HoldTooShort") then is_small_number detail
    else if bytes_eq reason (codes "RouterFull") then is_small_number detail
    else if bytes_eq reason (codes "PolicyMissing") then is_name detail
    else false

-- why a graft is refused
abbrev pub is_reason : List ℕ → Bool
is_reason text = bytes_eq text (codes "SameRouter") || bytes_eq text (codes "NoTarget") || is_detailed (before 40 text) (bracketed (behind 40 text))

abbrev pub is_outcome : List ℕ → Bool
is_outcome text = bytes_eq text (codes "accepted") || (bytes_eq (first_word text) (codes "refused") && is_reason (further_words text))

-- ---- where a best route comes from

-- the name of a peering or of a router behind that word
abbrev pub is_sender : List ℕ → Bool
is_sender text = (bytes_eq (first_word text) (codes "peering") || bytes_eq (first_word text) (codes "router")) && is_name (further_words text)

-- nowhere, where there is no route; a network of the router's own; or a peering or another router
abbrev pub is_best : List ℕ → Bool
is_best text = bytes_eq text (codes "none") || bytes_eq text (codes "own") || is_sender text
