-- The row of an UPDATE that is put without one of its conditions, and parts of router a for which only one condition is false.
use Rattle.std.specs.Prelude.{◌≡◌, ◌≢◌, ℕ, List, [], ◌∷◌, ◌++◌, length, Option, None, false}
use Rattle.std.specs.FinMap as map
use Rattle.std.specs.List.{list_any}
use Rattle.std.specs.Ordering.{is_lt}
use Rattle.bgp_types.specs.declared.attrs.Attrs.{Attrs}
use Rattle.bgp_types.specs.declared.rank.From.TheVariants as from
use Rattle.bgp_types.specs.Prefixes.{PrefixValue, same_prefix}
use Rattle.bgp_types.specs.Tables.{prefix_cmp}
use Rattle.bgp_story.specs.WorkedSessions.{attrs_over}
use Rattle.route_policy.specs.declared.best.Best.{Best}
use Rattle.session_value.specs.Sessions.{SessionValue}
use Rattle.session_value.specs.Cases.{PutsUpdate}
use Rattle.session_value.specs.Sets.{Prefixes}
use Rattle.graft_model.specs.Decisions.{to_tell}
use Rattle.graft_model.specs.Points.{at}
use Rattle.graft_model.specs.Sets.{Drops, Lists}
use Rattle.graft_model.specs.Setups.{Setup}
use Rattle.graft_model.specs.Parts.{Errand, Vacant, Live, RouterPart}
use Rattle.graft_model.specs.RouterRows.{RouterTaken, RouterSent, Alone, IsLive, IsToTell, update_for}
use Rattle.graft_worked.specs.Graft.{at_ten, ten_alone}
use Rattle.graft_worked.specs.Puts.{own_at_b, a_to_put, session_told}

-- ---- the row of an UPDATE, without a condition

-- the conditions that may be false; and none
pub data Condition : Type 0 where
  Least : Condition
  ToldFirst : Condition
  Size : Condition
  Whole : Condition

-- `PutsSome`
pub record PutsSomeBut (but : Condition) (setup : Setup) (r p n : ℕ) (before : RouterPart) (taken : Option RouterTaken) (sent : List RouterSent)
    (after : RouterPart) : Type 0 where
  pub alone : Alone taken sent
  pub session : SessionValue
  pub errand : Option Errand
  pub live : IsLive before p session errand
  pub first : PrefixValue
  pub is_to_tell : IsToTell setup r before p session first
  pub least : but ≢ Least → (x : PrefixValue) → IsToTell setup r before p session x → is_lt (prefix_cmp x first) ≡ false
  pub attrs : Option Attrs
  pub told_first : but ≢ ToldFirst → attrs ≡ to_tell setup r before session first
  pub prefixes : List PrefixValue
  pub later : List PrefixValue
  pub alike : Lists (λ x. IsToTell setup r before p session x × (to_tell setup r before session x ≡ attrs)) (prefixes ++ later)
  pub size : but ≢ Size → length prefixes ≡ n
  pub next : SessionValue
  pub puts : PutsUpdate session (update_for attrs prefixes) next
  pub due : Drops (before.due_out p) (λ x. list_any (same_prefix x) prefixes) (after.due_out p)
  pub effect : after ≡ record before { places = at before.places p (Live next errand); due_out = at before.due_out p (after.due_out p) }

-- ---- two prefixes are due, whose attributes differ

-- 9.0.0.0/8, which comes before 10.0.0.0/8
abbrev pub nine : PrefixValue
nine = record { address = 0x09000000; len = 8 }

abbrev pub nine_alone : Prefixes
nine_alone = map.insert map.empty nine tt

abbrev pub nine_and_ten : Prefixes
nine_and_ten = map.insert ten_alone nine tt

-- router b tells a route to 9.0.0.0/8 over AS 65002, and its own network 10.0.0.0/8
abbrev pub longer_at_b : Best
longer_at_b = record { from = from.Router (record { 0 = 1 }); route = record { attrs = attrs_over (65002 ∷ []); pref = 100 } }

abbrev pub a_two_due : RouterPart
a_two_due = record a_to_put { best = map.insert (at_ten own_at_b) nine longer_at_b; due_out = at (λ p. map.empty) 0 nine_and_ten }

-- the second one of them is put first
abbrev pub a_second_put : RouterPart
a_second_put = record a_two_due { places = at (λ p. Vacant) 0 (Live session_told None); due_out = at (λ p. map.empty) 0 nine_alone }
