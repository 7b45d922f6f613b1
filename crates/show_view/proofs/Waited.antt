-- What is waited for, by the values that the code found.
use Rattle.std.proofs.Common.{◌≡◌, ℕ, ◌-◌, Bool, List, length, Option, Some, ap, ◌∙◌}
use Rattle.std.specs.Prelude.{nat_lt, slice_get}
use Rattle.bgp_story.specs.declared.line.Line.{Line}
use Rattle.bgp_story.specs.Legal.{Peering, is_wide}
use Rattle.lab_tables.specs.declared.input.LabInput.{LabInput}
use Rattle.lab_tables.specs.declared.input.PeeringInput.{PeeringInput}
use Rattle.lab_tables.specs.declared.input.RouterInput.{RouterInput}
use Rattle.lab_report.specs.declared.lab.FarView.{FarView}
use Rattle.lab_report.specs.declared.lab.SessionView.{SessionView}
use Rattle.why_view.specs.Stories.{story_peering}
use Rattle.show_view.specs.Sessions.{sent_octets}
use Rattle.show_view.specs.Waiting.{actor_name, actor_words, is_unread, is_unreceived, stream_words, ways_words}

pub named_so : (input : LabInput) (n : ℕ) (router : Option RouterInput) (peering : Option PeeringInput) → router ≡ slice_get input.routers n
    → peering ≡ slice_get input.peerings (n - length input.routers) → actor_name router peering ≡ actor_words input n
named_so input n router peering there far =
    ap (λ (r : Option RouterInput). actor_name r peering) there ∙ ap (actor_name (slice_get input.routers n)) far

pub unreceived_so : (p : Peering) (lines read : List Line) (far : FarView) (wide : Bool) (received sent : ℕ) → received ≡ length far.received
    → read ≡ lines → wide ≡ is_wide p lines → sent ≡ sent_octets wide read → nat_lt received sent ≡ is_unreceived p lines far
unreceived_so p lines read far wide received sent counted same written put =
    ap (λ n. nat_lt n sent) counted
    ∙ ap (nat_lt (length far.received)) (put ∙ ap (sent_octets wide) same ∙ ap (λ w. sent_octets w lines) written)

module _ (input : LabInput) (name : List ℕ) where
  pub ways_so : (p : PeeringInput) (view : SessionView) (far : FarView) (home remote : Bool) → home ≡ is_unread view.story.lines far
      → remote ≡ is_unreceived (story_peering input p) view.story.lines far
      → ways_words home remote name ≡ stream_words input name (Some p) (Some view) (Some far)
  ways_so p view far home remote unread unreceived =
      ap (λ h. ways_words h remote name) unread ∙ ap (λ r. ways_words (is_unread view.story.lines far) r name) unreceived

  pub stream_so : (peering other_peering : Option PeeringInput) (view other_view : Option SessionView) (far other_far : Option FarView)
      → peering ≡ other_peering → view ≡ other_view → far ≡ other_far
      → stream_words input name peering view far ≡ stream_words input name other_peering other_view other_far
  stream_so peering other_peering view other_view far other_far same_peering same_view same_far =
      ap (λ (p : Option PeeringInput). stream_words input name p view far) same_peering
      ∙ ap (λ (v : Option SessionView). stream_words input name other_peering v far) same_view
      ∙ ap (stream_words input name other_peering other_view) same_far
