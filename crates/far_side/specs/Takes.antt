-- What a far side promises of one take, beside its event.
use Rattle.std.specs.Prelude.{ℕ, ◌≡◌, ◌+◌, ◌==◌, List, ◌++◌, length, count_by}
use Rattle.ring_net.specs.Deeds.{Deed}
use Rattle.ring_net.specs.Posts.{TookItem}
use Rattle.ring_net.specs.declared.post.Post.{Post}
use Rattle.graft_steps.specs.declared.item.Item.{Item}
use Rattle.session_value.specs.Sessions.{SessionValue}
use Rattle.graft_actors.specs.Acts.{acts}
use Rattle.far_side.specs.Parts.{own_part, FarSideInvariant}
use Rattle.far_side.specs.Passes.{fates_in, plans_put, SameLink}
use Rattle.far_side.specs.declared.fields.Fields.{Fields}

-- how many segments were taken into the link
abbrev pub segments_taken_in : {I : Type 0} → List (Deed I) → ℕ
segments_taken_in deeds = count_by (λ d. d.entry.kind == 19) deeds

-- A take is one event. Beside the part, it changes only the plans of the link to the remote: each segment that is taken in gets the plan of its
-- number.
pub record TookAsFar {C : Type 0} (old : Fields) (from : ℕ) (item : Item C) (deeds : List (Deed (Item C))) (new : Fields) : Type 0 where
  pub one : length deeds ≡ 1
  pub link : SameLink old.remoteward new.remoteward
  pub plans : new.remoteward.plans
      ≡ old.remoteward.plans ++ plans_put (fates_in old.plan old.remoteward) old.pointer.0 old.remoteward.put (segments_taken_in deeds)
  pub put : new.remoteward.put ≡ old.remoteward.put + segments_taken_in deeds
  pub remote : new.remote ≡ record old.remote { end = record old.remote.end { stream = new.remote.end.stream } }
  pub same : new ≡ record old { remote = new.remote; remoteward = new.remoteward; pointer = new.pointer; followed = new.followed }

-- a take of an item by a far side, which is sound after it
pub record FarTakesIt {C : Type 0} (session : C → SessionValue) (from : ℕ) (item : Item C)
    (old : Fields) (before : Post (Item C)) (new : Fields) (after : Post (Item C)) : Type 0 where
  pub took : TookItem own_part (acts session) TookAsFar from item old before new after
  pub keeps : FarSideInvariant new
