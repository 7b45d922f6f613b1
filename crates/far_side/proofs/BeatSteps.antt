-- The KEEPALIVE that is said, and what a far side begins with.
use Rattle.std.proofs.Common.{◌≡◌, ℕ, ◌+◌, List, [], ◌∷◌, refl, sym, ap, inl, inr, false}
use Rattle.ring_net.specs.declared.post.Post.{Post}
use Rattle.graft_steps.specs.declared.item.Item.{Item}
use Rattle.bgp_types.specs.declared.message.Message.TheVariants.{KeepaliveMsg}
use Rattle.bgp_types.specs.Spelling.{spell}
use Rattle.session_value.specs.Sessions.{SessionValue}
use Rattle.session_value.specs.Cases.{sending}
use Rattle.graft_model.specs.declared.event.FarEvent.TheVariants.{Beat}
use Rattle.remote_end.specs.Remotes.{RemoteValue}
use Rattle.graft_actors.specs.Notes.{WroteOne}
use Rattle.far_side.specs.Parts.{far_part, FarSideInvariant, ForEach}
use Rattle.far_side.specs.Passes.{IsDue, Beaten}
use Rattle.far_side.specs.declared.fields.Fields.{Fields}
use Rattle.far_side.proofs.Dids.{did_same, did_one}
use Rattle.far_side.proofs.Kept.{keeps_remote, keeps_counts}
use Rattle.graft_model.specs.Codes.{far_code}

-- a KEEPALIVE as it is written
keepalive_is : spell KeepaliveMsg false ≡ 255 ∷ 255 ∷ 255 ∷ 255 ∷ 255 ∷ 255 ∷ 255 ∷ 255 ∷ 255 ∷ 255 ∷ 255 ∷ 255 ∷ 255 ∷ 255 ∷ 255 ∷ 255 ∷ 0 ∷ 19 ∷ 4 ∷ []
unfolding spell
keepalive_is = refl

pub sends_keepalive : (r : RemoteValue)
    → (let v : RemoteValue = record r {
      end = sending (255 ∷ 255 ∷ 255 ∷ 255 ∷ 255 ∷ 255 ∷ 255 ∷ 255 ∷ 255 ∷ 255 ∷ 255 ∷ 255 ∷ 255 ∷ 255 ∷ 255 ∷ 255 ∷ 0 ∷ 19 ∷ 4 ∷ []) r.end;
    } in v) ≡ record r { end = sending (spell KeepaliveMsg false) r.end }
sends_keepalive r = ap (λ (xs : List ℕ). let v : RemoteValue = record r { end = sending xs r.end } in v) (sym keepalive_is)

-- with another remote after a KEEPALIVE
abbrev beaten_by : Fields → RemoteValue → Fields
beaten_by f r = record f { remote = r; keepalives = f.keepalives + 1; last_keepalive = f.turns }

module _ {C : Type 0} (f : Fields) (p : Post (Item C)) (keeps : FarSideInvariant f) where
  pub not_due_each : (IsDue f → ⊥) → ForEach (λ (session : C → SessionValue). Beaten session f p f p) f
  not_due_each not = record {
    keeps = keeps;
    each = λ session. record { events = []; did = λ t. did_same session f f p t refl refl refl; keepalives = inr (not, refl, refl); keeps = keeps };
  }

  keeps_beaten : (r : RemoteValue) → r ≡ record f.remote { end = sending (spell KeepaliveMsg false) f.remote.end } → FarSideInvariant (beaten_by f r)
  keeps_beaten r same = keeps_counts (record f { remote = r }) (beaten_by f r)
      (keeps_remote f r keeps (ap (λ (v : RemoteValue). v.peering) same)
      (ap (λ (v : RemoteValue). v.send_first) same) (ap (λ (v : RemoteValue). v.receive_first) same))

  pub due_each : (q : Post (Item C)) (r : RemoteValue) → IsDue f → r ≡ record f.remote { end = sending (spell KeepaliveMsg false) f.remote.end }
      → WroteOne p (far_code (Beat f.turns)) [] q
      → ForEach (λ (session : C → SessionValue).
      Beaten session f p (let g : Fields = record f { remote = r; keepalives = f.keepalives + 1; last_keepalive = f.turns } in g) q)
      (let g : Fields = record f { remote = r; keepalives = f.keepalives + 1; last_keepalive = f.turns } in g)
  due_each q r due same wrote = record {
    keeps = keeps_beaten r same;
    each = λ session. record {
      events = Beat f.turns ∷ [];
      did = λ t. did_one session f (beaten_by f r) p q t (Beat f.turns) refl refl wrote
          (record {
            keepalive_interval = f.keepalive_interval;
            is = keeps.keepalive_interval;
            some = due.some;
            multiple = due.multiple;
            later = due.later;
            few = due.few;
            takes = refl;
            sends = refl;
            effect = ap (λ (v : RemoteValue). far_part (beaten_by f v)) same;
          }) tt;
      keepalives = inl (due, refl, ap (beaten_by f) same);
      keeps = keeps_beaten r same;
    };
  }
