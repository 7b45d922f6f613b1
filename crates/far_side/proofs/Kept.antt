-- What stays sound while links and the remote change.
use Rattle.std.proofs.Common.{◌≡◌, ℕ, zero, suc, ◌<◌, List, [], ◌∷◌, ◌++◌, take, drop, Some, Bool, true, false, sym, subst, ◌∙◌}
use Rattle.std.specs.Prelude.{slice_get, slice_set, if◌then◌else◌}
use Rattle.std.specs.List.{AllByRecursion}
use Rattle.tcp_seq.specs.declared.segment.Way.{Way}
use Rattle.graft_model.specs.FarRows.{without}
use Rattle.graft_model.specs.Setups.{routers_in}
use Rattle.remote_end.specs.Remotes.{RemoteValue}
use Rattle.far_side.specs.Links.{LinkValue, act_in, is_gone, older}
use Rattle.far_side.specs.Parts.{LinkLeads, FarSideInvariant}
use Rattle.far_side.specs.Passes.{SameLink, plans_after}
use Rattle.far_side.specs.declared.fields.Fields.{Fields}
use Rattle.far_side.specs.declared.link.InLink.{InLink}
use Rattle.far_side.proofs.PassLists.{without_is}

leads_on : (old new : LinkValue) (way : Way) (p s a : ℕ) → SameLink old new → LinkLeads old way p s a → LinkLeads new way p s a
leads_on old new way p s a same leads = record {
  way = same.way ∙ leads.way;
  peering = same.peering ∙ leads.peering;
  seq_first = same.seq_first ∙ leads.seq_first;
  ack_first = same.ack_first ∙ leads.ack_first;
}

-- ---- the routers that the link pointed at

all_cut : (P : InLink → Type 0) (index : ℕ) (xs : List InLink) → AllByRecursion P xs → AllByRecursion P (take index xs ++ drop (suc index) xs)
all_cut P zero [] h = h
all_cut P zero (x ∷ xs) h = h.1
all_cut P (suc index) [] h = h
all_cut P (suc index) (x ∷ xs) h = (h.0, all_cut P index xs h.1)

all_set : (P : InLink → Type 0) (index : ℕ) (xs : List InLink) (x y : InLink) → slice_get xs index ≡ Some x → (P x → P y) → AllByRecursion P xs
    → AllByRecursion P (slice_set xs index y)
all_set P zero [] x y is so h = h
all_set P zero (z ∷ zs) x y is so h = let e : z ≡ x = cc in (so (subst P e h.0), h.1)
all_set P (suc index) [] x y is so h = h
all_set P (suc index) (z ∷ zs) x y is so h = (h.0, all_set P index zs x y is so h.1)

pub all_at : (P : InLink → Type 0) (index : ℕ) (xs : List InLink) (x : InLink) → slice_get xs index ≡ Some x → AllByRecursion P xs → P x
all_at P zero [] x is h = absurd (let e : ⊥ = cc in e)
all_at P zero (z ∷ zs) x is h = let e : z ≡ x = cc in subst P e h.0
all_at P (suc index) [] x is h = absurd (let e : ⊥ = cc in e)
all_at P (suc index) (z ∷ zs) x is h = all_at P index zs x is h.1

pub all_after : (P : InLink → Type 0) (index : ℕ) (xs : List InLink) (x : InLink) → slice_get xs index ≡ Some x → (P x → P (older x))
    → AllByRecursion P xs → AllByRecursion P (plans_after index x xs)
all_after P index xs x is so h = by_test (is_gone (act_in x))
  where
    by_test : (b : Bool) → AllByRecursion P (if b then without index xs else slice_set xs index (older x))
    by_test true = subst (AllByRecursion P) (sym (without_is index xs)) (all_cut P index xs h)
    by_test false = all_set P index xs x (older x) is so h

pub all_push : (P : InLink → Type 0) (xs : List InLink) (x : InLink) → AllByRecursion P xs → P x → AllByRecursion P (xs ++ x ∷ [])
all_push P [] x h p = (p, tt)
all_push P (y ∷ ys) x h p = (h.0, all_push P ys x h.1 p)

-- ---- a link, or the remote, becomes another

pub keeps_home : (f : Fields) (link : LinkValue) → FarSideInvariant f → SameLink f.homeward link
    → AllByRecursion (λ x. x.pointed.0 < routers_in f.known.setup) link.plans → FarSideInvariant (record f { homeward = link })
keeps_home f link k same points = record {
  routers = k.routers;
  few = k.few;
  peerings = k.peerings;
  there = k.there;
  keepalive_interval = k.keepalive_interval;
  says = k.says;
  remote = k.remote;
  sends = k.sends;
  receives = k.receives;
  homeward = leads_on f.homeward link _ _ _ _ same k.homeward;
  remoteward = k.remoteward;
  pointer = k.pointer;
  pointed = points;
}

pub keeps_remoteward : (f : Fields) (link : LinkValue) → FarSideInvariant f → SameLink f.remoteward link → FarSideInvariant (record f { remoteward = link })
keeps_remoteward f link k same = record {
  routers = k.routers;
  few = k.few;
  peerings = k.peerings;
  there = k.there;
  keepalive_interval = k.keepalive_interval;
  says = k.says;
  remote = k.remote;
  sends = k.sends;
  receives = k.receives;
  homeward = k.homeward;
  remoteward = leads_on f.remoteward link _ _ _ _ same k.remoteward;
  pointer = k.pointer;
  pointed = k.pointed;
}

pub keeps_remote : (f : Fields) (r : RemoteValue) → FarSideInvariant f → r.peering ≡ f.remote.peering → r.send_first ≡ f.remote.send_first
    → r.receive_first ≡ f.remote.receive_first → FarSideInvariant (record f { remote = r })
keeps_remote f r k p s a = record {
  routers = k.routers;
  few = k.few;
  peerings = k.peerings;
  there = k.there;
  keepalive_interval = k.keepalive_interval;
  says = k.says;
  remote = p ∙ k.remote;
  sends = s ∙ k.sends;
  receives = a ∙ k.receives;
  homeward = k.homeward;
  remoteward = k.remoteward;
  pointer = k.pointer;
  pointed = k.pointed;
}

pub keeps_pointer : (f g : Fields) → FarSideInvariant f → g.pointer.0 < routers_in f.known.setup
    → FarSideInvariant (record f { pointer = g.pointer; followed = g.followed })
keeps_pointer f g k below = record {
  routers = k.routers;
  few = k.few;
  peerings = k.peerings;
  there = k.there;
  keepalive_interval = k.keepalive_interval;
  says = k.says;
  remote = k.remote;
  sends = k.sends;
  receives = k.receives;
  homeward = k.homeward;
  remoteward = k.remoteward;
  pointer = below;
  pointed = k.pointed;
}

-- the counts of turns and KEEPALIVEs are nothing that it keeps
pub keeps_counts : (f g : Fields) → FarSideInvariant f
    → FarSideInvariant (record f { turns = g.turns; keepalives = g.keepalives; last_keepalive = g.last_keepalive })
keeps_counts f g k = record {
  routers = k.routers;
  few = k.few;
  peerings = k.peerings;
  there = k.there;
  keepalive_interval = k.keepalive_interval;
  says = k.says;
  remote = k.remote;
  sends = k.sends;
  receives = k.receives;
  homeward = k.homeward;
  remoteward = k.remoteward;
  pointer = k.pointer;
  pointed = k.pointed;
}
