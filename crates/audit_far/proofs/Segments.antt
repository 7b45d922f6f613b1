-- The segments of a far side's peering, and what its bags hold.
use Rattle.std.proofs.Common.{◌≡◌, ℕ, zero, suc, List, [], ◌∷◌, ◌++◌, map, take, drop, Bool, true, false}
use Rattle.std.proofs.Common.{Some, refl, sym, ap, ◌∙◌, subst, arith, add-one}
use Rattle.std.specs.Prelude.{slice_get}
use Rattle.std.specs.List.{AllByRecursion}
use Rattle.std.proofs.lemmas.List.{map-append, take-map, drop-map}
use Rattle.tcp_seq.specs.Endpoint.{PlacedSegment, IsInStreams}
use Rattle.tcp_seq.specs.Placed.{placed}
use Rattle.tcp_seq.specs.declared.segment.Segment.{Segment}
use Rattle.tcp_seq.specs.declared.segment.Way.{Way}
use Rattle.tcp_seq.specs.declared.segment.Way.TheVariants.{Home, Remote}
use Rattle.graft_model.specs.FarRows.{left_by, without}
use Rattle.graft_actors.specs.Items.{IsSegmentOf, home_first, placed_for, remote_first, segment_of}
use Rattle.remote_end.specs.Remotes.{IsFor, IsFrom}
use Rattle.audit_far.specs.Parts.{FarInvariant, left_in_bag}
use Rattle.audit_far.specs.declared.far.AuditedFar.{AuditedFar}

-- ---- offsets

module _ (f : AuditedFar) (k : FarInvariant f) (g : Segment) where
  -- a segment of the remote
  pub home_offsets : IsFrom f.remote g → segment_of f.known.setup g ≡ placed f.remote.send_first f.remote.receive_first g
  home_offsets from =
      ap (λ (w : Way). placed_for w (home_first f.known.setup g.peering.0) (remote_first f.known.setup g.peering.0) g) from.way
      ∙ ap (λ (n : ℕ). placed (remote_first f.known.setup n) (home_first f.known.setup n) g) (from.peering ∙ k.remote)
      ∙ ap (λ (n : ℕ). placed n (home_first f.known.setup f.peering.0) g) (sym k.sends)
      ∙ ap (λ (n : ℕ). placed f.remote.send_first n g) (sym k.receives)

  pub from_is : IsFrom f.remote g → IsSegmentOf f.known.setup f.peering.0 Home g
  from_is from = record {
    peering = from.peering ∙ k.remote;
    way = from.way;
    len = let short = from.short in omega (arith, short);
    placed = subst IsInStreams (sym (home_offsets from)) from.in_streams;
  }

  -- one to the remote
  pub remote_offsets : IsSegmentOf f.known.setup f.peering.0 Remote g → segment_of f.known.setup g ≡ placed f.remote.receive_first f.remote.send_first g
  remote_offsets is =
      ap (λ (w : Way). placed_for w (home_first f.known.setup g.peering.0) (remote_first f.known.setup g.peering.0) g) is.way
      ∙ ap (λ (n : ℕ). placed (home_first f.known.setup n) (remote_first f.known.setup n) g) is.peering
      ∙ ap (λ (n : ℕ). placed n (remote_first f.known.setup f.peering.0) g) (sym k.receives)
      ∙ ap (λ (n : ℕ). placed f.remote.receive_first n g) (sym k.sends)

  pub for_is : IsSegmentOf f.known.setup f.peering.0 Remote g → IsFor f.remote g
  for_is is =
      record { peering = is.peering ∙ sym k.remote; way = is.way; in_streams = subst IsInStreams (remote_offsets is) is.placed; short = is.len }

-- ---- bags

pub all_at : {A : Type 0} (P : A → Type 0) (xs : List A) (i : ℕ) (x : A) → AllByRecursion P xs → slice_get xs i ≡ Some x → P x
all_at P [] i x all is = absurd cc
all_at P (y ∷ xs) zero x all is = let e : y ≡ x = cc in subst P e all.0
all_at P (y ∷ xs) (suc i) x all is = all_at P xs i x all.1 is

all_without : {A : Type 0} (P : A → Type 0) (xs : List A) (i : ℕ) → AllByRecursion P xs → AllByRecursion P (take i xs ++ drop (suc i) xs)
all_without P [] zero all = tt
all_without P [] (suc i) all = tt
all_without P (y ∷ xs) zero all = all.1
all_without P (y ∷ xs) (suc i) all = (all.0, all_without P xs i all.1)

pub all_left : (P : Segment → Type 0) (keep : Bool) (i : ℕ) (xs : List Segment) → AllByRecursion P xs → AllByRecursion P (left_in_bag keep i xs)
all_left P true i xs all = all
all_left P false i xs all = all_without P xs i all

-- what is left, as the world has it
pub left_is : (seen : Segment → PlacedSegment) (keep : Bool) (i : ℕ) (xs : List Segment) → map seen (left_in_bag keep i xs) ≡ left_by keep i (map seen xs)
left_is seen true i xs = refl
left_is seen false i xs = map-append seen (take i xs) (drop (suc i) xs)
    ∙ (λ j. sym (take-map seen i xs) j ++ sym (drop-map seen (suc i) xs) j)
    ∙ ap (λ (n : ℕ). take i (map seen xs) ++ drop n (map seen xs)) (sym (add-one i))

pub without_is : (seen : Segment → PlacedSegment) (i : ℕ) (xs : List Segment) → map seen (left_in_bag false i xs) ≡ without i (map seen xs)
without_is seen i xs = left_is seen false i xs
