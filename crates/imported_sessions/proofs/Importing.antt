-- A whole import.
use Rattle.std.proofs.Common.{◌≡◌, ℕ, ◌+◌, ltb, List, ◌++◌, length, option_map, ◌∙◌, subst, arith}
use Rattle.std.specs.List.{filter, flat_map, range_with_len}
use Rattle.std.proofs.lemmas.Bool.{and_parts}
use Rattle.std.proofs.lemmas.List.Elements.{filter_agree}
use Rattle.captured_streams.specs.declared.streams.Streams.{Streams}
use Rattle.imported_sessions.specs.declared.imported.Imported.{Imported}
use Rattle.imported_sessions.specs.declared.imported.Said.{Said}
use Rattle.imported_sessions.specs.declared.opened.Opened.{Opened}
use Rattle.imported_sessions.specs.Heard.{told_by}
use Rattle.imported_sessions.specs.Imports.{IsImport, peerings}
use Rattle.imported_sessions.specs.Messages.{ended_at, told}
use Rattle.imported_sessions.specs.Opened.{AreAllOpened, is_external_in}
use Rattle.imported_sessions.specs.Packed.{AreStepsOf}
use Rattle.imported_sessions.specs.Opens.{first_home, is_external, IsHomeAs, remote_opens}
use Rattle.imported_sessions.specs.Steps.{ArePacked, last_of}
use Rattle.imported_sessions.proofs.Openings.{each_opens, external_is}
use Rattle.imported_sessions.proofs.Packing.{filter_both}

-- what is kept of the sessions
pub record AreKeptOf (s : Streams) (opened : List Opened) (i : Imported) : Type 0 where
  pub whole : List Said
  pub packed : AreStepsOf opened i.home_as (told_by (length s.peers) s.flows (length s.flows)) whole
  pub steps_are : i.steps ≡ whole ++ flat_map (last_of s.flows) (filter (is_external s i.home_as) (range_with_len 0 (length s.peers)))
  pub peerings_are : i.peerings ≡ peerings s i.home_as
  pub internal : i.internal + length i.peerings ≡ length s.peers

pub told_kept : (s : Streams) (opened : List Opened) → AreAllOpened s opened → (home_as : ℕ)
    → filter (λ message. is_external_in opened home_as message.peer) (told_by (length s.peers) s.flows (length s.flows)) ≡ told (is_external s home_as) s.flows
told_kept s opened all home_as =
    let ended = flat_map (ended_at s.flows) (range_with_len 0 (length s.flows)) in
    filter_agree (λ message. is_external_in opened home_as message.peer) (λ message. is_external s home_as message.peer)
    (λ message. external_is s opened all home_as message.peer) (told_by (length s.peers) s.flows (length s.flows))
    ∙ filter_both (λ message. is_external s home_as message.peer) (λ message. ltb message.peer (length s.peers))
    (λ message e. (and_parts (ltb message.peer (length s.peers)) _ e).0) ended

pub is_import : (s : Streams) (opened : List Opened) (i : Imported) → AreAllOpened s opened → IsHomeAs (remote_opens s) (first_home s) i.home_as
    → i.home_id ≡ option_map (λ o. o.identifier) (first_home s) → i.fragments ≡ s.fragments → i.others ≡ s.others → AreKeptOf s opened i → IsImport s i
is_import s opened i all home id fragments others k = record {
  opens = λ n low. each_opens s opened all.each n (omega (arith, low, all.count));
  home_as = home;
  home_id = id;
  peerings_are = k.peerings_are;
  steps = record {
    whole = k.whole;
    packed = subst (λ (ms : List Said). ArePacked ms k.whole) (told_kept s opened all i.home_as) k.packed;
    steps_are = k.steps_are;
  };
  internal = k.internal;
  fragments = fragments;
  others = others;
}
