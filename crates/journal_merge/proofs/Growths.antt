-- A net that doesn't go on.
use Rattle.std.proofs.Common.{[], refl, sym}
use Rattle.std.proofs.lemmas.List.{append-nil}
use Rattle.ring_net.specs.Deeds.{Makes}
use Rattle.ring_net.specs.Phases.{View}
use Rattle.journal_merge.specs.Growth.{Grew}

pub grew_none : {A P I : Type 0} (part : A → P) (makes : Makes P I) (v : View A I) → Grew part makes v v [] (λ k. [])
grew_none part makes v = record {
  size = refl;
  replays = λ k d k_in. refl;
  none = λ k past. refl;
  own = λ k. tt;
  clocks = λ k k_in. refl;
  journals = λ k. sym (append-nil (v.journal k));
  edges = λ a b. refl;
  carries = λ a b e. append-nil (v.channel a b);
  apart = λ a b e. refl;
}
