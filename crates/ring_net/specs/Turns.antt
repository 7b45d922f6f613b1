-- What an actor did in one phase: its takes, then its turn.
use Rattle.std.specs.Prelude.{ℕ, ◌≡◌, ◌≤◌, true, List, [], ◌++◌, length}
use Rattle.std.specs.List.{AllByRecursion}
use Rattle.ring_net.specs.Deeds.{Deed, Noted, Makes, Replay, IsDeedOf, TakesNone, Clocked, Climbs, deeds, entries_of, senders, sent_to, taken_from}
use Rattle.ring_net.specs.declared.post.Post.{Post}
use Rattle.ring_net.specs.Posts.{actor_of, clock_of, entries_in, has_edge, waits}

-- The entries and outboxes of a post after several calls, where before each call the clock was raised to the stamp of what it takes.
pub record Posted {I : Type 0} (old : Post I) (ns : List (Noted I)) (new : Post I) : Type 0 where
  pub actor : actor_of new ≡ actor_of old
  pub own : AllByRecursion (IsDeedOf (actor_of old)) (deeds ns)
  pub clocks : Clocked (clock_of old) ns (clock_of new)
  pub entries : entries_in new ≡ entries_in old ++ entries_of ns
  pub edges : (b : ℕ) → has_edge new b ≡ has_edge old b
  pub boxes : (b : ℕ) → has_edge old b ≡ true → waits new b ≡ waits old b ++ sent_to b ns

-- One take after another: the actor before, all their events, the actor after.
pub data Tooks {A I : Type 0} (took : A → ℕ → I → List (Deed I) → A → Type 0) : A → List (Deed I) → A → Type 0 where
  stays : (a : A) → Tooks took a [] a
  takes : (a b c : A) (ds es : List (Deed I)) (from : ℕ) (x : I) → Tooks took a ds b → took b from x es c → Tooks took a (ds ++ es) c

module _ {A P I : Type 0} (part : A → P) (makes : Makes P I) (took : A → ℕ → I → List (Deed I) → A → Type 0) where
  -- what several takes do
  pub record TookAll (a : A) (old : Post I) (ns : List (Noted I)) (b : A) (new : Post I) : Type 0 where
    pub posted : Posted old ns new
    pub replay : Replay makes (actor_of old) (part a) (deeds ns) (part b)
    pub tooks : Tooks took a (deeds ns) b

  -- The actor of number k in a phase, between two clocks: one take for each item that it took, in ascending order of the sender's number and at most
  -- 256 of each, and then one turn.
  pub record ActorDid (turned : A → List (Deed I) → A → Type 0) (k : ℕ) (old : A) (before : ℕ) (ns : List (Noted I)) (new : A) (after : ℕ) : Type 0 where
    pub mid : A
    pub first : List (Noted I)
    pub second : List (Noted I)
    pub split : ns ≡ first ++ second
    pub tooks : Tooks took old (deeds first) mid
    pub turn : turned mid (deeds second) new
    pub none : AllByRecursion TakesNone (deeds second)
    pub order : Climbs 0 (senders (deeds first))
    pub most : (a : ℕ) → length (taken_from a ns) ≤ 256
    pub replay : Replay makes k (part old) (deeds ns) (part new)
    pub own : AllByRecursion (IsDeedOf k) (deeds ns)
    pub clocks : Clocked before ns after
