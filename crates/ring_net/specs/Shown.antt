-- What contracts see of a net.
use Rattle.std.specs.Prelude.{ℕ, Bool, List}
use Rattle.ring_net.specs.declared.actor.Actor.{Ghosts}
use Rattle.ring_net.specs.declared.net.Net.{Net}
use Rattle.ring_net.specs.Phases.{View}
use Rattle.ring_net.specs.Nets.{view_of}

module _ {A I : Type 0} where
  -- actors, journals, clocks and channels
  abbrev pub view : {g : Ghosts A I} → Net A I g → View A I
  view n = view_of n.cells.items n.edges.items

  -- the marks, each with the length of every journal
  abbrev pub marks : {g : Ghosts A I} → Net A I g → List (List ℕ)
  marks n = n.marks

  -- the edges, as they were given
  abbrev pub edge_list : {g : Ghosts A I} → Net A I g → List (ℕ × ℕ)
  edge_list n = n.edges.items

  -- whether memory ran out in a phase or at a mark
  abbrev pub has_failed : {g : Ghosts A I} → Net A I g → Bool
  has_failed n = n.has_failed
