use Rattle.std.proofs.Common.{◌≡◌, List, [], ◌∷◌, ◌++◌, ◌+◌, take, sym, ap, subst, ◌∙◌}
use Rattle.std.specs.FinMap as map
use Rattle.std.proofs.lemmas.List.{take_more}
use Rattle.bgp_types.specs.Prefixes.{PrefixValue}
use Rattle.loc_rib.specs.Values.{LocValue}
use Rattle.session_value.specs.Sets.{Prefixes}
use Rattle.rib_stages.specs.Values.{set_of}
use Rattle.rib_stages.specs.Ranks.{HasOwnRanks}
use Rattle.rib_stages.proofs.OwnRanks.{set_more, own_ranks_more, own_ranks_none}
use Rattle.rib_stages.proofs.rib.own_choices.Goals as goal

pub loop-network-init : goal.loop-network-init
loop-network-init c = record {
  ranks = own_ranks_none c.args.rank c.new-choices.result.groups.contents c.new-choices.ensures.groups;
  loc = c.new-choices.ensures.loc;
}

pub loop-network-preserved : goal.loop-network-preserved
loop-network-preserved c =
    let list = c.args.list.now in
    let i = c.loop-network.network-index in
    let x = c.network-item.result in
    let more : take (i + 1) list ≡ take i list ++ x ∷ [] =
    take_more list i x c.loop-network-test.true ∙ ap (λ (y : PrefixValue). take i list ++ y ∷ []) (sym c.network-item.is) in
    let set : map.insert (set_of (take i list)) x tt ≡ set_of (take (i + 1) list) = sym (ap set_of more ∙ set_more (take i list) x) in record {
      ranks = subst (λ (ns : List PrefixValue). HasOwnRanks c.args.rank ns c.set_rank.new.self.groups.contents) (sym more)
          (own_ranks_more c.args.rank (take i list) x c.loop-network.choices.groups.contents
          c.set_rank.new.self.groups.contents c.loop-network.invariant.ranks c.in_ok-set_rank.ensures.ok.ranks);
      loc = c.in_ok-set_rank.ensures.ok.loc
          ∙ (ap (λ (l : LocValue). record l { dirty = map.insert l.dirty x tt }) c.loop-network.invariant.loc
          ∙ ap (λ (s : Prefixes). record { best = map.empty; dirty = s }) set);
    }
