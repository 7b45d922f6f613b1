-- An UPDATE is put.
use Rattle.std.proofs.Common.{◌≡◌, ◌≢◌, ◌<◌, ◌^◌, ◌&&◌, not, Bool, true, false, [], ◌∷◌, Some, None, is_some, refl, sym, ap, ◌∙◌, subst, inr, lit<, lit≤}
use Rattle.std.specs.Prelude.{All, Option, IsTrue}
use Rattle.std.specs.List.{IsDistinct, list_any}
use Rattle.std.specs.List.Sorted.{IsStrictlySortedBy}
use Rattle.std.specs.Ordering.{is_lt}
use Rattle.std.specs.FinMap as map
use Rattle.std.proofs.lemmas.List.Elements.{All-cons, All-nil}
use Rattle.bgp_types.specs.declared.message.SessionState.TheVariants.{Established}
use Rattle.bgp_types.specs.declared.path.PathPart.TheVariants as parts
use Rattle.bgp_types.specs.FirstFault.{body_of, message_of}
use Rattle.bgp_types.specs.Header.{header_fault, frame_at}
use Rattle.bgp_types.specs.Many.{many, many_within}
use Rattle.bgp_types.specs.OpenBody.{cap_at, caps_of, params_of, open_of}
use Rattle.bgp_types.specs.PathOctets.{path_octets}
use Rattle.bgp_types.specs.Prefixes.{PrefixValue, IsPrefix, same_prefix}
use Rattle.bgp_types.specs.Spelling.{spell, spell_attrs, attrs_written}
use Rattle.bgp_types.specs.Tables.{prefix_cmp}
use Rattle.bgp_types.specs.Writable.{IsPart, IsOther, IsWritableAttrs, IsWritableUpdate}
use Rattle.bgp_types.proofs.OnceLaws.{is_same}
use Rattle.bgp_story.specs.Legal.{IsOneWay}
use Rattle.bgp_story.specs.Readings.{apply}
use Rattle.bgp_story.specs.WorkedSessions.{ten, attrs_over, announcement_over}
use Rattle.route_policy.specs.Telling.{tell_out}
use Rattle.session_value.specs.Sessions.{state}
use Rattle.session_value.specs.Cases.{PutsUpdate, Changes}
use Rattle.session_value.specs.Sets.{has}
use Rattle.graft_model.specs.Parts.{Vacant, Live}
use Rattle.graft_model.specs.Decisions.{to_tell, out_side}
use Rattle.graft_model.specs.RouterRows.{IsToTell, PutsSome}
use Rattle.graft_model.specs.declared.event.RouterEvent.TheVariants.{Put}
use Rattle.graft_model.specs.Steps.{ByRouter, Step}
use Rattle.graft_model.specs.SmallWorlds.{config}
use Rattle.graft_worked.specs.Base.{base}
use Rattle.graft_worked.specs.Places.{idle_router, nothing_on_the_way}
use Rattle.graft_worked.specs.Graft.{ten_alone, at_ten, far_before, operator_before}
use Rattle.graft_worked.specs.Start.{session_joined}
use Rattle.graft_worked.specs.Puts.{own_at_b, a_to_put, session_told, a_has_put, with_route_due, with_route_put}
use Rattle.graft_worked.proofs.Points.{at-at, at-back}
use Rattle.graft_worked.proofs.Tens.{empty, got_none, got_it, has_ten, some_in_none}
use Rattle.graft_worked.proofs.Moves.{base_small, a_alone}

-- ---- the announcement

one_as : IsPart (parts.Sequence (65000 ∷ []))
one_as = record { some = lit< tt; count = lit< tt; each = All-cons (λ n. n < 2 ^ 32) 65000 [] (lit< tt) (All-nil (λ n. n < 2 ^ 32)) }

ten_is : All IsPrefix (ten ∷ [])
ten_is = All-cons IsPrefix ten [] (record { len = lit≤ tt; address = lit< tt; clear = refl }) (All-nil IsPrefix)

ten_once : IsDistinct same_prefix (ten ∷ [])
unfolding IsDistinct
ten_once = (tt, tt)

attrs_are : IsWritableAttrs (attrs_over (65000 ∷ []))
attrs_are = record {
  path = All-cons IsPart (parts.Sequence (65000 ∷ [])) [] one_as (All-nil IsPart);
  next_hop = refl;
  med = tt;
  aggregator = tt;
  unknown = All-nil IsOther;
  rising = tt;
}

announced_is : IsWritableUpdate (announcement_over (65000 ∷ []))
announced_is = record { withdrawn = All-nil IsPrefix; nlri = ten_is; once = ten_once; attrs = ((λ e. cc), attrs_are) }

announcement_is : IsOneWay (announcement_over (65000 ∷ [])) false
unfolding spell spell_attrs attrs_written path_octets
announcement_is = record { writable = record { body = announced_is; size = lit≤ tt }; one_way = inr (refl, λ e. cc) }

-- ---- what is to be told

pub told_of : tell_out 65000 (out_side base 0 config) ten (Some own_at_b) ≡ Some (attrs_over (65000 ∷ []))
unfolding spell spell_attrs attrs_written path_octets
told_of = refl

to_tell_ten : to_tell base 0 a_to_put session_joined ten ≡ Some (attrs_over (65000 ∷ []))
to_tell_ten = ap (tell_out 65000 (out_side base 0 config) ten) (got_it own_at_b) ∙ told_of

pub some_is_some : {A : Type 0} (v : A) (o : Option A) → o ≡ Some v → None ≢ o
some_is_some v o is none = let apart : ◌≡◌ {A = Bool} false true = ap is_some (none ∙ is) in cc

untold : map.get session_joined.adj_rib_out ten ≢ to_tell base 0 a_to_put session_joined ten
untold e = some_is_some (attrs_over (65000 ∷ [])) (to_tell base 0 a_to_put session_joined ten) to_tell_ten (sym (got_none ten) ∙ e)

pub due_ten : has ten_alone ten ≡ true
due_ten = ap is_some (got_it tt)

ten_waits : IsToTell base 0 a_to_put 0 session_joined ten
ten_waits = ((due_ten, some_in_none _ ten), untold)

pub ten_alone_is : (x : PrefixValue) → has ten_alone x ≡ true → ten ≡ x
ten_alone_is x e = is_same ten x (sym (has_ten x) ∙ e)

not_below : (x : PrefixValue) → ten ≡ x → is_lt (prefix_cmp x ten) ≡ false
not_below x e = subst (λ z. is_lt (prefix_cmp z ten) ≡ false) e refl

pub any_ten : (x : PrefixValue) → ten ≡ x → IsTrue (list_any (same_prefix x) (ten ∷ []))
any_ten x e = subst (λ z. IsTrue (list_any (same_prefix z) (ten ∷ []))) e refl

pub drops : (t : Bool) (x : PrefixValue) → has ten_alone x ≡ t → false ≡ (t && not (list_any (same_prefix x) (ten ∷ [])))
drops false x e = refl
drops true x e = subst (λ z. false ≡ not (list_any (same_prefix z) (ten ∷ []))) (ten_alone_is x e) refl

-- ---- the row

changes : Changes session_joined.adj_rib_out (announcement_over (65000 ∷ []))
changes =
    All-cons (λ prefix. map.get (apply session_joined.adj_rib_out (announcement_over (65000 ∷ []))) prefix ≢ map.get session_joined.adj_rib_out prefix) ten []
    (λ e. some_is_some (attrs_over (65000 ∷ [])) (map.get (at_ten (attrs_over (65000 ∷ []))) ten)
    (got_it (attrs_over (65000 ∷ []))) (sym (got_none ten) ∙ sym e)) (All-nil _)

pub puts_update : PutsUpdate session_joined (announcement_over (65000 ∷ [])) session_told
unfolding message_of header_fault frame_at body_of open_of many many_within cap_at caps_of params_of spell spell_attrs attrs_written path_octets
puts_update = record { established = refl; one_way = announcement_is; changes = changes; room = lit≤ tt; effect = refl }

joined_up : state session_joined ≡ Established
unfolding header_fault
joined_up = refl

pub one_rises : IsStrictlySortedBy prefix_cmp (ten ∷ [])
unfolding IsStrictlySortedBy
one_rises = (tt, tt)

abbrev IsTold : PrefixValue → Type 0
IsTold x = IsToTell base 0 a_to_put 0 session_joined x × (to_tell base 0 a_to_put session_joined x ≡ Some (attrs_over (65000 ∷ [])))

pub puts_some : PutsSome base 0 0 1 a_to_put None [] a_has_put
puts_some = record {
  alone = (refl, refl);
  session = session_joined;
  errand = None;
  live = record { is = refl };
  first = ten;
  is_to_tell = ten_waits;
  least = λ x is. not_below x (ten_alone_is x is.0.0);
  attrs = Some (attrs_over (65000 ∷ []));
  told_first = sym to_tell_ten;
  prefixes = ten ∷ [];
  later = [];
  alike = record {
    rising = one_rises;
    each = All-cons IsTold ten [] (ten_waits, to_tell_ten) (All-nil IsTold);
    all = λ x is. any_ten x (ten_alone_is x is.0.0.0);
  };
  size = refl;
  next = session_told;
  puts = puts_update;
  due = record { members = λ x. some_in_none _ x ∙ (drops (has ten_alone x) x refl) };
  effect = λ i. record a_has_put {
    places = sym (at-at (λ p. Vacant) 0 (Live session_joined None) (Live session_told None)) i;
    due_out = sym (at-back empty ten_alone 0) i;
  };
}

pub may_put : Step base (ByRouter 0 (Put 0 1)) with_route_due with_route_put
may_put = a_alone base base_small a_to_put idle_router far_before operator_before nothing_on_the_way (Put 0 1) a_has_put puts_some
