-- The addresses of a prefix, and its two halves.
use Rattle.std.specs.Prelude.{ℕ, ◌+◌, ◌-◌, ◌/◌, ◌^◌, ◌<◌, ◌≤◌}
use Rattle.bgp_types.specs.Prefixes.{PrefixValue, IsPrefix}

-- how many addresses a prefix has
abbrev pub size : PrefixValue → ℕ
size p = 2 ^ (32 - p.len)

-- where its second half begins
abbrev pub middle : PrefixValue → ℕ
middle p = p.address + 2 ^ 31 / 2 ^ p.len

-- the first address past it
abbrev pub past : PrefixValue → ℕ
past p = p.address + size p

-- q is a prefix that is longer than len, and its addresses lie from low up to high
pub record Within (low high len : ℕ) (q : PrefixValue) : Type 0 where
  pub is : IsPrefix q
  pub longer : len < q.len
  pub from : low ≤ q.address
  pub to : past q ≤ high

-- the shortest prefix of which one address is in the first half and the other in the second
pub record IsFork (low high : ℕ) (f : PrefixValue) : Type 0 where
  pub is : IsPrefix f
  pub short : f.len < 32
  pub from : f.address ≤ low
  pub early : low < middle f
  pub late : middle f ≤ high
  pub to : high < past f

-- q is a prefix that p covers
pub record Under (p q : PrefixValue) : Type 0 where
  pub is : IsPrefix q
  pub long : p.len ≤ q.len
  pub from : p.address ≤ q.address
  pub to : past q ≤ past p
