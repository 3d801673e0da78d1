-- Keys by bus, by group on a bus, by address in a group, and by port of a device.
use Rattle.srcp_rules.proofs.Names
use Names.{arith, ◌≡◌, ℕ, ◌<◌, true, false, refl, sym, ap, ◌∙◌, nat_cmp, ordering_then, Ordering, Less, Equal, Greater, Group, Key, Device}
use Names.{key_cmp, device_of, owns, nat_tie, owns-device_of, device_from_owns, key_at, IsIn, false_from_ne_true}
use Rattle.srcp_info.specs.Key.{group_place, group_cmp}
use Rattle.srcp_info.proofs.KeyLaws.{same_group}
use Rattle.std.specs.Cmp.{nat_cmp_is}

-- ---- numbers

pub less : (m n : ℕ) → m < n → nat_cmp m n ≡ Less
less m n h = sym (nat_cmp_is m n Less h)

pub greater : (m n : ℕ) → n < m → nat_cmp m n ≡ Greater
greater m n h = sym (nat_cmp_is m n Greater h)

pub same : (m n : ℕ) → m ≡ n → nat_cmp m n ≡ Equal
same m n e = sym (nat_cmp_is m n Equal e)

-- ---- keys

pub bus_order : (a b : Key) → a.bus < b.bus → key_cmp a b ≡ Less
bus_order a b h = rw (less a.bus b.bus h)

pub group_order : (a b : Key) → a.bus ≡ b.bus → group_place a.group < group_place b.group → key_cmp a b ≡ Less
group_order a b e h = rw (same a.bus b.bus e, less (group_place a.group) (group_place b.group) h)

pub address_order : (a b : Key) → a.bus ≡ b.bus → a.group ≡ b.group → a.address < b.address → key_cmp a b ≡ Less
address_order a b e f h =
    rw (same a.bus b.bus e, same (group_place a.group) (group_place b.group) (ap group_place f), less a.address b.address h)

-- how keys of one group of one bus stand
abbrev inner : Key → Key → Ordering
inner a b = ordering_then (nat_cmp a.address b.address) (nat_cmp a.port b.port)

pub device_order : (a b : Key) → a.bus ≡ b.bus → a.group ≡ b.group → a.address ≡ b.address → key_cmp a b ≡ nat_cmp a.port b.port
device_order a b e f g =
    rw (same a.bus b.bus e, same (group_place a.group) (group_place b.group) (ap group_place f), same a.address b.address g)

pub port_order : (device : Device) (p q : ℕ) → p < q → key_cmp (key_at device p) (key_at device q) ≡ Less
port_order device p q h = device_order (key_at device p) (key_at device q) refl refl refl ∙ less p q h

leads : (o p r s : Ordering) → (o ≡ Equal → p ≡ Equal → ⊥) → ordering_then o (ordering_then p r) ≡ ordering_then o (ordering_then p s)
leads o p r s h = grind arith

in_group : (bus : ℕ) (g : Group) (a b : Key) → IsIn bus g a
    → key_cmp a b ≡ ordering_then (nat_cmp bus b.bus) (ordering_then (group_cmp g b.group) (inner a b))
in_group bus g a b x = λ i. ordering_then (nat_cmp (x.0 i) b.bus) (ordering_then (group_cmp (x.1 i) b.group) (inner a b))

-- keys of one group stand alike to a key that is not of it
pub group_alike : (bus : ℕ) (g : Group) (a b other : Key) → IsIn bus g a → IsIn bus g b → (IsIn bus g other → ⊥)
    → key_cmp a other ≡ key_cmp b other
group_alike bus g a b other x y h =
    in_group bus g a other x
    ∙ leads (nat_cmp bus other.bus) (group_cmp g other.group) (inner a other) (inner b other)
    (λ e f. h (sym (nat_tie bus other.bus e), sym (same_group g other.group (nat_tie (group_place g) (group_place other.group) f))))
    ∙ sym (in_group bus g b other y)

-- ---- what a device owns

pub owns-other : (device : Device) (key : Key) → (device_of key ≡ device → ⊥) → owns device key ≡ false
owns-other device key h = false_from_ne_true (owns device key) (λ e. h (device_from_owns device key e))

pub owns-own : (device : Device) (key : Key) → device_of key ≡ device → owns device key ≡ true
owns-own device key e = ap (λ d. owns d key) (sym e) ∙ owns-device_of key

-- a key of a group with this address is of this device
pub device_in_group : (bus : ℕ) (g : Group) (address : ℕ) (key : Key) → IsIn bus g key → key.address ≡ address → device_of key ≡ record {
  bus = bus;
  group = g;
  address = address;
}
device_in_group bus g address key h e = λ i. record { bus = h.0 i; group = h.1 i; address = e i }
