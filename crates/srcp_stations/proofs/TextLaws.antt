-- Laws of a text that is looked through for a word, or for the last `<`.
use Rattle.std.specs.Prelude.{◌≡◌, ℕ, ◌-◌, ◌<◌, ◌≤◌, true, false, ◌||◌, List, [], ◌∷◌, ◌++◌, length}
use Rattle.std.specs.Prelude.{take, drop, get_or, nat_eq}
use Prim.Native.Nat.{zero, suc}
use Rattle.std.specs.List.{list_any, starts_with}
use Rattle.std.proofs.Common.{refl, sym, ◌∙◌, arith}
use Rattle.std.proofs.lemmas.List.{length-drop, take_all}
use Rattle.srcp_stations.specs.Text.{has_word, is_open, message_in}

-- a word stands in what is left if it begins there, or stands behind its first byte
pub has_at : (word text : List ℕ) (at : ℕ) → at < length text
    → has_word word (drop at text) ≡ (starts_with nat_eq (drop at text) word || has_word word (drop (suc at) text))
has_at word [] at h = absurd (omega (arith, h))
has_at word (b ∷ bytes) zero h = refl
has_at word (b ∷ bytes) (suc at) h = has_at word bytes at (omega (arith, h))

any_at : (bytes : List ℕ) (at : ℕ) → at < length bytes → get_or bytes at 0 ≡ 60 → list_any is_open bytes ≡ true
any_at [] at h e = absurd (omega (arith, h))
any_at (b ∷ bytes) zero h e = grind arith
any_at (b ∷ bytes) (suc at) h e = grind (arith, any_at bytes at)

-- the last `<` begins the message
pub last_open : (bytes : List ℕ) (at : ℕ) → at < length bytes → get_or bytes at 0 ≡ 60 → list_any is_open (drop (suc at) bytes) ≡ false
    → message_in bytes ≡ drop at bytes
last_open [] at h e none = absurd (omega (arith, h))
last_open (b ∷ bytes) zero h e none = rw none refl
last_open (b ∷ bytes) (suc at) h e none =
    rw (any_at bytes at (omega (arith, h)) e) (last_open bytes at (omega (arith, h)) e none)

-- the same of a slice, where the code has gone one back
pub found : (bytes : List ℕ) (start at : ℕ) → start ≡ suc at → start ≤ length bytes → get_or bytes at 0 ≡ 60
    → list_any is_open (drop start bytes) ≡ false → take (length bytes - at) (drop at bytes) ≡ message_in bytes
found bytes start at e within here none =
    let same = last_open bytes at (omega (arith, e, within)) here (rw e at none) in
    take_all (length bytes - at) (drop at bytes) (omega (arith, length-drop at bytes)) ∙ sym same

-- and without any all is the message
pub none_open : (bytes : List ℕ) → list_any is_open bytes ≡ false → message_in bytes ≡ bytes
none_open [] none = refl
none_open (b ∷ bytes) none = grind arith

-- whatever stands before it, a message is found
pub noise_before : (noise text : List ℕ) → list_any is_open text ≡ false → message_in (noise ++ 60 ∷ text) ≡ 60 ∷ text
noise_before [] text none = rw none refl
noise_before (b ∷ noise) text none = rw (opened noise text) (noise_before noise text none)
  where
    opened : (noise text : List ℕ) → list_any is_open (noise ++ 60 ∷ text) ≡ true
    opened [] text = refl
    opened (b ∷ noise) text = grind (arith, opened noise text)
