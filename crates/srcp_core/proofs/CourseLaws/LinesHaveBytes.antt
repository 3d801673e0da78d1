-- Each line that is owed has bytes, and so room for all of them gives them all.
use Rattle.srcp_core.proofs.Names.{◌≡◌, ℕ, zero, suc, ◌+◌, ◌-◌, ◌<◌, ◌≤◌, false, List, [], ◌∷◌, ◌++◌, map, take, length, refl}
use Rattle.srcp_core.proofs.Names.{ap, arith, length-append, AllByRecursion, flat_map, ◌==◌, ◌&&◌, max}
use Rattle.srcp_core.proofs.Names.{codes, line, Change, Put, Shown, beyond, Connection, History, available, cursor_at, ◌||◌}
use Rattle.srcp_core.proofs.Names.{fitting, prefix, is_nil, is_open, line_of, owed, untold, cond_both, exhausts, le-ltb, nat_lt, nat_tests}
use Rattle.srcp_core.proofs.Names.{sym}
use Rattle.std.proofs.Math.Bool.{or-false}
use Rattle.std.specs.List.{join_with_byte}
use Rattle.srcp_info.specs.Line.{change_words}
use Rattle.srcp_feed.specs.declared.Next.{Next}
use Rattle.srcp_feed.specs.declared.Next.TheVariants.{Told, Listed}

pub line_full : (change : Change) → 0 < length (line change)
line_full change =
    let l = length-append (join_with_byte 32 (change_words change)) (codes "\n") in let n : length (codes "\n") ≡ 1 = refl in omega arith

-- each of these lines has bytes
abbrev pub AreFull : List Next → Type 0
AreFull nexts = AllByRecursion (λ what. 0 < length (line_of what)) nexts

listed_full : (rows : List Shown) → AreFull (map Listed rows)
listed_full [] = tt
listed_full (row ∷ rows) = (line_full (Put row), listed_full rows)

told_full : (changes : List Change) (nexts : List Next) → AreFull nexts → AreFull (map Told changes ++ nexts)
told_full [] nexts a = a
told_full (change ∷ changes) nexts a = (line_full change, told_full changes nexts a)

-- each line that is owed has bytes
pub owed_full : (conn : Connection) (history : History) (rows : List Shown) → AreFull (owed conn history rows)
owed_full conn history rows =
    cond_both (is_open conn && conn.info)
    (map Told (untold conn history) ++ map Listed (beyond (cursor_at conn (length history)) rows)) [] AreFull
    (λ _. told_full (untold conn history) _ (listed_full (beyond (cursor_at conn (length history)) rows))) (λ _. tt)

-- a room for none where nothing is unsent is given the first line, which has bytes, and exhausts what has none
pub fitting_first : (nexts : List Next) → AreFull nexts → fitting 0 [] nexts ≡ take 1 nexts
fitting_first [] full = refl
fitting_first (what ∷ nexts) full =
    let none : 1 - length (line_of what) ≡ 0 = omega (arith, full.0) in ap (λ bytes. what ∷ prefix bytes nexts) none

some_bytes : (xs ys : List ℕ) → 0 < length xs → is_nil (xs ++ ys) ≡ false
some_bytes [] ys h = absurd (omega (arith, h))
some_bytes (x ∷ xs) ys h = refl

pub first_nil : (nexts : List Next) → AreFull nexts → is_nil (flat_map line_of (fitting 0 [] nexts)) ≡ is_nil nexts
first_nil [] full = refl
first_nil (what ∷ nexts) full = some_bytes (line_of what) _ full.0

pub exhausts_none : (nexts : List Next) → AreFull nexts → exhausts 0 [] nexts ≡ is_nil nexts
exhausts_none [] full = refl
exhausts_none (what ∷ nexts) full =
    le-ltb (length (flat_map line_of (what ∷ nexts))) 1 (omega (arith, full.0, length-append (line_of what) (flat_map line_of nexts)))

-- a room exhausts what has fewer bytes than it is for, or what has none
pub exhausts_by : (bytes : ℕ) (left : List ℕ) (nexts : List Next) → AreFull nexts
    → exhausts bytes left nexts ≡ (nat_lt (length (available left nexts)) bytes || ((bytes == 0) && (is_nil left && is_nil nexts)))
exhausts_by zero [] nexts full = rw (le-ltb (length (flat_map line_of nexts)) 0 (omega arith)) (exhausts_none nexts full)
exhausts_by zero (byte ∷ left) nexts full =
    rw (le-ltb (length (byte ∷ (left ++ flat_map line_of nexts))) 0 (omega arith))
    (le-ltb (length (byte ∷ (left ++ flat_map line_of nexts))) 1 (omega arith))
exhausts_by (suc bytes) left nexts full =
    let same : max (suc bytes) 1 ≡ suc bytes = omega arith in
    let some : (suc bytes == 0) ≡ false = grind (arith, nat_tests) in
    rw (same, some) (sym (or-false (nat_lt (length (available left nexts)) (suc bytes))))

-- room for as many bytes as there are
prefix_full : (bytes : ℕ) (nexts : List Next) → AreFull nexts → length (flat_map line_of nexts) ≤ bytes → prefix bytes nexts ≡ nexts
prefix_full zero [] full h = refl
prefix_full zero (what ∷ nexts) full h =
    let some = full.0 in
    let e = length-append (line_of what) (flat_map line_of nexts) in
    absurd (omega arith)
prefix_full (suc bytes) [] full h = refl
prefix_full (suc bytes) (what ∷ nexts) full h =
    let e = length-append (line_of what) (flat_map line_of nexts) in
    let k : length (flat_map line_of nexts) ≤ suc bytes - length (line_of what) = omega arith in
    cc (prefix_full (suc bytes - length (line_of what)) nexts full.1 k)

pub fitting_full : (bytes : ℕ) (left : List ℕ) (nexts : List Next) → AreFull nexts → length (available left nexts) ≤ bytes
    → fitting bytes left nexts ≡ nexts
fitting_full bytes left nexts full h =
    prefix_full (max bytes 1 - length left) nexts full (omega (arith, h, length-append left (flat_map line_of nexts)))

-- where the prefix is all, nothing is left
pub none_after : (all nexts rest : List Next) → all ≡ nexts ++ rest → nexts ≡ all → rest ≡ []
none_after all nexts [] whole same = refl
none_after all nexts (what ∷ rest) whole same =
    let a : length all ≡ length (nexts ++ what ∷ rest) = cc in
    let b : length (nexts ++ what ∷ rest) ≡ length nexts + length (what ∷ rest) = length-append nexts _ in
    let d : length nexts ≡ length all = cc in
    absurd (omega arith)
