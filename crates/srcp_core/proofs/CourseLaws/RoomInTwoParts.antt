-- Any room and then one for some bytes give what one room for both gives.
use Rattle.srcp_core.proofs.Names.{◌≡◌, ℕ, zero, suc, ⊎_elim, ◌+◌, ◌-◌, ◌<◌, ◌≤◌, max, min, Bool, true, false, List, [], ◌∷◌, ◌++◌, ◌⊎◌}
use Rattle.srcp_core.proofs.Names.{length, drop, refl, ap, sym, ◌∙◌, arith, append_assoc, length-append, length-drop, lt-ltb, ltb-true, inl}
use Rattle.srcp_core.proofs.Names.{map-append, drop-append-le, drop-drop, flat_map-append, flat_map, option_or, nat_lt, Option, Some, None}
use Rattle.srcp_core.proofs.Names.{◌&&◌, if◌then◌else◌, Next, Connection, line_of, prefix, fitting, items_of, available, exhausts, inr}
use Rattle.srcp_core.proofs.Names.{given, unsent, text, took, Item, nat_tests}
use Rattle.std.proofs.Math.Nat.{zero-min}
use Rattle.srcp_core.proofs.CourseLaws.RoomGivesWhatIsOwed.{text_items, fitting_enough, prefix_none}
use Rattle.srcp_core.proofs.CourseLaws.LinesHaveBytes.{none_after}

-- a longer prefix is a prefix, and then one of the rest for what is still asked for
prefix_more : (a b : ℕ) (nexts rest : List Next) → a ≤ b → nexts ≡ prefix a nexts ++ rest
    → prefix b nexts ≡ prefix a nexts ++ prefix (b - length (flat_map line_of (prefix a nexts))) rest
prefix_more zero b nexts rest h e =
    let all : b - 0 ≡ b = omega arith in
    cc
prefix_more (suc a) zero nexts rest h e = absurd (omega arith)
prefix_more (suc a) (suc b) [] rest h e =
    let none : rest ≡ [] = sym e in
    cc (prefix_none (suc b - 0))
prefix_more (suc a) (suc b) (what ∷ nexts) rest h e =
    let tail : nexts ≡ prefix (suc a - length (line_of what)) nexts ++ rest = cc in
    let size = length-append (line_of what) (flat_map line_of (prefix (suc a - length (line_of what)) nexts)) in
    let left : suc b - length (flat_map line_of (prefix (suc a) (what ∷ nexts)))
    ≡ suc b - length (line_of what) - length (flat_map line_of (prefix (suc a - length (line_of what)) nexts)) = omega arith in
    cc (prefix_more (suc a - length (line_of what)) (suc b - length (line_of what)) nexts rest (omega (arith, h)) tail)

-- a listing that is done stays done
done_rule : (info first second both : Bool) (end : Option ℕ) (n : ℕ) → (first ≡ true → both ≡ true) → second ≡ both
    → (if info && second then option_or (if info && first then option_or end (Some n) else end) (Some n)
    else (if info && first then option_or end (Some n) else end))
    ≡ (if info && both then option_or end (Some n) else end)
done_rule false first second both end n f h = refl
done_rule true true second both end n f h = rw (h, f refl) (twice end)
  where
    twice : (end : Option ℕ) → option_or (option_or end (Some n)) (Some n) ≡ option_or end (Some n)
    twice None = refl
    twice (Some m) = refl
done_rule true false second both end n f h = rw h refl

same_lt : (x y b c : ℕ) → (x < b → y < c) → (y < c → x < b) → nat_lt x b ≡ nat_lt y c
same_lt x y b c f g = grind (arith, nat_tests)

-- what room changes of a connection is the same part by part
pub parts_same : (conn : Connection) {a b : List Item} {c d : ℕ} {e f : Option ℕ} → a ≡ b → c ≡ d → e ≡ f
    → record conn { items = a; taken = c; done = e } ≡ record conn { items = b; taken = d; done = f }
parts_same conn items taken done = λ i. record conn { items = items i; taken = taken i; done = done i }

pub none_taken : (taken size : ℕ) → taken + min 0 size ≡ taken
none_taken taken size = omega arith

module _ (a n : ℕ) (nexts : List Next) (conn : Connection) (within : conn.taken ≤ length (given conn)) where
  abbrev first : List Next
  first = fitting a (unsent conn) nexts

  -- what is unsent after a room
  unsent_after : unsent (took a n nexts conn)
      ≡ drop (min a (length (available (unsent conn) nexts))) (unsent conn ++ flat_map line_of first)
  unsent_after =
      cc (
        text_items n conn.items first,
        append_assoc conn.out (text conn.items) (flat_map line_of first),
        drop-drop (min a (length (available (unsent conn) nexts))) conn.taken (given conn ++ flat_map line_of first),
        drop-append-le conn.taken (given conn) (flat_map line_of first) within,
      )

  -- a room for both, if some bytes are asked for after the first
  pub took_both : (b : ℕ) (rest : List Next) → 0 < b → nexts ≡ first ++ rest
      → took b n rest (took a n nexts conn) ≡ took (a + b) n nexts conn
  took_both b rest some whole = parts_same conn items taken done
    where
      left : List ℕ
      left = unsent (took a n nexts conn)

      all : length (available (unsent conn) nexts) ≡ length (unsent conn) + length (flat_map line_of nexts)
      all = length-append (unsent conn) (flat_map line_of nexts)

      lines : length (flat_map line_of nexts) ≡ length (flat_map line_of first) + length (flat_map line_of rest)
      lines =
          ap (λ ns. length (flat_map line_of ns)) whole ∙ ap length (flat_map-append line_of first rest)
          ∙ length-append (flat_map line_of first) (flat_map line_of rest)

      -- so much was there, or nothing is left
      enough : (a ≤ length (unsent conn) + length (flat_map line_of first)) ⊎ (rest ≡ [])
      enough = ⊎_elim (λ h. inl h) (λ h. inr (none_after nexts first rest whole h)) (fitting_enough a (unsent conn) nexts)

      size : length left + min a (length (available (unsent conn) nexts)) ≡ length (unsent conn) + length (flat_map line_of first)
      size =
          let is = ap length unsent_after
          ∙ length-drop (min a (length (available (unsent conn) nexts))) (unsent conn ++ flat_map line_of first) in
          let both = length-append (unsent conn) (flat_map line_of first) in
          ⊎_elim (λ h. omega (arith, is, both, all, lines, h))
          (λ h. omega (arith, is, both, all, lines, ap (λ ns. length (flat_map line_of ns)) h)) enough

      still : length (available left rest) + min a (length (available (unsent conn) nexts)) ≡ length (available (unsent conn) nexts)
      still = omega (arith, length-append left (flat_map line_of rest), size, all, lines)

      gives : fitting (a + b) (unsent conn) nexts ≡ first ++ fitting b left rest
      gives =
          prefix_more (max a 1 - length (unsent conn)) (max (a + b) 1 - length (unsent conn)) nexts rest (omega (arith, some)) whole
          ∙ ap (λ ns. first ++ ns)
          (⊎_elim
          (λ h. ap (λ k. prefix k rest) (omega (arith, size, all, lines, some, h)))
          (λ h. rw h (prefix_none _ ∙ sym (prefix_none _))) enough)

      items : (conn.items ++ items_of n first) ++ items_of n (fitting b left rest)
          ≡ conn.items ++ items_of n (fitting (a + b) (unsent conn) nexts)
      items =
          cc (
            append_assoc conn.items (items_of n first) (items_of n (fitting b left rest)),
            map-append {B = Item} (λ what. record { steps = n; what = what }) first (fitting b left rest),
            gives,
          )

      taken : conn.taken + min a (length (available (unsent conn) nexts)) + min b (length (available left rest))
          ≡ conn.taken + min (a + b) (length (available (unsent conn) nexts))
      taken = omega (arith, still)

      done : (took b n rest (took a n nexts conn)).done ≡ (took (a + b) n nexts conn).done
      done =
          done_rule conn.info (exhausts a (unsent conn) nexts) (exhausts b left rest) (exhausts (a + b) (unsent conn) nexts) conn.done n
          (λ t. let less = ltb-true (length (available (unsent conn) nexts)) (max a 1) t in
          lt-ltb (length (available (unsent conn) nexts)) (max (a + b) 1) (omega (arith, less, some)))
          (same_lt (length (available left rest)) (length (available (unsent conn) nexts)) (max b 1) (max (a + b) 1)
          (λ h. omega (arith, h, still, some)) (λ h. omega (arith, h, still, some)))

-- what is unsent after a room for none
pub left_after : (n : ℕ) (nexts : List Next) (conn : Connection) → conn.taken ≤ length (given conn)
    → unsent (took 0 n nexts conn) ≡ unsent conn ++ flat_map line_of (fitting 0 (unsent conn) nexts)
left_after n nexts conn within =
    unsent_after 0 n nexts conn within
    ∙ ap (λ k. drop k (unsent conn ++ flat_map line_of (fitting 0 (unsent conn) nexts))) (zero-min (length (available (unsent conn) nexts)))
