-- Lists of connections that differ at one number alone, and there in two parts of one information session.
use Rattle.srcp_core.proofs.Names.{◌≡◌, ◌≢◌, ℕ, true, List, [], ◌∷◌, ◌++◌, length, refl, ap, sym, ◌∙◌, inl, inr, ◌⊎◌, ⊎_elim, filter}
use Rattle.srcp_core.proofs.Names.{Option, Some, None, Connection, is_open, numbered, with_numbered}
use Rattle.std.specs.Prelude.{option_map}
use Rattle.srcp_core.proofs.Agreement.NumbersAndKeys.{look_push, look_with, numbered_other, numbered_push, numbered_with}
use Rattle.srcp_core.proofs.Agreement.NumbersAndKeys.{opens_same, with_apart, with_push, with_same, with_twice}

-- two parts of one information session, which others can't tell apart
pub record IsSimilar (x y : Connection) : Type 0 where
  pub info : x.info ≡ true
  pub info' : y.info ≡ true
  pub session : y.session ≡ x.session
  pub ended : y.ended ≡ x.ended
  pub shut : y.shut ≡ x.shut

abbrev pub IsTwin : Connection → Connection → Type 0
IsTwin x y = (x ≡ y) ⊎ IsSimilar x y

-- lists that differ at that number alone, and there in such parts
pub record Alike (n : ℕ) (xs ys : List Connection) : Type 0 where
  pub other : Connection
  pub is : ys ≡ with_numbered n (λ _. other) xs
  pub twins : (x : Connection) → numbered n xs ≡ Some x → IsTwin x other

pub alike_push : (n : ℕ) (xs ys : List Connection) (c : Connection) → Alike n xs ys → Alike n (xs ++ c ∷ []) (ys ++ c ∷ [])
alike_push n xs ys c a = by (numbered n xs) refl
  where
    last : numbered n xs ≡ None → (z : Connection) → numbered n (xs ++ c ∷ []) ≡ Some z → c ≡ z
    last e z there = ⊎_elim (λ h. let bad : None ≡ Some z = cc in cc) (λ h. sym h) (look_push n xs c z there)

    by : (o : Option Connection) → numbered n xs ≡ o → Alike n (xs ++ c ∷ []) (ys ++ c ∷ [])
    by (Some x) e = record {
      other = a.other;
      is = cc (a.is, with_push n (λ _. a.other) xs (c ∷ []) x e);
      twins = λ z there. let same = numbered_push n xs c x e in a.twins z (cc);
    }
    by None e = record {
      other = c;
      is = cc (a.is, with_same n (λ _. a.other) xs (λ x there. cc), with_same n (λ _. c) (xs ++ c ∷ []) (last e));
      twins = λ z there. inl (sym (last e z there));
    }

-- as many are open
pub alike_open : (n : ℕ) (xs ys : List Connection) → Alike n xs ys → length (filter is_open ys) ≡ length (filter is_open xs)
alike_open n xs ys a = ap (λ zs. length (filter is_open zs)) a.is ∙ opens_same n _ xs (λ x e. same x (a.twins x e))
  where
    same : (x : Connection) → IsTwin x a.other → is_open a.other ≡ is_open x
    same x (inl e) = cc
    same x (inr s) = cc s.shut

-- any other is the same
pub alike_other : (n m : ℕ) (xs ys : List Connection) → m ≢ n → Alike n xs ys → numbered m ys ≡ numbered m xs
alike_other n m xs ys d a = ap (numbered m) a.is ∙ numbered_other m n _ xs (λ e. d (sym e))

-- the one of that number is the twin
pub alike_there : (n : ℕ) (xs ys : List Connection) (a : Alike n xs ys) → numbered n ys ≡ option_map (λ _. a.other) (numbered n xs)
alike_there n xs ys a = ap (numbered n) a.is ∙ numbered_with n _ xs

-- changes of it that make twins
pub alike_both : (n : ℕ) (f g : Connection → Connection) (xs ys : List Connection) (a : Alike n xs ys)
    → ((x : Connection) → numbered n xs ≡ Some x → IsTwin (f x) (g a.other)) → Alike n (with_numbered n f xs) (with_numbered n g ys)
alike_both n f g xs ys a h = record {
  other = g a.other;
  is = ap (with_numbered n g) a.is ∙ with_twice n (λ _. a.other) g (λ _. g a.other) xs (λ x e. refl)
      ∙ sym (with_twice n f (λ _. g a.other) (λ _. g a.other) xs (λ x e. refl));
  twins = λ x e. let s = look_with n n f xs x e in ⊎_elim (λ k. absurd (k.0 refl)) (λ k. rw k.1 (h s.x s.there)) s.from;
}

-- the same change of any other
pub alike_away : (n m : ℕ) (f : Connection → Connection) (xs ys : List Connection) → m ≢ n → Alike n xs ys
    → Alike n (with_numbered m f xs) (with_numbered m f ys)
alike_away n m f xs ys d a = record {
  other = a.other;
  is = ap (with_numbered m f) a.is ∙ with_apart n m f (λ _. a.other) xs d;
  twins = λ x e. a.twins x (sym (numbered_other n m f xs d) ∙ e);
}
