-- Lists in the order of a test, which says whether an item comes before another.
use Rattle.std.specs.Prelude.{◌≡◌, Bool, false, List, [], ◌∷◌, if◌then◌else◌, ⊤}
use Rattle.std.specs.List.{AllByRecursion}

module _ {X : Type 0} (lt : X → X → Bool) where
  -- no item has to come before an earlier item
  abbrev pub IsInOrder : List X → Type 0
  IsInOrder [] = ⊤
  IsInOrder (x ∷ xs) = AllByRecursion (λ y. lt y x ≡ false) xs × IsInOrder xs

  -- the list with x inserted behind the items that come before x
  abbrev pub insert_by : X → List X → List X
  insert_by x [] = x ∷ []
  insert_by x (y ∷ ys) = if lt y x then y ∷ insert_by x ys else x ∷ y ∷ ys

  -- the list without the item at the place of x, if that item is x
  abbrev pub remove_by : X → List X → List X
  remove_by x [] = []
  remove_by x (y ∷ ys) = if lt y x then y ∷ remove_by x ys else (if lt x y then y ∷ ys else ys)

  -- the items in this order
  abbrev pub order_by : List X → List X
  order_by [] = []
  order_by (x ∷ xs) = insert_by x (order_by xs)
