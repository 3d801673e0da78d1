-- What the values of a document are, seen as the crate that reads them has them.
use Rattle.std.proofs.Common.{◌≡◌, List, [], ◌∷◌, refl, ap}
use Rattle.toml.specs.Data.{Data}
use Rattle.toml.specs.View.{items_of}
use Rattle.srcp_layout_file.specs.Member.{list_of}

-- the items of some values are these values
pub list_of-items_of : (values : List Data) → list_of (items_of values) ≡ values
list_of-items_of [] = refl
list_of-items_of (value ∷ values) = ap (λ more. value ∷ more) (list_of-items_of values)
