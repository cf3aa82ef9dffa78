-- Parts of values that were read.
use Rattle.coset_value.specs.Item.{Item}
use Rattle.coset_codec.specs.Shape.{Shape}

-- Some item describes x.
abbrev pub IsDescribed : {A : Type 0} → Shape A → A → Type 0
IsDescribed s x = (v : Item) × s.describes v x
