-- The view of a borrowed item.
use Rattle.std.specs.Prelude.{◌≡◌, ℕ, List, ◌++◌}
use Rattle.coset_value.specs.Item.{Item}
use Rattle.coset_cbor.specs.declared.pull.Pull.{Pull}
use Rattle.coset_cbor.specs.Grammar.{IsItem}
use Rattle.coset_cbor.specs.Whole.{item_of}

-- The bytes of the item.
abbrev pub pull_bytes : Pull → List ℕ
pull_bytes p = p.bytes.now

-- The item that these bytes encode, and the only one (the law `borrowed_item`).
abbrev pub pull_item : Pull → Item
pull_item p = item_of p.bytes.now

-- The borrowed item p is at the start of b, and rest follows it.
abbrev pub BeginsWith : List ℕ → Pull → List ℕ → Type 0
BeginsWith b p rest = (b ≡ pull_bytes p ++ rest) × IsItem (pull_bytes p) (pull_item p)
