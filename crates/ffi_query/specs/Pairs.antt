-- The pairs of a map by index.
use Rattle.std.specs.Prelude.{ℕ, zero, suc, List, Option, Some, None, option_and_then, option_map}
use Rattle.coset.specs.Item.{Item, Pairs, no_pairs, pair}
use Rattle.coset.specs.Parts.{as_map}
use Rattle.ffi_query.specs.declared.pair.Half as halves
use Rattle.ffi_query.specs.declared.pair.Half.TheVariants as of
use Rattle.ffi_query.specs.Results.{IsEncodingOf}

-- The key and the value of the pair at index n.
abbrev pub nth_pair : ℕ → Pairs → Option (Item × Item)
nth_pair n no_pairs = None
nth_pair zero (pair k v ps) = Some (k, v)
nth_pair (suc n) (pair k v ps) = nth_pair n ps

-- The key and the value of the pair at index n of a map.
abbrev pub pair_in : ℕ → Item → Option (Item × Item)
pair_in n v = option_and_then (nth_pair n) (as_map v)

-- One half of a pair.
abbrev pub half_of : halves.Half → Item × Item → Item
half_of of.Key p = p.0
half_of of.Value p = p.1

-- t is the shortest encoding of this half of the pair at index n.
abbrev pub IsHalf : halves.Half → ℕ → Item → List ℕ → Type 0
IsHalf h n v t = IsEncodingOf (option_map (half_of h) (pair_in n v)) t
