-- The members of a map, by their labels.
use Rattle.std.specs.Prelude.{◌==◌, ◌&&◌, not, ℕ, ℤ, List, [], Option, Some, None, Bool, false, if◌then◌else◌}
use Rattle.std.specs.Cmp.Lexicographic.{pointwise}
use Rattle.std.specs.List.{cons_option}
use Rattle.std.specs.Option.{option_map_or}
use Rattle.std.specs.Ordering.{int_eq}
use Rattle.coset.specs.Item.{Item, Pairs, no_pairs, pair}
use Rattle.coset.specs.Maps.{are_distinct}
use Rattle.coset.specs.Parts.{as_integer, as_text}

-- Returns true if the item is this number.
abbrev pub is_number : ℤ → Item → Bool
is_number n v = option_map_or (λ i. int_eq i n) (as_integer v) false

-- The value of the first member with this label.
abbrev pub member : ℤ → Pairs → Option Item
member n no_pairs = None
member n (pair k v ps) = if is_number n k then Some v else member n ps

-- The labels that are numbers, and those that are texts, in order. Other keys are no labels (RFC 9052, section 1.5).
abbrev pub numbers_in : Pairs → List ℤ
numbers_in no_pairs = []
numbers_in (pair k v ps) = cons_option (as_integer k) (numbers_in ps)

abbrev pub texts_in : Pairs → List (List ℕ)
texts_in no_pairs = []
texts_in (pair k v ps) = cons_option (as_text k) (texts_in ps)

abbrev pub repeat_number : Pairs → Bool
repeat_number ps = not (are_distinct int_eq (numbers_in ps))

abbrev pub repeat_text : Pairs → Bool
repeat_text ps = not (are_distinct (pointwise ◌==◌) (texts_in ps))

-- Returns true if no two members have the same label.
abbrev pub has_distinct_labels : Pairs → Bool
has_distinct_labels ps = not (repeat_number ps) && not (repeat_text ps)
