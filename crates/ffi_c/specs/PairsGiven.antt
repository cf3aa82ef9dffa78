-- Pairs as C passes them: structs of numbers. Their texts and byte strings are ranges of other bytes.
use Rattle.std.specs.Prelude.{ℕ, List, [], ◌∷◌, length, take, drop, ◌==◌, nat_le, Option, Some, None, option_map, if◌then◌else◌}
use Rattle.coset.specs.LabelData.{LabelView, number, text_label}
use Rattle.coset.specs.Shape.{both}
use Rattle.ffi_query.specs.declared.kind.Kind as kinds
use Rattle.ffi_make.specs.Given.{EntryView, a_string, a_text, an_encoding, an_integer}
use Rattle.ffi_c.specs.declared.pairs.Pair.{Pair}
use Rattle.ffi_c.specs.Numbers.{kind_of}

-- The n bytes of b from the offset `at`, if all of them exist.
abbrev pub part_at : ℕ → ℕ → List ℕ → Option (List ℕ)
part_at at n b = if nat_le at (length b) then (if nat_le n (length (drop at b)) then Some (take n (drop at b)) else None) else None

-- The label, by its form: 1 for an integer, 2 for a text.
abbrev pub label_of : Pair → List ℕ → Option LabelView
label_of p b =
    if p.label_form == 1 then Some (number p.label) else
    (if p.label_form == 2 then option_map text_label (part_at p.label_at p.label_len b) else None)

-- The value, by its form: 1 for an integer, 2 for a text, 3 for a byte string, 4 for an encoded item.
abbrev pub entry_of : Pair → List ℕ → Option EntryView
entry_of p b =
    if p.value_form == 1 then Some (an_integer p.value) else
    (if p.value_form == 2 then option_map a_text (part_at p.value_at p.value_len b) else
    (if p.value_form == 3 then option_map a_string (part_at p.value_at p.value_len b) else
    (if p.value_form == 4 then option_map an_encoding (part_at p.value_at p.value_len b) else None)))

abbrev pub pair_of : List ℕ → Pair → Option (LabelView × EntryView)
pair_of b p = both (λ l e. (l, e)) (label_of p b) (entry_of p b)

-- The pairs, if each is valid.
abbrev pub pairs_of : List ℕ → List Pair → Option (List (LabelView × EntryView))
pairs_of b [] = Some []
pairs_of b (p ∷ ps) = both (λ x xs. x ∷ xs) (pair_of b p) (pairs_of b ps)

-- The kind with this number, and the pairs.
abbrev pub pairs_query : ℕ → List ℕ → List Pair → Option (kinds.Kind × List (LabelView × EntryView))
pairs_query k b ps = both (λ k xs. (k, xs)) (kind_of k) (pairs_of b ps)
