-- Structures, and the encoding of a structure that is written part by part.
use Rattle.std.proofs.Common.{◌≡◌, ℕ, ◌+◌, ◌<◌, ◌^◌, List, [], ◌∷◌, ◌++◌, Bor, map, take, length, get_or, Option, Some, refl, sym, ap, subst, ◌∙◌, append_assoc}
use Rattle.std.proofs.Common.{arith}
use Rattle.std.proofs.lemmas.List.{append-nil, take_more, map_push}
use Rattle.coset_value.specs.Item.{Item, bytes, text, array, Items, no_items, item, items_count}
use Rattle.coset_value.specs.Range.{IsInRange, AreInRange}
use Rattle.coset_cbor.specs.Least.{least_head, least_encoding, least_encodings}
use Rattle.coset_cbor.specs.Shortest.{IsShortest}
use Rattle.coset_codec.specs.Encoding.{AppendsImage, AppendsItem}
use Rattle.coset_codec.specs.Shape.{both, images}
use Rattle.coset_codec.specs.ShapeLaws.{some-one}
use Rattle.coset_core.specs.Structure.{BeginsStructure, byte_strings, byte_strings_and, structure, structure_and}

-- ---- the parts of a structure

abbrev contents : Items → List (List ℕ)
contents no_items = []
contents (item (bytes s) vs) = s ∷ contents vs
contents (item v vs) = contents vs

abbrev context_of : Item → List ℕ
context_of (array (item (text c) vs)) = c
context_of v = []

abbrev parts_of : Item → List (List ℕ)
parts_of (array (item v vs)) = contents vs
parts_of v = []

contents-byte_strings : (ss : List (List ℕ)) → contents (byte_strings ss) ≡ ss
contents-byte_strings [] = refl
contents-byte_strings (s ∷ ss) = ap (λ (x : List (List ℕ)). s ∷ x) (contents-byte_strings ss)

-- Equal structures have the same context and the same parts.
pub same_structure : (c d : List ℕ) (p q : List (List ℕ)) → structure c p ≡ structure d q → (c ≡ d) × (p ≡ q)
same_structure c d p q e = (ap context_of e, sym (contents-byte_strings p) ∙ ap parts_of e ∙ contents-byte_strings q)

-- ---- one more part

-- The first i parts, as items.
abbrev pub first_parts : List (Bor (List ℕ)) → ℕ → Items
first_parts parts i = byte_strings (map (λ part. part.now) (take i parts))

first_parts-suc : (parts : List (Bor (List ℕ))) (i : ℕ) (d : Bor (List ℕ)) → i < length parts
    → first_parts parts (i + 1) ≡ byte_strings (map (λ part. part.now) (take i parts) ++ (get_or parts i d).now ∷ [])
first_parts-suc parts i d lt =
    ap (λ (xs : List (Bor (List ℕ))). byte_strings (map (λ part. part.now) xs)) (take_more parts i d lt)
    ∙ ap byte_strings (map_push (λ (part : Bor (List ℕ)). part.now) (take i parts) (get_or parts i d))

least_encodings-push : (ss : List (List ℕ)) (s : List ℕ)
    → least_encodings (byte_strings (ss ++ s ∷ [])) ≡ least_encodings (byte_strings ss) ++ least_encoding (bytes s)
least_encodings-push [] s = append-nil (least_encoding (bytes s))
least_encodings-push (t ∷ ss) s = ap (λ (x : List ℕ). least_encoding (bytes t) ++ x) (least_encodings-push ss s)
    ∙ sym (append_assoc (least_encoding (bytes t)) (least_encodings (byte_strings ss)) (least_encoding (bytes s)))

in_range-push : (ss : List (List ℕ)) (s : List ℕ) → AreInRange (byte_strings ss) → IsInRange (bytes s) → AreInRange (byte_strings (ss ++ s ∷ []))
in_range-push [] s h k = (k, tt)
in_range-push (t ∷ ss) s h k = (h.0, in_range-push ss s h.1 k)

pub part_written : (parts : List (Bor (List ℕ))) (i : ℕ) (d : Bor (List ℕ)) (old middle new : List ℕ) → i < length parts
    → middle ≡ old ++ least_encodings (first_parts parts i) → new ≡ middle ++ least_encoding (bytes (get_or parts i d).now)
    → new ≡ old ++ least_encodings (first_parts parts (i + 1))
part_written parts i d old middle new lt so_far put =
    let s = (get_or parts i d).now in
    let ss = map (λ (part : Bor (List ℕ)). part.now) (take i parts) in
    let total : least_encodings (first_parts parts (i + 1)) ≡ least_encodings (byte_strings ss) ++ least_encoding (bytes s) =
    ap least_encodings (first_parts-suc parts i d lt) ∙ least_encodings-push ss s in
    put ∙ ap (λ (x : List ℕ). x ++ least_encoding (bytes s)) so_far ∙ append_assoc old (least_encodings (byte_strings ss)) (least_encoding (bytes s))
    ∙ ap (λ (x : List ℕ). old ++ x) (sym total)

pub part_in_range : (parts : List (Bor (List ℕ))) (i : ℕ) (d : Bor (List ℕ)) → i < length parts
    → AreInRange (first_parts parts i) → IsInRange (bytes (get_or parts i d).now) → AreInRange (first_parts parts (i + 1))
part_in_range parts i d lt so_far here =
    subst AreInRange (sym (first_parts-suc parts i d lt))
    (in_range-push (map (λ (part : Bor (List ℕ)). part.now) (take i parts)) (get_or parts i d).now so_far here)

-- ---- the whole structure

-- The number of items: the byte strings and the items after them.
items_count-and : (ss : List (List ℕ)) (vs : Items) → items_count (byte_strings_and ss vs) ≡ length ss + items_count vs
items_count-and [] vs = omega arith
items_count-and (s ∷ ss) vs = let more = items_count-and ss vs in omega (arith, more)

least_encodings-and : (ss : List (List ℕ)) (vs : Items) → least_encodings (byte_strings_and ss vs) ≡ least_encodings (byte_strings ss) ++ least_encodings vs
least_encodings-and [] vs = refl
least_encodings-and (s ∷ ss) vs =
    ap (λ (x : List ℕ). least_encoding (bytes s) ++ x) (least_encodings-and ss vs)
    ∙ sym (append_assoc (least_encoding (bytes s)) (least_encodings (byte_strings ss)) (least_encodings vs))

in_range-and : (ss : List (List ℕ)) (vs : Items) → AreInRange (byte_strings ss) → AreInRange vs → AreInRange (byte_strings_and ss vs)
in_range-and [] vs h k = k
in_range-and (s ∷ ss) vs h k = (h.0, in_range-and ss vs h.1 k)

-- The beginning of a structure, followed by the other items, is the shortest encoding.
pub whole_written :
    ((v : Item) → IsInRange v → IsShortest (least_encoding v) v) → (context : List ℕ) (ss : List (List ℕ)) (vs : Items) (b t : List ℕ)
    → BeginsStructure b context ss (items_count vs) → AreInRange vs
    → t ≡ b ++ least_encodings vs → IsShortest t (structure_and context ss vs)
whole_written is_shortest context ss vs b t begun in_range written =
    let n : ℕ = length ss + 1 + items_count vs in
    let counted : n ≡ items_count (item (text context) (byte_strings_and ss vs)) = let all = items_count-and ss vs in omega (arith, all) in
    let head : List ℕ = least_head 4 n in
    let front : List ℕ = least_encoding (text context) in
    let spelled : t ≡ least_encoding (structure_and context ss vs) =
    written ∙ ap (λ (x : List ℕ). x ++ least_encodings vs) begun.begins
    ∙ append_assoc (head ++ front) (least_encodings (byte_strings ss)) (least_encodings vs)
    ∙ append_assoc head front (least_encodings (byte_strings ss) ++ least_encodings vs)
    ∙ ap (λ (x : List ℕ). head ++ (front ++ x)) (sym (least_encodings-and ss vs))
    ∙ ap (λ (k : ℕ). least_head 4 k ++ (front ++ least_encodings (byte_strings_and ss vs))) counted in
    subst (λ (x : List ℕ). IsShortest x (structure_and context ss vs)) (sym spelled)
    (is_shortest (structure_and context ss vs) (
      subst (λ (k : ℕ). k < 2 ^ 64) counted begun.small,
      (begun.context_in_range, in_range-and ss vs begun.in_range in_range),
    ))

-- ---- a list of byte strings after the parts

pub strings_image : {X : Type 0} (see : X → List ℕ) (xs : List X) → images (λ x. Some (bytes (see x))) xs ≡ Some (byte_strings (map see xs))
strings_image see [] = refl
strings_image see (x ∷ xs) = ap (both item (Some (bytes (see x)))) (strings_image see xs)

pub list_written :
    ((v : Item) → IsInRange v → IsShortest (least_encoding v) v) → (context : List ℕ) (ss os : List (List ℕ)) (o : Option Item) (b t : List ℕ)
    → BeginsStructure b context ss 1 → o ≡ Some (array (byte_strings os))
    → AppendsImage o b t → IsShortest t (structure_and context ss (item (array (byte_strings os)) no_items))
list_written is_shortest context ss os o b t begun is appended =
    let v : Item = array (byte_strings os) in
    let put : AppendsItem b t v = subst (AppendsItem b t) (some-one appended.1 is) appended.2 in
    whole_written is_shortest context ss (item v no_items) b t begun (put.in_range, tt)
    (put.parts ∙ ap (λ (x : List ℕ). b ++ x) (sym (append-nil (least_encoding v))))
