-- Bytes that are an encoding of an item of any depth.
use Rattle.std.proofs.Common.{◌≡◌, ℕ, suc, ◌+◌, ◌<◌, ◌≤◌, List, [], ◌∷◌, ◌++◌, length, Result, Ok, Err, refl, sym, ap, subst, ◌∙◌, inl, inr, arith}
use Rattle.std.proofs.lemmas.List.{length-append, append-nil}
use Rattle.coset_value.specs.Item.{Item, integer, bytes, float, text, boolean, null, tag, array, dict, Items, no_items, item, Pairs, no_pairs, pair}
use Rattle.coset_value.specs.Item.{items_count, pairs_count, depth, items_depth, pairs_depth}
use Rattle.coset_cbor.specs.declared.fault.Fault.{Fault}
use Rattle.coset_cbor.specs.Grammar.{IsHeaded, EnclosesContent, IsEncoding, AreEncodings, ArePairEncodings}
use Rattle.coset_cbor.specs.Reading.{item_at}
use Rattle.coset_cbor.proofs.Again.{IsHead-begins, item_again}
use Rattle.coset_cbor.proofs.Takes.{IsBytes, ok_is, item_takes}

-- Content with its head has more bytes than the content alone.
headed_longer : (m n : ℕ) (s b : List ℕ) → m < 7 → IsHeaded m n s b → length s < length b
headed_longer m n s b low h =
    let first = IsHead-begins m n h.head low h.is_head in
    let one : length h.head ≡ suc (length first.more) = ap length first.parts in
    let all : length b ≡ length h.head + length s = ap length h.parts ∙ length-append h.head s in
    omega arith

held_longer : (m n : ℕ) (s b : List ℕ) → m < 7 → EnclosesContent m n s b → length s < length b
held_longer m n s b low (inl h) = headed_longer m n s b low h
held_longer m n s b low (inr h) =
    let all : length b ≡ suc (length s + 1) = ap length h ∙ ap suc (length-append s (255 ∷ [])) in
    omega arith

-- An encoding has at least as many bytes as its item has levels.
mutual
  depth_within : (v : Item) (b : List ℕ) → IsEncoding v b → depth v ≤ length b
  depth_within (integer n) b h = omega arith
  depth_within (bytes s) b h = omega arith
  depth_within (float x) b h = omega arith
  depth_within (text s) b h = omega arith
  depth_within (boolean x) b h = omega arith
  depth_within null b h = omega arith
  depth_within (tag t v) b h = let inside = depth_within v h.0 h.1 in let more = headed_longer 6 t h.0 b (omega arith) h.2 in omega arith
  depth_within (array vs) b h = let inside = depths_within vs h.0 h.1 in let more = held_longer 4 (items_count vs) h.0 b (omega arith) h.2 in omega arith
  depth_within (dict ps) b h = let inside = pair_depths_within ps h.0 h.1 in let more = held_longer 5 (pairs_count ps) h.0 b (omega arith) h.2 in omega arith

  depths_within : (vs : Items) (b : List ℕ) → AreEncodings vs b → items_depth vs ≤ length b
  depths_within no_items b h = omega arith
  depths_within (item v vs) b h =
      let here = depth_within v h.0 h.2 in
      let there = depths_within vs h.1 h.3 in
      let all : length b ≡ length h.0 + length h.1 = ap length h.4 ∙ length-append h.0 h.1 in
      omega arith

  pair_depths_within : (ps : Pairs) (b : List ℕ) → ArePairEncodings ps b → pairs_depth ps ≤ length b
  pair_depths_within no_pairs b h = omega arith
  pair_depths_within (pair k v ps) b h =
      let key = depth_within k h.0 h.3 in
      let value = depth_within v h.1 h.4 in
      let there = pair_depths_within ps h.2 h.5 in
      let rest : length (h.1 ++ h.2) ≡ length h.1 + length h.2 = length-append h.1 h.2 in
      let all : length b ≡ length h.0 + length (h.1 ++ h.2) = ap length h.6 ∙ length-append h.0 (h.1 ++ h.2) in
      omega arith

-- So a reader whose depth is the number of bytes reads the encoding.
read_whole : (v : Item) (b : List ℕ) → IsEncoding v b → item_at (length b) b ≡ Ok (v, [])
read_whole v b h = ap (item_at (length b)) (sym (append-nil b)) ∙ item_again (length b) v b [] h (depth_within v b h)

abbrev done : Item × List ℕ → Result (Item × List ℕ) Fault
done x = Ok x

abbrev failed : Fault → Result (Item × List ℕ) Fault
failed f = Err f

apart : (x : Item × List ℕ) (f : Fault) → done x ≡ failed f → ⊥
apart x f e = cc

-- If reading fails, the bytes are no encoding.
pub no_encoding : (b : List ℕ) (f : Fault) → item_at (length b) b ≡ Err f → (v : Item) → IsEncoding v b → ⊥
no_encoding b f e v is = apart (v, []) f (sym (read_whole v b is) ∙ e)

-- If bytes are left after reading, the whole is no encoding.
pub no_whole_encoding : (b rest : List ℕ) (x : Item) → item_at (length b) b ≡ Ok (x, rest) → (length rest ≡ 0 → ⊥) → (v : Item) → IsEncoding v b → ⊥
no_whole_encoding b rest x e some v is = some (ap (λ (y : Item × List ℕ). length y.1) (sym (ok_is (v, []) (x, rest) (sym (read_whole v b is) ∙ e))))

-- Bytes that are read to the end are an encoding of the resulting item.
pub encoding_read : (b rest : List ℕ) (x : Item) → IsBytes b → item_at (length b) b ≡ Ok (x, rest) → length rest ≡ 0 → IsEncoding x b
encoding_read b rest x fits e none =
    let t = item_takes (length b) b (x, rest) fits e in
    subst (λ (c : List ℕ). IsEncoding x c) (sym (t.parts ∙ ap (λ (r : List ℕ). t.front ++ r) (empty rest none) ∙ append-nil t.front)) t.encoding.0
  where
    empty : (s : List ℕ) → length s ≡ 0 → s ≡ []
    empty [] h = refl
    empty (y ∷ s) h = absurd cc
