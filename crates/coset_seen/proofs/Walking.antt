-- Reading plain pairs one after another.
use Rattle.std.proofs.Common.{◌≡◌, ◌≢◌, ◌<ℤ◌, ◌++◌, ◌∙◌, ℕ, suc, ℤ, pos, negsuc, List, [], Option, Some, None, Bool, true, false, cond}
use Rattle.std.proofs.Common.{refl, sym, ap, subst, arith, max, true≢false, FitsSigned}
use Rattle.std.specs.Int.{w64}
use Rattle.std.specs.Ordering.{int_eq}
use Rattle.std.specs.Option.{option_or}
use Rattle.std.specs.Prelude.{IfSome, option_map}
use Rattle.std.proofs.lemmas.Bool.Decides.{Decides-int_eq}
use Rattle.std.proofs.lemmas.List.{append_assoc}
use Rattle.coset.specs.Item.{Item, Pairs, no_pairs, pair, bytes, depth, integer, pairs_count, pairs_depth}
use Rattle.coset.specs.Grammar.{ArePairEncodings}
use Rattle.coset_seen.specs.declared.forward.Ahead.{Ahead}
use Rattle.coset_seen.specs.declared.header.Named.{Named}
use Rattle.coset_seen.specs.declared.header.Parameter as parameters
use Rattle.coset_seen.specs.declared.header.Parameter.TheVariants.{Algorithm, Flat, KeyId, Other}
use Rattle.coset_seen.specs.Begins.{Begins, IsAhead}
use Rattle.coset_seen.specs.Named.{BeginsPlain, IsParameter, IsPlaced, Says, value_of, with_parameter}
use Rattle.coset_seen.proofs.Fronts.{ahead_in}
use Rattle.coset_seen.specs.Plain.{ArePlain}

abbrev pub algorithm_item : Named → Option Item
algorithm_item n = option_map integer n.algorithm

abbrev pub key_id_item : Named → Option Item
key_id_item n = option_map (λ t. bytes t.bytes.now) n.key_id

-- With the pairs qs, which are encoded up to a, the pairs from b on are plain.
pub record Completes (count : ℕ) (b : List ℕ) (n : Named) (a : List ℕ) (qs : Pairs) : Type 0 where
  pub pairs : Pairs
  pub encoding : List ℕ
  pub parts : b ≡ encoding ++ a
  pub are_encoded : ArePairEncodings pairs encoding
  pub counted : pairs_count pairs ≡ count
  pub are_plain : ArePlain (negsuc 0) pairs
  pub algorithm : value_of (pos 1) pairs ≡ option_or (algorithm_item n) (value_of (pos 1) qs)
  pub key_id : value_of (pos 4) pairs ≡ option_or (key_id_item n) (value_of (pos 4) qs)
  pub flat : n.is_flat ≡ true → pairs_depth qs ≡ 0 → pairs_depth pairs ≡ 0

-- The walk from b has come to s. `left` pairs are left, and the last label was `last`.
pub record Walked (count left : ℕ) (b s : List ℕ) (last : ℤ) (n : Named) : Type 0 where
  pub completes :
      (qs : Pairs) (c a : List ℕ) → s ≡ c ++ a → ArePairEncodings qs c → pairs_count qs ≡ left → ArePlain last qs → Completes count b n a qs
  pub no_algorithm : last <ℤ pos 1 → n.algorithm ≡ None
  pub no_key_id : last <ℤ pos 4 → n.key_id ≡ None
  pub passed : List ℕ
  pub parts : b ≡ passed ++ s
  pub placed : IfSome n.key_id (IsAhead b)

-- ---- one more pair

apart : (l n : ℤ) → l ≢ n → int_eq l n ≡ false
apart l n h = go (int_eq l n) refl
  where
    go : (b : Bool) → int_eq l n ≡ b → int_eq l n ≡ false
    go true e = absurd (h ((Decides-int_eq l n).0 e))
    go false e = e

same : (l n : ℤ) → l ≡ n → int_eq l n ≡ true
same l n h = (Decides-int_eq l n).1 h

-- The value of a label, with one more pair before the others.
other_label : (l n : ℤ) (v : Item) (qs : Pairs) → l ≢ n → value_of n (pair (integer l) v qs) ≡ value_of n qs
other_label l n v qs h = ap (λ b. cond b (Some v) (value_of n qs)) (apart l n h)

same_label : (l n : ℤ) (v : Item) (qs : Pairs) → l ≡ n → value_of n (pair (integer l) v qs) ≡ Some v
same_label l n v qs h = ap (λ b. cond b (Some v) (value_of n qs)) (same l n h)

algorithm_goes :
    (last l : ℤ) (v : Item) (n : Named) (p : parameters.Parameter) (qs : Pairs) → (last <ℤ pos 1 → n.algorithm ≡ None) → last <ℤ l → Says l v p
    → option_or (algorithm_item n) (value_of (pos 1) (pair (integer l) v qs)) ≡ option_or (algorithm_item (with_parameter n p)) (value_of (pos 1) qs)
algorithm_goes last l v n (Algorithm m) qs none above says =
    let at : last <ℤ pos 1 = subst (λ z. last <ℤ z) says.0 above in
    ap (λ o. option_or (option_map integer o) (value_of (pos 1) (pair (integer l) v qs))) (none at)
    ∙ (same_label l (pos 1) v qs says.0 ∙ ap Some says.1)
algorithm_goes last l v n (KeyId t) qs none above says =
    ap (λ o. option_or (algorithm_item n) o) (other_label l (pos 1) v qs (λ h. let s = says.0 in grind arith))
algorithm_goes last l v n Flat qs none above says = ap (λ o. option_or (algorithm_item n) o) (other_label l (pos 1) v qs says.0)
algorithm_goes last l v n Other qs none above says = ap (λ o. option_or (algorithm_item n) o) (other_label l (pos 1) v qs says.0)

key_id_goes :
    (last l : ℤ) (v : Item) (n : Named) (p : parameters.Parameter) (qs : Pairs) → (last <ℤ pos 4 → n.key_id ≡ None) → last <ℤ l → Says l v p
    → option_or (key_id_item n) (value_of (pos 4) (pair (integer l) v qs)) ≡ option_or (key_id_item (with_parameter n p)) (value_of (pos 4) qs)
key_id_goes last l v n (KeyId t) qs none above says =
    let at : last <ℤ pos 4 = subst (λ z. last <ℤ z) says.0 above in
    ap (λ o. option_or (option_map (λ t. bytes t.bytes.now) o) (value_of (pos 4) (pair (integer l) v qs))) (none at)
    ∙ (same_label l (pos 4) v qs says.0 ∙ ap Some says.1)
key_id_goes last l v n (Algorithm m) qs none above says =
    ap (λ o. option_or (key_id_item n) o) (other_label l (pos 4) v qs (λ h. let s = says.0 in grind arith))
key_id_goes last l v n Flat qs none above says = ap (λ o. option_or (key_id_item n) o) (other_label l (pos 4) v qs says.1)
key_id_goes last l v n Other qs none above says = ap (λ o. option_or (key_id_item n) o) (other_label l (pos 4) v qs says.1)

-- One more pair is flat.
flat_goes :
    (l : ℤ) (v : Item) (n : Named) (p : parameters.Parameter) (qs : Pairs) → Says l v p → (with_parameter n p).is_flat ≡ true → pairs_depth qs ≡ 0
    → (n.is_flat ≡ true) × (pairs_depth (pair (integer l) v qs) ≡ 0)
flat_goes l v n p qs says flat rest = go p says flat
  where
    with_value : depth v ≡ 0 → pairs_depth (pair (integer l) v qs) ≡ 0
    with_value e = ap (λ m. max 0 (max m (pairs_depth qs))) e ∙ ap (λ m. max 0 (max 0 m)) rest

    go : (p : parameters.Parameter) → Says l v p → (with_parameter n p).is_flat ≡ true → (n.is_flat ≡ true) × (pairs_depth (pair (integer l) v qs) ≡ 0)
    go (Algorithm m) s f = (f, with_value (ap depth s.1))
    go (KeyId t) s f = (f, with_value (ap depth s.1))
    go Flat s f = (f, with_value s.2)
    go Other s f = absurd (true≢false (sym f))

no_algorithm_yet : (last l : ℤ) (v : Item) (n : Named) (p : parameters.Parameter) → (last <ℤ pos 1 → n.algorithm ≡ None) → last <ℤ l → Says l v p → l <ℤ pos 1
    → (with_parameter n p).algorithm ≡ None
no_algorithm_yet last l v n (Algorithm m) none above says below = let s = says.0 in absurd (grind arith)
no_algorithm_yet last l v n (KeyId t) none above says below = none (grind arith)
no_algorithm_yet last l v n Flat none above says below = none (grind arith)
no_algorithm_yet last l v n Other none above says below = none (grind arith)

no_key_id_yet : (last l : ℤ) (v : Item) (n : Named) (p : parameters.Parameter) → (last <ℤ pos 4 → n.key_id ≡ None) → last <ℤ l → Says l v p → l <ℤ pos 4
    → (with_parameter n p).key_id ≡ None
no_key_id_yet last l v n (Algorithm m) none above says below = none (grind arith)
no_key_id_yet last l v n (KeyId t) none above says below = let s = says.0 in absurd (grind arith)
no_key_id_yet last l v n Flat none above says below = none (grind arith)
no_key_id_yet last l v n Other none above says below = none (grind arith)

-- A key identifier found in a later part of b is in b.
placed_in : (b x s r : List ℕ) (n : Named) (p : parameters.Parameter) → b ≡ x ++ s → IfSome n.key_id (IsAhead b) → IsPlaced s p
    → IfSome (with_parameter n p).key_id (IsAhead b)
placed_in b x s r n (Algorithm m) parts old placed = old
placed_in b x s r n (KeyId t) parts old placed = ahead_in b x s t parts placed
placed_in b x s r n Flat parts old placed = old
placed_in b x s r n Other parts old placed = old

-- Reading a label and its value.
pub goes_on :
    (count left more : ℕ) (b s t r : List ℕ) (last l : ℤ) (n : Named) (p : parameters.Parameter) → Walked count left b s last n → left ≡ suc more
    → Begins (integer l) t s → FitsSigned w64 l → last <ℤ l → IsParameter l t p r
    → Walked count more b r l (with_parameter n p)
goes_on count left more b s t r last l n p w counts label fits above value =
    let k : List ℕ = label.0 in
    let d : List ℕ = value.begins.0 in record {
      completes = λ qs c a e enc number plain.
          let it : Completes count b n a (pair (integer l) value.value qs) =
          w.completes (pair (integer l) value.value qs) (k ++ (d ++ c)) a
          (label.2 ∙ (ap (λ y. k ++ y) (value.begins.2 ∙ ap (λ y. d ++ y) e) ∙ shift k d c a))
          (k, d, c, label.1, value.begins.1, enc, refl) (ap suc number ∙ sym counts) (l, (refl, fits), above, value.is_plain, plain) in
          record {
            pairs = it.pairs;
            encoding = it.encoding;
            parts = it.parts;
            are_encoded = it.are_encoded;
            counted = it.counted;
            are_plain = it.are_plain;
            algorithm = it.algorithm ∙ algorithm_goes last l value.value n p qs w.no_algorithm above value.says;
            key_id = it.key_id ∙ key_id_goes last l value.value n p qs w.no_key_id above value.says;
            flat = λ f none. let g = flat_goes l value.value n p qs value.says f none in it.flat g.0 g.1;
          };
      no_algorithm = no_algorithm_yet last l value.value n p w.no_algorithm above value.says;
      no_key_id = no_key_id_yet last l value.value n p w.no_key_id above value.says;
      passed = w.passed ++ (k ++ d);
      parts = w.parts ∙ (ap (λ y. w.passed ++ y) (label.2 ∙ ap (λ y. k ++ y) value.begins.2) ∙ shift2 w.passed k d r);
      placed = placed_in b (w.passed ++ k) t r n p (w.parts ∙ (ap (λ y. w.passed ++ y) label.2 ∙ sym (append_assoc w.passed k t))) w.placed value.placed;
    }
  where
    shift : (k d c a : List ℕ) → k ++ (d ++ (c ++ a)) ≡ (k ++ (d ++ c)) ++ a
    shift k d c a = ap (λ y. k ++ y) (sym (append_assoc d c a)) ∙ sym (append_assoc k (d ++ c) a)

    shift2 : (x k d r : List ℕ) → x ++ (k ++ (d ++ r)) ≡ (x ++ (k ++ d)) ++ r
    shift2 x k d r = ap (λ y. x ++ y) (sym (append_assoc k d r)) ∙ sym (append_assoc x (k ++ d) r)

-- No pair is left.
pub ended : (count : ℕ) (b s : List ℕ) (last : ℤ) (n : Named) → Walked count 0 b s last n → BeginsPlain count b n s
ended count b s last n w =
    let it = w.completes no_pairs [] s refl refl refl tt in record {
      pairs = it.pairs;
      encoding = it.encoding;
      parts = it.parts;
      are_encoded = it.are_encoded;
      counted = it.counted;
      are_plain = it.are_plain;
      named = record { algorithm = it.algorithm ∙ or_none (algorithm_item n); key_id = it.key_id ∙ or_none (key_id_item n) };
      flat = λ f. it.flat f refl;
      placed = w.placed;
    }
  where
    or_none : (o : Option Item) → option_or o None ≡ o
    or_none None = refl
    or_none (Some x) = refl

-- The key identifier that a header in a later part of b names is ahead of b.
pub named_in : (b x s : List ℕ) (n : Named) → b ≡ x ++ s → IfSome n.key_id (IsAhead s) → IfSome n.key_id (IsAhead b)
named_in b x s n e h = go n.key_id h
  where
    go : (o : Option Ahead) → IfSome o (IsAhead s) → IfSome o (IsAhead b)
    go None h = h
    go (Some t) h = ahead_in b x s t e h
