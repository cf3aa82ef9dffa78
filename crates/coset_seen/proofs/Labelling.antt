-- Headers, from their pairs.
use Rattle.std.proofs.Common.{◌≡◌, ◌≢◌, ◌∙◌, ◌++◌, ◌+◌, ◌*◌, ℕ, suc, ℤ, pos, negsuc, List, [], ◌∷◌, Option, Some, None, Bool, true, false, true≢false, cond}
use Rattle.std.proofs.Common.{Bor, refl, sym, ap, subst, inl, inr, arith, FitsSigned}
use Rattle.std.specs.Int.{w64}
use Rattle.std.specs.Ordering.{int_eq}
use Rattle.std.specs.Option.{option_or}
use Rattle.std.specs.Prelude.{IfSome, MatchOption, option_map}
use Rattle.std.proofs.lemmas.Bool.Decides.{Decides-int_eq}
use Rattle.std.proofs.lemmas.List.{append_assoc}
use Rattle.coset.specs.Grammar.{ArePairEncodings, EnclosesContent, IsHead}
use Rattle.coset.specs.Item.{Item, Pairs, no_pairs, pair, bytes, integer, pairs_count}
use Rattle.coset.specs.LabelData.{RegisteredLabelView, assigned, private_use, text_name}
use Rattle.coset.specs.Labels.{algorithm}
use Rattle.coset.specs.Parts.{as_integer}
use Rattle.coset.specs.ShapeLaws.{some-none, some-one}
use Rattle.coset_seen.specs.declared.forward.Ahead.{Ahead}
use Rattle.coset_seen.specs.declared.header.Named.{Named}
use Rattle.coset_seen.specs.declared.labels.Header.{Header}
use Rattle.coset_seen.specs.Begins.{IsAhead, Opens}
use Rattle.coset_seen.specs.Labels.{BeginsHeader, BeginsPairs, EndsWith, GoesOn, Has, IsNoNumber, IsNumber, NamesAlgorithm}
use Rattle.coset_seen.specs.Labels.{Takes, TakesAlgorithm, TakesKeyId, TakesNone, is_key}
use Rattle.coset_seen.specs.Labels.{TakesNumber, is_text, key_id_item, names_algorithm, value_if}
use Rattle.coset_seen.specs.Named.{AreNamed, BeginsPlain, is_same, value_of}
use Rattle.coset_seen.specs.Plain.{ArePlain, IsPlainValue}
use Rattle.coset_seen.proofs.Fronts.{ahead_in}
use Rattle.coset_seen.proofs.Walking.{named_in}

none_is : {A : Type 0} {x : A} → None ≡ Some x → ⊥
none_is p = some-none refl (sym p)

some_is : {A : Type 0} {x y : A} → Some x ≡ Some y → x ≡ y
some_is p = some-one refl p

-- ---- plain pairs

-- The value under a label describes a header parameter.
plain_value : (n last : ℤ) (ps : Pairs) (w : Item) → ArePlain last ps → value_of n ps ≡ Some w → IsPlainValue n w
plain_value n last no_pairs w h e = absurd (none_is e)
plain_value n last (pair k v ps) w h e = go (int_eq h.0 n) refl (plain_value n h.0 ps w h.4)
  where
    key : is_same int_eq (as_integer k) n ≡ int_eq h.0 n
    key = ap (λ o. is_same int_eq o n) h.1.0

    go : (b : Bool) → int_eq h.0 n ≡ b → (value_of n ps ≡ Some w → IsPlainValue n w) → IsPlainValue n w
    go true f later =
        let is : h.0 ≡ n = (Decides-int_eq h.0 n).0 f in
        let here : Some v ≡ Some w = sym (ap (λ t. cond t (Some v) (value_of n ps)) (key ∙ f)) ∙ e in
        subst (λ m. IsPlainValue m w) is (subst (IsPlainValue h.0) (some_is here) h.3)
    go false f later = later (sym (ap (λ t. cond t (Some v) (value_of n ps)) (key ∙ f)) ∙ e)

-- Plain pairs have no crit.
no_critical : (last : ℤ) (ps : Pairs) → ArePlain last ps → value_of (pos 2) ps ≡ None
no_critical last ps h = go (value_of (pos 2) ps) refl
  where
    go : (o : Option Item) → value_of (pos 2) ps ≡ o → value_of (pos 2) ps ≡ None
    go None e = e
    go (Some w) e = absurd ((plain_value (pos 2) last ps w h e).no_crit refl)

integer_fits : (n : ℤ) → IsPlainValue (pos 1) (integer n) → FitsSigned w64 n
unfolding algorithm
integer_fits n h = go (h.alg refl)
  where
    go : (x : RegisteredLabelView) × algorithm.describes (integer n) x → FitsSigned w64 n
    go (assigned m, d) = subst (FitsSigned w64) (sym (some_is d.1.1.0)) d.1.1.1
    go (private_use m, d) = subst (FitsSigned w64) (sym (some_is d.1.1.0.0)) d.1.1.0.1
    go (text_name t, d) = absurd (true≢false d.0)

plain_algorithm :
    (ps : Pairs) (o : Option ℤ) → ArePlain (negsuc 0) ps → value_of (pos 1) ps ≡ option_map integer o → NamesAlgorithm (value_of (pos 1) ps) o false
plain_algorithm ps None h e = e
plain_algorithm ps (Some n) h e = (integer n, e, (refl, integer_fits n (plain_value (pos 1) (negsuc 0) ps (integer n) h e)))

pub plain_pairs : (count : ℕ) (b : List ℕ) (n : Named) (s : List ℕ) → BeginsPlain count b n s
    → BeginsPairs (Some count) b (record { named = n; has_text = false; is_critical = false; is_plain = true }) s
plain_pairs count b n s h = record {
  pairs = h.pairs;
  encoding = h.encoding;
  are_encoded = h.are_encoded;
  ends = (h.counted, h.parts);
  has = record {
    algorithm = plain_algorithm h.pairs n.algorithm h.are_plain h.named.algorithm;
    critical = λ f. no_critical (negsuc 0) h.pairs h.are_plain;
    key_id = h.named.key_id;
    plain = λ f. (h.are_plain, refl);
    flat = λ f. h.flat f.1;
  };
  placed = h.placed;
}

-- What a plain header names.
pub named_of : (ps : Pairs) (h : Header) → Has ps h → h.is_plain ≡ true → AreNamed ps h.named
named_of ps h has plain = record {
  algorithm = go (value_of (pos 1) ps) h.named.algorithm h.has_text (has.plain plain).1 has.algorithm;
  key_id = has.key_id;
}
  where
    is_integer : (w : Item) (n : ℤ) → as_integer w ≡ Some n → w ≡ integer n
    is_integer (integer m) n e = ap integer (some_is e)
    is_integer w n e = absurd (none_is e)

    go : (o : Option Item) (a : Option ℤ) (t : Bool) → t ≡ false → NamesAlgorithm o a t → o ≡ option_map integer a
    go o (Some n) t f h = h.1 ∙ ap Some (is_integer h.0 n h.2.0)
    go o None false f h = h
    go o None true f h = absurd (true≢false f)

-- The pairs of an empty header.
pub has_none : (t : Bool) (h : Header) → TakesNone t h → Has no_pairs h
has_none t h e = record {
  algorithm = subst (λ a. NamesAlgorithm None a h.has_text) (sym e.algorithm) (subst (NamesAlgorithm None None) (sym e.has_text) refl);
  critical = λ f. refl;
  key_id = ap (option_map (λ t. bytes t.bytes.now)) (sym e.key_id);
  plain = λ f. (tt, e.has_text);
  flat = λ f. refl;
}

-- ---- one more pair

-- A key is one integer.
other_key : (k : Item) (n m : ℤ) → n ≢ m → is_key n k ≡ true → is_key m k ≡ false
other_key k n m apart = go (as_integer k)
  where
    false_for : (i : ℤ) → i ≡ n → (t : Bool) → int_eq i m ≡ t → t ≡ false
    false_for i e true f = absurd (apart (sym e ∙ (Decides-int_eq i m).0 f))
    false_for i e false f = refl

    go : (o : Option ℤ) → is_same int_eq o n ≡ true → is_same int_eq o m ≡ false
    go None f = absurd (true≢false (sym f))
    go (Some i) f = false_for i ((Decides-int_eq i n).0 f) (int_eq i m) refl

-- The value of a key that isn't this one.
without : (o : Option Item) (t : Bool) (v : Item) → t ≡ false → option_or o (value_if t v) ≡ o
without None false v e = refl
without (Some w) false v e = refl
without o true v e = absurd (true≢false e)

module _ (b : List ℕ) (k v : Item) (h x : Header) where
  same_algorithm : x.named.algorithm ≡ h.named.algorithm → x.has_text ≡ h.has_text → is_key (pos 1) k ≡ false → (o : Option Item)
      → NamesAlgorithm o h.named.algorithm h.has_text
      → NamesAlgorithm (option_or o (value_if (is_key (pos 1) k) v)) x.named.algorithm x.has_text
  same_algorithm same text other o n =
      subst (λ y. NamesAlgorithm y x.named.algorithm x.has_text) (sym (without o (is_key (pos 1) k) v other))
      (subst (λ a. NamesAlgorithm o a x.has_text) (sym same) (subst (NamesAlgorithm o h.named.algorithm) (sym text) n))

  same_key_id : x.named.key_id ≡ h.named.key_id → is_key (pos 4) k ≡ false
      → key_id_item x.named ≡ option_or (key_id_item h.named) (value_if (is_key (pos 4) k) v)
  same_key_id same other = ap (option_map (λ t. bytes t.bytes.now)) same ∙ sym (without (key_id_item h.named) (is_key (pos 4) k) v other)

  pub takes_algorithm : is_key (pos 1) k ≡ true → TakesAlgorithm h v x → Takes b k v h x
  takes_algorithm is it = record {
    algorithm = λ o n. subst (λ t. NamesAlgorithm (option_or o (value_if t v)) x.named.algorithm x.has_text) (sym is) (it.algorithm o n);
    critical = λ f. (sym it.is_critical ∙ f, other_key k (pos 1) (pos 2) (λ e. grind (arith, e)) is);
    key_id = same_key_id it.key_id (other_key k (pos 1) (pos 4) (λ e. grind (arith, e)) is);
    placed = λ c y parts old. subst (λ o. IfSome o (IsAhead c)) (sym it.key_id) old;
    is_plain = it.is_plain;
  }

  pub takes_critical : is_key (pos 2) k ≡ true → x.named ≡ h.named → x.has_text ≡ h.has_text → x.is_critical ≡ true → x.is_plain ≡ h.is_plain
      → Takes b k v h x
  takes_critical is same text critical plain = record {
    algorithm = same_algorithm (ap (λ n. n.algorithm) same) text (other_key k (pos 2) (pos 1) (λ e. grind (arith, e)) is);
    critical = λ f. absurd (true≢false (sym critical ∙ f));
    key_id = same_key_id (ap (λ n. n.key_id) same) (other_key k (pos 2) (pos 4) (λ e. grind (arith, e)) is);
    placed = λ c y parts old. subst (λ n. IfSome n.key_id (IsAhead c)) (sym same) old;
    is_plain = plain;
  }

  pub takes_key_id : (t : Ahead) → is_key (pos 4) k ≡ true → TakesKeyId h t x → v ≡ bytes t.bytes.now → IsAhead b t → Takes b k v h x
  takes_key_id t is it value ahead = record {
    algorithm = same_algorithm it.algorithm it.has_text (other_key k (pos 4) (pos 1) (λ e. grind (arith, e)) is);
    critical = λ f. (sym it.is_critical ∙ f, other_key k (pos 4) (pos 2) (λ e. grind (arith, e)) is);
    key_id = ap (option_map (λ u. bytes u.bytes.now)) it.key_id
        ∙ (first h.named.key_id ∙ ap (λ z. option_or (key_id_item h.named) (value_if z v)) (sym is));
    placed = λ c y parts old. subst (λ o. IfSome o (IsAhead c)) (sym it.key_id) (either h.named.key_id c y parts old);
    is_plain = it.is_plain;
  }
    where
      first : (o : Option Ahead) → option_map (λ u. bytes u.bytes.now) (option_or o (Some t)) ≡ option_or (option_map (λ u. bytes u.bytes.now) o) (Some v)
      first (Some u) = refl
      first None = ap Some (sym value)

      either : (o : Option Ahead) (c y : List ℕ) → c ≡ y ++ b → IfSome o (IsAhead c) → IfSome (option_or o (Some t)) (IsAhead c)
      either (Some u) c y parts old = old
      either None c y parts old = ahead_in c y b t parts ahead

pub takes_other : (b : List ℕ) (k v : Item) (h : Header) → is_key (pos 1) k ≡ false → is_key (pos 2) k ≡ false → is_key (pos 4) k ≡ false → Takes b k v h h
takes_other b k v h one two four = record {
  algorithm = same_algorithm b k v h h refl refl one;
  critical = λ f. (f, two);
  key_id = same_key_id b k v h h refl four;
  placed = λ c y parts old. old;
  is_plain = refl;
}

-- The first algorithm is kept.
pub algorithm_kept : (h : Header) (v : Item) → names_algorithm h.named.algorithm h.has_text ≡ true → TakesAlgorithm h v h
algorithm_kept h v is = record {
  algorithm = λ o n. go o h.named.algorithm h.has_text is n;
  key_id = refl;
  is_critical = refl;
  is_plain = refl;
}
  where
    there : (o : Option Item) (w : Item) → o ≡ Some w → option_or o (Some v) ≡ Some w
    there None w e = absurd (none_is e)
    there (Some u) w e = e

    go : (o : Option Item) (a : Option ℤ) (t : Bool) → names_algorithm a t ≡ true → NamesAlgorithm o a t → NamesAlgorithm (option_or o (Some v)) a t
    go o (Some n) t e h = (h.0, there o h.0 h.1, h.2)
    go o None true e h = (h.0, there o h.0 h.1, h.2)
    go o None false e h = absurd (true≢false (sym e))

-- The first algorithm is taken.
pub algorithm_taken :
    (h x : Header) (v : Item) (a : Option ℤ) → names_algorithm h.named.algorithm h.has_text ≡ false → MatchOption a (IsNoNumber v) (IsNumber v)
    → TakesNumber h a x → TakesAlgorithm h v x
algorithm_taken h x v a none is it = record {
  algorithm = λ o n. subst (λ y. NamesAlgorithm (option_or o (Some v)) y x.has_text) (sym it.algorithm)
      (subst (NamesAlgorithm (option_or o (Some v)) a) (sym it.has_text)
      (subst (λ y. NamesAlgorithm y a (is_text a)) (ap (λ y. option_or y (Some v)) (sym (nothing o h.named.algorithm h.has_text none n))) (found a is)));
  key_id = it.key_id;
  is_critical = it.is_critical;
  is_plain = it.is_plain;
}
  where
    nothing : (o : Option Item) (a : Option ℤ) (t : Bool) → names_algorithm a t ≡ false → NamesAlgorithm o a t → o ≡ None
    nothing o (Some n) t e h = absurd (true≢false e)
    nothing o None true e h = absurd (true≢false e)
    nothing o None false e h = h

    found : (a : Option ℤ) → MatchOption a (IsNoNumber v) (IsNumber v) → NamesAlgorithm (Some v) a (is_text a)
    found (Some n) h = (v, refl, h)
    found None h = (v, refl, h)

-- ---- any pairs

-- With the pairs qs, which are encoded up to a, the pairs from b on have the values o, of alg, and those of h.
pub record Completes (n : ℕ) (b : List ℕ) (o : Option Item) (h : Header) (a : List ℕ) (qs : Pairs) : Type 0 where
  pub pairs : Pairs
  pub encoding : List ℕ
  pub parts : b ≡ encoding ++ a
  pub are_encoded : ArePairEncodings pairs encoding
  pub counted : pairs_count pairs ≡ n + pairs_count qs
  pub algorithm : value_of (pos 1) pairs ≡ option_or o (value_of (pos 1) qs)
  pub critical : h.is_critical ≡ false → value_of (pos 2) pairs ≡ value_of (pos 2) qs
  pub key_id : value_of (pos 4) pairs ≡ option_or (key_id_item h.named) (value_of (pos 4) qs)

-- The walk from b has come to s, and n pairs were read.
pub record Passed (n : ℕ) (b s : List ℕ) (h : Header) : Type 0 where
  pub algorithm : Option Item
  pub names : NamesAlgorithm algorithm h.named.algorithm h.has_text
  pub completes : (qs : Pairs) (c a : List ℕ) → s ≡ c ++ a → ArePairEncodings qs c → Completes n b algorithm h a qs
  pub passed : List ℕ
  pub parts : b ≡ passed ++ s
  pub placed : IfSome h.named.key_id (IsAhead b)
  pub is_plain : h.is_plain ≡ false

pub begun : (b : List ℕ) (h : Header) → TakesNone false h → Passed 0 b b h
begun b h e = record {
  algorithm = None;
  names = (has_none false h e).algorithm;
  completes = λ qs c a is enc. record {
    pairs = qs;
    encoding = c;
    parts = is;
    are_encoded = enc;
    counted = omega (arith);
    algorithm = refl;
    critical = λ f. refl;
    key_id = ap (λ o. option_or (option_map (λ t. bytes t.bytes.now) o) (value_of (pos 4) qs)) (sym e.key_id);
  };
  passed = [];
  parts = refl;
  placed = subst (λ o. IfSome o (IsAhead b)) (sym e.key_id) tt;
  is_plain = e.is_plain;
}

-- Reading one more pair.
pub goes_on : (n m : ℕ) (b s r : List ℕ) (h x : Header) → m ≡ suc n → Passed n b s h → GoesOn s h x r → Passed m b r x
goes_on n m b s r h x more w it =
    let k : List ℕ = it.begins.0 in
    let d : List ℕ = it.value_begins.0 in record {
      algorithm = option_or w.algorithm (value_if (is_same int_eq (as_integer it.key) (pos 1)) it.value);
      names = it.takes.algorithm w.algorithm w.names;
      completes = λ qs c a e enc.
          let all : Completes n b w.algorithm h a (pair it.key it.value qs) =
          w.completes (pair it.key it.value qs) (k ++ (d ++ c)) a
          (it.begins.2 ∙ (ap (λ y. k ++ y) (it.value_begins.2 ∙ ap (λ y. d ++ y) e) ∙ shift k d c a))
          (k, d, c, it.begins.1, it.value_begins.1, enc, refl) in
          record {
            pairs = all.pairs;
            encoding = all.encoding;
            parts = all.parts;
            are_encoded = all.are_encoded;
            counted = all.counted ∙ (plus_suc n (pairs_count qs) ∙ ap (λ z. z + pairs_count qs) (sym more));
            algorithm = all.algorithm ∙ or_goes w.algorithm (value_of (pos 1) qs) (is_same int_eq (as_integer it.key) (pos 1)) it.value;
            critical = λ f. let g = it.takes.critical f in all.critical g.0 ∙ ap (λ t. cond t (Some it.value) (value_of (pos 2) qs)) g.1;
            key_id = all.key_id
                ∙ (or_goes (key_id_item h.named) (value_of (pos 4) qs) (is_same int_eq (as_integer it.key) (pos 4)) it.value
                ∙ ap (λ o. option_or o (value_of (pos 4) qs)) (sym it.takes.key_id));
          };
      passed = w.passed ++ (k ++ d);
      parts = w.parts ∙ (ap (λ y. w.passed ++ y) (it.begins.2 ∙ ap (λ y. k ++ y) it.value_begins.2) ∙ shift2 w.passed k d r);
      placed = it.takes.placed b (w.passed ++ k)
          (w.parts ∙ (ap (λ y. w.passed ++ y) it.begins.2 ∙ sym (append_assoc w.passed k it.at))) w.placed;
      is_plain = it.takes.is_plain ∙ w.is_plain;
    }
  where
    plus_suc : (a c : ℕ) → a + suc c ≡ suc a + c
    plus_suc a c = omega (arith)

    or_goes : (o r : Option Item) (t : Bool) (v : Item) → option_or o (cond t (Some v) r) ≡ option_or (option_or o (value_if t v)) r
    or_goes (Some y) r t v = refl
    or_goes None r true v = refl
    or_goes None r false v = refl

    shift : (k d c a : List ℕ) → k ++ (d ++ (c ++ a)) ≡ (k ++ (d ++ c)) ++ a
    shift k d c a = ap (λ y. k ++ y) (sym (append_assoc d c a)) ∙ sym (append_assoc k (d ++ c) a)

    shift2 : (x k d r : List ℕ) → x ++ (k ++ (d ++ r)) ≡ (x ++ (k ++ d)) ++ r
    shift2 x k d r = ap (λ y. x ++ y) (sym (append_assoc k d r)) ∙ sym (append_assoc x (k ++ d) r)

-- The walk is at the end of the pairs.
pub ended :
    (count : Option ℕ) (n : ℕ) (b s r : List ℕ) (h : Header) → Passed n b s h
    → ((m : ℕ) (c : List ℕ) → m ≡ n + 0 → b ≡ c ++ s → EndsWith count m c r b) → BeginsPairs count b h r
ended count n b s r h w ends =
    let it = w.completes no_pairs [] s refl refl in record {
      pairs = it.pairs;
      encoding = it.encoding;
      are_encoded = it.are_encoded;
      ends = ends (pairs_count it.pairs) it.encoding it.counted it.parts;
      has = record {
        algorithm = subst (λ o. NamesAlgorithm o h.named.algorithm h.has_text) (sym (it.algorithm ∙ or_none w.algorithm)) w.names;
        critical = it.critical;
        key_id = it.key_id ∙ or_none (key_id_item h.named);
        plain = λ f. absurd (true≢false (sym f ∙ w.is_plain));
        flat = λ f. absurd (true≢false (sym f.0 ∙ w.is_plain));
      };
      placed = w.placed;
    }
  where
    or_none : (o : Option Item) → option_or o None ≡ o
    or_none None = refl
    or_none (Some x) = refl

-- ---- arrays and maps

-- The elements or pairs, with their head and their end.
pub enclosed :
    (t : ℕ) (count : Option ℕ) (m : ℕ) (b r c s : List ℕ) → Opens t count r b → EndsWith count m c s r
    → (e : List ℕ) × EnclosesContent t m c e × (b ≡ e ++ s)
enclosed t (Some n) m b r c s h e = (
  h.head ++ c,
  inl (record { head = h.head; is_head = subst (λ x. IsHead t x h.head) (sym e.0) h.is_head; parts = refl }),
  h.parts ∙ (ap (λ y. h.head ++ y) e.1 ∙ sym (append_assoc h.head c s)),
)
enclosed t None m b r c s h e = (
  (32 * t + 31) ∷ (c ++ (255 ∷ [])),
  inr refl,
  h ∙ ap (λ y. (32 * t + 31) ∷ y) (e ∙ sym (append_assoc c (255 ∷ []) s)),
)

-- The elements or pairs are after a head.
pub head_of : (t : ℕ) (count : Option ℕ) (r b : List ℕ) → Opens t count r b → (x : List ℕ) × (b ≡ x ++ r)
head_of t (Some n) r b h = (h.head, h.parts)
head_of t None r b h = ((32 * t + 31) ∷ [], h)

pub header_begins : (count : Option ℕ) (b r : List ℕ) (h : Header) (s : List ℕ) → Opens 5 count r b → BeginsPairs count r h s → BeginsHeader b h s
header_begins count b r h s opens p =
    let e = enclosed 5 count (pairs_count p.pairs) b r p.encoding s opens p.ends in
    let x = head_of 5 count r b opens in record {
      pairs = p.pairs;
      begins = (e.0, (p.encoding, p.are_encoded, e.1), e.2);
      has = p.has;
      placed = named_in b x.0 r h.named x.1 p.placed;
    }

pub header_found :
    (count : Option ℕ) (b r : List ℕ) (o : Option (Header × Bor (List ℕ))) → Opens 5 count r b → IfSome o (λ x. BeginsPairs count r x.0 x.1.now)
    → IfSome o (λ x. BeginsHeader b x.0 x.1.now)
header_found count b r None h p = p
header_found count b r (Some x) h p = header_begins count b r x.0 x.1.now h p
