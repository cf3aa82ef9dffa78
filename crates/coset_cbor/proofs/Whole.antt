-- The results of reading a whole input.
use Rattle.std.proofs.Common.{◌≡◌, ℕ, ◌-◌, ◌≤◌, zero, suc, Bool, true, false, ltb, List, [], ◌∷◌, ◌++◌, length, take, Result, Ok, Err, refl, sym, ap, subst}
use Rattle.std.proofs.Common.{◌∙◌, arith}
use Rattle.std.specs.Prelude.{◌&&◌}
use Rattle.std.proofs.lemmas.Bool.{ltb-true, lt-ltb}
use Rattle.std.proofs.lemmas.List.{length-append, take_at, append-nil}
use Rattle.coset_cbor.specs.declared.fault.Fault.{Fault}
use Rattle.coset_value.specs.Item.{Item}
use Rattle.coset_cbor.specs.Grammar.{IsEncoding, IsItem}
use Rattle.coset_cbor.specs.Reading.{item_at}
use Rattle.coset_cbor.specs.Faults.{FaultAt}
use Rattle.coset_cbor.proofs.Refusals.{item_fault}
use Rattle.coset_cbor.proofs.Again.{item_again, encodings_differ}
use Rattle.coset_cbor.specs.Cost.{IsCost}
use Rattle.coset_cbor.specs.Whole.{are_bytes, is_all, item_or_null, is_one_item, item_of}
use Rattle.coset_cbor.specs.Counting.{left_of, item_steps}
use Rattle.coset_cbor.proofs.Takes.{ok_is, IsBytes, IsBytes-take, item_takes}
use Rattle.coset_cbor.proofs.Costs.{has_cost, item_exact}

pub rest_shorter : (s : List ℕ) (x : Item × List ℕ) → IsBytes s → item_at 256 s ≡ Ok x → length x.1 ≤ length s
rest_shorter s x fits e =
    let t = item_takes 256 s x fits e in
    omega (arith, ap length t.parts ∙ length-append t.front x.1)

pub front_is : (s : List ℕ) (x : Item × List ℕ) → IsBytes s → item_at 256 s ≡ Ok x → IsItem (take (length s - length x.1) s) x.0
front_is s x fits e =
    let t = item_takes 256 s x fits e in
    let len : length t.front ≡ length s - length x.1 = omega (arith, ap length t.parts ∙ length-append t.front x.1) in
    let is : take (length s - length x.1) s ≡ t.front = ap (take (length s - length x.1)) t.parts ∙ take_at t.front x.1 (length s - length x.1) len in
    subst (λ (b : List ℕ). IsItem b x.0) (sym is) t.encoding

abbrev done : Item × List ℕ → Result (Item × List ℕ) Fault
done x = Ok x

abbrev failed : Fault → Result (Item × List ℕ) Fault
failed f = Err f

apart : (x : Item × List ℕ) (f : Fault) → done x ≡ failed f → ⊥
apart x f e = cc

pub no_front : (s : List ℕ) (f : Fault) → item_at 256 s ≡ Err f → (v : Item) (b rest : List ℕ) → s ≡ b ++ rest → IsItem b v → ⊥
no_front s f e v b rest parts is = apart (v, rest) f (sym (item_again 256 v b rest is.0 is.1) ∙ ap (item_at 256) (sym parts) ∙ e)

pub fault_is_there : (s : List ℕ) (f : Fault) → IsBytes s → item_at 256 s ≡ Err f → FaultAt 256 s f
fault_is_there s f fits e = item_fault 256 s f fits e

abbrev rest_is : List ℕ → Result (List ℕ) Fault
rest_is s = Ok s

abbrev fault_is : Fault → Result (List ℕ) Fault
fault_is f = Err f

-- If skipping succeeds, reading succeeds and leaves the same bytes.
pub passed_is_read : (r : Result (Item × List ℕ) Fault) (rest : List ℕ) → left_of r ≡ Ok rest → (v : Item) × (r ≡ Ok (v, rest))
passed_is_read (Ok x) rest e = (x.0, ap (λ (s : List ℕ). done (x.0, s)) (rest_same x.1 rest e))
  where
    rest_same : (s t : List ℕ) → rest_is s ≡ rest_is t → s ≡ t
    rest_same s t e = cc
passed_is_read (Err f) rest e = absurd (differ f rest e)
  where
    differ : (f : Fault) (s : List ℕ) → fault_is f ≡ rest_is s → ⊥
    differ f s e = cc

pub refused_is_fault : (r : Result (Item × List ℕ) Fault) (f : Fault) → left_of r ≡ Err f → r ≡ Err f
refused_is_fault (Ok x) f e = absurd (differ f x.1 e)
  where
    differ : (f : Fault) (s : List ℕ) → rest_is s ≡ fault_is f → ⊥
    differ f s e = cc
refused_is_fault (Err g) f e = ap failed (same g f e)
  where
    same : (f g : Fault) → fault_is f ≡ fault_is g → f ≡ g
    same f g e = cc

-- The result of a check: an item of n bytes at the start, and its cost.
pub record IsChecked (s : List ℕ) (n steps : ℕ) : Type 0 where
  pub within : n ≤ length s
  pub item : Item
  pub is_item : IsItem (take n s) item
  pub cost : IsCost item (take n s) steps

pub checked : (s rest : List ℕ) → IsBytes s → left_of (item_at 256 s) ≡ Ok rest → IsChecked s (length s - length rest) (item_steps 256 s)
checked s rest fits e =
    let read = passed_is_read (item_at 256 s) rest e in
    let t = item_takes 256 s (read.0, rest) fits read.1 in
    let len : length t.front ≡ length s - length rest = omega (arith, ap length t.parts ∙ length-append t.front rest) in
    let front : take (length s - length rest) s ≡ t.front = ap (take (length s - length rest)) t.parts ∙ take_at t.front rest (length s - length rest) len in
    let cost = has_cost read.0 t.front t.encoding.0 in
    let steps : item_steps 256 s ≡ cost.0 = ap (item_steps 256) t.parts ∙ item_exact 256 read.0 t.front rest cost.0 cost.1 t.encoding.1 in
    let exact = subst (λ (k : ℕ). IsCost read.0 t.front k) (sym steps) cost.1 in
    record {
      within = omega arith;
      item = read.0;
      is_item = front_is s (read.0, rest) fits read.1;
      cost = subst (λ (b : List ℕ). IsCost read.0 b (item_steps 256 s)) (sym front) exact;
    }

-- ---- bytes that are one item

pub both : (a b : Bool) → (a && b) ≡ true → (a ≡ true) × (b ≡ true)
both true b e = (refl, e)
both false b e = absurd cc

pub are_bytes_is : (s : List ℕ) → are_bytes s ≡ true → IsBytes s
are_bytes_is [] e i = omega arith
are_bytes_is (x ∷ s) e zero = ltb-true x 256 (both (ltb x 256) (are_bytes s) e).0
are_bytes_is (x ∷ s) e (suc i) = are_bytes_is s (both (ltb x 256) (are_bytes s) e).1 i

pub are_bytes_from : (s : List ℕ) → IsBytes s → are_bytes s ≡ true
are_bytes_from [] fits = refl
are_bytes_from (x ∷ s) fits = rw (lt-ltb x 256 (fits 0)) (are_bytes_from s (λ i. fits (suc i)))

whole_read : (r : Result (Item × List ℕ) Fault) → is_all r ≡ true → r ≡ done (item_or_null r, [])
whole_read (Ok (v, [])) e = refl
whole_read (Ok (v, x ∷ s)) e = absurd cc
whole_read (Err f) e = absurd cc

pub one_item_bytes : (b : List ℕ) → is_one_item b ≡ true → IsBytes b
unfolding is_one_item
one_item_bytes b e = are_bytes_is b (both (are_bytes b) (is_all (item_at 256 b)) e).0

-- One item is read as `item_of` its bytes.
pub one_item_read : (b : List ℕ) → is_one_item b ≡ true → item_at 256 b ≡ Ok (item_of b, [])
unfolding is_one_item item_of
one_item_read b e = whole_read (item_at 256 b) (both (are_bytes b) (is_all (item_at 256 b)) e).1

pub one_item_is : (b : List ℕ) → is_one_item b ≡ true → IsItem b (item_of b)
one_item_is b e =
    let t = item_takes 256 b (item_of b, []) (one_item_bytes b e) (one_item_read b e) in
    let is : t.front ≡ b = sym (append-nil t.front) ∙ sym t.parts in
    subst (λ (c : List ℕ). IsItem c (item_of b)) is t.encoding

-- One item's bytes encode no other item, of any depth.
pub item_alone : (b : List ℕ) → is_one_item b ≡ true → IsItem b (item_of b) × ((v : Item) → IsEncoding v b → v ≡ item_of b)
item_alone b one =
    let is = one_item_is b one in
    (is, λ v h. (encodings_differ v (item_of b) b b [] [] h is.0 refl).0)

item_read : (b : List ℕ) (v : Item) → IsItem b v → item_at 256 b ≡ Ok (v, [])
item_read b v is = ap (item_at 256) (sym (append-nil b)) ∙ item_again 256 v b [] is.0 is.1

pub one_item_from : (b : List ℕ) (v : Item) → IsBytes b → IsItem b v → is_one_item b ≡ true
unfolding is_one_item
one_item_from b v fits is = rw (are_bytes_from b fits) (ap is_all (item_read b v is))

pub item_of_one : (b : List ℕ) (v : Item) → IsItem b v → item_of b ≡ v
unfolding item_of
item_of_one b v is = ap item_or_null (item_read b v is)

-- A prefix that is an item passes the test `is_one_item`.
pub front_one_item : (s : List ℕ) (n : ℕ) (v : Item) (b : List ℕ) → IsBytes s → IsItem (take n s) v → b ≡ take n s → is_one_item b ≡ true
front_one_item s n v b fits is e = ap is_one_item e ∙ one_item_from (take n s) v (IsBytes-take n s fits) is

pub one_item_no_fault : (b : List ℕ) (f : Fault) → is_one_item b ≡ true → item_at 256 b ≡ Err f → ⊥
one_item_no_fault b f one e = apart (item_of b, []) f (sym (one_item_read b one) ∙ e)

pub one_item_value : (b : List ℕ) (v : Item) (rest : List ℕ) → is_one_item b ≡ true → item_at 256 b ≡ Ok (v, rest) → v ≡ item_of b
one_item_value b v rest one e = ap (λ (x : Item × List ℕ). x.0) (ok_is (v, rest) (item_of b, []) (sym e ∙ one_item_read b one))
