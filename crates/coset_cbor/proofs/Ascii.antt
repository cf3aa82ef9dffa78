-- Testing bytes for ASCII, several at a time.
use Rattle.std.proofs.Common.{◌≡◌, ℕ, zero, suc, ◌<◌, List, length, take, drop, get_or, subst, arith, bit_or}
use Rattle.std.proofs.lemmas.Nat.{le_or_l, le_or_r}
use Rattle.std.proofs.lemmas.List.{get_or_past, take-append-drop}
use Rattle.std.proofs.lemmas.Str.{IsAscii-append}
use Rattle.std.specs.Str.{IsAscii}

four_below : (a b c d k : ℕ) → bit_or (bit_or (bit_or a b) c) d < k → (a < k) × (b < k) × (c < k) × (d < k)
four_below a b c d k lt =
    let ab = bit_or a b in
    let abc = bit_or ab c in
    let e = le_or_l a b in
    let f = le_or_r a b in
    let g = le_or_l ab c in
    let h = le_or_r ab c in
    let i = le_or_l abc d in
    let j = le_or_r abc d in
    (omega arith, omega arith, omega arith, omega arith)

pub eight_ascii : (s : List ℕ) → length s ≡ 8
    → bit_or (bit_or (bit_or (bit_or (get_or s 0 0) (get_or s 1 0)) (get_or s 2 0)) (get_or s 3 0))
    (bit_or (bit_or (bit_or (get_or s 4 0) (get_or s 5 0)) (get_or s 6 0)) (get_or s 7 0)) < 128
    → (i : ℕ) → get_or s i 0 < 128
eight_ascii s len lt i =
    let front = bit_or (bit_or (bit_or (get_or s 0 0) (get_or s 1 0)) (get_or s 2 0)) (get_or s 3 0) in
    let back = bit_or (bit_or (bit_or (get_or s 4 0) (get_or s 5 0)) (get_or s 6 0)) (get_or s 7 0) in
    let l = le_or_l front back in
    let r = le_or_r front back in
    let p = four_below (get_or s 0 0) (get_or s 1 0) (get_or s 2 0) (get_or s 3 0) 128 (omega arith) in
    let q = four_below (get_or s 4 0) (get_or s 5 0) (get_or s 6 0) (get_or s 7 0) 128 (omega arith) in
    at i p q
  where
    at : (i : ℕ) → (get_or s 0 0 < 128) × (get_or s 1 0 < 128) × (get_or s 2 0 < 128) × (get_or s 3 0 < 128)
        → (get_or s 4 0 < 128) × (get_or s 5 0 < 128) × (get_or s 6 0 < 128) × (get_or s 7 0 < 128) → get_or s i 0 < 128
    at zero p q = p.0
    at (suc zero) p q = p.1
    at (suc (suc zero)) p q = p.2
    at (suc (suc (suc zero))) p q = p.3
    at (suc (suc (suc (suc zero)))) p q = q.0
    at (suc (suc (suc (suc (suc zero))))) p q = q.1
    at (suc (suc (suc (suc (suc (suc zero)))))) p q = q.2
    at (suc (suc (suc (suc (suc (suc (suc zero))))))) p q = q.3
    at (suc (suc (suc (suc (suc (suc (suc (suc i)))))))) p q =
        let none = get_or_past s (suc (suc (suc (suc (suc (suc (suc (suc i)))))))) 0 (omega arith) in
        omega arith

pub four_ascii : (s : List ℕ) → length s ≡ 4 → bit_or (bit_or (bit_or (get_or s 0 0) (get_or s 1 0)) (get_or s 2 0)) (get_or s 3 0) < 128 → (i : ℕ)
    → get_or s i 0 < 128
four_ascii s len lt i = at i (four_below (get_or s 0 0) (get_or s 1 0) (get_or s 2 0) (get_or s 3 0) 128 lt)
  where
    at : (i : ℕ) → (get_or s 0 0 < 128) × (get_or s 1 0 < 128) × (get_or s 2 0 < 128) × (get_or s 3 0 < 128) → get_or s i 0 < 128
    at zero p = p.0
    at (suc zero) p = p.1
    at (suc (suc zero)) p = p.2
    at (suc (suc (suc zero))) p = p.3
    at (suc (suc (suc (suc i)))) p = let none = get_or_past s (suc (suc (suc (suc i)))) 0 (omega arith) in omega arith

-- One step of the test, over k bytes.
pub ascii_on : (k : ℕ) (b rest front after : List ℕ) → front ≡ take k rest → after ≡ drop k rest → IsAscii front → (IsAscii rest → IsAscii b) → IsAscii after
    → IsAscii b
ascii_on k b rest front after e d first goes more =
    goes (subst (λ (s : List ℕ). IsAscii s) (take-append-drop k rest)
    (IsAscii-append (take k rest) (drop k rest) (subst (λ (s : List ℕ). IsAscii s) e first) (subst (λ (s : List ℕ). IsAscii s) d more)))
