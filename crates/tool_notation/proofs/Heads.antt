-- Heads of items.
use Rattle.std.proofs.Common.{◌≡◌, ◌<◌, ◌≤◌, ◌+◌, ◌*◌, ◌^◌, ◌%◌, ◌⊎◌, inl, inr, ℕ, [], ◌∷◌, true, sym, subst, arith}
use Rattle.std.proofs.lemmas.Bool.{cond_both, ltb-true}
use Rattle.std.proofs.lemmas.Bool.Decides.{nat_tests}
use Rattle.std.specs.Prelude.{nat_lt}
use Rattle.std.specs.Int.{w16, w32, to_be_bytes}
use Rattle.tool_notation.specs.Encoding.{AreItems, IsHead, has_room, head_in, least_width, settled}
use Rattle.tool_notation.specs.Encoding as encoding
use Rattle.tool_notation.specs.declared.head.Width.{Width}
use Rattle.tool_notation.specs.declared.head.Width.TheVariants.{Least, One, Two, Four, Eight}

within : (m n : ℕ) → n < 24 → IsHead m n (head_in Least m n)
within m n less = let e : n % 24 ≡ n = omega arith in subst (λ (k : ℕ). IsHead m n ((32 * m + k) ∷ [])) (sym e) (encoding.within less)

in_one : (m n : ℕ) → n < 256 → IsHead m n (head_in One m n)
in_one m n less = let e : n % 256 ≡ n = omega arith in subst (λ (k : ℕ). IsHead m n ((32 * m + 24) ∷ k ∷ [])) (sym e) (encoding.one less)

in_two : (m n : ℕ) → n < 65536 → IsHead m n (head_in Two m n)
in_two m n less = let e : n % 65536 ≡ n = omega arith in subst (λ (k : ℕ). IsHead m n ((32 * m + 25) ∷ to_be_bytes w16 k)) (sym e) (encoding.two less)

in_four : (m n : ℕ) → n < 4294967296 → IsHead m n (head_in Four m n)
in_four m n less =
    let e : n % 4294967296 ≡ n = omega arith in subst (λ (k : ℕ). IsHead m n ((32 * m + 26) ∷ to_be_bytes w32 k)) (sym e) (encoding.four less)

least : (m n : ℕ) → n < 2 ^ 64 → IsHead m n (head_in (least_width n) m n)
least m n small =
    cond_both (nat_lt n 24) Least _ (λ w. IsHead m n (head_in w m n)) (λ e. within m n (ltb-true n 24 e)) (λ _.
    cond_both (nat_lt n 256) One _ (λ w. IsHead m n (head_in w m n)) (λ e. in_one m n (ltb-true n 256 e)) (λ _.
    cond_both (nat_lt n 65536) Two _ (λ w. IsHead m n (head_in w m n)) (λ e. in_two m n (ltb-true n 65536 e)) (λ _.
    cond_both (nat_lt n 4294967296) Four Eight (λ w. IsHead m n (head_in w m n)) (λ e. in_four m n (ltb-true n 4294967296 e)) (λ _. encoding.eight small))))

-- A head is one with that argument if its width has room for it.
pub fits : (w : Width) (m n : ℕ) → has_room w n ≡ true → n < 2 ^ 64 → IsHead m n (head_in (settled w n) m n)
fits Least m n room small = least m n small
fits One m n room small = in_one m n (ltb-true n 256 room)
fits Two m n room small = in_two m n (ltb-true n 65536 room)
fits Four m n room small = in_four m n (ltb-true n 4294967296 room)
fits Eight m n room small = encoding.eight small

-- What is added is a head of the least width.
pub fits_least : (m n : ℕ) → n < 2 ^ 64 → IsHead m n (head_in (settled Least n) m n)
fits_least m n small = least m n small

-- A float of these bits.
pub float_in : (w : Width) (n : ℕ) → (w ≡ Two) ⊎ ((w ≡ Four) ⊎ (w ≡ Eight)) → n < 2 ^ 64 → AreItems 1 (head_in (settled w n) 7 n)
float_in w n is small =
    elim is [
      | inl two ↦ subst (λ (v : Width). AreItems 1 (head_in (settled v n) 7 n)) (sym two) (encoding.half (n % 65536) (omega arith))
      | inr other ↦ elim other [
        | inl four ↦ subst (λ (v : Width). AreItems 1 (head_in (settled v n) 7 n)) (sym four) (encoding.single (n % 4294967296) (omega arith))
        | inr eight ↦ subst (λ (v : Width). AreItems 1 (head_in (settled v n) 7 n)) (sym eight) (encoding.double n small)
      ]
    ]

-- A simple value of this number.
pub simple_in : (n : ℕ) → (n < 24) ⊎ ((32 ≤ n) × (n < 256)) → AreItems 1 (head_in (settled Least n) 7 n)
simple_in n is =
    elim is [
      | inl less ↦
          let e : n % 24 ≡ n = omega arith in
          let w : least_width n ≡ Least = grind (arith, nat_tests) in
          subst (λ (v : Width). AreItems 1 (head_in v 7 n)) (sym w) (subst (λ (k : ℕ). AreItems 1 ((224 + k) ∷ [])) (sym e) (encoding.simple n less))
      | inr both ↦
          let from = both.0 in
          let to = both.1 in
          let e : n % 256 ≡ n = omega arith in
          let w : least_width n ≡ One = grind (arith, nat_tests) in
          subst (λ (v : Width). AreItems 1 (head_in v 7 n)) (sym w) (subst (λ (k : ℕ). AreItems 1 (248 ∷ k ∷ [])) (sym e) (encoding.simple_byte n from to))
    ]
