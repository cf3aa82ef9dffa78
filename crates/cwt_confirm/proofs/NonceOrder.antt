-- Nonces, one after another.
use Rattle.std.proofs.Common.{◌≡◌, ◌∙◌, ◌+◌, ◌++◌, ◌<◌, ◌≤◌, ℕ, List, [], ◌∷◌}
use Rattle.std.proofs.Common.{Option, Some, None, ap, append_assoc, drop, get_or, length, option_map, refl, sym}
use Rattle.std.proofs.lemmas.List.{append-nil, drop_all, drop_more}
use Rattle.coset.specs.Shape.{both}
use Rattle.coset.specs.View.{value_item, value_items}
use Rattle.coset_value.specs.declared.value.Value.{Value}
use Rattle.cwt_confirm.specs.Nonces.{each_nonce, nonce_in}

-- These nonces, and those in the values after them.
abbrev pub and_later : List (List ℕ) → Option (List (List ℕ)) → Option (List (List ℕ))
and_later ns o = option_map (λ ms. ns ++ ms) o

module _ (vs : List Value) where
  -- The nonces so far, and those in the values from `i` on, are all nonces.
  abbrev pub Gathers : ℕ → List (List ℕ) → Type 0
  Gathers i ns = each_nonce (value_items vs) ≡ and_later ns (each_nonce (value_items (drop i vs)))

  shifted : (ns : List (List ℕ)) (n : List ℕ) (o : Option (List (List ℕ))) → and_later ns (option_map (λ ms. n ∷ ms) o) ≡ and_later (ns ++ n ∷ []) o
  shifted ns n None = refl
  shifted ns n (Some ms) = ap Some (sym (append_assoc ns (n ∷ []) ms))

  both-some : (n : List ℕ) (o : Option (List (List ℕ))) → both ◌∷◌ (Some n) o ≡ option_map (λ ms. n ∷ ms) o
  both-some n None = refl
  both-some n (Some ms) = refl

  -- The nonces that begin with that of the value at `i`.
  next :
      (i : ℕ) (ns : List (List ℕ)) (v : Value) (o : Option (List ℕ)) → i < length vs → v ≡ get_or vs i v → nonce_in (value_item v) ≡ o → Gathers i ns
      → each_nonce (value_items vs) ≡ and_later ns (both ◌∷◌ o (each_nonce (value_items (drop (i + 1) vs))))
  next i ns v o lt at is h =
      h ∙ (ap (λ ws. and_later ns (each_nonce (value_items ws))) (drop_more vs i v lt)
      ∙ (ap (λ w. and_later ns (each_nonce (value_items (w ∷ drop (i + 1) vs)))) (sym at)
      ∙ ap (λ p. and_later ns (both ◌∷◌ p (each_nonce (value_items (drop (i + 1) vs))))) is))

  -- The value at `i` is a nonce.
  pub gathers_more :
      (i : ℕ) (ns ms : List (List ℕ)) (v : Value) (n : List ℕ) → i < length vs → v ≡ get_or vs i v → nonce_in (value_item v) ≡ Some n → ms ≡ ns ++ n ∷ []
      → Gathers i ns → Gathers (i + 1) ms
  gathers_more i ns ms v n lt at is more h =
      let later = each_nonce (value_items (drop (i + 1) vs)) in
      next i ns v (Some n) lt at is h
      ∙ (ap (and_later ns) (both-some n later) ∙ (shifted ns n later ∙ ap (λ xs. and_later xs later) (sym more)))

  -- The value at `i` is none.
  pub refuses : (i : ℕ) (ns : List (List ℕ)) (v : Value) → i < length vs → v ≡ get_or vs i v → nonce_in (value_item v) ≡ None → Gathers i ns
      → each_nonce (value_items vs) ≡ None
  refuses i ns v lt at is h = next i ns v None lt at is h

  -- No value is left.
  pub gathered : (i : ℕ) (ns : List (List ℕ)) → length vs ≤ i → Gathers i ns → each_nonce (value_items vs) ≡ Some ns
  gathered i ns over h = h ∙ (ap (λ ws. and_later ns (each_nonce (value_items ws))) (drop_all i vs over) ∙ ap Some (append-nil ns))
