-- Keys of a set with an identifier, step by step.
use Rattle.std.proofs.Common.{◌≡◌, ◌∙◌, ◌+◌, ◌<◌, ◌∷◌, ℕ, List, Bool, true, false, ap, cond, drop, get_or, length, nat_eq}
use Rattle.std.specs.Cmp.Lexicographic.{pointwise}
use Rattle.std.proofs.lemmas.List.{at_drop_more}
use Rattle.coset_key.specs.declared.key.CoseKey.{CoseKey}
use Rattle.example_uses.specs.FindKey.{keys_with}

module _ (key_id : List ℕ) (xs : List CoseKey) (i : ℕ) (k : CoseKey) (within : i < length xs) (is : get_or xs i k ≡ k) where
  abbrev rest : List CoseKey
  rest = keys_with key_id (drop (i + 1) xs)

  step : keys_with key_id (drop i xs) ≡ cond (pointwise nat_eq k.key_id.items key_id) (k ∷ rest) rest
  step = at_drop_more (keys_with key_id) xs i k within ∙ ap (λ (x : CoseKey). cond (pointwise nat_eq x.key_id.items key_id) (x ∷ rest) rest) is

  pub with_key : pointwise nat_eq k.key_id.items key_id ≡ true → keys_with key_id (drop i xs) ≡ k ∷ rest
  with_key e = step ∙ ap (λ (b : Bool). cond b (k ∷ rest) rest) e

  pub without_key : pointwise nat_eq k.key_id.items key_id ≡ false → keys_with key_id (drop i xs) ≡ rest
  without_key e = step ∙ ap (λ (b : Bool). cond b (k ∷ rest) rest) e
