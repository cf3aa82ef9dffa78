-- The members of a map, one after another.
use Rattle.std.specs.List.{cons_option, find}
use Rattle.std.proofs.Common.{◌≡◌, ◌∙◌, ◌+◌, ◌++◌, ◌<◌, ◌≤◌, ℕ, ℤ, List, [], ◌∷◌}
use Rattle.std.proofs.Common.{Option, Some, None, ap, append_assoc, cond, drop, get_or, length, option_map, refl, sym}
use Rattle.std.proofs.lemmas.List.{append-nil, drop_all, drop_more}
use Rattle.coset.specs.Item.{Item}
use Rattle.coset.specs.Parts.{as_integer, as_text}
use Rattle.coset.specs.View.{value_item, value_pairs}
use Rattle.coset_value.specs.declared.value.Value.{Value}
use Rattle.cwt_confirm.specs.Members.{is_number, member, numbers_in, texts_in}
use Rattle.cwt_confirm.proofs.Lists.{cond-map}

-- The member is the one that the code's `find` returns.
pub member-find :
    (n : ℤ) (ps : List (Value × Value)) → member n (value_pairs ps) ≡ option_map (λ p. value_item p.1) (find (λ p. is_number n (value_item p.0)) ps)
member-find n [] = refl
member-find n (p ∷ ps) =
    ap (cond (is_number n (value_item p.0)) (Some (value_item p.1))) (member-find n ps)
    ∙ cond-map (λ q. value_item q.1) (is_number n (value_item p.0)) p (find (λ q. is_number n (value_item q.0)) ps)

-- ---- labels of one kind

-- The parts that `part` finds in the keys.
abbrev pub parts_in : {A : Type 0} → (Item → Option A) → List (Value × Value) → List A
parts_in part [] = []
parts_in part (p ∷ ps) = cons_option (part (value_item p.0)) (parts_in part ps)

pub numbers-parts : (ps : List (Value × Value)) → numbers_in (value_pairs ps) ≡ parts_in as_integer ps
numbers-parts [] = refl
numbers-parts (p ∷ ps) = ap (cons_option (as_integer (value_item p.0))) (numbers-parts ps)

pub texts-parts : (ps : List (Value × Value)) → texts_in (value_pairs ps) ≡ parts_in as_text ps
texts-parts [] = refl
texts-parts (p ∷ ps) = ap (cons_option (as_text (value_item p.0))) (texts-parts ps)

module _ {A : Type 0} (part : Item → Option A) (ps : List (Value × Value)) where
  -- The parts so far, and those in the pairs from `i` on, are all parts.
  abbrev pub Gathers : ℕ → List A → Type 0
  Gathers i xs = parts_in part ps ≡ xs ++ parts_in part (drop i ps)

  -- The key at `i` has a part.
  pub gathers_more :
      (i : ℕ) (xs ys : List A) (p : Value × Value) (x : A) → i < length ps → p ≡ get_or ps i p → part (value_item p.0) ≡ Some x → ys ≡ xs ++ x ∷ []
      → Gathers i xs → Gathers (i + 1) ys
  gathers_more i xs ys p x lt at is more h =
      h ∙ (ap (λ qs. xs ++ parts_in part qs) (drop_more ps i p lt)
      ∙ (ap (λ q. xs ++ parts_in part (q ∷ drop (i + 1) ps)) (sym at)
      ∙ (ap (λ o. xs ++ cons_option o (parts_in part (drop (i + 1) ps))) is
      ∙ (sym (append_assoc xs (x ∷ []) (parts_in part (drop (i + 1) ps))) ∙ ap (λ zs. zs ++ parts_in part (drop (i + 1) ps)) (sym more)))))

  -- The key at `i` has none.
  pub gathers_none :
      (i : ℕ) (xs : List A) (p : Value × Value) → i < length ps → p ≡ get_or ps i p → part (value_item p.0) ≡ None → Gathers i xs → Gathers (i + 1) xs
  gathers_none i xs p lt at is h =
      h ∙ (ap (λ qs. xs ++ parts_in part qs) (drop_more ps i p lt)
      ∙ (ap (λ q. xs ++ parts_in part (q ∷ drop (i + 1) ps)) (sym at)
      ∙ ap (λ o. xs ++ cons_option o (parts_in part (drop (i + 1) ps))) is))

  -- No key is left.
  pub gathered : (i : ℕ) (xs : List A) → length ps ≤ i → Gathers i xs → parts_in part ps ≡ xs
  gathered i xs over h = h ∙ (ap (λ qs. xs ++ parts_in part qs) (drop_all i ps over) ∙ append-nil xs)
