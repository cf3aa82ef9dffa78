-- Values that are described plain or under a tag (RFC 8152, section 2: `COSE_Tagged_Message / COSE_Untagged_Message`).
use Rattle.std.proofs.Common.{◌≡◌, ◌⊎◌, ◌==◌, ℕ, Option, Some, None, Bool, true, false, cond, refl, sym, ap, subst, inl, inr, arith}
use Rattle.std.proofs.lemmas.Bool.{eqb-true}
use Rattle.coset_value.specs.Item.{Item, integer, bytes, float, text, boolean, null, tag, array, dict}
use Rattle.coset_value.specs.Parts.{as_tag}
use Rattle.coset_codec.specs.Shape.{Shape, tagged}
use Rattle.coset_codec.specs.ShapeLaws.{some-one}

-- The item that a tag of that number encloses, or any other item unchanged.
abbrev pub or_enclosed : ℕ → Item → Option (ℕ × Item) → Item
or_enclosed number v None = v
or_enclosed number v (Some t) = cond (t.0 == number) t.1 v

abbrev pub untagged : ℕ → Item → Item
untagged number v = or_enclosed number v (as_tag v)

-- s / #6.number(s), if s describes no tag of that number
abbrev pub perhaps_tagged : {A : Type 0} → ℕ → Shape A → Shape A
perhaps_tagged number s = record {
  describes = λ v x. s.describes (untagged number v) x;
  image = s.image;
  faults = λ v e. s.faults (untagged number v) e;
}

-- The shape s describes no tag of that number.
abbrev pub DescribesNoTag : {A : Type 0} → ℕ → Shape A → Type 0
DescribesNoTag {A} number s = (w : Item) (x : A) → s.describes (tag number w) x → ⊥

-- ---- the laws

-- An item is a tag of that number, or `untagged` leaves it unchanged.
untagged_cases : (number : ℕ) (v : Item) → ((w : Item) × (as_tag v ≡ Some (number, w)) × (untagged number v ≡ w)) ⊎ (untagged number v ≡ v)
untagged_cases number (tag t w) = go (t == number) refl
  where
    go : (b : Bool) → (t == number) ≡ b → ((u : Item) × (as_tag (tag t w) ≡ Some (number, u)) × (cond b w (tag t w) ≡ u)) ⊎ (cond b w (tag t w) ≡ tag t w)
    go true h =
        let same : t ≡ number = eqb-true t number h in
        let told : as_tag (tag t w) ≡ Some (number, w) = rw same refl in
        inl (w, told, refl)
    go false h = inr refl
untagged_cases number (array ws) = inr refl
untagged_cases number (integer n) = inr refl
untagged_cases number (bytes s) = inr refl
untagged_cases number (float x) = inr refl
untagged_cases number (text s) = inr refl
untagged_cases number (boolean b) = inr refl
untagged_cases number null = inr refl
untagged_cases number (dict ps) = inr refl

as_tag-is : (v : Item) (t : ℕ) (w : Item) → as_tag v ≡ Some (t, w) → v ≡ tag t w
as_tag-is (tag u x) t w p = let h : (u, x) ≡ (t, w) = some-one refl p in ap (λ y. tag y.0 y.1) h
as_tag-is (array ws) t w p = absurd (cc)
as_tag-is (integer n) t w p = absurd (cc)
as_tag-is (bytes s) t w p = absurd (cc)
as_tag-is (float x) t w p = absurd (cc)
as_tag-is (text s) t w p = absurd (cc)
as_tag-is (boolean b) t w p = absurd (cc)
as_tag-is null t w p = absurd (cc)
as_tag-is (dict ps) t w p = absurd (cc)

module _ {A : Type 0} (number : ℕ) (s : Shape A) where
  -- A value that `perhaps_tagged` describes is described plain or under the tag.
  pub perhaps_tagged_is : (v : Item) (x : A) → (perhaps_tagged number s).describes v x → s.describes v x ⊎ (tagged number s).describes v x
  perhaps_tagged_is v x p =
      elim (untagged_cases number v) [
        | inl c ↦ inr (c.0, c.1, subst (λ w. s.describes w x) c.2 p)
        | inr same ↦ inl (subst (λ w. s.describes w x) same p)
      ]

  pub tagged_is_perhaps : (v : Item) (x : A) → (tagged number s).describes v x → (perhaps_tagged number s).describes v x
  tagged_is_perhaps v x p =
      subst (λ o. s.describes (or_enclosed number v o) x) (sym p.1) (subst (λ b. s.describes (cond b p.0 v) x) (sym (same_number number)) p.2)
    where
      same_number : (n : ℕ) → (n == n) ≡ true
      same_number n = grind arith

  pub plain_is_perhaps : DescribesNoTag number s → (v : Item) (x : A) → s.describes v x → (perhaps_tagged number s).describes v x
  plain_is_perhaps none v x p =
      elim (untagged_cases number v) [
        | inl c ↦ absurd (none c.0 x (subst (λ w. s.describes w x) (as_tag-is v number c.0 c.1) p))
        | inr same ↦ subst (λ w. s.describes w x) (sym same) p
      ]
