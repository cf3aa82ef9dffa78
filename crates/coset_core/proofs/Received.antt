-- The protected header of a message that was read is represented by the bytes that it was decoded from.
use Rattle.std.proofs.Common.{◌≡◌, ℕ, Some, refl, sym, ap, ◌∙◌, subst}
use Rattle.coset_value.specs.Item.{Item, Items, no_items, item, tag}
use Rattle.coset_value.specs.Parts.{as_bytes}
use Rattle.coset_codec.specs.Serialized.{content_bytes}
use Rattle.coset_codec.specs.Shape.{Shape, Elements, ◌then◌, tagged}
use Rattle.coset_codec.specs.ShapeLaws.{some-one}
use Rattle.coset_core.specs.Headers.{ProtectedView, header, header_image, is_empty_header, layered_protected, protected, protected_bytes}
use Rattle.coset_core.specs.Kept.{KeepsFirst, KeepsOwn, first_bytes}
use Rattle.coset_core.specs.Messages.{WithHeaders, with_headers}

pub protected_received : (v : Item) (p : ProtectedView) → protected.describes v p → KeepsOwn p × (as_bytes v ≡ protected_bytes p)
unfolding layered_protected
protected_received v p d =
    let is : protected_bytes p ≡ Some d.0 = ap (λ o. content_bytes is_empty_header header_image o p.header) d.2 in
    ((d.0, d.2, is), d.1 ∙ sym is)

module _ {A : Type 0} (ps : Elements A) where
  first_received : (vs : Items) (x : WithHeaders A) → (protected then header then ps).describes vs x → KeepsOwn x.0 × (first_bytes vs ≡ protected_bytes x.0)
  first_received no_items x d = absurd d
  first_received (item v vs) x d = protected_received v x.0 d.0

  pub message_received : (v : Item) (x : WithHeaders A) → (with_headers ps).describes v x → KeepsFirst v x.0
  message_received v x d = let first = first_received d.0 x d.2 in (first.0, (d.0, d.1, first.1))

-- What holds of each item that describes a value also holds of the item in the tag.
pub under_tag :
    {A : Type 0} (n : ℕ) (s : Shape A) (P : Item → A → Type 0) → ((v : Item) (x : A) → s.describes v x → P v x) → (v : Item) (x : A)
    → (tagged n s).describes (tag n v) x → P v x
under_tag n s P h v x d =
    let same : (n, v) ≡ (n, d.0) = some-one refl d.1 in
    subst (λ w. P w x) (sym (ap (λ y. y.1) same)) (h d.0 x d.2)
