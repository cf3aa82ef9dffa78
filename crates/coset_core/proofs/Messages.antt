-- The parts of a message that are the same after it was written and read again.
use Rattle.std.proofs.Common.{◌≡◌, ℕ, List, Some, ap, inl, inr}
use Rattle.std.specs.Prelude.{⊤}
use Rattle.coset_value.specs.Item.{Item, Items, item}
use Rattle.coset_codec.specs.declared.error.CoseError.{CoseError}
use Rattle.coset_codec.specs.AsWritten.{AsWritten, WhenRead, ElementsAsWritten, ElementsWhenRead}
use Rattle.coset_codec.proofs.AsWritten.{array_as_written, array_when_read, then_as_written, then_when_read}
use Rattle.coset_codec.specs.Serialized.{content_bytes}
use Rattle.coset_codec.specs.Shape.{Elements, ElementsFaults, ◌then◌}
use Rattle.coset_core.specs.Headers.{HeaderView, ProtectedView, header, header_image, is_empty_header, layered_protected, protected, protected_bytes}
use Rattle.coset_core.specs.Messages.{with_headers}

-- ---- protected bytes of a message

-- Both protected headers are represented by the same bytes.
abbrev pub KeepsBytes : ProtectedView → ProtectedView → Type 0
KeepsBytes p q = protected_bytes q ≡ protected_bytes p

abbrev pub KeptAsWritten : Type 0
KeptAsWritten = AsWritten protected KeepsBytes

-- Some bytes represent the protected header.
abbrev pub HasBytes : ProtectedView → Type 0
HasBytes p = (b : List ℕ) × (protected_bytes p ≡ Some b)

pub has_bytes : WhenRead protected HasBytes
unfolding layered_protected
has_bytes w p d = (d.0, ap (λ o. content_bytes is_empty_header header_image o p.header) d.2)

module _ {A : Type 0} (ps : Elements A) where
  -- A fault in the elements after the headers.
  pub others_faulty :
      (a b : Item) (vs : Items) (e : CoseError) → ElementsFaults ps vs e → ElementsFaults (protected then header then ps) (item a (item b vs)) e
  others_faulty a b vs e (inl wrong) = inl wrong
  others_faulty a b vs e (inr faulty) = inr (faulty.0, inr (inr faulty.1))

  -- From the protected header, and from the elements after the headers.
  pub message_as_written :
      (Q : ProtectedView → ProtectedView → Type 0) (R : A → A → Type 0) → AsWritten protected Q → ElementsAsWritten ps R
      → AsWritten (with_headers ps) (λ x y. Q x.0 y.0 × (⊤ × R x.1.1 y.1.1))
  message_as_written Q R h more =
      array_as_written (protected then header then ps) _
      (then_as_written protected (header then ps) Q _ h (then_as_written header ps (λ x y. ⊤) R (λ v x y e d. tt) more))

  pub message_when_read : (P : ProtectedView → Type 0) (R : A → Type 0) → WhenRead protected P → ElementsWhenRead ps R
      → WhenRead (with_headers ps) (λ x. P x.0 × (⊤ × R x.1.1))
  message_when_read P R h more =
      array_when_read (protected then header then ps) _
      (then_when_read protected (header then ps) P _ h (then_when_read header ps (λ x. ⊤) R (λ v x d. tt) more))

  -- From the protected header alone.
  pub header_as_written : (Q : ProtectedView → ProtectedView → Type 0) → AsWritten protected Q → AsWritten (with_headers ps) (λ x y. Q x.0 y.0)
  header_as_written Q h v x y e d = (message_as_written Q (λ a b. ⊤) h (λ vs a b f g. tt) v x y e d).0

  pub header_when_read : (P : ProtectedView → Type 0) → WhenRead protected P → WhenRead (with_headers ps) (λ x. P x.0)
  header_when_read P h v x d = (message_when_read P (λ a. ⊤) h (λ vs a f. tt) v x d).0

  -- From these elements alone.
  pub elements_as_written : (R : A → A → Type 0) → ElementsAsWritten ps R → AsWritten (with_headers ps) (λ x y. R x.1.1 y.1.1)
  elements_as_written R more v x y e d = (message_as_written (λ p q. ⊤) R (λ w p q f g. tt) more v x y e d).1.1

  -- From both headers.
  pub headers_as_written :
      (Q : ProtectedView → ProtectedView → Type 0) (R : HeaderView → HeaderView → Type 0) → AsWritten protected Q → AsWritten header R
      → AsWritten (with_headers ps) (λ x y. Q x.0 y.0 × R x.1.0 y.1.0)
  headers_as_written Q R h k v x y e d =
      let behind = then_as_written header ps R (λ a b. ⊤) k (λ vs a b f g. tt) in
      let all = array_as_written (protected then header then ps) _ (then_as_written protected (header then ps) Q _ h behind) v x y e d in
      (all.0, all.1.0)

  pub headers_when_read : (P : ProtectedView → Type 0) (R : HeaderView → Type 0) → WhenRead protected P → WhenRead header R
      → WhenRead (with_headers ps) (λ x. P x.0 × R x.1.0)
  headers_when_read P R h k v x d =
      let behind = then_when_read header ps R (λ a. ⊤) k (λ vs a f. tt) in
      let all = array_when_read (protected then header then ps) _ (then_when_read protected (header then ps) P _ h behind) v x d in
      (all.0, all.1.0)
