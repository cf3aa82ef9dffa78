-- The item or bytes that a value is written as determine the value, if it was read.
use Rattle.std.proofs.Common.{◌≡◌, ◌≤◌, ℕ, suc, List, [], ◌++◌, option_map, refl, sym, ◌∙◌, ap, subst, arith}
use Rattle.coset_value.specs.Item.{Item, tag, depth}
use Rattle.coset_value.specs.Range.{IsInRange}
use Rattle.coset_cbor.specs.Grammar.{IsEncoding}
use Rattle.coset_cbor.specs.Least.{least_encoding}
use Rattle.coset_cbor.specs.Shortest.{IsShortest}
use Rattle.coset_cbor.proofs.Shortest.{definite_is_encoding}
use Rattle.coset_codec.specs.Shape.{Shape, tagged}
use Rattle.coset_codec.specs.ShapeLaws.{Again, Lawful, some-one, tagged_laws}
use Rattle.coset_codec.specs.Results.{Describes}
use Rattle.coset_codec.specs.ReadAgain.{IsWritten, EncodesInjectively, ImagesInjectively, ReadsAgain, StaysAsWritten, again_reads}
use Rattle.coset_codec.proofs.Whole.{OneItem}

module _ {A : Type 0} (s : Shape A) (l : Lawful A s) where
  -- One item represents both values.
  pub one_image : (v w : Item) (x y : A) → s.describes v x → s.describes w y → s.image x ≡ s.image y → x ≡ y
  one_image v w x y p q e =
      let a : Again A s v x = l.again v x p in
      let b : Again A s w y = l.again w y q in
      l.unique a.image x y a.described (subst (λ u. s.describes u y) (some-one b.is_image (sym e ∙ a.is_image)) b.described)

  pub images_apart : ImagesInjectively s
  images_apart v w x y p q = (λ e. one_image v w x y p q e, λ e. ap s.image e)

  -- The item that x is written as represents x.
  written_describes : (v : Item) (c : List ℕ) (x : A) → s.describes v x → (m : IsWritten s x c) → s.describes m.0 x
  written_describes v c x p m =
      let a : Again A s v x = l.again v x p in
      subst (λ u. s.describes u x) (some-one a.is_image m.1) a.described

  -- The bytes that x is written as are an encoding.
  encodes : (c : List ℕ) (x : A) (m : IsWritten s x c) → IsEncoding m.0 c
  encodes c x m = definite_is_encoding m.0 c m.2.definite

  pub encodes_apart :
      OneItem → ((v : Item) (b : List ℕ) → IsShortest b v → IsInRange v) → ((v : Item) (b : List ℕ) → IsInRange v → IsShortest b v → b ≡ least_encoding v)
      → EncodesInjectively s
  encodes_apart one in_range least v w c d x y p q m n = (
    λ e.
        let same : n.0 ≡ m.0 = (one n.0 m.0 d c [] [] (encodes d y n) (encodes c x m) (ap (λ b. b ++ []) (sym e))).0 in
        l.unique m.0 x y (written_describes v c x p m) (subst (λ u. s.describes u y) same (written_describes w d y q n)),
    λ e.
        let same : m.0 ≡ n.0 = some-one m.1 (ap s.image e ∙ n.1) in
        least m.0 c (in_range m.0 c m.2) m.2 ∙ (ap least_encoding same ∙ sym (least n.0 d (in_range n.0 d n.2) n.2)),
  )

  -- The bytes that x is written as are read as x, and x is written as the same bytes again.
  pub stays_as_written : OneItem → EncodesInjectively s → StaysAsWritten s
  stays_as_written one apart v b c x y p m q n =
      let item : m.0 ≡ q.0 = (one m.0 q.0 b b [] [] (encodes b x m) q.1.0 refl).0 in
      let same : y ≡ x = l.unique q.0 y x q.2 (subst (λ u. s.describes u x) item (written_describes v b x p m)) in
      (same, (apart q.0 v c b y x q.2 p n m).1 same)

  -- A value that was read under a tag is also written and read again without the tag.
  pub reads_again_untagged : (number : ℕ) (b : List ℕ) (x : A) → Describes (tagged number s) b x → ReadsAgain s x
  reads_again_untagged number b x p =
      let a : Again A s p.2.0 x = l.again p.2.0 x p.2.2 in
      let under : Again A (tagged number s) p.0 x = (tagged_laws number s l).again p.0 x p.2 in
      let same : under.image ≡ tag number a.image = some-one under.is_image (ap (option_map (tag number)) a.is_image) in
      let shallow : suc (depth a.image) ≤ depth p.0 = subst (λ u. depth u ≤ depth p.0) same under.shallow in
      let alone : Again A s a.image x = record { image = a.image; is_image = a.is_image; described = a.described; shallow = omega arith } in
      again_reads s a.image x alone (omega (arith, shallow, p.1.1))
