-- A protected header as its map alone, outside a byte string. No bytes are kept.
use Rattle.std.proofs.Common.{◌≡◌, None, sym, ◌∙◌}
use Rattle.coset_codec.specs.Shape.{Shape}
use Rattle.coset_codec.specs.ShapeLaws.{Again, Lawful}
use Rattle.coset_core.specs.Headers.{HeaderView, ProtectedView, header}
use Rattle.coset_core.specs.HeaderLaws.{header_laws}

abbrev pub protected_map : Shape ProtectedView
protected_map = record { describes = λ v p. (p.original ≡ None) × header.describes v p.header; image = λ p. header.image p.header; faults = header.faults }

pub protected_map_laws : Lawful ProtectedView protected_map
protected_map_laws = record {
  unique = λ v x y p q.
      let same : x.original ≡ y.original = p.0 ∙ sym q.0 in
      let held : x.header ≡ y.header = header_laws.unique v x.header y.header p.1 q.1 in
      λ i. record { original = same i; header = held i };
  again = λ v x p.
      let a : Again HeaderView header v x.header = header_laws.again v x.header p.1 in
      record { image = a.image; is_image = a.is_image; described = (p.0, a.described); shallow = a.shallow };
  sound = λ v x e p f. header_laws.sound v x.header e p.1 f;
}
