use Rattle.coset_cbor.specs.Grammar.{IsEncoding}
use Rattle.coset_value.specs.View.{value_item}
use Rattle.coset_codec.proofs.Encoding.{read-back}
use Rattle.coset_codec.proofs.write.encode.encode_to_value.Goals as goal

pub returns : goal.returns
returns g c =
    let x = value_item c.in-Some.read in
    let found = rw c.in-Some.is at c.in_ok-read.ensures in
    let read : IsEncoding x c.in_ok-encoded.encoded.items = rw c.deref.ensures.value at found in
    read-back c.shortest_is_encoding.ensures c.one_item.ensures x c.in_ok-encoded.ensures read

pub unreachable-requires : goal.unreachable-requires
unreachable-requires g c =
    let none = rw c.in-None.is at c.in_ok-read.ensures in
    let none_here = rw c.deref.ensures.value at none in
    let p = c.in_ok-encoded.ensures in
    none_here p.0 (c.shortest_is_encoding.ensures p.0 c.in_ok-encoded.encoded.items p.2)
