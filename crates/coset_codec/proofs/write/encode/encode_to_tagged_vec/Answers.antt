use Rattle.coset_codec.proofs.Encoding.{tag-put, whole-put}
use Rattle.coset_codec.proofs.write.encode.encode_to_tagged_vec.Goals as goal

pub returns : goal.returns
returns g c = whole-put c.least_encoding_is_shortest.ensures c.with_room-out.ensures
    (tag-put c.args.number c.ranges.number.fits c.in_ok-write_tag_head.ensures.ok c.in_ok-append.ensures.written)
