use Rattle.std.proofs.Common.{rules, arith, ◌≡◌, pos, ◌++◌, length, map, subst, take}
use Rattle.std.proofs.lemmas.List.{length-map, take_all}
use Rattle.coset.specs.Range.{ArePairsInRange}
use Rattle.coset_cbor.specs.Least.{least_pair_encodings}
use Rattle.cose_thumbprint.specs.Thumbprint.{pairs}
use Rattle.cose_thumbprint.specs.Views.{member_view}
use Rattle.cose_thumbprint.proofs.Writing.{member_written, member_in_range, map_written}
use Rattle.cose_thumbprint.proofs.encoding.encode.Goals as goal

pub loop-member-preserved : goal.loop-member-preserved
loop-member-preserved c =
    let ranges = c.shortest_is_in_range.ensures in
    let ms = c.args.members.now in
    let i = c.loop-member.member-index in
    let m = c.member-item.result in
    let l = c.from-in-loop-member in
    let same : l.result ≡ m.label = search rules in
    let key = c.write_integer-in-loop-member.new.out.items in
    record {
      written = member_written c.least_heads_are_shortest.ensures ranges ms i m l.result _ c.loop-member.out.items key c.write_value.new.out.items
          (omega arith) c.member-item.is same c.loop-member.invariant.written c.in_ok-write_integer-3.ensures.ok c.in_ok-write_value.ensures.ok;
      in_range = member_in_range ranges ms i m l.result key c.write_value.new.out.items (omega arith)
          c.member-item.is same c.loop-member.invariant.in_range c.in_ok-write_integer-3.ensures.in_range c.in_ok-write_value.ensures.ok;
    }

pub returns-clause-ok : goal.returns-clause-ok
returns-clause-ok c =
    let ms = c.args.members.now in
    let es = map member_view ms in
    let read : take c.loop-member.member-index ms ≡ ms = take_all c.loop-member.member-index ms c.loop-member-test.false in
    let counted : length es ≡ length ms = length-map ms member_view in
    let first : c.from.result ≡ pos 1 = search rules in
    let same : c.from-2.result ≡ c.args.kty = search rules in
    map_written c.least_encoding_is_shortest.ensures c.args.kty c.from.result c.from-2.result es _ c.new-out.result.items c.write_map_head.new.out.items
    c.write_integer.new.out.items c.write_integer-2.new.out.items c.loop-member.out.items first same c.new-out.ensures.items c.in_ok-write_map_head.ensures.ok
    c.in_ok-write_integer.ensures.ok c.in_ok-write_integer-2.ensures.ok
    (subst (λ xs. c.loop-member.out.items ≡ c.write_integer-2.new.out.items ++ least_pair_encodings (pairs (map member_view xs))) read
    c.loop-member.invariant.written)
    (omega (arith, counted)) (omega (arith, counted, c.requires)) c.in_ok-write_integer-2.ensures.in_range
    (subst (λ xs. ArePairsInRange (pairs (map member_view xs))) read c.loop-member.invariant.in_range)
