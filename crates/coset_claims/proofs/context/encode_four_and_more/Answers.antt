use Rattle.std.proofs.Common.{◌+◌, ◌≡◌, suc, arith, length}
use Rattle.coset_cbor.specs.Least.{least_head}
use Rattle.coset_codec.proofs.Encoding.{extends-on, place-put, array-put}
use Rattle.coset_claims.proofs.ByteStrings.{as_many}
use Rattle.coset_claims.proofs.context.encode_four_and_more.Goals as goal

pub returns-clause-written : goal.returns-clause-written
returns-clause-written g c =
    let all = c.args.more.now.items in
    let more = rw c.deref.ensures.value at c.in_ok-write_byte_strings.ensures.ok in
    let count : suc (suc (suc (suc (length all)))) ≡ c.len.result + 4 = omega (arith, c.len.ensures) in
    array-put (c.len.result + 4) (omega arith) c.in_ok-write_array_head.ensures.ok
    (as_many count (place-put c.in_ok-append.ensures.written (place-put c.in_ok-append-2.ensures.written
    (place-put c.in_ok-append-3.ensures.written (place-put c.in_ok-append-4.ensures.written more)))))

pub returns-in_err-append-clause-kept : goal.returns-in_err-append-clause-kept
returns-in_err-append-clause-kept g c =
    extends-on c.args.out.now.items c.write_array_head.new.out.items _ (least_head 4 (c.len.result + 4), c.in_ok-write_array_head.ensures.ok)
    c.in_err-append.ensures.kept

pub returns-in_err-append-2-clause-kept : goal.returns-in_err-append-2-clause-kept
returns-in_err-append-2-clause-kept g c =
    extends-on c.args.out.now.items c.write_array_head.new.out.items _ (least_head 4 (c.len.result + 4), c.in_ok-write_array_head.ensures.ok)
    (extends-on _ c.append.new.out.items _ c.in_ok-append.ensures.kept c.in_err-append-2.ensures.kept)

pub returns-in_err-append-3-clause-kept : goal.returns-in_err-append-3-clause-kept
returns-in_err-append-3-clause-kept g c =
    extends-on c.args.out.now.items c.write_array_head.new.out.items _ (least_head 4 (c.len.result + 4), c.in_ok-write_array_head.ensures.ok)
    (extends-on _ c.append.new.out.items _ c.in_ok-append.ensures.kept
    (extends-on _ c.append-2.new.out.items _ c.in_ok-append-2.ensures.kept c.in_err-append-3.ensures.kept))

pub returns-in_err-append-4-clause-kept : goal.returns-in_err-append-4-clause-kept
returns-in_err-append-4-clause-kept g c =
    extends-on c.args.out.now.items c.write_array_head.new.out.items _ (least_head 4 (c.len.result + 4), c.in_ok-write_array_head.ensures.ok)
    (extends-on _ c.append.new.out.items _ c.in_ok-append.ensures.kept
    (extends-on _ c.append-2.new.out.items _ c.in_ok-append-2.ensures.kept
    (extends-on _ c.append-3.new.out.items _ c.in_ok-append-3.ensures.kept c.in_err-append-4.ensures.kept)))

pub returns-in_err-write_byte_strings-clause-kept : goal.returns-in_err-write_byte_strings-clause-kept
returns-in_err-write_byte_strings-clause-kept g c =
    extends-on c.args.out.now.items c.write_array_head.new.out.items _ (least_head 4 (c.len.result + 4), c.in_ok-write_array_head.ensures.ok)
    (extends-on _ c.append.new.out.items _ c.in_ok-append.ensures.kept
    (extends-on _ c.append-2.new.out.items _ c.in_ok-append-2.ensures.kept
    (extends-on _ c.append-3.new.out.items _ c.in_ok-append-3.ensures.kept
    (extends-on _ c.append-4.new.out.items _ c.in_ok-append-4.ensures.kept c.in_err-write_byte_strings.ensures.kept))))

pub returns-clause-kept : goal.returns-clause-kept
returns-clause-kept g c =
    extends-on c.args.out.now.items c.write_array_head.new.out.items _ (least_head 4 (c.len.result + 4), c.in_ok-write_array_head.ensures.ok)
    (extends-on _ c.append.new.out.items _ c.in_ok-append.ensures.kept
    (extends-on _ c.append-2.new.out.items _ c.in_ok-append-2.ensures.kept
    (extends-on _ c.append-3.new.out.items _ c.in_ok-append-3.ensures.kept
    (extends-on _ c.append-4.new.out.items _ c.in_ok-append-4.ensures.kept c.in_ok-write_byte_strings.ensures.kept))))
