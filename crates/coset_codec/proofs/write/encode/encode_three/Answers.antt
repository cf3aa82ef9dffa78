use Rattle.std.proofs.Common.{arith}
use Rattle.coset_cbor.specs.Least.{least_head}
use Rattle.coset_codec.proofs.Encoding.{nothing-put, place-put, array-put, extends-on}
use Rattle.coset_codec.proofs.write.encode.encode_three.Goals as goal

pub returns-clause-written : goal.returns-clause-written
returns-clause-written g c =
    array-put 3 (omega arith) c.in_ok-write_array_head.ensures.ok
    (place-put c.in_ok-append.ensures.written (place-put c.in_ok-append-2.ensures.written (place-put c.in_ok-append-3.ensures.written (nothing-put _))))

pub returns-in_err-append-clause-kept : goal.returns-in_err-append-clause-kept
returns-in_err-append-clause-kept g c =
    extends-on c.args.out.now.items c.write_array_head.new.out.items _ (least_head 4 3, c.in_ok-write_array_head.ensures.ok)
    c.in_err-append.ensures.kept

pub returns-in_err-append-2-clause-kept : goal.returns-in_err-append-2-clause-kept
returns-in_err-append-2-clause-kept g c =
    extends-on c.args.out.now.items c.write_array_head.new.out.items _ (least_head 4 3, c.in_ok-write_array_head.ensures.ok)
    (extends-on _ c.append.new.out.items _ c.in_ok-append.ensures.kept c.in_err-append-2.ensures.kept)

pub returns-in_err-append-3-clause-kept : goal.returns-in_err-append-3-clause-kept
returns-in_err-append-3-clause-kept g c =
    extends-on c.args.out.now.items c.write_array_head.new.out.items _ (least_head 4 3, c.in_ok-write_array_head.ensures.ok)
    (extends-on _ c.append.new.out.items _ c.in_ok-append.ensures.kept
    (extends-on _ c.append-2.new.out.items _ c.in_ok-append-2.ensures.kept c.in_err-append-3.ensures.kept))

pub returns-clause-kept : goal.returns-clause-kept
returns-clause-kept g c =
    extends-on c.args.out.now.items c.write_array_head.new.out.items _ (least_head 4 3, c.in_ok-write_array_head.ensures.ok)
    (extends-on _ c.append.new.out.items _ c.in_ok-append.ensures.kept
    (extends-on _ c.append-2.new.out.items _ c.in_ok-append-2.ensures.kept c.in_ok-append-3.ensures.kept))
