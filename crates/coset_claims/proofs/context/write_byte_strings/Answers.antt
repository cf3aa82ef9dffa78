use Rattle.std.proofs.Common.{◌≡◌, ◌+◌, take, length, refl, sym, subst, arith}
use Rattle.std.proofs.Math.Seq.{take-length}
use Rattle.coset_value.specs.Item.{bytes}
use Rattle.coset_codec.specs.Encoding.{AppendsElements}
use Rattle.coset_codec.specs.Shape.{bstr, images}
use Rattle.coset_codec.proofs.Encoding.{nothing-put, element-put, images-mapped, one_taken}
use Rattle.coset_claims.proofs.context.write_byte_strings.Goals as goal

pub loop-bytes-init : goal.loop-bytes-init
loop-bytes-init c = nothing-put c.args.out.now.items

pub loop-bytes-preserved : goal.loop-bytes-preserved
loop-bytes-preserved c =
    let all = c.args.all.now in
    let i = c.loop-bytes.bytes-index in
    let x = c.bytes-item.result in
    let in_range = rw c.deref.ensures.value at c.in_ok-write_bytes.ensures.in_range in
    let parts = rw c.deref.ensures.value at c.in_ok-write_bytes.ensures.ok in
    subst (λ xs. AppendsElements (images (λ b. bstr.image b.items) xs) (i + 1) c.args.out.now.items c.write_bytes.new.out.items)
    (sym (one_taken all i x (omega arith) c.bytes-item.is))
    (element-put (λ b. bstr.image b.items) (take i all) x c.loop-bytes.invariant (bytes x.items, refl, record { in_range = in_range; parts = parts }))

pub returns-clause-ok : goal.returns-clause-ok
returns-clause-ok c =
    let all = c.args.all.now in
    let ends : c.loop-bytes.bytes-index ≡ length all = omega (arith, c.loop-bytes-test.false, c.loop-bytes.auto.bytes-index-end) in
    subst (λ o. AppendsElements o (length all) c.args.out.now.items c.loop-bytes.out.items) (images-mapped bstr.image (λ b. b.items) all)
    (subst (λ xs. AppendsElements (images (λ b. bstr.image b.items) xs) (length all) c.args.out.now.items c.loop-bytes.out.items) (take-length all)
    (subst (λ k. AppendsElements (images (λ b. bstr.image b.items) (take k all)) k c.args.out.now.items c.loop-bytes.out.items) ends c.loop-bytes.invariant))
