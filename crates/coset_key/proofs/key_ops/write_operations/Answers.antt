use Rattle.std.proofs.Common.{◌≡◌, ◌<◌, ◌^◌, [], ◌++◌, ◌∷◌, map, length, ◌+◌, sym, ◌∙◌, ap, subst, arith, append-nil}
use Rattle.std.proofs.lemmas.List.{map_push, length_push, length-map}
use Rattle.coset_cbor.specs.Least.{least_head}
use Rattle.coset_codec.specs.Encoding.{AppendsElements}
use Rattle.coset_codec.specs.Shape.{images}
use Rattle.coset_codec.proofs.Encoding.{element-put, array-put, nothing-put}
use Rattle.coset_cbor.proofs.Kept.{moved}
use Rattle.coset_key.specs.Keys.{operation, operation_view}
use Rattle.coset_key.proofs.key_ops.write_operations.Goals as goal

pub loop-operation-init : goal.loop-operation-init
loop-operation-init c = (nothing-put c.write_array_head.new.out.items, c.into_iter-operation-iterator.ensures.into_iter_gives.0)

pub loop-operation-preserved : goal.loop-operation-preserved
unfolding operation
loop-operation-preserved c =
    let ys = c.loop-operation.yielded in
    let x = c.in-Some.operation in
    let next : map (λ b. b.now) (ys ++ x ∷ []) ≡ map (λ b. b.now) ys ++ x.now ∷ [] = map_push (λ b. b.now) ys x in
    let pushed : map operation_view (map (λ b. b.now) (ys ++ x ∷ [])) ≡ map operation_view (map (λ b. b.now) ys) ++ operation_view x.now ∷ [] =
    ap (map operation_view) next ∙ map_push operation_view (map (λ b. b.now) ys) x.now in (
      subst (λ n. AppendsElements (images operation.image
          (map operation_view (map (λ b. b.now) (ys ++ x ∷ [])))) n c.write_array_head.new.out.items c.append.new.out.items) (sym (length_push ys x))
          (subst (λ ns. AppendsElements (images operation.image ns) (length ys + 1) c.write_array_head.new.out.items c.append.new.out.items) (sym pushed)
          (element-put operation.image (map operation_view (map (λ b. b.now) ys)) (operation_view x.now) c.loop-operation.invariant.0
          c.in_ok-append.ensures.written)),
      ap (λ zs. zs ++ c.next.new.self) next ∙ moved (map
          (λ b. b.now) ys) x.now c.loop-operation.operation-iterator c.next.new.self c.args.operations.now.keys c.loop-operation.invariant.1
          c.in-Some.ensures.steps,
    )

pub returns-clause-written : goal.returns-clause-written
returns-clause-written c =
    let ys = c.loop-operation.yielded in
    let ks = c.args.operations.now.keys in
    let all : map (λ b. b.now) ys ≡ ks = sym (append-nil (map (λ b. b.now) ys))
    ∙ (ap (λ zs. map (λ b. b.now) ys ++ zs) (sym c.in-None.ensures.steps.0) ∙ c.loop-operation.invariant.1) in
    let count : length ys ≡ length ks = sym (length-map ys (λ b. b.now)) ∙ ap length all in
    let small : length ks < 2 ^ 64 = omega (arith, c.len.ensures.len, c.len.ensures.small) in
    array-put (length ks) small (c.in_ok-write_array_head.ensures.ok ∙ ap (λ n. c.args.out.now.items ++ least_head 4 n) c.len.ensures.len)
    (subst (λ zs. AppendsElements (images operation.image (map operation_view zs)) (length ks) c.write_array_head.new.out.items c.loop-operation.out.items) all
    (subst (λ n. AppendsElements (images operation.image
    (map operation_view (map (λ b. b.now) ys))) n c.write_array_head.new.out.items c.loop-operation.out.items) count c.loop-operation.invariant.0))
