use Rattle.std.proofs.Common.{◌∙◌, ◌++◌, subst, ap}
use Rattle.coset_cbor.specs.Least.{least_encoding}
use Rattle.coset_seen.specs.Puts.{PutsTexts}
use Rattle.coset_seen.specs.Structures.{structure_of}
use Rattle.coset_seen.proofs.Structured.{in_range, three_text, two_text}
use Rattle.coset_seen.proofs.structure.put_structure.Goals as goal

pub returns-in-Sign1 : goal.returns-in-Sign1
returns-in-Sign1 c =
    let k = c.args.kind in
    let p = c.args.protected.now in
    let aad = c.args.external_aad.now in
    let content = c.args.content.now in
    let first = c.bytes_head-first.ensures in
    let second = c.bytes_head-second.ensures in
    let third = c.bytes_head-third.ensures in (
      least_encoding (structure_of k p aad content),
      c.least_encoding_is_shortest.ensures (structure_of k p aad content) (in_range k p aad content first.small second.small third.small),
      subst (λ t. PutsTexts t c.args.out.now c.put_three.new.out c.put_three.result)
          (ap (λ f. f ++ ((c.as_slice.result.now ++ p) ++ ((c.as_slice-2.result.now ++ aad) ++ (c.as_slice-3.result.now ++ content)))) c.front_of-front.ensures
          ∙ three_text k p aad content _ _ _ c.in-Sign1.is (c.as_slice.ensures ∙ first.head) (c.as_slice-2.ensures ∙ second.head)
          (c.as_slice-3.ensures ∙ third.head))
          c.put_three.ensures,
    )

pub returns-in-Encrypt0 : goal.returns-in-Encrypt0
returns-in-Encrypt0 c =
    let k = c.args.kind in
    let p = c.args.protected.now in
    let aad = c.args.external_aad.now in
    let content = c.args.content.now in
    let first = c.bytes_head-first.ensures in
    let second = c.bytes_head-second.ensures in
    let third = c.bytes_head-third.ensures in (
      least_encoding (structure_of k p aad content),
      c.least_encoding_is_shortest.ensures (structure_of k p aad content) (in_range k p aad content first.small second.small third.small),
      subst (λ t. PutsTexts t c.args.out.now c.put_two.new.out c.put_two.result)
          (ap (λ f. f ++ ((c.as_slice.result.now ++ p) ++ (c.as_slice-2.result.now ++ aad))) c.front_of-front.ensures
          ∙ two_text k p aad content _ _ c.in-Encrypt0.is (c.as_slice.ensures ∙ first.head) (c.as_slice-2.ensures ∙ second.head))
          c.put_two.ensures,
    )
