use Rattle.std.proofs.Common.{◌≡◌, ◌<◌, ◌+◌, ◌^◌, ◌++◌, [], ℕ, List, Bor, map, length, ap, ap₂, rules, subst, ◌∙◌, arith}
use Rattle.std.proofs.lemmas.List.{take_all, length-map}
use Rattle.coset_value.specs.Range.{AreInRange}
use Rattle.coset_value.specs.Item.{text}
use Rattle.coset_cbor.specs.Least.{least_head, least_encoding, least_encodings}
use Rattle.coset_core.specs.Structure.{byte_strings}
use Rattle.coset_core.proofs.Structures.{first_parts, part_written, part_in_range}
use Rattle.coset_core.proofs.structure.begin_structure.Goals as goal

pub loop-part-preserved : goal.loop-part-preserved
loop-part-preserved c =
    let i = c.loop-part.part-index in
    let d : Bor (List ℕ) = record { ref_ptr = (0, 0); now = [] } in
    record {
      written = part_written c.args.parts.now i d c.write_text.new.out.items c.loop-part.out.items c.write_bytes.new.out.items c.loop-part-test.true
          c.loop-part.invariant.written c.in_ok-write_bytes.ensures.ok;
      in_range = part_in_range c.args.parts.now i d c.loop-part-test.true c.loop-part.invariant.in_range c.in_ok-write_bytes.ensures.in_range;
    }

pub returns-clause-begins : goal.returns-clause-begins
returns-clause-begins c =
    let n : ℕ = length c.args.parts.now + 1 + c.args.further_elements in
    let contents = map (λ (part : Bor (List ℕ)). part.now) c.args.parts.now in
    let count : n ≡ length contents + 1 + c.args.further_elements = omega (arith, length-map c.args.parts.now (λ (part : Bor (List ℕ)). part.now)) in
    let small : n < 2 ^ 64 = search rules in
    let all : first_parts c.args.parts.now c.loop-part.part-index ≡ byte_strings contents =
    ap (λ parts. byte_strings (map (λ part. part.now) parts)) (take_all c.loop-part.part-index c.args.parts.now c.loop-part-test.false) in
    let head : c.write_array_head.new.out.items ≡ least_head 4 n = c.in_ok-write_array_head.ensures.ok
    ∙ ap (λ s. s ++ least_head 4 n) c.in_ok-out.ensures.items in
    let front : c.write_text.new.out.items ≡ least_head 4 n ++ least_encoding (text c.args.context.now) = c.in_ok-write_text.ensures.ok
    ∙ ap (λ s. s ++ least_encoding (text c.args.context.now)) head in
    let written : c.loop-part.out.items ≡ (least_head 4 n ++ least_encoding (text c.args.context.now)) ++ least_encodings (byte_strings contents) =
    c.loop-part.invariant.written ∙ ap₂ (λ s t. s ++ t) front (ap least_encodings all) in
    record {
      begins = subst (λ k. c.loop-part.out.items ≡ (least_head 4 k ++ least_encoding (text c.args.context.now))
          ++ least_encodings (byte_strings contents)) count written;
      small = subst (λ (k : ℕ). k < 2 ^ 64) count small;
      context_in_range = c.in_ok-write_text.ensures.in_range;
      in_range = subst AreInRange all c.loop-part.invariant.in_range;
    }
