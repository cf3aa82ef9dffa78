use Rattle.std.proofs.Common.{arith}
use Rattle.coset_codec.specs.Inputs.{state}
use Rattle.coset_codec.proofs.Visiting.{at_end, at_key, at_value, on_value, stops}
use Rattle.coset_codec.proofs.read.map.read_pairs.Goals as goal

pub returns-in_err-label-clause-reads : goal.returns-in_err-label-clause-reads
returns-in_err-label-clause-reads g c = λ all ps z walks within.
    let gather = g.V.MapVisitor in
    let w = c.loop-label.invariant.reads all ps z walks within in
    stops gather.names g.met.V.MapVisitor.lawful_names gather.fields g.met.V.MapVisitor.lawful_fields gather.named all (gather.view c.loop-label.visitor)
    (state c.next_label.new.input) z c.next_label.new.pairs c.from_residual.result c.in_err-label.field-0.0 c.from_residual.ensures.1
    (at_key gather.names g.met.V.MapVisitor.lawful_names gather.fields g.met.V.MapVisitor.lawful_fields gather.named all (gather.view c.loop-label.visitor)
    (state c.loop-label.input) (state c.next_label.new.input) z c.loop-label.pairs c.next_label.new.pairs c.in_err-label.field-0.0 w
    (c.in_err-label.ensures.nexts w.left z w.within))

pub loop-label-preserved : goal.loop-label-preserved
loop-label-preserved g c = record {
  shrinks =
      let taken = c.in_ok-add.ensures.shrinks in
      let next = c.in_ok-label.ensures.shrinks in
      let before = c.loop-label.invariant.shrinks in
      omega (arith, taken, next, before);
  reads = λ all ps z walks within.
      let gather = g.V.MapVisitor in
      let w = c.loop-label.invariant.reads all ps z walks within in
      let next = rw c.in-Some.is at c.in_ok-label.ensures.nexts in
      on_value gather.names g.met.V.MapVisitor.lawful_names gather.fields g.met.V.MapVisitor.lawful_fields gather.named all (gather.view c.loop-label.visitor)
      (gather.view c.add.new.self) (state c.loop-label.input) (state c.next_label.new.input) (state c.add.new.input) z
      c.loop-label.pairs c.next_label.new.pairs c.in-Some.label w (next w.left z w.within) c.in_ok-add.ensures.takes;
}

pub returns-in_err-add-clause-reads : goal.returns-in_err-add-clause-reads
returns-in_err-add-clause-reads g c = λ all ps z walks within.
    let gather = g.V.MapVisitor in
    let w = c.loop-label.invariant.reads all ps z walks within in
    let next = rw c.in-Some.is at c.in_ok-label.ensures.nexts in
    stops gather.names g.met.V.MapVisitor.lawful_names gather.fields g.met.V.MapVisitor.lawful_fields gather.named all (gather.view c.add.new.self)
    (state c.add.new.input) z c.next_label.new.pairs c.from_residual-in_err-add.result c.in_err-add.field-0.0 c.from_residual-in_err-add.ensures.1
    (at_value gather.names g.met.V.MapVisitor.lawful_names gather.fields g.met.V.MapVisitor.lawful_fields gather.named all (gather.view c.loop-label.visitor)
    (gather.view c.add.new.self) (state c.loop-label.input) (state c.next_label.new.input) (state c.add.new.input) z
    c.loop-label.pairs c.next_label.new.pairs c.in-Some.label c.in_err-add.field-0.0 w
    (next w.left z w.within) c.in_err-add.ensures.kept c.in_err-add.ensures.refused)

pub returns-clause-reads : goal.returns-clause-reads
returns-clause-reads g c = λ all ps z walks within.
    let gather = g.V.MapVisitor in
    let w = c.loop-label.invariant.reads all ps z walks within in
    let next = rw c.in_default.is at c.in_ok-label.ensures.nexts in
    at_end gather.names g.met.V.MapVisitor.lawful_names gather.fields g.met.V.MapVisitor.lawful_fields gather.named all (gather.view c.loop-label.visitor)
    (state c.loop-label.input) (state c.next_label.new.input) z c.loop-label.pairs c.next_label.new.pairs w
    (next w.left z w.within)
