use Rattle.tool_notation.specs.Encoding.{type_of}
use Rattle.tool_notation.proofs.Steps.{all_chunks, no_chunks, one_chunk}
use Rattle.tool_notation.proofs.string.chunks.Goals as goal

pub loop-init : goal.loop-init
loop-init c =
    let m = type_of c.in-Some.major in
    one_chunk m c.args.out.now.items c.push_open.new.out.items c.chunk.new.out.items
    (no_chunks m c.args.out.now.items c.push_open.new.out.items c.in_ok-push_open.ensures) c.in_ok-left.ensures

pub loop-preserved : goal.loop-preserved
loop-preserved c =
    one_chunk (type_of c.in-Some.major) c.args.out.now.items c.loop.out.items c.chunk-in-loop.new.out.items c.loop.invariant c.in_ok-left-2.ensures

pub returns : goal.returns
returns c =
    all_chunks (type_of c.in-Some.major) c.args.out.now.items c.loop.out.items c.push_break.new.out.items c.in-Some.ensures c.loop.invariant
    c.in_ok-push_break.ensures
