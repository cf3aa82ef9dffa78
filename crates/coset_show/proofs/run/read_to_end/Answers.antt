use Rattle.std.proofs.Common.{◌≡◌, ◌<◌, ◌++◌, ◌∙◌, length, take, arith, rules}
use Rattle.std.proofs.lemmas.Grind.{common_steps}
use Rattle.std.proofs.KnownBytes.{Consumes-trans, Consumes-kept}
use Rattle.coset_show.proofs.Gathering.{gave_all}
use Rattle.coset_show.proofs.run.read_to_end.Goals as goal
use Rattle.coset_show.proofs.run.read_to_end.Goals.{in-Ok+in_ok-extend_from_slice-in-Ok, in-Err+else-ne}

pub returns-in-Ok-eq0-clause-bytes : goal.returns-in-Ok-eq0-clause-bytes
returns-in-Ok-eq0-clause-bytes g c =
    let room : 0 < length c.read.new.buffer = omega arith in
    gave_all _ _ _ c.loop.input.items c.read.new.buffer c.in-Ok-eq0.field-0 c.in-Ok-eq0.field-0-test c.loop.invariant.took c.in-Ok-eq0.ensures.bytes.0
    (c.in-Ok-eq0.ensures.bytes.1 c.in-Ok-eq0.field-0-test room)

pub loop-preserved : goal.loop-preserved
loop-preserved g c =
    elim c.match-read.branch [
      | in-Ok+in_ok-extend_from_slice-in-Ok w ↦
          (let grown : c.match-read.input.items ≡ c.loop.input.items ++ take w.in-Ok.count c.read.new.buffer =
          grind (arith, common_steps, w.in_ok-extend_from_slice-in-Ok.ensures.items) in
          record {
            took = rw grown (Consumes-trans _ _ _ _ _ c.loop.invariant.took w.in-Ok.ensures.bytes.0);
            same = w.in-Ok.ensures.ok ∙ c.loop.invariant.same;
          })
      | in-Err+else-ne w ↦ record {
        took = rw w.input-is (Consumes-kept _ _ _ _ c.loop.invariant.took w.in-Err.ensures.bytes);
        same = search rules;
      }
    ]
