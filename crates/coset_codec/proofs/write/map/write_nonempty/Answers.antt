use Rattle.std.proofs.Common.{ap, not, rules, ◌∙◌}
use Rattle.coset_codec.proofs.EncodingMaps.{filled-there, left-out}
use Rattle.coset_codec.proofs.write.map.write_nonempty.Goals as goal

pub returns-then-is_empty-clause-ok : goal.returns-then-is_empty-clause-ok
returns-then-is_empty-clause-ok c =
    left-out _ c.args.out.now.items _ _ (filled-there c.args.bytes.now.items c.is_empty.result (search rules) ∙ ap not c.if-is_empty.true)
