use Rattle.std.proofs.Common.{Bor, List, ℕ, map, sym}
use Rattle.std.proofs.lemmas.List.{append-nil}
use Rattle.coset_value.specs.Item.{no_items}
use Rattle.coset_core.proofs.Structures.{whole_written}
use Rattle.coset_core.proofs.structure.structure_bytes.Goals as goal

pub returns-clause-encoding : goal.returns-clause-encoding
returns-clause-encoding c =
    whole_written c.least_encoding_is_shortest.ensures c.args.context.now
    (map (λ (part : Bor (List ℕ)). part.now) c.args.parts.now) no_items c.in_ok-out.out.items c.in_ok-out.out.items c.in_ok-out.ensures.begins tt
    (sym (append-nil c.in_ok-out.out.items))
