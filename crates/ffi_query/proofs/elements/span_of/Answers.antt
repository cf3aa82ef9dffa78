use Rattle.std.proofs.Common.{ap, length, subst}
use Rattle.coset.specs.Grammar.{IsItem}
use Rattle.coset.specs.Pulls.{pull_bytes, pull_item}
use Rattle.ffi_query.proofs.Spanning.{begins_at}
use Rattle.ffi_query.proofs.elements.span_of.Goals as goal

pub returns : goal.returns
returns c =
    λ l. let s = pull_bytes c.args.item.item in record {
      bytes = s;
      is_item = subst (λ x. IsItem x (pull_item c.args.item.item)) c.slice.ensures.bytes c.slice.ensures.item;
      place = begins_at c.args.input.now s c.args.item.rest.now _ c.saturating_sub.ensures l;
      len = ap length c.slice.ensures.bytes;
    }
