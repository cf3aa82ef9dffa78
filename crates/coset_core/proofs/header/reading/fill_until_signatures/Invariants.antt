use Rattle.std.proofs.Common.{◌≡◌, ◌≤◌, Option}
use Rattle.coset_value.specs.Item.{Item, Pairs}
use Rattle.coset_codec.specs.Inputs.{State, state, length_left, pairs_size, pairs_turns, PairsWithin}
use Rattle.coset_core.specs.Fields.{HasOneIv, PerVersion}
use Rattle.coset_core.specs.FieldViews.{fields_view, signature_lists}
use Rattle.coset_core.specs.Filling.{WalksTo}
use Rattle.coset_core.proofs.Filling.{SoFar}
use Rattle.coset_core.proofs.header.reading.fill_until_signatures.Given as goal

abbrev pub invariant-loop-label : goal.invariant-loop-label
invariant-loop-label l = record {
  one_iv : HasOneIv (fields_view l.header);
  others : signature_lists l.header ≡ signature_lists l.fn.header;
  shrinks : length_left (state l.input) ≤ length_left (state l.fn.input);
  size : pairs_size l.pairs (state l.input) ≤ pairs_size l.fn.pairs (state l.fn.input);
  turns : pairs_turns l.pairs (state l.input) ≤ pairs_turns l.fn.pairs (state l.fn.input);
  fills : (all ps : Pairs) (o : PerVersion (Option Item)) (z : State) → WalksTo all (fields_view l.fn.header) o ps
      → PairsWithin l.fn.pairs ps (state l.fn.input) z → SoFar all o (fields_view l.header) (state l.input) z l.pairs;
}

abbrev pub decreases-loop-label : goal.decreases-loop-label
decreases-loop-label l = pairs_turns l.pairs (state l.input)
