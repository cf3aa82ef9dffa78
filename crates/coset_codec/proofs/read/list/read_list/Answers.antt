use Rattle.std.proofs.Common.{arith}
use Rattle.coset_codec.proofs.Entered.{moves_on, list_read, is_array}
use Rattle.coset_codec.proofs.read.list.read_list.Goals as goal

pub returns-clause-forward : goal.returns-clause-forward
returns-clause-forward g c =
    let entered = c.in_ok-elements.ensures in
    let read = c.read_each-all.ensures in
    let finish = c.finish.ensures in
    record {
      shrinks = omega (arith, entered.shrinks, read.shrinks, finish.shrinks);
      strictly = moves_on c.read_each-all.result _ _ _ entered.strictly (omega (arith, read.shrinks, finish.shrinks));
      reads = λ v z at.
          let inside = entered.enters v z at in
          let each = read.reads inside.0 z inside.2 in (
            finish.passes each.0.0 z each.0.1,
            list_read g.T.AsCborValue.shape g.T.AsCborValue.view v inside.0 c.read_each-all.result inside.1 each.1,
          );
    }

pub returns-clause-says : goal.returns-clause-says
returns-clause-says g c = λ v z at.
    let inside = c.in_ok-elements.ensures.enters v z at in
    let each = c.read_each-all.ensures.reads inside.0 z inside.2 in
    (c.finish.ensures.passes each.0.0 z each.0.1, is_array v inside.0 _ c.read_each-all.result inside.1)
