use Rattle.coset_cbor.specs.Cursors.{keys_and_values}
use Rattle.coset_codec.specs.Inputs.{state}
use Rattle.coset_codec.proofs.Inputs.{key_none, key_behind, key_read, key_refused, key_without}
use Rattle.coset_codec.proofs.read.decoder.borrowed_key.Goals as goal

pub returns-then-not-next_borrowed-clause-nexts : goal.returns-then-not-next_borrowed-clause-nexts
returns-then-not-next_borrowed-clause-nexts g c = λ ps z w. key_none g.K.AsCborValue.shape g.K.AsCborValue.view ps (state c.args.input.now) z
    c.next_borrowed.new.elements
    (c.if-not-next_borrowed.ensures.nexts (keys_and_values ps) z w)

pub returns-then-not-next_borrowed-2-clause-nexts : goal.returns-then-not-next_borrowed-2-clause-nexts
returns-then-not-next_borrowed-2-clause-nexts g c = λ ps z w.
    absurd (key_without g.K.AsCborValue.shape g.K.AsCborValue.view ps (state c.args.input.now)
    (state c.from_input-key.new.input) z c.next_borrowed.new.elements c.next_borrowed-2.new.elements c.from_input-key.result
    (c.if-not-next_borrowed.ensures.nexts (keys_and_values ps) z w) c.from_input-key.ensures.forward.reads c.if-not-next_borrowed-2.ensures.nexts)

pub returns-in-Ok-clause-nexts : goal.returns-in-Ok-clause-nexts
returns-in-Ok-clause-nexts g c = λ ps z w.
    key_read g.K.AsCborValue.shape g.K.AsCborValue.view ps (state c.from_input-key.new.input) z c.next_borrowed-2.new.elements c.in-Ok.key
    (key_behind g.K.AsCborValue.shape g.K.AsCborValue.view ps (state c.args.input.now)
    (state c.from_input-key.new.input) z c.next_borrowed.new.elements c.next_borrowed-2.new.elements _
    (c.if-not-next_borrowed.ensures.nexts (keys_and_values ps) z w) c.in-Ok.ensures.forward.reads
    c.if-not-next_borrowed-2.ensures.nexts)

pub returns-in-Err-clause-nexts : goal.returns-in-Err-clause-nexts
returns-in-Err-clause-nexts g c = λ ps z w.
    key_refused g.K.AsCborValue.shape g.K.AsCborValue.view ps (state c.from_input-key.new.input)
    (state c.skip.new.self) z c.next_borrowed-2.new.elements c.in-Err.error
    (key_behind g.K.AsCborValue.shape g.K.AsCborValue.view ps (state c.args.input.now)
    (state c.from_input-key.new.input) z c.next_borrowed.new.elements c.next_borrowed-2.new.elements _
    (c.if-not-next_borrowed.ensures.nexts (keys_and_values ps) z w) c.in-Err.ensures.forward.reads
    c.if-not-next_borrowed-2.ensures.nexts) c.skip.ensures.passes
