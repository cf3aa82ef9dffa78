-- Failures of calls of a reader or a writer.
use Rattle.std.specs.Prelude.{◌≡◌, Bool, true, false}
use Rattle.coset_show.specs.declared.stream.Stream.{Stream}

-- The reader or the writer itself.
abbrev pub inner_of : {T : Type 0} → Stream T → T
inner_of s = s.inner

-- True if a call of the reader or the writer failed.
abbrev pub has_failed : {T : Type 0} → Stream T → Bool
has_failed s = s.failed

-- No call has failed.
abbrev pub IsSound : {T : Type 0} → Stream T → Type 0
IsSound s = has_failed s ≡ false

-- A call between the two states failed, and none before.
abbrev pub Fails : {T : Type 0} → Stream T → Stream T → Type 0
Fails old new = IsSound old × (has_failed new ≡ true)
