-- A map read forward, pair by pair, and where reading stops.
use Rattle.std.specs.Prelude.{List, Result, Ok, Err}
use Rattle.coset_value.specs.Item.{Item, Pairs, no_pairs, pair}
use Rattle.coset_codec.specs.declared.error.CoseError.{CoseError}
use Rattle.coset_codec.specs.declared.read.decoder.MapEntries.{MapEntries}
use Rattle.coset_codec.specs.Errors.{UnlessMemory}
use Rattle.coset_codec.specs.Inputs.{State, PairsWithin}
use Rattle.coset_codec.specs.Maps.{MapLabels, Fields, Walks, RefusesKey}

-- The pairs before one pair make x. That pair has a fault, and reading has passed it.
pub record AtPair (N A : Type 0) (n : MapLabels N) (fs : Fields N A) (all : Pairs) (x : A × List (N × Item)) (t z : State) (m : MapEntries)
    (e : CoseError) : Type 0 where
  pub key : Item
  pub value : Item
  pub others : Pairs
  pub walks : Walks N A n fs all x (pair key value others)
  pub within : PairsWithin m others t z
  pub faulty : UnlessMemory e (RefusesKey n fs key value x)

-- All the pairs make x. Or the pairs before a pair with a fault make x.
abbrev pub ReadsPairs : {N A : Type 0} → MapLabels N → Fields N A → Pairs → A × List (N × Item) → State → State → MapEntries → Result (Unit {0}) CoseError
    → Type 0
ReadsPairs {N} {A} n fs all x t z m (Ok u) = Walks N A n fs all x no_pairs × PairsWithin m no_pairs t z
ReadsPairs {N} {A} n fs all x t z m (Err e) = AtPair N A n fs all x t z m e
