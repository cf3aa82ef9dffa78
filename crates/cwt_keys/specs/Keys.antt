-- The results of keys.
use Rattle.std.specs.Prelude.{ℕ, List, Option, option_map}
use Rattle.std.specs.Borrow.{Bor}
use Rattle.cwt_keys.specs.Sealed.{SealView}

-- The name of an issuer, or that it has none.
abbrev pub Name : Type 0
Name = Option (List ℕ)

abbrev pub name_view : Option (Bor (List ℕ)) → Name
name_view n = option_map (λ s. s.now) n

-- The view of keys: the signatures and MACs that they may accept, and the plaintexts that they may return, each for the
-- issuer of a name. For either it has the errors that they may return.
pub record KeysView (E : Type 0) : Type 1 where
  pub accepts : SealView → Name → Type 0
  pub not_accepted : SealView → E → Type 0
  pub decrypts : SealView → List ℕ → Name → Type 0
  pub not_decrypted : SealView → E → Type 0

-- Keys of which nothing is known.
abbrev pub accept_anything : {E : Type 0} → KeysView E
accept_anything = record {
  accepts = λ s n. Unit {0};
  not_accepted = λ s e. Unit {0};
  decrypts = λ s p n. Unit {0};
  not_decrypted = λ s e. Unit {0};
}
