-- Keys that are tried in order, and the result.
use Rattle.std.specs.Prelude.{◌≡◌, ◌++◌, ◌<◌, ◌≤◌, ℕ, List, [], ◌∷◌, length, take, option_map, All}
use Rattle.std.specs.List.{filter_map, flat_map}
use Rattle.coset.specs.Keys.{KeyView, key_set_view}
use Rattle.cwt_keys.specs.Keys.{Name, name_view}
use Rattle.cwt_keys.specs.Sealed.{SealView}
use Rattle.cwt_ring.specs.Fits.{Fitted, fits}
use Rattle.cwt_ring.specs.declared.attempt.Issuer.{Issuer}
use Rattle.cwt_ring.specs.declared.error.KeyError.{KeyError}
use Rattle.cwt_ring.specs.declared.error.KeyError.TheVariants.{NoKey, Cipher, TooManyKeys}

-- The view of an issuer.
pub record IssuerView : Type 0 where
  pub name : Name
  pub keys : List KeyView

abbrev pub issuer_view : Issuer → IssuerView
issuer_view i = record { name = name_view i.name; keys = key_set_view i.keys.now }

-- The keys of an issuer that fit the layer, in order. Each has its nonce and the issuer's name.
abbrev pub fitting_of : SealView → Name → List KeyView → List (Name × Fitted)
fitting_of s name ks = filter_map (λ k. option_map (λ n. (name, record { key = k; nonce = n })) (fits k s)) ks

-- The keys of all issuers that fit the layer, in order.
abbrev pub fitting : SealView → List IssuerView → List (Name × Fitted)
fitting s is = flat_map (λ i. fitting_of s i.name i.keys) is

-- The most keys that are tried.
abbrev pub MAX_KEYS : ℕ
MAX_KEYS = 16

-- Each of these keys is refused.
abbrev pub AllRefused : {E : Type 0} → (Fitted → E → Type 0) → List (Name × Fitted) → Type 0
AllRefused {E} refuse ks = All (λ k. (e : E) × refuse k.1 e) ks

-- One of the first 16 of these keys is accepted, and its issuer has this name. The keys before it are refused.
pub record Finds {E : Type 0} (accept : Fitted → Type 0) (refuse : Fitted → E → Type 0) (ks : List (Name × Fitted)) (name : Name) : Type 0 where
  pub before : List (Name × Fitted)
  pub key : Fitted
  pub after : List (Name × Fitted)
  pub are : ks ≡ before ++ (name, key) ∷ after
  pub early : length before < MAX_KEYS
  pub refused : AllRefused refuse before
  pub accepted : accept key

-- There are keys, at most 16, and each is refused, the last one with e.
pub record AreRefused {E : Type 0} (refuse : Fitted → E → Type 0) (ks : List (Name × Fitted)) (e : E) : Type 0 where
  pub before : List (Name × Fitted)
  pub last : Name × Fitted
  pub are : ks ≡ before ++ last ∷ []
  pub few : length ks ≤ MAX_KEYS
  pub refused : AllRefused refuse before
  pub last_refused : refuse last.1 e

-- There are more than 16 keys, and each of the first 16 is refused.
pub record AreTooMany {E : Type 0} (refuse : Fitted → E → Type 0) (ks : List (Name × Fitted)) : Type 0 where
  pub many : MAX_KEYS < length ks
  pub refused : AllRefused refuse (take MAX_KEYS ks)

-- The reason why none of these keys is accepted: there is none, or each that is tried is refused.
abbrev pub RefusedFor : {E : Type 0} → (Fitted → E → Type 0) → List (Name × Fitted) → KeyError E → Type 0
RefusedFor refuse ks NoKey = ks ≡ []
RefusedFor refuse ks (Cipher e) = AreRefused refuse ks e
RefusedFor refuse ks TooManyKeys = AreTooMany refuse ks
