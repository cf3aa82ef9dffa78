-- The results of keys that are called through closures. A clause about a call of a closure is taken apart here. OK
-- holds of calls that succeed, ERR of calls that are refused.
use Rattle.std.proofs.Common.{◌≡◌, ◌↔◌, ◌∙◌, Bool, not, ℕ, List, None, Some, Option, Result, Ok, Err, Vec, Global, ap, false, inl, is_some, option_map, refl}
use Rattle.std.proofs.Common.{sym, subst, true, true≢false}
use Rattle.std.specs.Prelude.{IfErr, IfOk, IfSome, IsOk}
use Rattle.std.specs.Borrow.{Bor}
use Rattle.coset_value.specs.Item.{Item}
use Rattle.coset_codec.specs.Results.{Describes}
use Rattle.coset_codec.specs.AsWritten.{WhenRead}
use Rattle.coset_codec.specs.Encoding.{HasNoImage}
use Rattle.coset_codec.specs.declared.error.CallError.{CallError}
use Rattle.coset_codec.specs.declared.error.CallError.TheVariants.{Coset, Caller}
use Rattle.coset_codec.specs.declared.error.CoseError.{CoseError}
use Rattle.coset_codec.specs.declared.error.CoseError.TheVariants.{OutOfMemory}
use Rattle.coset_core.specs.Headers.{HeaderView}
use Rattle.coset_msg.specs.EncStructure.{Encrypts}
use Rattle.coset_msg.specs.declared.enc_structure.EncryptionContext.TheVariants.{CoseEncrypt0}
use Rattle.coset_msg.specs.Encrypt0.{Encrypt0View, encrypt0, encrypt0_structure}
use Rattle.coset_core.specs.Calls.{IsStructure}
use Rattle.coset_sign.specs.Sign1.{Sign1View, sign1, sign1_attached, sign1_structure}
use Rattle.example_uses.specs.Exchange.{CarriesSame, IsSent}
use Rattle.example_uses.specs.Oscore.{IsDecrypted}
use Rattle.example_uses.specs.Refusals.{IsNotDecrypted, IsNotOpened, IsNotSent, IsNotVerified, unsigned}
use Rattle.example_uses.specs.declared.cipher.Refused.{Refused}
use Rattle.example_uses.specs.declared.cipher.Refused.TheVariants.{Rejected}
use Rattle.example_uses.proofs.Spellings.{LeastIsShortest, ShortestIsInRange, has_structure, is_accepted, only_memory}

-- A call with references to s and t, and one with a reference to t.
abbrev At : (Bor (List ℕ) → Bor (List ℕ) → Type 0) → List ℕ → List ℕ → Type 0
At P s t = (p : Bor (List ℕ)) × (q : Bor (List ℕ)) × P p q × (p.now ≡ s) × (q.now ≡ t)

abbrev AtOne : (Bor (List ℕ) → Type 0) → List ℕ → Type 0
AtOne P t = (p : Bor (List ℕ)) × P p × (p.now ≡ t)

at : {P : Bor (List ℕ) → Bor (List ℕ) → Type 0} (Q : List ℕ → List ℕ → Type 0) → ((p q : Bor (List ℕ)) → P p q → Q p.now q.now) → (s t : List ℕ) → At P s t
    → Q s t
at Q says s t h = subst (λ x. Q x t) h.3 (subst (λ y. Q h.0.now y) h.4 (says h.0 h.1 h.2))

at_one : {P : Bor (List ℕ) → Type 0} (Q : List ℕ → Type 0) → ((p : Bor (List ℕ)) → P p → Q p.now) → (t : List ℕ) → AtOne P t → Q t
at_one Q says t h = subst Q h.2 (says h.0 h.1)

-- The closure refused s and the bytes of a structure, or there is no structure.
abbrev pub Denied : (Bor (List ℕ) → Bor (List ℕ) → Refused → Type 0) → List ℕ → Option Item → CallError Refused → Type 0
Denied ERR s o (Caller r) = (b : List ℕ) × IsStructure o b × At (λ p q. ERR p q r) s b
Denied ERR s o (Coset e) = HasNoImage o e

-- ---- a key that verifies

-- The result is `Ok` exactly if the key accepts. Otherwise it is the error `Rejected`.
pub record Judges (accepts : List ℕ → List ℕ → Type 0) (s t : List ℕ) (r : Result (Unit {0}) Refused) : Type 0 where
  pub accepted : IsOk r ↔ accepts t s
  pub refused : IfErr r (λ e. e ≡ Rejected)

pub accepted :
    {OK : Bor (List ℕ) → Bor (List ℕ) → Type 0} (accepts : List ℕ → List ℕ → Type 0) (s : List ℕ) (o : Option Item)
    → ((b : List ℕ) × IsStructure o b × At OK s b)
    → ((p q : Bor (List ℕ)) → OK p q → Judges accepts p.now q.now (Ok tt)) → (t : List ℕ) × IsStructure o t × accepts t s
accepted accepts s o asked says = (asked.0, asked.1, (at (λ x y. Judges accepts x y (Ok tt)) says s asked.0 asked.2).accepted.0 refl)

module _ (ERR : Bor (List ℕ) → Bor (List ℕ) → Refused → Type 0) (accepts : List ℕ → List ℕ → Type 0) where
  -- Each refusal of the closure is one of the key.
  abbrev pub Refuses : Type 0
  Refuses = (p q : Bor (List ℕ)) (r : Refused) → ERR p q r → Judges accepts p.now q.now (Err r)

  judged : Refuses → (s t : List ℕ) (r : Refused) → At (λ p q. ERR p q r) s t → Judges accepts s t (Err r)
  judged says s t r h = at (λ x y. Judges accepts x y (Err r)) (λ p q k. says p q r k) s t h

  -- Why a message that was read isn't verified.
  pub not_verified :
      ((external_aad payload : List ℕ) → WhenRead sign1 (λ m. sign1_structure m external_aad payload ≡ None → ⊥))
      → (external_aad b : List ℕ) (m : Sign1View) (e : CallError Refused) → Describes sign1 b m → Denied ERR m.signature (sign1_attached m external_aad) e
      → Refuses → IsNotVerified accepts external_aad b e
  not_verified law a b m (Coset e) d asked says = λ other. absurd (law a _ d.0 m d.2 (asked other).1)
  not_verified law a b m (Caller r) d asked says =
      let no = judged says m.signature asked.0 r asked.2 in
      (m, asked.0, d, asked.1, (λ h. true≢false (sym (no.accepted.1 h))), no.refused)

  -- A message that was sent is refused only with `OutOfMemory`.
  pub memory_alone :
      ShortestIsInRange → LeastIsShortest → {a payload b : List ℕ} (sent : IsSent accepts a payload b) (n : Sign1View) → CarriesSame n sent.message
      → (e : CallError Refused) → Denied ERR n.signature (sign1_attached n a) e → Refuses → e ≡ Coset OutOfMemory
  memory_alone in_range least {a} sent n same (Coset e) asked says = ap Coset (only_memory e (λ other. has_structure sent n same (asked other).1))
  memory_alone in_range least {a} sent n same (Caller r) asked says =
      absurd (true≢false (sym ((judged says n.signature asked.0 r asked.2).accepted.1 (is_accepted in_range least sent n same asked.0 asked.1))))

-- ---- a key that signs

pub record Signs (signs : List ℕ → List ℕ → Type 0) (refuses : List ℕ → Refused → Type 0) (t : List ℕ) (r : Result (Vec ℕ Global) Refused) : Type 0 where
  pub signed : IfOk r (λ s. signs t s.items)
  pub refused : IfErr r (λ e. refuses t e)

module _ (signs : List ℕ → List ℕ → Type 0) (refuses : List ℕ → Refused → Type 0) where
  -- The signature that was made, and the bytes that it signs.
  pub made :
      {OK : Bor (List ℕ) → Vec ℕ Global → Type 0} (o : Option Item) (stores : Vec ℕ Global → Type 0)
      → ((b : List ℕ) × (s : Vec ℕ Global) × IsStructure o b × AtOne (λ p. OK p s) b × stores s)
      → ((p : Bor (List ℕ)) (s : Vec ℕ Global) → OK p s → Signs signs refuses p.now (Ok s))
      → (s : Vec ℕ Global) × stores s × ((t : List ℕ) × IsStructure o t × signs t s.items)
  made o stores h says = (h.1, h.4, (h.0, h.2, (at_one (λ x. Signs signs refuses x (Ok h.1)) (λ p k. says p h.1 k) h.0 h.3).signed))

  -- The closure refused, or there is no structure.
  abbrev pub DeniedOne : (Bor (List ℕ) → Refused → Type 0) → Option Item → CallError Refused → Type 0
  DeniedOne ERR o (Caller r) = (b : List ℕ) × IsStructure o b × AtOne (λ p. ERR p r) b
  DeniedOne ERR o (Coset e) = HasNoImage o e

  -- Why a message isn't signed.
  pub not_signed :
      {ERR : Bor (List ℕ) → Refused → Type 0} (external_aad : List ℕ) (h : HeaderView) (payload : List ℕ) (m : Sign1View) → m ≡ unsigned h payload
      → (e : CallError Refused)
      → DeniedOne ERR (sign1_attached m external_aad) e → ((p : Bor (List ℕ)) (r : Refused) → ERR p r → Signs signs refuses p.now (Err r))
      → IsNotSent refuses external_aad h payload e
  not_signed a h payload m is (Coset e) tried says = inl (subst (λ x. HasNoImage (sign1_attached x a) e) is tried)
  not_signed a h payload m is (Caller r) tried says = (
    tried.0,
    subst (λ x. IsStructure (sign1_attached x a) tried.0) is tried.1,
    (at_one (λ x. Signs signs refuses x (Err r)) (λ p k. says p r k) tried.0 tried.2).refused,
  )

-- ---- a key that decrypts

pub record Opens (decrypts : List ℕ → List ℕ → List ℕ → Type 0) (refuses : List ℕ → List ℕ → Refused → Type 0) (c t : List ℕ)
    (r : Result (Vec ℕ Global) Refused) : Type 0 where
  pub decrypted : IfOk r (λ p. decrypts c t p.items)
  pub refused : IfErr r (λ e. refuses c t e)

-- An optional vector that is absent has a view that is absent.
pub missing : (o : Option (Vec ℕ Global)) (b : Bool) → is_some o ≡ not b → b ≡ true → option_map (λ x. x.items) o ≡ None
missing None b h e = refl
missing (Some x) b h e = absurd (true≢false (h ∙ ap not e))

pub there : (o : Option (Vec ℕ Global)) (b : Bool) → is_some o ≡ not b → b ≡ false → option_map (λ x. x.items) o ≡ None → ⊥
there None b h e none = true≢false (sym (h ∙ ap not e))
there (Some x) b h e none = absurd (cc)

-- A message that was read always has a structure.
abbrev pub EncryptsWhenRead : Type 0
EncryptsWhenRead = WhenRead encrypt0 (λ m. Encrypts m.protected)

module _ (decrypts : List ℕ → List ℕ → List ℕ → Type 0) (refuses : List ℕ → List ℕ → Refused → Type 0) where
  -- The plaintext that was made, with its ciphertext and structure.
  opened :
      (OK : Bor (List ℕ) → Bor (List ℕ) → Type 0) (o : Option (List ℕ)) (structure : Option Item) (x : Vec ℕ Global) → (o ≡ None → ⊥)
      → IfSome o (λ c. (b : List ℕ) × IsStructure structure b × At OK c b) → ((p q : Bor (List ℕ)) → OK p q → Opens decrypts refuses p.now q.now (Ok x))
      → (c : List ℕ) × (o ≡ Some c) × ((t : List ℕ) × IsStructure structure t × decrypts c t x.items)
  opened OK None structure x there asked says = absurd (there refl)
  opened OK (Some c) structure x there asked says =
      (c, refl, (asked.0, asked.1, (at (λ v w. Opens decrypts refuses v w (Ok x)) says c asked.0 asked.2).decrypted))

  not_opened :
      (ERR : Bor (List ℕ) → Bor (List ℕ) → Refused → Type 0) (o : Option (List ℕ)) (structure : Option Item) (r : Refused) → (o ≡ None → ⊥)
      → IfSome o (λ c. Denied ERR c structure (Caller r))
      → ((p q : Bor (List ℕ)) (y : Refused) → ERR p q y → Opens decrypts refuses p.now q.now (Err y)) → IsNotOpened refuses o structure r
  not_opened ERR None structure r there asked says = absurd (there refl)
  not_opened ERR (Some c) structure r there asked says =
      (asked.0, asked.1, (at (λ v w. Opens decrypts refuses v w (Err r)) (λ p q k. says p q r k) c asked.0 asked.2).refused)

  no_data :
      (ERR : Bor (List ℕ) → Bor (List ℕ) → Refused → Type 0) (o : Option (List ℕ)) (structure : Option Item) (e : CoseError) → (o ≡ None → ⊥)
      → IfSome o (λ c. Denied ERR c structure (Coset e))
      → HasNoImage structure e
  no_data ERR None structure e there asked = absurd (there refl)
  no_data ERR (Some c) structure e there asked = asked

  -- The result for a message that was read and has a ciphertext.
  pub is_decrypted :
      {OK : Bor (List ℕ) → Bor (List ℕ) → Type 0} (external_aad b : List ℕ) (m : Encrypt0View) (x : Vec ℕ Global) → Describes encrypt0 b m
      → (m.ciphertext ≡ None → ⊥)
      → IfSome m.ciphertext (λ c. (t : List ℕ) × IsStructure (encrypt0_structure m external_aad) t × At OK c t)
      → ((p q : Bor (List ℕ)) → OK p q → Opens decrypts refuses p.now q.now (Ok x))
      → IsDecrypted decrypts external_aad b x.items
  is_decrypted {OK = OK} a b m x d there asked says =
      let whole = opened OK m.ciphertext (encrypt0_structure m a) x there asked says in
      record { message = m; read = d; ciphertext = whole.0; carried = whole.1; decrypted = whole.2 }

  pub not_decrypted :
      (ERR : Bor (List ℕ) → Bor (List ℕ) → Refused → Type 0) → EncryptsWhenRead → (external_aad b : List ℕ) (m : Encrypt0View) (e : CallError Refused)
      → Describes encrypt0 b m → (m.ciphertext ≡ None → ⊥)
      → IfSome m.ciphertext (λ c. Denied ERR c (encrypt0_structure m external_aad) e)
      → ((p q : Bor (List ℕ)) (y : Refused) → ERR p q y → Opens decrypts refuses p.now q.now (Err y)) → IsNotDecrypted refuses external_aad b e
  not_decrypted ERR law a b m (Coset e) d there asked says =
      λ other. absurd (law d.0 m d.2 CoseEncrypt0 a (no_data ERR m.ciphertext (encrypt0_structure m a) e there asked other).1)
  not_decrypted ERR law a b m (Caller r) d there asked says = (m, d, not_opened ERR m.ciphertext (encrypt0_structure m a) r there asked says)

-- The error for a message without a ciphertext.
pub none_decrypted :
    (refuses : List ℕ → List ℕ → Refused → Type 0) (external_aad b : List ℕ) (m : Encrypt0View) → Describes encrypt0 b m → m.ciphertext ≡ None
    → IsNotDecrypted refuses external_aad b (Caller Rejected)
none_decrypted refuses a b m d none = (m, d, subst (λ o. IsNotOpened refuses o (encrypt0_structure m a) Rejected) (sym none) refl)
