-- Properties of each kind.
use Rattle.std.proofs.Common.{◌≡◌, ℕ, List, Result, Ok, Err, refl, subst, sym}
use Rattle.std.specs.Prelude.{IsErrAnd, MatchResult}
use Rattle.coset.specs.Item.{Item}
use Rattle.coset.specs.Grammar.{IsItem}
use Rattle.coset.specs.Shape.{Shape}
use Rattle.coset.specs.CoseError.{CoseError}
use Rattle.coset.specs.CoseError.TheVariants.{OutOfMemory}
use Rattle.coset.specs.Results.{Describes, DescribesNothing, IsOnlyItem, IsWholeFault, SliceFaults}
use Rattle.coset.specs.Errors.{UnlessMemory}
use Rattle.ffi_query.specs.declared.kind.Kind as kinds
use Rattle.ffi_query.specs.declared.kind.Kind.TheVariants.{Sign1, Sign, Mac0, Mac, Encrypt0, Encrypt, Signature, Recipient}
use Rattle.ffi_query.specs.declared.kind.Kind.TheVariants.{Header, Key, KeySet, Claims, Any, KdfContext}
use Rattle.ffi_query.specs.Kinds.{Checks, ChecksAs, HoldsOf, IsItemOf, IsOf, IsRefused, tag_of, without_tag}

-- A property of every shape is one of the kind's shape.
holds_of_all : (k : kinds.Kind) (P : (A : Type 0) → Shape A → Type 0) → ((A : Type 0) (s : Shape A) → P A s) → HoldsOf k P
holds_of_all (Sign1 f) P h = h _ _
holds_of_all (Sign f) P h = h _ _
holds_of_all (Mac0 f) P h = h _ _
holds_of_all (Mac f) P h = h _ _
holds_of_all (Encrypt0 f) P h = h _ _
holds_of_all (Encrypt f) P h = h _ _
holds_of_all Signature P h = h _ _
holds_of_all Recipient P h = h _ _
holds_of_all Header P h = h _ _
holds_of_all Key P h = h _ _
holds_of_all KeySet P h = h _ _
holds_of_all Claims P h = h _ _
holds_of_all Any P h = h _ _
holds_of_all KdfContext P h = h _ _

-- If Q follows from P for every shape, it follows for the kind's shape.
follows_of : (k : kinds.Kind) (P : (A : Type 0) → Shape A → Type 0) (Q : Type 0) → ((A : Type 0) (s : Shape A) → P A s → Q) → HoldsOf k P → Q
follows_of (Sign1 f) P Q h p = h _ _ p
follows_of (Sign f) P Q h p = h _ _ p
follows_of (Mac0 f) P Q h p = h _ _ p
follows_of (Mac f) P Q h p = h _ _ p
follows_of (Encrypt0 f) P Q h p = h _ _ p
follows_of (Encrypt f) P Q h p = h _ _ p
follows_of Signature P Q h p = h _ _ p
follows_of Recipient P Q h p = h _ _ p
follows_of Header P Q h p = h _ _ p
follows_of Key P Q h p = h _ _ p
follows_of KeySet P Q h p = h _ _ p
follows_of Claims P Q h p = h _ _ p
follows_of Any P Q h p = h _ _ p
follows_of KdfContext P Q h p = h _ _ p

-- Bytes of a kind are one item.
is_item : (k : kinds.Kind) (b : List ℕ) → IsOf k b → (v : Item) × IsItem b v
is_item k b = follows_of k (λ A s. (x : A) × Describes s b x) ((v : Item) × IsItem b v) (λ A s p. (p.1.0, p.1.1))

-- Bytes that are an item are of the kind `Any`.
pub any_item : (b : List ℕ) (w : Item) → IsItem b w → IsOf Any b
any_item b w is = (w, (w, is, refl))

-- `OutOfMemory` refuses any bytes.
pub memory_refuses : (k : kinds.Kind) (b : List ℕ) (e : CoseError) → e ≡ OutOfMemory → IsRefused k b e
memory_refuses k b e is = holds_of_all k (λ A s. UnlessMemory e (λ f. SliceFaults s b f × DescribesNothing s b)) (λ A s n. absurd (n is))

-- Bytes of a kind have no fault that would keep them from being one item.
pub not_whole :
    (k : kinds.Kind) (b : List ℕ) (e : CoseError) → IsOf k b → UnlessMemory e (IsWholeFault b) → (e ≡ OutOfMemory → ⊥) → IsRefused k b e
not_whole k b e is fault other = let i = is_item k b is in absurd ((fault other).1 i.0 i.1)

-- The item of a kind that the bytes encode, without its tag.
pub inside : (k : kinds.Kind) (b : List ℕ) (whole v : Item) → IsOf k b → IsOnlyItem b whole → v ≡ without_tag (tag_of k) whole → IsItemOf k b v
inside k b whole v is only e = record { whole = whole; is_item = only.0; is_of = is; is_inside = e }

-- ---- errors returned unchanged

pub refuses : {T : Type 0} (P : T → Type 0) (Q : CoseError → Type 0) (e : CoseError) (r : Result T CoseError) → IsErrAnd r (λ x. x ≡ e) → Q e
    → MatchResult r P Q
refuses P Q e (Ok x) is h = absurd is
refuses P Q e (Err x) is h = subst Q (sym is) h

pub not_checked : {A : Type 0} (s : Shape A) (b : List ℕ) (e : CoseError) (r : Result (Unit {0}) CoseError) → IsErrAnd r (λ x. x ≡ e)
    → UnlessMemory e (SliceFaults s b)
    → UnlessMemory e (λ _. DescribesNothing s b)
    → ChecksAs s b r
not_checked s b e (Ok x) is f n = absurd is
not_checked s b e (Err x) is f n = subst (λ y. ChecksAs s b (Err y)) (sym is) (λ m. (f m, n m))

pub check_refused : (k : kinds.Kind) (b : List ℕ) (e : CoseError) (r : Result (Unit {0}) CoseError) → IsErrAnd r (λ x. x ≡ e) → IsRefused k b e → Checks k b r
check_refused k b e (Ok x) is h = absurd is
check_refused k b e (Err x) is h = subst (λ y. Checks k b (Err y)) (sym is) h
