-- The required members that were found.
use Rattle.std.proofs.Common.{◌≡◌, ℕ, ℤ, List, [], ◌∷◌, Vec, Global, Result, Ok, Err, refl, sym, ap, subst, ◌∙◌}
use Rattle.std.specs.Prelude.{IfOk, IfErr, IsErrAnd}
use Rattle.coset.specs.Item.{Item}
use Rattle.coset.specs.Keys.{KeyView}
use Rattle.coset.specs.LabelData.{LabelView, number}
use Rattle.coset.specs.Shortest.{IsShortest}
use Rattle.cose_thumbprint.specs.Thumbprint.{DataType, Required, then_on, member, members, map_of, map_of_members, GivesInput}
use Rattle.cose_thumbprint.specs.Views.{IsResult, member_view}
use Rattle.cose_thumbprint.specs.declared.error.ThumbprintError.{ThumbprintError}
use Rattle.cose_thumbprint.specs.declared.error.ThumbprintError.TheVariants.{OutOfMemory}
use Rattle.cose_thumbprint.specs.declared.member.Member.{Member}

viewed : (o : Result (ℤ × Item) ThumbprintError) (x : Member) → IsResult member_view o (Ok x) → o ≡ Ok (member_view x)
viewed (Ok y) x h = ap Ok (sym h)
viewed (Err e) x h = absurd h

-- A member that was found under the label `l`.
pub found : (k : KeyView) (l n : ℤ) (t : DataType) (x : Member) → l ≡ n → IsResult member_view (member k (l, t)) (Ok x) → member k (n, t) ≡ Ok (member_view x)
found k l n t x same h = subst (λ j. member k (j, t) ≡ Ok (member_view x)) same (viewed (member k (l, t)) x h)

refused : (o : Result (ℤ × Item) ThumbprintError) (e : ThumbprintError) → IsResult member_view o (Err e) → o ≡ Err e
refused (Ok y) e h = absurd h
refused (Err f) e h = ap Err (sym h)

-- A member that was not found under the label `l`.
pub failed : (k : KeyView) (l n : ℤ) (t : DataType) (e : ThumbprintError) → l ≡ n → IsResult member_view (member k (l, t)) (Err e) → member k (n, t) ≡ Err e
failed k l n t e same h = subst (λ j. member k (j, t) ≡ Err e) same (refused (member k (l, t)) e h)

-- The last member, whether or not it was found.
pub last : (k : KeyView) (m : Required) (r : Result (ℤ × Item) ThumbprintError) → member k m ≡ r → members k (m ∷ []) ≡ then_on r (λ x. Ok (x ∷ []))
last k m r is = λ i. then_on (is i) (λ x. Ok (x ∷ []))

-- A member that was found, before these.
pub more : (k : KeyView) (m : Required) (ms : List Required) (x : ℤ × Item) (r : Result (List (ℤ × Item)) ThumbprintError) → member k m ≡ Ok x
    → members k ms ≡ r → members k (m ∷ ms) ≡ then_on r (λ es. Ok (x ∷ es))
more k m ms x r first others = λ i. then_on (first i) (λ y. then_on (others i) (λ es. Ok (y ∷ es)))

-- ---- the result

written : (v : Item) (r : Result (Vec ℕ Global) ThumbprintError) → IfOk r (λ b. IsShortest b.items v) → IfErr r (λ e. e ≡ OutOfMemory) → GivesInput (Ok v) r
written v (Ok b) ok memory = ok
written v (Err e) ok memory = memory

pub gives : (kty type : ℤ) (k : KeyView) (ms : List Required) (es : List (ℤ × Item)) (r : Result (Vec ℕ Global) ThumbprintError) → type ≡ kty
    → members k ms ≡ Ok es → IfOk r (λ b. IsShortest b.items (map_of (number type) es)) → IfErr r (λ e. e ≡ OutOfMemory)
    → GivesInput (map_of_members (number kty) k ms) r
gives kty type k ms es r same is ok memory =
    subst (λ o. GivesInput (then_on o (λ xs. Ok (map_of (number kty) xs))) r) (sym is)
    (written (map_of (number kty) es) r (subst (λ t. IfOk r (λ b. IsShortest b.items (map_of (number t) es))) same ok) memory)

refused_for : (e : ThumbprintError) (r : Result (Vec ℕ Global) ThumbprintError) → IsErrAnd r (λ f. f ≡ e) → GivesInput (Err e) r
refused_for e (Ok b) h = absurd h
refused_for e (Err f) h = h

pub refuses : (kty : LabelView) (k : KeyView) (ms : List Required) (e : ThumbprintError) (r : Result (Vec ℕ Global) ThumbprintError) → members k ms ≡ Err e
    → IsErrAnd r (λ f. f ≡ e) → GivesInput (map_of_members kty k ms) r
refuses kty k ms e r is h = subst (λ o. GivesInput (then_on o (λ xs. Ok (map_of kty xs))) r) (sym is) (refused_for e r h)
