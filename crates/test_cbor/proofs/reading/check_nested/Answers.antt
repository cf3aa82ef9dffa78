use Rattle.std.proofs.Common.{◌≡◌, ℕ, ◌+◌, ◌≤◌, List, [], ◌∷◌, ◌++◌, replicate, length, take, drop, Result, Ok, Err, sym, ap, subst, ◌∙◌, arith, append-nil}
use Rattle.std.proofs.Common.{take-append-drop}
use Rattle.std.specs.Prelude.{IfOk, IfErr}
use Rattle.std.proofs.lemmas.List.{length-take, length-append, length-replicate}
use Rattle.coset.specs.Item.{Item}
use Rattle.coset.specs.Grammar.{IsEncoding, IsItem}
use Rattle.coset.specs.Cost.{IsCost}
use Rattle.test_cbor.proofs.reading.check_nested.Goals as goal

abbrev OneItem : Type 0
OneItem = (v w : Item) (b c x y : List ℕ) → IsEncoding v b → IsEncoding w c → b ++ x ≡ c ++ y → (v ≡ w) × (b ≡ c)

abbrev Costs : Type 0
Costs = (n k : ℕ) (v : Item) → IsCost v (replicate n 0x81 ++ 0x80 ∷ []) k → k ≡ n + 1

-- If the bytes are an item, all of them are checked, in the number of steps that the item costs.
counted : {E : Type 0} (one_item : OneItem) (costs : Costs) (r : Result ℕ E) (s : List ℕ) (old new n : ℕ)
    → ((v : Item) × IsItem (replicate n 0x81 ++ 0x80 ∷ []) v) → s ≡ replicate n 0x81 ++ 0x80 ∷ []
    → IfOk r (λ m. m ≤ length s)
    → IfOk r (λ m. (v : Item) × (k : ℕ) × IsItem (take m s) v × IsCost v (take m s) k × (new ≡ old + k))
    → IfErr r (λ e. (v : Item) (b rest : List ℕ) → s ≡ b ++ rest → IsItem b v → ⊥)
    → (r ≡ Ok (n + 1)) × (new ≡ old + (n + 1))
counted one_item costs (Ok m) s old new n whole is fits found refused =
    let b : List ℕ = replicate n 0x81 ++ 0x80 ∷ [] in
    let same : take m s ≡ b = (one_item found.0 whole.0 (take m s) b (drop m s) [] found.2.0 whole.1.0 (take-append-drop m s ∙ (is ∙ sym (append-nil b)))).1 in
    let k : found.1 ≡ n + 1 = costs n found.1 found.0 (subst (λ (x : List ℕ). IsCost found.0 x found.1) same found.3) in
    let size : length b ≡ n + 1 = length-append (replicate n 0x81) (0x80 ∷ []) ∙ ap (λ (x : ℕ). x + 1) (length-replicate n 0x81) in
    let long : length s ≡ n + 1 = ap length is ∙ size in
    let cut : length (take m s) ≡ n + 1 = ap length same ∙ size in
    let m_is : m ≡ n + 1 = omega (arith, cut, long, length-take m s) in
    (ap Ok m_is, found.4 ∙ ap (λ (x : ℕ). old + x) k)
counted one_item costs (Err e) s old new n whole is fits found refused =
    absurd (refused whole.0 (replicate n 0x81 ++ 0x80 ∷ []) [] (is ∙ sym (append-nil _)) whole.1)

pub returns : goal.returns
returns g c = λ n lt is. counted c.one_item.ensures c.nested_arrays_cost.ensures.cost c.check.result c.args.bytes.now c.args.steps.now c.check.new.steps n
    (c.nested_arrays_cost.ensures.item n lt) is c.check.ensures.length c.check.ensures.found c.check.ensures.refused
