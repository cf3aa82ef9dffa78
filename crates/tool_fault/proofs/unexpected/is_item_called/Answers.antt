use Rattle.std.proofs.Common.{ℕ, List, inl, inr, subst, sym}
use Rattle.coset.specs.Results.{DescribesNothing}
use Rattle.coset.specs.Headers.{signature}
use Rattle.coset.specs.Keys.{key}
use Rattle.coset.specs.Pulls.{pull_bytes, pull_item}
use Rattle.tool_fault.specs.Called.{IsCalled, by_kind, no_bytes, no_text, no_elements, no_signatures, spaced, arbitrary, no_key, no_signature}
use Rattle.tool_fault.proofs.Standing.{where_ok}
use Rattle.tool_fault.proofs.unexpected.is_item_called.Goals as goal

pub returns-in-text : goal.returns-in-text
returns-in-text c =
    where_ok c.has_no_bytes.result c.has_no_bytes.ensures (λ e.
    subst (λ (g : List ℕ). IsCalled g (pull_bytes c.args.item) (pull_item c.args.item)) (sym c.in-text.is) (no_bytes _ _ e))

pub returns-in-text-2 : goal.returns-in-text-2
returns-in-text-2 c =
    where_ok c.has_no_text.result c.has_no_text.ensures (λ e.
    subst (λ (g : List ℕ). IsCalled g (pull_bytes c.args.item) (pull_item c.args.item)) (sym c.in-text-2.is) (no_text _ _ e))

pub returns-in-text-3 : goal.returns-in-text-3
returns-in-text-3 c = λ holds.
    let e = c.has_no_elements.ensures holds in
    elim c.in-text-3.is [
      | inl is ↦ subst (λ (g : List ℕ). IsCalled g (pull_bytes c.args.item) (pull_item c.args.item)) (sym is) (no_elements _ _ e)
      | inr is ↦ subst (λ (g : List ℕ). IsCalled g (pull_bytes c.args.item) (pull_item c.args.item)) (sym is) (no_signatures _ _ e)
    ]

pub returns-in-text-4 : goal.returns-in-text-4
returns-in-text-4 c =
    where_ok c.has_no_media_type.result c.has_no_media_type.ensures (λ e.
    elim c.in-text-4.is [
      | inl is ↦ subst (λ (g : List ℕ). IsCalled g (pull_bytes c.args.item) (pull_item c.args.item)) (sym is) (spaced _ _ e)
      | inr is ↦ subst (λ (g : List ℕ). IsCalled g (pull_bytes c.args.item) (pull_item c.args.item)) (sym is) (arbitrary _ _ e)
    ])

pub returns-in-text-5 : goal.returns-in-text-5
returns-in-text-5 c =
    where_ok c.describe_none.result c.describe_none.ensures (λ nothing.
    subst (λ (g : List ℕ). IsCalled g (pull_bytes c.args.item) (pull_item c.args.item)) (sym c.in-text-5.is)
    (no_key _ _ (subst (λ (b : List ℕ). DescribesNothing key b) c.slice.ensures.bytes nothing)))

pub returns-in-text-6 : goal.returns-in-text-6
returns-in-text-6 c =
    where_ok c.describe_none-in-text-6.result c.describe_none-in-text-6.ensures (λ nothing.
    subst (λ (g : List ℕ). IsCalled g (pull_bytes c.args.item) (pull_item c.args.item)) (sym c.in-text-6.is)
    (no_signature _ _ (subst (λ (b : List ℕ). DescribesNothing signature b) c.slice-in-text-6.ensures.bytes nothing)))

pub returns-in_default : goal.returns-in_default
returns-in_default c = λ holds.
    subst (λ (g : List ℕ). IsCalled g (pull_bytes c.args.item) (pull_item c.args.item)) (c.is_kind.ensures holds) (by_kind _ _)
