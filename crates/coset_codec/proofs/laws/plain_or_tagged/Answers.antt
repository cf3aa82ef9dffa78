use Rattle.std.proofs.Common.{inl, inr}
use Rattle.coset_codec.specs.PerhapsTagged.{perhaps_tagged_is, plain_is_perhaps, tagged_is_perhaps}
use Rattle.coset_codec.proofs.laws.plain_or_tagged.Goals as goal

pub returns-clause-either : goal.returns-clause-either
returns-clause-either g c = λ n s x p.
    elim (perhaps_tagged_is n g.T.AsCborValue.shape p.0 x p.2) [ inl d ↦ inl (p.0, p.1, d) | inr d ↦ inr (p.0, p.1, d) ]

pub returns-clause-tagged : goal.returns-clause-tagged
returns-clause-tagged g c = λ n s x p. (p.0, p.1, tagged_is_perhaps n g.T.AsCborValue.shape p.0 x p.2)

pub returns-clause-plain : goal.returns-clause-plain
returns-clause-plain g c = λ n s x none p. (p.0, p.1, plain_is_perhaps n g.T.AsCborValue.shape none p.0 x p.2)

pub returns-clause-again : goal.returns-clause-again
returns-clause-again g c = λ n s x p.
    elim (perhaps_tagged_is n g.T.AsCborValue.shape p.0 x p.2) [
      | inl d ↦ c.reads_again.ensures.plain s x (p.0, p.1, d)
      | inr d ↦ c.reads_again.ensures.untagged n s x (p.0, p.1, d)
    ]
