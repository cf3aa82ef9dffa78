use Rattle.coset_codec.proofs.laws.image_is_described.Goals as goal

pub returns : goal.returns
returns g c = λ v x p. g.met.T.Lawful.laws.again v x p
