use Rattle.example_uses.proofs.structures.structures_are_there.Goals as goal

pub returns-clause-sign : goal.returns-clause-sign
returns-clause-sign c = (λ b m d. c.each_signed_when_read.ensures.plain d.0 m d.2, λ b m d. c.each_signed_when_read.ensures.tagged d.0 m d.2)

pub returns-clause-mac0 : goal.returns-clause-mac0
returns-clause-mac0 c = (λ b m d. c.structure_when_read.ensures.mac0 d.0 m d.2, λ b m d. c.structure_when_read.ensures.tagged_mac0 d.0 m d.2)

pub returns-clause-mac : goal.returns-clause-mac
returns-clause-mac c = (λ b m d. c.structures_when_read.ensures.mac d.0 m d.2, λ b m d. c.structures_when_read.ensures.tagged_mac d.0 m d.2)

pub returns-clause-encrypt0 : goal.returns-clause-encrypt0
returns-clause-encrypt0 c = (λ b m d. c.structure_when_read.ensures.encrypt0 d.0 m d.2, λ b m d. c.structure_when_read.ensures.tagged_encrypt0 d.0 m d.2)

pub returns-clause-encrypt : goal.returns-clause-encrypt
returns-clause-encrypt c = (λ b m d. c.structures_when_read.ensures.encrypt d.0 m d.2, λ b m d. c.structures_when_read.ensures.tagged_encrypt d.0 m d.2)
