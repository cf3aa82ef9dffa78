use Rattle.tool_seals.proofs.Reading.{somehow}
use Rattle.tool_seals.proofs.message.read_tagged.Goals as goal

pub returns-in-Some-form_of : goal.returns-in-Some-form_of
returns-in-Some-form_of c = somehow c.in-Some-form_of.form c.args.bytes.now c.read_as.result c.read_as.ensures
