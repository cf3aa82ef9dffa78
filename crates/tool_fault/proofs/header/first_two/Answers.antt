use Rattle.tool_fault.proofs.header.first_two.Goals as goal

pub returns : goal.returns
returns c = record {
  before = c.in_ok-array.field-0-0;
  array = c.in_ok-array.array.now;
  leads = c.in_ok-array.ensures;
  first_at = c.in_ok-one.field-0-0;
  second_at = c.in_ok-other.field-0-0;
  goes_first = c.in_ok-one.ensures;
  goes_second = c.in_ok-other.ensures;
}
