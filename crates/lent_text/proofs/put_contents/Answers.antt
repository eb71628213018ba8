use Rattle.lent_text.specs.Opened.{contents_block}
use Rattle.lent_text.proofs.put_contents.Goals as goal

pub returns : goal.returns
unfolding contents_block
returns c = rw (c.put_programs.ensures, c.put_values.ensures, c.put_head.ensures, c.clear.ensures)
