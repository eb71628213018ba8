use Rattle.lent_text.specs.Opened.{put_head}
use Rattle.lent_text.proofs.put_head.Goals as goal

pub returns : goal.returns
unfolding put_head
returns c =
    rw (
      c.put_gate.ensures,
      c.open_gate.ensures,
      c.put_limit.ensures,
      c.put_program_count.ensures,
      c.put_variable_count.ensures,
      c.put_process_count.ensures,
      c.put_room.ensures,
      c.heaviest.ensures,
    )
