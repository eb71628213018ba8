use Rattle.dump_writer.proofs.dump_lines.+put_binary.Given as goal

abbrev pub decreases-put_binary : goal.decreases-put_binary
decreases-put_binary l = l.value
