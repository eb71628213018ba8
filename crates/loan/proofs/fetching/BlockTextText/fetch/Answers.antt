use Rattle.loan.proofs.Runs as runs
use Rattle.loan.proofs.fetching.BlockTextText.fetch.Goals as goal

pub returns-clause-next : goal.returns-clause-next
returns-clause-next c = runs.fetched _ _ _ _ _ c.args.self.now.sized c.instruction.ensures c.remaining_after.ensures
