use Rattle.lent_text.proofs.Loops as loops
use Rattle.lent_text.proofs.opening_of.Goals as goal

pub returns-in-Ok : goal.returns-in-Ok
returns-in-Ok c =
    let read = loops.reads c.args.text.now c.args.b.now _ _ c.in-Ok.ensures c.judge.ensures in
    record { contents = read.0; verdict = read.1 }

pub returns-in-Err : goal.returns-in-Err
returns-in-Err c =
    let read = loops.refuses c.args.text.now c.args.b.now _ c.in-Err.ensures c.no_contents.ensures in
    record { contents = read.0; verdict = read.1 }
