-- Each answer is the law of its effect (proofs/Laws), on every dictionary in which the numbers stand
use Rattle.std.proofs.Common.{◌<◌, min, refl, sym, ◌∙◌, length-set, drop-set-lt}
use Rattle.helping.proofs.Laws as laws
use Rattle.helping.proofs.simulation.turn.Goals as goal

pub returns-in-Stop-clause-told : goal.returns-in-Stop-clause-told
returns-in-Stop-clause-told c = laws.stays c.effect_of-effect.ensures (λ d h z. sym (laws.stops z c.in-Stop.is))

pub returns-in-Fault-clause-told : goal.returns-in-Fault-clause-told
returns-in-Fault-clause-told c = rw c.fault.ensures (laws.stays c.effect_of-effect.ensures (λ d h z. sym (laws.faulted_at z c.in-Fault.is)))

pub returns-in-Set-clause-told : goal.returns-in-Set-clause-told
returns-in-Set-clause-told c = laws.stays c.effect_of-effect.ensures (λ d h z. laws.sets z _ _ _ c.in-Set.is c.with_register.ensures)

pub returns-in-Output-clause-told : goal.returns-in-Output-clause-told
returns-in-Output-clause-told c = laws.stays c.effect_of-effect.ensures (λ d h z. laws.outputs z _ _ _ c.in-Output.is c.with_output.ensures)

pub returns-in-Skip-clause-told : goal.returns-in-Skip-clause-told
returns-in-Skip-clause-told c = laws.stays c.effect_of-effect.ensures (λ d h z. laws.skips z _ _ c.in-Skip.is c.skipped-in-Skip.ensures)

pub returns-in_err-source-in-Load-clause-told : goal.returns-in_err-source-in-Load-clause-told
returns-in_err-source-in-Load-clause-told c =
    let lacks = c.in_err-source-in-Load.ensures in
    rw (laws.raised _ c.from_residual.ensures.1 lacks.1) (laws.stays c.effect_of-effect.ensures (λ d h z. sym (laws.load_lacks z _ lacks.0 _ c.in-Load.is)))

pub returns-in_err-target-in-Store-clause-told : goal.returns-in_err-target-in-Store-clause-told
returns-in_err-target-in-Store-clause-told c =
    let lacks = c.in_err-target-in-Store.ensures in
    rw (laws.raised _ c.from_residual-in_err-target-in-Store.ensures.1 lacks.1) (laws.stays c.effect_of-effect.ensures (λ d h z. sym (laws.store_lacks z _ lacks.0 _ c.in-Store.is)))

pub returns-in_err-first-in-Allocate-clause-told : goal.returns-in_err-first-in-Allocate-clause-told
returns-in_err-first-in-Allocate-clause-told c =
    let lacks = c.in_err-first-in-Allocate.ensures in
    rw (laws.raised _ c.from_residual-in_err-first-in-Allocate.ensures.1 lacks.1) (laws.stays c.effect_of-effect.ensures (λ d h z. sym (laws.allocate_lacks z lacks.0 _ c.in-Allocate.is)))

pub returns-in_err-first-in-Free-clause-told : goal.returns-in_err-first-in-Free-clause-told
returns-in_err-first-in-Free-clause-told c =
    let lacks = c.in_err-first-in-Free.ensures in
    rw (laws.raised _ c.from_residual-in_err-first-in-Free.ensures.1 lacks.1) (laws.stays c.effect_of-effect.ensures (λ d h z. sym (laws.free_lacks z lacks.0 _ c.in-Free.is)))

pub returns-in_ok-source-in-Load-clause-told : goal.returns-in_ok-source-in-Load-clause-told
returns-in_ok-source-in-Load-clause-told c =
    let source = c.in_ok-source-in-Load.ensures.0 in
    let source_below : c.in_ok-source-in-Load.source < min c.args.numbers.now.end 32 = laws.inside_keys c.args.numbers.now.keys (min c.args.numbers.now.end 32) c.in-Load.variable _ c.in_ok-source-in-Load.ensures.0 in
    laws.stays c.effect_of-effect.ensures (λ d h z. laws.loads z _ _ source _ _ _ c.in-Load.is (laws.value_is h _ refl _ source_below)
    c.with_register-in-Load.ensures)

pub returns-in_ok-target-in-Store-clause-told : goal.returns-in_ok-target-in-Store-clause-told
returns-in_ok-target-in-Store-clause-told c =
    let target = c.in_ok-target-in-Store.ensures.0 in
    let target_below : c.in_ok-target-in-Store.target < min c.args.numbers.now.end 32 = laws.inside_keys c.args.numbers.now.keys (min c.args.numbers.now.end 32) c.in-Store.variable _ c.in_ok-target-in-Store.ensures.0 in
    laws.leaves c.effect_of-effect.ensures _ (simp length-set) (drop-set-lt _ _ _ _ target_below)
    (λ d h z. laws.stores z _ _ target _ _ _ c.in-Store.is (laws.assigned h _ refl _ target_below _) c.skipped.ensures)

pub returns-then-is_astray-clause-told : goal.returns-then-is_astray-clause-told
returns-then-is_astray-clause-told c =
    let first = c.in_ok-first-in-Allocate.ensures.0 in
    let first_below : c.in_ok-first-in-Allocate.first < min c.args.numbers.now.end 32 = laws.inside_keys c.args.numbers.now.keys (min c.args.numbers.now.end 32) 0 _ c.in_ok-first-in-Allocate.ensures.0 in
    rw c.fault-then-is_astray.ensures
    (laws.stays c.effect_of-effect.ensures (λ d h z. sym (laws.allocate_faults z _ first _ (laws.value_is h _ refl _ first_below)
    c.is_astray.ensures _ c.in-Allocate.is c.if-is_astray.true)))

pub returns-in_err-place-in-Allocate-clause-told : goal.returns-in_err-place-in-Allocate-clause-told
returns-in_err-place-in-Allocate-clause-told c =
    let first = c.in_ok-first-in-Allocate.ensures.0 in
    let first_below : c.in_ok-first-in-Allocate.first < min c.args.numbers.now.end 32 = laws.inside_keys c.args.numbers.now.keys (min c.args.numbers.now.end 32) 0 _ c.in_ok-first-in-Allocate.ensures.0 in
    let lacks = c.in_err-place-in-Allocate.ensures in
    rw (laws.raised _ c.from_residual-in_err-place-in-Allocate.ensures.1 lacks.1)
    (laws.stays c.effect_of-effect.ensures (λ d h z. sym (laws.allocate_lacks_cell z _ first _ (laws.value_is h _ refl _ first_below)
    c.is_astray.ensures _ c.in-Allocate.is c.if-is_astray.false lacks.0)))

pub returns-in_ok-place-in-Allocate-clause-told : goal.returns-in_ok-place-in-Allocate-clause-told
returns-in_ok-place-in-Allocate-clause-told c =
    let first = c.in_ok-first-in-Allocate.ensures.0 in
    let place = c.in_ok-place-in-Allocate.ensures.0 in
    let first_below : c.in_ok-first-in-Allocate.first < min c.args.numbers.now.end 32 = laws.inside_keys c.args.numbers.now.keys (min c.args.numbers.now.end 32) 0 _ c.in_ok-first-in-Allocate.ensures.0 in
    let place_below : c.in_ok-place-in-Allocate.place < min c.args.numbers.now.end 32 = laws.inside_keys c.args.numbers.now.keys (min c.args.numbers.now.end 32) _ _ c.in_ok-place-in-Allocate.ensures.0 in
    laws.leaves c.effect_of-effect.ensures _ (simp length-set) (drop-set-lt _ _ _ _ place_below ∙ drop-set-lt _ _ _ _ first_below)
    (λ d h z. laws.allocates z _ first _ (laws.value_is h _ refl _ first_below) c.is_astray.ensures _ c.in-Allocate.is c.if-is_astray.false
    _ place _ _ _ (laws.value_is h _ refl _ place_below) (laws.assigned_twice h _ refl _ first_below _ _ place_below _)
    c.with_register-in-Allocate.ensures)

pub returns-in_err-place-in-Free-clause-told : goal.returns-in_err-place-in-Free-clause-told
returns-in_err-place-in-Free-clause-told c =
    let first = c.in_ok-first-in-Free.ensures.0 in
    let lacks = c.in_err-place-in-Free.ensures in
    rw (laws.raised _ c.from_residual-in_err-place-in-Free.ensures.1 lacks.1)
    (laws.stays c.effect_of-effect.ensures (λ d h z. sym (laws.free_lacks_cell z _ first _ c.in-Free.is lacks.0)))

pub returns-in_ok-place-in-Free-clause-told : goal.returns-in_ok-place-in-Free-clause-told
returns-in_ok-place-in-Free-clause-told c =
    let first = c.in_ok-first-in-Free.ensures.0 in
    let place = c.in_ok-place-in-Free.ensures.0 in
    let first_below : c.in_ok-first-in-Free.first < min c.args.numbers.now.end 32 = laws.inside_keys c.args.numbers.now.keys (min c.args.numbers.now.end 32) 0 _ c.in_ok-first-in-Free.ensures.0 in
    let place_below : c.in_ok-place-in-Free.place < min c.args.numbers.now.end 32 = laws.inside_keys c.args.numbers.now.keys (min c.args.numbers.now.end 32) c.in-Free.cell _ c.in_ok-place-in-Free.ensures.0 in
    laws.leaves c.effect_of-effect.ensures _ (simp length-set) (drop-set-lt _ _ _ _ first_below ∙ drop-set-lt _ _ _ _ place_below)
    (λ d h z. laws.frees z _ first _ c.in-Free.is _ place _ _ _ (laws.value_is h _ refl _ first_below)
    (laws.assigned_twice h _ refl _ place_below _ _ first_below _) c.skipped-in-Free.ensures)
