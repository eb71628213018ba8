use Rattle.std.proofs.Common.{◌∙◌}
use Rattle.machine_session.proofs.Started as laws
use Rattle.machine_session.proofs.starting.open_cards.Goals as goal

pub returns-in-Err : goal.returns-in-Err
returns-in-Err c = laws.told_cards (laws.refused_card _ _ _ _ _ c.open_one-first.ensures c.in-Err.is)

pub returns-in-Err-second : goal.returns-in-Err-second
returns-in-Err-second c =
    laws.told_cards
    (laws.next_card _ _ _ _ _ c.open_one-first.ensures c.in_default.is ∙ laws.refused_card _ _ _ _ _
    c.open_one-second.ensures c.in-Err-second.is)

pub returns-in-Err-third : goal.returns-in-Err-third
returns-in-Err-third c =
    laws.told_cards
    (laws.next_card _ _ _ _ _ c.open_one-first.ensures c.in_default.is ∙ (laws.next_card _ _ _ _ _
    c.open_one-second.ensures c.in_default-second.is ∙ laws.refused_card _ _ _ _ _ c.open_one-third.ensures
    c.in-Err-third.is))

pub returns-in-Err-fourth : goal.returns-in-Err-fourth
returns-in-Err-fourth c =
    laws.told_cards
    (laws.next_card _ _ _ _ _ c.open_one-first.ensures c.in_default.is ∙ (laws.next_card _ _ _ _ _
    c.open_one-second.ensures c.in_default-second.is ∙ (laws.next_card _ _ _ _ _ c.open_one-third.ensures
    c.in_default-third.is ∙ laws.refused_card _ _ _ _ _ c.open_one-fourth.ensures c.in-Err-fourth.is)))

pub returns : goal.returns
returns c =
    laws.told_cards
    (laws.next_card _ _ _ _ _ c.open_one-first.ensures c.in_default.is ∙ (laws.next_card _ _ _ _ _
    c.open_one-second.ensures c.in_default-second.is ∙ (laws.next_card _ _ _ _ _ c.open_one-third.ensures
    c.in_default-third.is ∙ (laws.next_card _ _ _ _ _ c.open_one-fourth.ensures c.in_default-fourth.is ∙
    laws.no_more_cards _ _ _ c.in_default-fourth.is))))
