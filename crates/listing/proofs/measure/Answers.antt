use Rattle.std.proofs.Common.{◌∙◌}
use Rattle.listing.proofs.Answers as laws
use Rattle.listing.proofs.measure.Goals as goal

pub returns-then-not-are_callable : goal.returns-then-not-are_callable
returns-then-not-are_callable c =
    laws.measured_six c.args.card c.args.calls c.args.length c.reopen-opened.ensures c.are_callable.ensures
    c.if-not-are_callable.true

pub returns-then-not-is_listable : goal.returns-then-not-is_listable
returns-then-not-is_listable c =
    laws.measured_seventeen c.args.card c.args.calls c.args.length c.reopen-opened.ensures c.are_callable.ensures
    c.if-not-are_callable.false c.is_listable.ensures c.if-not-is_listable.true

pub put_listing-requires : goal.put_listing-requires
put_listing-requires c =
    laws.few_processes c.args.card c.args.calls c.args.length c.reopen-opened.ensures c.call_all-start.ensures
    (laws.listable c.args.card c.args.calls c.args.length c.reopen-opened.ensures c.are_callable.ensures
    c.if-not-are_callable.false c.is_listable.ensures ∙ c.if-not-is_listable.false)

pub returns : goal.returns
returns c =
    laws.measured_length c.args.card c.args.calls c.args.length c.reopen-opened.ensures c.are_callable.ensures
    c.if-not-are_callable.false c.is_listable.ensures c.if-not-is_listable.false c.call_all-start.ensures
    c.put_listing.ensures.0 c.put_listing.ensures.1
